-- `midiin::midi_step` meets its contract.
use Rattle.midiin.proofs.Laws.{midi_steps_lem}
use Rattle.midiin.proofs.midi_step.Goals as goal

pub returns-clause-left : goal.returns-clause-left
returns-clause-left c = midi_steps_lem c.args.every c.args.s _ _ _ _ _ _ _ _ _ _ c.nak.ensures.did _ c.reads-count.ensures c.read_all.ensures.left
