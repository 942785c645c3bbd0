-- `framing::ticked` meets its contract.
use Rattle.record.proofs.Laws.{by_true, by_false, unchanged}
use Rattle.framing.proofs.ticked.Goals as goal

pub returns-then-midi_in : goal.returns-then-midi_in
returns-then-midi_in c = record { leads = λ w. by_true _ _ _ c.if-midi_in.true (c.timers.ensures.leads w) }

pub returns : goal.returns
returns c = record { leads = λ w. by_false _ _ _ c.if-midi_in.false (unchanged _) }
