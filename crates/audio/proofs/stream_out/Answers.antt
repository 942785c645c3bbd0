-- `audio::stream_out` meets its contract.
use Rattle.bus.proofs.Lengths.{sized_of}
use Rattle.audio.proofs.Laws.{out_short, out_unprimed, out_ended}
use Rattle.audio.proofs.stream_out.Goals as goal

pub returns-then-s-clause-left : goal.returns-then-s-clause-left
returns-then-s-clause-left c = out_short _ _ _ (sized_of c.args.windows.now) c.requires c.if-s.true

pub returns-in-Unprimed-clause-left : goal.returns-in-Unprimed-clause-left
returns-in-Unprimed-clause-left c = out_unprimed _ _ _ (sized_of c.args.windows.now) c.requires (cc)

pub returns-in-Ended-clause-left : goal.returns-in-Ended-clause-left
returns-in-Ended-clause-left c = out_ended _ _ _ (sized_of c.args.windows.now) c.requires c.if-s.false (cc) _ _ c.unprime.ensures
