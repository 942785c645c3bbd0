-- `framing::midi_in` meets its contract.
use Rattle.std.proofs.Common.{◌≡◌, true, false, refl, sym, ap, ◌∙◌}
use borrow.Author.Tests.{not-true, not-false}
use Rattle.bus.specs.Windows.{memory_of}
use Rattle.bus.proofs.Lengths.{sized_of}
use Rattle.record.specs.declared.State.{State}
use Rattle.record.specs.Record.{midi_asleep}
use Rattle.record.proofs.Laws.{by_true, by_false, unchanged}
use Rattle.record.proofs.Counters.{counts_one}
use Rattle.model.specs.Phases.{sleeps, within}
use Rattle.model.specs.Streams.{midi_in}
use Rattle.streams.proofs.Laws.{fewer_same}
use Rattle.midiin.specs.Promises.{at_cabled}
use Rattle.framing.proofs.midi_in.Goals as goal

pub returns-then-not-c-clause-left : goal.returns-then-not-c-clause-left
returns-then-not-c-clause-left c =
    record {
      leads = λ w. by_false _ _ _ (not-true _ c.if-not-c.true) (unchanged _);
      sized = sized_of c.args.windows.now;
      few = fewer_same refl;
    }

pub returns-then-in_span-clause-left : goal.returns-then-in_span-clause-left
unfolding midi_in sleeps
returns-then-in_span-clause-left c =
    let a = c.args in
    let asleep : within a.c.sleep a.time ≡ true = sym c.in_span.ensures ∙ c.if-in_span.true in
    record {
      leads = λ w. by_true _ _ _ (not-false _ c.if-not-c.false) (rw asleep (counts_one midi_asleep 1 (at_cabled w a.s (memory_of a.windows.now) a.receive.now a.cables.now) c.count.ensures));
      sized = sized_of a.windows.now;
      few = fewer_same (ap (λ (x : State). x.lengths) c.count.ensures);
    }

pub returns-clause-left : goal.returns-clause-left
returns-clause-left c =
    let heard = c.midi_step.ensures.left in
    let awake : within c.args.c.sleep c.args.time ≡ false = sym c.in_span.ensures ∙ c.if-in_span.false in
    record { leads = λ w. by_true _ _ _ (not-false _ c.if-not-c.false) (rw awake (heard.leads w)); sized = heard.sized; few = heard.few }
