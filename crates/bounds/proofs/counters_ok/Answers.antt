-- `bounds::counters_ok` meets its contract.
use Prim.Native.Nat.{ℕ, ◌+◌, ◌-◌, ◌*◌, min}
use mathlib.Core.Path.{◌≡◌, sym, ap, ◌∙◌}
use borrow.Author.Rules.{rules}
use lib.Dec.{leb}
use lib.ListN.{get_or}
use Rattle.record.specs.Record.{COUNTERS, counter_of, microframes}
use Rattle.record.proofs.Counters.{counter_element}
use Rattle.bounds.specs.Bounds.{MOST, times, none_above, counters_ok}
use Rattle.bounds.proofs.Laws.{every_counter}
use Rattle.bounds.proofs.counters_ok.Goals as goal

pub returns : goal.returns
unfolding counters_ok
returns c =
    let r = c.args.r in
    let most : 32767 * c.min.result ≡ times 32767 (counter_of microframes r) = ap (λ (x : ℕ). 32767 * x) (c.min.ensures ∙ ap (λ (x : ℕ). min x MOST) (sym (counter_element 0 r))) in
    c.every.ensures (λ k. leb (get_or r (k + 1) 0) (32767 * c.min.result)) (λ k b h p. search rules) ∙ every_counter _ r _ ∙ ap (λ (m : ℕ). none_above m r (COUNTERS - 1)) most
