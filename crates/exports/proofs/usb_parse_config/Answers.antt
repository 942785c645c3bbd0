-- `exports::usb_parse_config` meets its contract.
use mathlib.Core.List.{List}
use mathlib.Core.Path.{◌≡◌, sym, ap, ◌∙◌}
use lib.ListN.{length, take, replicate, length-map}
use lib.Seq.{take_all}
use Prim.Native.Nat.{ℕ}
use Rattle.config.specs.Config.{parsed, interfaces, alternates}
use Rattle.config.specs.Pairs.{pair_of, listed}
use Rattle.config.specs.Table.{padded}
use Rattle.config.specs.declared.ConfigInfo.{ConfigInfo}
use Rattle.config.specs.declared.Pair.{Pair}
use Rattle.config.proofs.Padding.{padded_more}
use Rattle.exports.specs.Answers.{of_sizes}
use Rattle.exports.proofs.usb_parse_config.Goals as goal

pub loop-i-init : goal.loop-i-init
loop-i-init c =
    let zeros = λ (n : ℕ). replicate n 0 in
    (c.fill.ensures.after (λ y e. e) ∙ ap zeros c.told-interfaces, c.fill-2.ensures.after (λ y e. e) ∙ ap zeros c.told-alternates)

pub loop-i-preserved : goal.loop-i-preserved
loop-i-preserved c =
    let ps = c.as_slice-pairs.result.now in
    let one = λ (f : ℕ × ℕ → ℕ). padded_more f ps c.loop-i.i (record { interface = 0; alternate = 0 }) c.loop-i-test.true c.as_slice-pairs.ensures.few in
    (rw c.loop-i.invariant.0 (one (λ p. p.0)), rw c.loop-i.invariant.1 (one (λ p. p.1)))

pub returns : goal.returns
returns c =
    let ps : List Pair = c.as_slice-pairs.result.now in
    let is = c.parse_config-info.ensures in
    let pairs : listed ps ≡ (parsed c.args.bytes.now).pairs = c.as_slice-pairs.ensures.pairs ∙ ap (λ (x : ConfigInfo). x.pairs) is in
    let all : listed (take c.loop-i.i ps) ≡ (parsed c.args.bytes.now).pairs = ap listed (take_all c.loop-i.i ps c.loop-i-test.false) ∙ pairs in
    let count : length ps ≡ length (parsed c.args.bytes.now).pairs = sym (length-map ps pair_of) ∙ ap length pairs in (
      c.of_sizes.ensures
          ∙ ap (λ (n : ℕ). of_sizes n c.parse_config-info.result.ob_out_packet c.parse_config-info.result.ob_in_packet) count
          ∙ ap (λ (x : ConfigInfo). of_sizes (length (parsed c.args.bytes.now).pairs) x.ob_out_packet x.ob_in_packet) is,
      (
        c.loop-i.invariant.0 ∙ ap (λ (l : List (ℕ × ℕ)). padded (interfaces l)) all,
        c.loop-i.invariant.1 ∙ ap (λ (l : List (ℕ × ℕ)). padded (alternates l)) all,
      ),
    )
