-- A register that is not listed: the flag stays.
use Rattle.std.proofs.Common.{sym, ◌∙◌}
use Rattle.usbdev.specs.Access.{writing_word}
use Rattle.usbdev.proofs.write_word.Goals as goal

pub returns : goal.returns
unfolding writing_word
returns c = simp (sym c.put_listed.ensures.value ∙ c.if-put_listed.false) (c.put_listed.ensures.left c.args.flag)
