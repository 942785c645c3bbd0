-- `control::post` meets its contract.
use Rattle.std.proofs.Common.{rules}
use Rattle.bus.proofs.Lengths.{sized_of}
use Rattle.control.proofs.Laws.{told_sized, post_steps}
use Rattle.control.proofs.post.Goals as goal

pub invariant_of-windows-clause-page_length : goal.invariant_of-windows-clause-page_length
invariant_of-windows-clause-page_length c = (told_sized c.args.s.port.line (sized_of c.put_words-lost.new.windows) c.flag_setup-s.ensures).page_length

pub returns-clause-left : goal.returns-clause-left
returns-clause-left c = search (rules, post_steps, c.put_words-lost.ensures.left.0)
