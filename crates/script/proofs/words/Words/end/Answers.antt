-- What is left has as many bytes as stand behind the place.
use Rattle.std.proofs.Common.{ap, length, List, ℕ, length-drop, arith}
use Rattle.script.proofs.words.Words.end.Goals as goal

pub returns-else-self : goal.returns-else-self
returns-else-self c = (λ e. absurd (cc), λ e. absurd (omega (arith, ap (λ (l : List ℕ). length l) e, length-drop c.args.self.now.next c.args.self.now.line.now)))
