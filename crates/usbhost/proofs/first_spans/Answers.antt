-- `usbhost::first_spans` meets its contract.
use Rattle.std.proofs.Common.{List, ◌++◌, ap₂}
use Rattle.std.proofs.lemmas.List.{drop-replicate}
use Rattle.record.specs.declared.Span.{Span}
use Rattle.record.specs.Record.{no_span}
use Rattle.usbhost.proofs.first_spans.Goals as goal

pub returns : goal.returns
returns c = ap₂ (λ (x y : List Span). x ++ y) c.copy_from_slice.ensures.after (drop-replicate c.args.spans 16 no_span)
