-- `entries::put_line` meets its contract: the test is the definition's.
use borrow.Author.Tests.{eq-eqb, ne_eqb}
use Rattle.entries.specs.Lines.{line_pieces}
use Rattle.entries.proofs.put_line.Goals as goal

pub returns-then-kind-ne-KEPT : goal.returns-then-kind-ne-KEPT
unfolding line_pieces
returns-then-kind-ne-KEPT c =
    rw (ne_eqb _ 1 c.if-kind-ne-KEPT.true) c.put_skipped.ensures

pub returns : goal.returns
unfolding line_pieces
returns c =
    rw (eq-eqb _ 1 c.if-kind-ne-KEPT.false, ← c.kept_in-x.ensures, ← c.span.ensures, ← c.whose-id.ensures) c.put_kept.ensures
