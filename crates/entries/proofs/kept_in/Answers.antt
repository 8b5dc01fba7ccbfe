-- `entries::kept_in` meets its contract: the test is the definition's.
use borrow.Author.Tests.{eq-eqb, ne_eqb}
use Rattle.entries.specs.Lines.{kept_octets}
use Rattle.entries.proofs.kept_in.Goals as goal

pub returns-then-kind-ne-KEPT : goal.returns-then-kind-ne-KEPT
unfolding kept_octets
returns-then-kind-ne-KEPT c =
    rw (ne_eqb _ 1 c.if-kind-ne-KEPT.true)

pub returns : goal.returns
unfolding kept_octets
returns c =
    rw (eq-eqb _ 1 c.if-kind-ne-KEPT.false) (simp (c.span.ensures, c.saturating_sub.ensures))
