-- `laying::texts_ready` meets its contract.
use borrow.Author.Rules.{rules}
use Rattle.laying.proofs.Whole.{texts_none}
use Rattle.laying.proofs.texts_ready.Goals as goal

pub returns-then-h-eq0 : goal.returns-then-h-eq0
returns-then-h-eq0 c =
    λ h. texts_none (search rules) c.if-h-eq0.true (c.none_lent.ensures h)
