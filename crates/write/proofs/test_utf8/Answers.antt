-- `write::test_utf8` meets its contract: its tests are one; after a refusal none of them matters.
use mathlib.Core.Path.{sym, ◌∙◌}
use borrow.Author.Tests.{ne_eqb}
use Rattle.walk.specs.Walk.{unless}
use Rattle.write.proofs.Answers.{all_shut}
use Rattle.write.proofs.Steps.{any_as_one}
use Rattle.write.proofs.test_utf8.Goals as goal

pub returns-then-r-ne0 : goal.returns-then-r-ne0
returns-then-r-ne0 c =
    sym (all_shut _ 28 _ (ne_eqb _ 0 c.if-r-ne0.true))

pub returns : goal.returns
returns c = c.unless.ensures ∙ rw c.are_text.ensures (sym (any_as_one _ 27 _))
