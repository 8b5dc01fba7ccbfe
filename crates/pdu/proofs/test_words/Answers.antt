-- `pdu::test_words` meets its contract: its tests are the definition's, in its order; after a refusal none of them matters.
use mathlib.Core.Path.{sym}
use borrow.Author.Tests.{ne_eqb}
use Rattle.write.proofs.Answers.{all_shut}
use Rattle.write.specs.Given.{unless_all}
use Rattle.pdu.specs.Given.{word_checks}
use Rattle.pdu.proofs.test_words.Goals as goal

pub returns-then-r-ne0 : goal.returns-then-r-ne0
returns-then-r-ne0 c =
    sym (all_shut _ 28 _ (ne_eqb _ 0 c.if-r-ne0.true))

pub returns : goal.returns
unfolding word_checks unless_all
returns c =
    simp (
      c.test_utf8.ensures,
      c.unless-b.ensures,
      c.is_text-2.ensures,
      c.unless-a.ensures,
      c.is_text.ensures,
    )
