-- `utf8::rest_ends` meets its contract: single octets may stand, and end, exactly if no character is unfinished before them.
use mathlib.Core.Path.{sym, ◌∙◌}
use Rattle.utf8.proofs.Blocks.{singles_rest}
use Rattle.utf8.proofs.rest_ends.Goals as goal

pub returns-then-singles : goal.returns-then-singles
returns-then-singles c =
    c.ended_at.ensures ∙ singles_rest _ _ _ (sym c.singles.ensures ∙ c.if-singles.true)

pub returns : goal.returns
returns c =
    simp (c.both.ensures, c.ended_at-2.ensures, c.all_follow.ensures)
