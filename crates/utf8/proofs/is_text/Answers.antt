-- `utf8::is_text` meets its contract. The loop's invariant: one flag tells whether the octets passed may stand where they do, the other
-- whether no character is unfinished after them.
use mathlib.Core.Path.{sym, ◌∙◌}
use Rattle.utf8.proofs.Judging.{judging_first, judging_singles, judging_others, judging_done}
use Rattle.utf8.proofs.is_text.Goals as goal
use Rattle.utf8.proofs.is_text.Goals.{then-singles, else-singles}

pub loop-at-init : goal.loop-at-init
loop-at-init c =
    judging_first _

pub loop-at-preserved : goal.loop-at-preserved
loop-at-preserved c =
    let p = c.loop-at.invariant in
    let h = c.loop-at-test.true in
    elim c.if-singles.branch [
      | then-singles w ↦
          rw (w.so_far-is ∙ w.both-so_far.ensures, w.ended-is) (judging_singles p h (sym c.singles.ensures ∙ w.if-singles.true))
      | else-singles w ↦
          rw (w.so_far-is ∙ w.both-so_far-else-singles.ensures, w.all_follow.ensures, w.ended-is ∙ w.ended_at-ended.ensures) (judging_others p h)
    ]

pub returns : goal.returns
returns c =
    rw (c.both.ensures, c.rest_ends.ensures) (judging_done c.loop-at.invariant)
