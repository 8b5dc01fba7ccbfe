-- `utf8::all_follow` meets its contract: its two parts are the whole.
use mathlib.Core.Path.{◌∙◌}
use native.Mathlib.Omega.{arith}
use Rattle.utf8.proofs.Passing.{all_at, all_parts}
use Rattle.utf8.proofs.all_follow.Goals as goal

pub returns-then-at-ge3 : goal.returns-then-at-ge3
returns-then-at-ge3 c =
    c.later_follow.ensures ∙ all_at _ _ _ c.if-at-ge3.true

pub returns : goal.returns
returns c =
    rw (c.both.ensures, c.later_follow-2.ensures, c.first_follow-2.ensures) (all_parts _ _ 3 _ (omega arith))
