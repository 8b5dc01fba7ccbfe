-- `fields::parts_are_text` meets its contract: parts of single octets are text. Else the loop's invariant, `Judged`: what is tested and
-- what is left are all the parts.
use Prim.Native.Nat.{◌≤◌}
use mathlib.Core.Path.{sym, ◌∙◌}
use borrow.Author.Rules.{rules}
use lib.ListN.{length, get_or}
use native.Mathlib.Omega.{arith}
use Rattle.fields.proofs.Judged.{judged_first, judged_inside, judged_turn, judged_done, single_parts}
use Rattle.fields.proofs.parts_are_text.Goals as goal

pub returns-then-all_single : goal.returns-then-all_single
returns-then-all_single c =
    single_parts _ _ (sym c.all_single.ensures ∙ c.if-all_single.true)

pub loop-k-init : goal.loop-k-init
loop-k-init c =
    judged_first _ _

pub slice_bounds-is_text-count : goal.slice_bounds-is_text-count
slice_bounds-is_text-count c =
    omega (arith, c.within-end.ensures)

pub slice_bounds-is_text-end : goal.slice_bounds-is_text-end
slice_bounds-is_text-end c =
    let a = c.args in let h = judged_inside c.loop-k.invariant (get_or a.lengths.now c.loop-k.k 0) in
    let i : c.within-end.result ≤ length a.x.now = omega (arith, c.within-end.ensures) in
    search rules

pub loop-k-preserved : goal.loop-k-preserved
loop-k-preserved c =
    rw (c.both-so_far.ensures, c.is_text.ensures) (judged_turn c.loop-k.invariant
    c.loop-k-test.true c.within-end.ensures)

pub returns : goal.returns
returns c =
    judged_done c.loop-k.invariant c.loop-k-test.false
