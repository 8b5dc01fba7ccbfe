-- `vectors::turns` is safe and ends. The loop's invariant: it says nothing; its measure is the turns that are left.
use Rattle.vectors.proofs.turns.Given as goal

abbrev pub invariant-loop-left : goal.invariant-loop-left
invariant-loop-left l = Unit {0}

abbrev pub decreases-loop-left : goal.decreases-loop-left
decreases-loop-left l = l.left
