-- `write::adds_up` meets its contract. Of n, `left` is not yet used up by the lengths so far.
use Rattle.std.proofs.Common.{◌≡◌, ◌+◌, sum, take}
use Rattle.write.proofs.adds_up.Given as goal

abbrev pub invariant-loop-part : goal.invariant-loop-part
invariant-loop-part l = sum (take l.part-index l.lengths) + l.left ≡ l.n
