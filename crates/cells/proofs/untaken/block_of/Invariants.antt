-- `untaken::block_of` meets its contract. The loop's invariant: the climb from where it stands ends where the whole climb ends.
use Rattle.cells.proofs.Blocks.{Climbing}
use Rattle.cells.proofs.untaken.block_of.Given as goal

abbrev pub invariant-loop-level : goal.invariant-loop-level
invariant-loop-level l = Climbing l.steps l.initial.x l.level l.left l.x
