-- `clearing::clear` meets its contract. The loop's invariant: in the cells passed stands what is left there, and the others are as they were.
use lib.ListN.{length}
use Rattle.cells.specs.Order.{cell_at}
use Rattle.taking.specs.Cleared.{left_within}
use Rattle.taking.proofs.Clears.{Clearing}
use Rattle.taking.proofs.clearing.clear.Given as goal

abbrev pub invariant-loop-i : goal.invariant-loop-i
invariant-loop-i l = Clearing (λ j. left_within (length l.zero) l.key l.first.0 l.steps (cell_at l.s (length l.zero) l.initial.store j)) (length l.zero) l.n l.initial.store l.store l.i
