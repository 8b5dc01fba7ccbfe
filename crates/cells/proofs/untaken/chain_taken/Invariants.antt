-- `untaken::chain_taken` meets its contract. The loop's invariant: the cells passed are on their chains.
use lib.ListN.{length}
use Rattle.cells.proofs.Ranges.{Linking}
use Rattle.cells.proofs.untaken.chain_taken.Given as goal

abbrev pub invariant-loop-i : goal.invariant-loop-i
invariant-loop-i l = Linking l.s (length l.zero) l.store l.n l.chains l.i
