-- The contracts of the public calls: two outcomes that one allows for the same arguments are the same answer.
-- Assumes nothing.
use mathlib.Core.Path.{◌≡◌, sym, ◌∙◌}
use contract.Lifetimes as L
use Rattle.tally.proofs.left.Reads as lefts
use Rattle.tally.proofs.cell.Reads as cells

pub left_same_answer : (κs : L.Lfts 1) (a : _) (r q : _) (s t : _) → lefts.Post κs a r s → lefts.Post κs a q t → r ≡ q
left_same_answer κs a r q s t k j = k ∙ sym j

pub cell_same_answer : (κs : L.Lfts 1) (a : _) (r q : _) (s t : _) → cells.Post κs a r s → cells.Post κs a q t → r ≡ q
cell_same_answer κs a r q s t k j = k ∙ sym j
