-- Cells that a row is laid over. SPEC S-12: a taking lays a record over the cell of its message's first segment, makes the others zero, and
-- touches no other cell.
-- Assumes nothing: these are definitions.
use Rattle.std.specs.Prelude.{ℕ, zero, suc, ◌*◌, List, eqb}
use Rattle.std.proofs.Math.Option.{Option, none, some}
use Rattle.std.proofs.lemmas.List.Edits.{sets}
use Rattle.octets.specs.Octets.{pick}
use Rattle.packet.specs.Numbers.{next_counter}
use Rattle.sender.specs.Sending.{steps_of}
use Rattle.cells.specs.Segments.{Seg}
use Rattle.cells.specs.Rows.{Cell, segment_in, by_segment, zero_row, record_row}
use Rattle.cells.specs.Inner.{within}

-- a row is laid over cell i; if there is none, the cell stays
abbrev pub laid_at : ℕ → ℕ → Option (List ℕ) → List ℕ → List ℕ
laid_at Z i none st = st
laid_at Z i (some r) st = sets st (i * Z) r

-- over each of the first n cells the row that is told for it
unfoldable pub cleared_to : (ℕ → Option (List ℕ)) → ℕ → ℕ → List ℕ → List ℕ
cleared_to f Z zero st = st
cleared_to f Z (suc i) st = let x = cleared_to f Z i st in laid_at Z i (f i) x

-- the row that is left of a message's segment: of its first, at the counter c, the record, whose last counter is m steps on; of any other
-- zeros
abbrev pub left_of : ℕ → List ℕ → ℕ → ℕ → Seg → List ℕ
left_of Z k c m t = pick (eqb c t.counter) (record_row Z k c (steps_of next_counter m c)) (zero_row Z)

-- and in a cell, if it holds one of the key k and of those counters
abbrev pub left_within : ℕ → List ℕ → ℕ → ℕ → Cell → Option (List ℕ)
left_within Z k c m x = by_segment none (λ t. pick (within next_counter k c m t) (some (left_of Z k c m t)) none) (segment_in x)
