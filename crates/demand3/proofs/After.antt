-- A store's cells after the calls (S-6, S-8), as lists: an arrival that is stored puts its segment into the lowest free cell, a taking
-- gives up the cells of its message but for its record, a forgetting frees the cell of a record.
-- Assumes nothing.
use Prim.Native.Nat.{ℕ, ◌+◌, ◌*◌, ◌≤◌, ◌<◌}
use mathlib.Core.Path.{◌≡◌, refl, ap, sym, ◌∙◌}
use mathlib.Core.Logic.{◌⊎◌, inl, inr}
use mathlib.Core.Bool.{true, false, false≢true}
use mathlib.Core.List.{List}
use native.Mathlib.Omega.{arith}
use lib.ListN.{length}
use lib.Dec.{ltb}
use borrow.Author.Tests.{ltb-true, lt-ltb}
use Rattle.octets.specs.Octets.{pick, Octets}
use Rattle.octets.proofs.Lists.{bool}
use Rattle.walk.specs.declared.Settings.{Settings}
use Rattle.cells.specs.Segments.{both}
use Rattle.cells.specs.Order.{cell_at, count_in, gate}
use Rattle.cells.specs.Messages.{cells_of, Run}
use Rattle.cells.proofs.Listed.{listed_same, listed_map}
use Rattle.arrival.specs.Arriving.{stored, lowest_free, arrived_in, store_with}
use Rattle.arrival.proofs.After.{segment, stored_tells, cell_kept, cell_stored}
use Rattle.taking.specs.Taking.{message, took, store_less}
use Rattle.taking.specs.Forgetting.{is_record, forgot_in, forgot, store_unless, store_forgotten}
use Rattle.cells.proofs.StoreOrder.{cells_inside}
use Rattle.taking.proofs.Keeps.{cell_taken}
use Rattle.taking.proofs.Tells.{taken_tells}
use Rattle.taking.proofs.Forgets.{forgot_open, cell_forgotten, cell_unforgotten}
use Rattle.demand3.specs.Cells.{put, has_free, freed, clear, forgotten}
use Rattle.demand3.proofs.Putting.{listed_put, listed_free, listed_forgotten, listed_unforgotten}

-- the segment is put into the lowest free cell
pub cells_stored :
    (s : Settings) (Z : ℕ) (st : List ℕ) (n : ℕ) (p : List ℕ) (i : ℕ) → arrived_in s Z st n p ≡ stored i → n * Z ≤ length st →
    cells_of s Z (store_with Z st p (stored i)) n ≡ put (cells_of s Z st n) (segment s p)
cells_stored s Z st n p i e l =
    let h = stored_tells s Z st n p i e in
    listed_put (cell_at s Z st) (cell_at s Z (store_with Z st p (stored i))) (segment s p) n 0 i
    h.place.place h.place.there.top (cell_stored s Z st n p i e l) (cell_kept s Z st n p i e)

-- there is a free cell exactly if the lowest one is among the n
pub has_free_lem : (s : Settings) (Z : ℕ) (st : List ℕ) (n : ℕ) → has_free (cells_of s Z st n) ≡ ltb (lowest_free s Z st n) n
has_free_lem s Z st n = let z : 0 + n ≡ n = omega arith in listed_free (cell_at s Z st) n 0 ∙ ap (ltb (lowest_free s Z st n)) z

-- the record is left in the cell of the message's first, its others are freed, and no other cell is touched
pub cells_taken :
    (s : Settings) (Z : ℕ) (st : List ℕ) → Octets st → (long : ℕ) (r : Run) → took s Z st long ≡ message r →
    cells_of s Z (store_less s Z st (count_in Z st) (message r)) (count_in Z st) ≡ clear r (cells_of s Z st (count_in Z st))
cells_taken s Z st o long r e =
    listed_same (cell_at s Z (store_less s Z st (count_in Z st) (message r))) (λ j. freed r (cell_at s Z st j)) (count_in Z st) 0
    (λ j a. cell_taken s Z st o (count_in Z st) r (cells_inside Z st) (taken_tells s Z st long r e).picked j (omega (arith, a.top)))
    ∙ sym (listed_map (freed r) (cell_at s Z st) (count_in Z st) 0)

-- the record in a cell is forgotten, if the cell has one
pub cells_forgotten :
    (s : Settings) (Z : ℕ) (st : List ℕ) (i : ℕ) → gate s Z st ≡ 0 →
    cells_of s Z (store_forgotten s Z st i) (count_in Z st) ≡ forgotten i (cells_of s Z st (count_in Z st))
unfolding forgot_in
cells_forgotten s Z st i g = go (bool (ltb i n)) (bool (is_record (cell_at s Z st i)))
  where
    n : ℕ
    n = count_in Z st

    told : forgot s Z st i ≡ pick (both (ltb i n) (is_record (cell_at s Z st i))) 0 31
    told = sym (forgot_open s Z st i g)

    same : forgot s Z st i ≡ 31 → (i < n → is_record (cell_at s Z st i) ≡ false) →
        cells_of s Z (store_forgotten s Z st i) n ≡ forgotten i (cells_of s Z st n)
    same e h =
        let z : i ≡ 0 + i = omega arith in
        ap (λ (k : ℕ). cells_of s Z (store_unless k Z st i) n) e ∙ sym (listed_unforgotten (cell_at s Z st) n 0 i i z h)

    go : (ltb i n ≡ true) ⊎ (ltb i n ≡ false) → (is_record (cell_at s Z st i) ≡ true) ⊎ (is_record (cell_at s Z st i) ≡ false) →
        cells_of s Z (store_forgotten s Z st i) n ≡ forgotten i (cells_of s Z st n)
    go (inl l) (inl r) =
        let z : i ≡ 0 + i = omega arith in
        let e : forgot s Z st i ≡ 0 = told ∙ (rw (l, r) refl) in
        listed_forgotten (cell_at s Z st) (cell_at s Z (store_forgotten s Z st i)) n 0 i i z (ltb-true i n l) r (cell_forgotten s Z st i e)
        (cell_unforgotten s Z st i)
    go (inl l) (inr r) = same (told ∙ (rw (l, r) refl)) (λ h. r)
    go (inr l) r = same (told ∙ (rw l refl)) (λ h. absurd (false≢true (sym l ∙ lt-ltb i n h)))
