-- A store of zeros: its cells are all free, and it is in order (J-1: a run begins with it).
-- Assumes nothing.
use Prim.Native.Nat.{ℕ, zero, suc, ◌+◌, ◌-◌, ◌*◌, ◌/◌, ◌%◌, ◌≤◌, ◌<◌}
use mathlib.Core.Path.{◌≡◌, refl, ap, sym, ◌∙◌}
use mathlib.Core.Bool.{true}
use mathlib.Core.List.{List, ◌∷◌}
use native.Mathlib.Omega.{arith}
use native.Mathlib.Nat.{mul-le-mul_right, suc-mul, mul-mod_left, mul-div_cancel}
use lib.ListN.{length, take, replicate, length-replicate, replicate-append-replicate}
use lib.Seq.{take_at, drop_at}
use Rattle.octets.specs.Octets.{part}
use Rattle.walk.specs.declared.Settings.{Settings}
use Rattle.cells.specs.Rows.{free, held, row_at, zero_row, cell_of}
use Rattle.cells.specs.Order.{cells_most, count_in, is_sound, cell_at, in_order}
use Rattle.cells.proofs.Scans.{fits_all}
use Rattle.cells.specs.Messages.{listed, cells_of}
use Rattle.cells.proofs.HeldRow.{zero_free}
use Rattle.cells.proofs.Listed.{listed_same}
use Rattle.cells.proofs.StoreOrder.{order_told}

-- n cells of Z octets
abbrev pub zeros : ℕ → ℕ → List ℕ
zeros Z n = replicate (n * Z) 0

part_zeros : (a n k : ℕ) → part (replicate (a + (n + k)) 0) a n ≡ replicate n 0
part_zeros a n k =
    ap (λ (x : List ℕ). part x a n) (sym (replicate-append-replicate a (n + k) 0))
    ∙ ap (take n) (drop_at (replicate a 0) (replicate (n + k) 0) a (length-replicate a 0) ∙ sym (replicate-append-replicate n k 0))
    ∙ take_at (replicate n 0) (replicate k 0) n (length-replicate n 0)

row_zeros : (Z n j : ℕ) → j < n → row_at Z (zeros Z n) j ≡ zero_row Z
row_zeros Z n j h =
    let l : suc j ≤ n = h in
    let e : n * Z ≡ j * Z + (Z + (n * Z - j * Z - Z)) = omega (arith, mul-le-mul_right Z l, suc-mul j Z) in
    ap (λ (m : ℕ). part (replicate m 0) (j * Z) Z) e ∙ part_zeros (j * Z) Z (n * Z - j * Z - Z)

listed_one : {A : Type 0} (a : A) (n i : ℕ) → listed (λ j. a) n i ≡ replicate n a
unfolding listed
listed_one a zero i = refl
listed_one a (suc n) i = ap (λ x. a ∷ x) (listed_one a n (suc i))

module _ (s : Settings) (Z n : ℕ) where
  pub empty_cell : (j : ℕ) → j < n → cell_at s Z (zeros Z n) j ≡ free
  empty_cell j h = ap (cell_of s Z) (row_zeros Z n j h) ∙ zero_free s Z

  -- its cells are all free
  pub empty_cells : cells_of s Z (zeros Z n) n ≡ replicate n free
  empty_cells = listed_same (cell_at s Z (zeros Z n)) (λ j. free) n 0 (λ j a. empty_cell j (omega (arith, a.top))) ∙ listed_one free n 0

  module _ (one : 1 ≤ Z) where
    pub empty_count : count_in Z (zeros Z n) ≡ n
    empty_count = ap (λ (k : ℕ). k / Z) (length-replicate (n * Z) 0) ∙ mul-div_cancel n one

    -- and it is in order
    pub empty_order : 1 ≤ n → n ≤ cells_most → in_order s Z (zeros Z n) ≡ true
    empty_order low top =
        order_told s Z (zeros Z n)
        (record {
          fits =
              fits_all Z (length (zeros Z n)) (ap (λ (k : ℕ). k % Z) (length-replicate (n * Z) 0) ∙ mul-mod_left n Z)
              (omega (arith, empty_count)) (omega (arith, empty_count));
          sound = λ i h. ap is_sound (empty_cell i (omega (arith, empty_count)));
          apart = λ i j t u h l a b p q.
              let z : free ≡ held t = sym (empty_cell i (omega (arith, empty_count))) ∙ a in
              let y : ◌≡◌ {A = ℕ} 0 1 = cc z in
              absurd (omega arith);
          clear = λ i j t g h l a b.
              let z : free ≡ held t = sym (empty_cell i (omega (arith, empty_count))) ∙ a in
              let y : ◌≡◌ {A = ℕ} 0 1 = cc z in
              absurd (omega arith);
        })
