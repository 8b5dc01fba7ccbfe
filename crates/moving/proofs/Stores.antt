-- The rows of a store that was moved: how long they are together, which row is where, and that they come back.
-- Assumes nothing.
use Prim.Native.Nat.{ℕ, zero, suc, ◌+◌, ◌*◌, ◌≤◌, ◌<◌}
use mathlib.Core.Path.{◌≡◌, ap, ap₂, sym, ◌∙◌}
use mathlib.Core.Logic.{⊎_elim}
use mathlib.Core.List.{List, ◌++◌}
use native.Mathlib.Omega.{arith}
use native.Mathlib.Nat.{suc-mul, zero-mul, mul-le-mul_right}
use lib.ListN.{length, take, drop, length-append, length-drop}
use lib.Seq.{take_all, take-add, take-append-le, drop-append-le, drop_at}
use Rattle.octets.specs.Octets.{part}
use Rattle.octets.proofs.Lists.{below_or}
use Rattle.cells.specs.Rows.{row_at}
use Rattle.moving.specs.Moving.{row_as, rows_as}
use Rattle.moving.proofs.Padding.{Padded, as_long, padded_back}

-- a part of what comes first
part_first : (a b : List ℕ) (at n : ℕ) → at + n ≤ length a → part (a ++ b) at n ≡ part a at n
part_first a b at n h =
    ap (take n) (drop-append-le at a b (omega arith)) ∙ take-append-le n (drop at a) b (omega (arith, length-drop at a))

module _ (Y Z : ℕ) (st : List ℕ) where
  pub rows_long : (n : ℕ) → length (rows_as Y Z st n) ≡ n * Z
  unfolding rows_as
  rows_long zero = sym (zero-mul Z)
  rows_long (suc n) =
      omega (arith, length-append (rows_as Y Z st n) (row_as Z (row_at Y st n)), rows_long n, as_long Z (row_at Y st n), suc-mul n Z)

  -- each row is that of its number
  pub row_as_lem : (n i : ℕ) → i < n → row_at Z (rows_as Y Z st n) i ≡ row_as Z (row_at Y st i)
  unfolding rows_as
  row_as_lem zero i h = absurd (omega arith)
  row_as_lem (suc n) i h = go (row_as_lem n i)
    where
      go : (i < n → row_at Z (rows_as Y Z st n) i ≡ row_as Z (row_at Y st i)) → row_at Z (rows_as Y Z st n ++ row_as Z (row_at Y st n)) i ≡ row_as Z (row_at Y st i)
      go ih =
          ⊎_elim
          (λ k.
          let m : suc i ≤ n = k in
          part_first (rows_as Y Z st n) (row_as Z (row_at Y st n)) (i * Z) Z (omega (arith, rows_long n, mul-le-mul_right Z m, suc-mul i Z)) ∙ ih k)
          (λ k.
          let e : i ≡ n = omega arith in
          ap (λ (j : ℕ). part (rows_as Y Z st n ++ row_as Z (row_at Y st n)) (j * Z) Z) e
          ∙ ap (take Z) (drop_at (rows_as Y Z st n) (row_as Z (row_at Y st n)) (n * Z) (rows_long n))
          ∙ take_all Z (row_as Z (row_at Y st n)) (omega (arith, as_long Z (row_at Y st n)))
          ∙ ap (λ (j : ℕ). row_as Z (row_at Y st j)) (sym e))
          (below_or i n)

  -- rows that end in zeros come back
  pub rows_back :
      (n : ℕ) → ((i : ℕ) → i < n → Padded Y Z (row_at Y st i)) → (m : ℕ) → m ≤ n → rows_as Z Y (rows_as Y Z st n) m ≡ take (m * Y) st
  unfolding rows_as
  rows_back n p zero h = ap (λ (k : ℕ). take k st) (sym (zero-mul Y))
  rows_back n p (suc m) h =
      let l : m < n = h in
      ap₂ (λ (a b : List ℕ). a ++ b) (rows_back n p m (omega arith)) (ap (row_as Y) (row_as_lem n m l) ∙ padded_back (p m l))
      ∙ sym (take-add (m * Y) Y st)
      ∙ ap (λ (k : ℕ). take k st) (sym (suc-mul m Y))
