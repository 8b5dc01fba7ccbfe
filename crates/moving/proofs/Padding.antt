-- A row as one of another size: how long it is, what it begins with, and that a row which ends in zeros comes back from it.
-- Assumes nothing.
use Prim.Native.Nat.{ℕ, zero, suc, ◌+◌, ◌-◌, ◌≤◌, ◌<◌}
use mathlib.Core.Path.{◌≡◌, refl, ap, sym, ◌∙◌}
use mathlib.Core.Logic.{⊎_elim}
use mathlib.Core.List.{List, ◌∷◌, ◌++◌, append_assoc, append-nil}
use native.Mathlib.Omega.{arith}
use lib.ListN.{length, take, length-append, length-replicate, replicate-append-replicate}
use lib.Seq.{length-take-le, take_all, take-take, take-append-le, take-append-add}
use Rattle.octets.proofs.Lists.{below_or}
use Rattle.cells.specs.Rows.{zero_row}
use Rattle.moving.specs.Moving.{row_as}

pub take_zeros : (k m : ℕ) → k ≤ m → take k (zero_row m) ≡ zero_row k
take_zeros zero m h = refl
take_zeros (suc k) zero h = absurd (omega arith)
take_zeros (suc k) (suc m) h = ap (λ (x : List ℕ). 0 ∷ x) (take_zeros k m (omega arith))

module _ (Z : ℕ) where
  room : (r : List ℕ) → Z ≤ length (r ++ zero_row Z)
  room r = omega (arith, length-append r (zero_row Z), length-replicate {A = ℕ} Z 0)

  pub as_long : (r : List ℕ) → length (row_as Z r) ≡ Z
  unfolding row_as
  as_long r = length-take-le Z (r ++ zero_row Z) (room r)

  -- it begins as the row does, as far as both go
  pub as_begins : (r : List ℕ) (m : ℕ) → m ≤ Z → m ≤ length r → take m (row_as Z r) ≡ take m r
  unfolding row_as
  as_begins r m h l = take-take m Z (r ++ zero_row Z) h ∙ take-append-le m r (zero_row Z) l

  -- zeros at the end are as many as there is room for
  pub as_padded : (x : List ℕ) (a : ℕ) → length x ≤ Z → row_as Z (x ++ zero_row a) ≡ x ++ zero_row (Z - length x)
  unfolding row_as
  as_padded x a h =
      let e : Z ≡ length x + (Z - length x) = omega arith in
      let l : Z - length x ≤ a + Z = omega arith in
      ap (take Z) (append_assoc x (zero_row a) (zero_row Z) ∙ ap (λ (y : List ℕ). x ++ y) (replicate-append-replicate a Z 0))
      ∙ ap (λ (n : ℕ). take n (x ++ zero_row (a + Z))) e
      ∙ take-append-add x (zero_row (a + Z)) (Z - length x)
      ∙ ap (λ (y : List ℕ). x ++ y) (take_zeros (Z - length x) (a + Z) l)

  -- what the row begins with, and zeros
  pub as_pieces : (r : List ℕ) → take Z r ++ zero_row (Z - length (take Z r)) ≡ row_as Z r
  unfolding row_as
  as_pieces r = ⊎_elim longer within (below_or Z (length r))
    where
      longer : Z < length r → take Z r ++ zero_row (Z - length (take Z r)) ≡ take Z (r ++ zero_row Z)
      longer h =
          let l : Z ≤ length r = omega arith in
          let n : Z - length (take Z r) ≡ 0 = omega (arith, length-take-le Z r l) in
          ap (λ (k : ℕ). take Z r ++ zero_row k) n ∙ append-nil (take Z r) ∙ sym (take-append-le Z r (zero_row Z) l)

      within : length r ≤ Z → take Z r ++ zero_row (Z - length (take Z r)) ≡ take Z (r ++ zero_row Z)
      within h =
          let e : Z ≡ length r + (Z - length r) = omega arith in
          let l : Z - length r ≤ Z = omega arith in
          ap (λ (x : List ℕ). x ++ zero_row (Z - length x)) (take_all Z r h)
          ∙ sym
          (ap (λ (n : ℕ). take n (r ++ zero_row Z)) e
          ∙ take-append-add r (zero_row Z) (Z - length r)
          ∙ ap (λ (y : List ℕ). r ++ y) (take_zeros (Z - length r) Z l))

-- a row of Y octets that is something and zeros, if that fits Z octets too
pub record Padded (Y Z : ℕ) (r : List ℕ) : Type 0 where
  pub fore : List ℕ
  pub row : r ≡ fore ++ zero_row (Y - length fore)
  pub own : length fore ≤ Y
  pub other : length fore ≤ Z

module _ {Y Z : ℕ} {r : List ℕ} (p : Padded Y Z r) where
  pub padded_as : row_as Z r ≡ p.fore ++ zero_row (Z - length p.fore)
  padded_as = ap (row_as Z) p.row ∙ as_padded Z p.fore (Y - length p.fore) p.other

  pub padded_back : row_as Y (row_as Z r) ≡ r
  padded_back = ap (row_as Y) padded_as ∙ as_padded Y p.fore (Z - length p.fore) p.own ∙ sym p.row
