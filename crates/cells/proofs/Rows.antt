-- Rows of a store after one of them was written: that row is what was written, the others are as they were.
-- Assumes nothing.
use Prim.Native.Nat.{ℕ, suc, ◌+◌, ◌-◌, ◌*◌, ◌≤◌, ◌<◌}
use mathlib.Core.Path.{◌≡◌, refl, ap, sym, ◌∙◌}
use mathlib.Core.Logic.{◌≢◌, ⊎_elim}
use mathlib.Core.List.{List, [], ◌∷◌, ◌++◌, append_assoc}
use native.Mathlib.Omega.{arith}
use native.Mathlib.Nat.{mul-le-mul_right, suc-mul}
use lib.ListN.{length, take, drop, set}
use lib.Seq.{sets, sets-eq, length-take-le, take_at, drop_at, take-set-le, drop-set-lt, drop-set-add}
use Rattle.octets.specs.Octets.{part}
use Rattle.octets.proofs.Lists.{below_or}
use Rattle.cells.specs.Rows.{row_at}

-- ---- a part of a list over which another was laid

part_there : (l x : List ℕ) (at : ℕ) → at + length x ≤ length l → part (sets l at x) at (length x) ≡ x
part_there l x at h =
    let a : length (take at l) ≡ at = length-take-le at l (omega arith) in
    ap (λ (y : List ℕ). part y at (length x)) (sets-eq x l at h ∙ append_assoc (take at l) x (drop (at + length x) l))
    ∙ ap (take (length x)) (drop_at (take at l) (x ++ drop (at + length x) l) at a)
    ∙ take_at x (drop (at + length x) l) (length x) refl

part_set : (l : List ℕ) (at v a n : ℕ) → a + n ≤ at → part (set l at v) a n ≡ part l a n
part_set l at v a n h =
    let e : at ≡ a + (at - a) = omega arith in
    let k : n ≤ at - a = omega arith in
    ap (λ (j : ℕ). part (set l j v) a n) e ∙ ap (take n) (drop-set-add a l (at - a) v) ∙ take-set-le n (drop a l) (at - a) v k

part_before : (l : List ℕ) (at : ℕ) (x : List ℕ) (a n : ℕ) → a + n ≤ at → part (sets l at x) a n ≡ part l a n
part_before l at [] a n h = refl
part_before l at (v ∷ x) a n h = part_before (set l at v) (suc at) x a n (omega arith) ∙ part_set l at v a n h

drop_behind : (l : List ℕ) (at : ℕ) (x : List ℕ) (a : ℕ) → at + length x ≤ a → drop a (sets l at x) ≡ drop a l
drop_behind l at [] a h = refl
drop_behind l at (v ∷ x) a h = drop_behind (set l at v) (suc at) x a (omega arith) ∙ drop-set-lt a l at v (omega arith)

-- ---- a row written

-- the end of a row
row_end : (Z i j : ℕ) → i < j → i * Z + Z ≤ j * Z
row_end Z i j h = let k : suc i ≤ j = h in omega (arith, mul-le-mul_right Z k, suc-mul i Z)

-- the row is what was written
pub row_written : (Z i n : ℕ) (st r : List ℕ) → length r ≡ Z → i < n → n * Z ≤ length st → row_at Z (sets st (i * Z) r) i ≡ r
row_written Z i n st r e h l =
    ap (λ (k : ℕ). part (sets st (i * Z) r) (i * Z) k) (sym e) ∙ part_there st r (i * Z) (omega (arith, row_end Z i n h))

-- any other row is as it was
pub row_other : (Z i j : ℕ) (st r : List ℕ) → length r ≡ Z → j ≢ i → row_at Z (sets st (i * Z) r) j ≡ row_at Z st j
row_other Z i j st r e h =
    ⊎_elim
    (λ k. part_before st (i * Z) r (j * Z) Z (row_end Z j i k))
    (λ k. let m : i < j = omega arith in ap (take Z) (drop_behind st (i * Z) r (j * Z) (omega (arith, row_end Z i j m))))
    (below_or j i)
