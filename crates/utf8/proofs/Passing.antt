-- A test of each of n places: place after place, and in two parts. A turn of the loops, on plain values.
-- Assumes nothing.
use Prim.Native.Nat.{ℕ, zero, suc, ◌+◌, ◌-◌, ◌≤◌}
use mathlib.Core.Path.{◌≡◌, refl, ap, ap₂, sym, ◌∙◌}
use mathlib.Core.Bool.{Bool, true, false, ◌&&◌}
use native.Mathlib.Omega.{arith}
use native.Mathlib.Nat.{add-zero}
use Rattle.utf8.specs.Test.{both}
use Rattle.utf8.specs.Places.{all}

-- k places, and the one after them
pub all_turn : (f : ℕ → Bool) (at k n p : ℕ) (flag t : Bool) → n ≡ suc k → p ≡ at + k → flag ≡ all f at k → t ≡ f p → flag && t ≡ all f at n
unfolding all
all_turn f at k n p flag t h l e d = rw (h, ← l, ← e, ← d) (same flag t)
  where
    same : (p q : Bool) → p && q ≡ both p q
    same true q = refl
    same false q = refl

pub all_none : (f : ℕ → Bool) (at n : ℕ) → n ≡ 0 → true ≡ all f at n
unfolding all
all_none f at n e = rw e

pub both_assoc : (p q r : Bool) → both (both p q) r ≡ both p (both q r)
both_assoc true q r = refl
both_assoc false q r = refl

-- two parts, one after the other
pub all_append : (f : ℕ → Bool) (at m n : ℕ) → all f at (m + n) ≡ both (all f at m) (all f (at + m) n)
unfolding all
all_append f at m zero = rw (add-zero m) (last (all f at m))
  where
    last : (p : Bool) → p ≡ both p true
    last true = refl
    last false = refl
all_append f at m (suc n) =
    let e : at + (m + n) ≡ at + m + n = omega arith in
    let k : m + suc n ≡ suc (m + n) = omega arith in
    ap (all f at) k ∙ ap₂ both (all_append f at m n) (ap f e) ∙ both_assoc (all f at m) (all f (at + m) n) (f (at + m + n))

-- the first place, and the others
pub all_first : (f : ℕ → Bool) (at n : ℕ) → all f at (suc n) ≡ both (f at) (all f (suc at) n)
unfolding all
all_first f at n =
    let e : at + 1 ≡ suc at = omega arith in
    let k : suc n ≡ 1 + n = omega arith in
    ap (all f at) k ∙ all_append f at 1 n ∙ ap₂ both (ap f (add-zero at)) (ap (λ (k : ℕ). all f k n) e)

-- the parts as the code has them
pub all_after : (f : ℕ → Bool) (at n : ℕ) → all f 0 (at + n) ≡ both (all f 0 at) (all f at n)
all_after f at n =
    let e : 0 + at ≡ at = omega arith in
    all_append f 0 at n ∙ ap (λ (k : ℕ). both (all f 0 at) (all f k n)) e

pub all_at : (f : ℕ → Bool) (at n : ℕ) → 3 ≤ at → all f (at - 3 + 3) n ≡ all f at n
all_at f at n h = let e : at - 3 + 3 ≡ at = omega arith in ap (λ (k : ℕ). all f k n) e

pub all_parts : (f : ℕ → Bool) (at m n : ℕ) → m ≤ n → both (all f at m) (all f (at + m) (n - m)) ≡ all f at n
all_parts f at m n h = let e : m + (n - m) ≡ n = omega arith in sym (all_append f at m (n - m)) ∙ ap (all f at) e
