-- What one of two answers tells of the test that chose it.
-- Assumes nothing.
use Prim.Native.Nat.{ℕ}
use mathlib.Core.Path.{◌≡◌, refl}
use mathlib.Core.Bool.{Bool, true, false}
use native.Mathlib.Omega.{arith}
use Rattle.octets.specs.Octets.{pick}

module _ {A : Type 0} where
  pub pick_yes : (b : Bool) (x y : A) → b ≡ true → pick b x y ≡ x
  pick_yes true x y e = refl
  pick_yes false x y e = let z : ◌≡◌ {A = ℕ} 0 1 = cc in absurd (omega arith)

  -- the answer is not the second one
  pub pick_tells : (b : Bool) (x y a : A) → (y ≡ a → ⊥) → pick b x y ≡ a → (b ≡ true) × (x ≡ a)
  pick_tells true x y a h e = (refl, e)
  pick_tells false x y a h e = absurd (h e)
