-- An arrival by the check of settings and order: where it passes, the arrival at a store in order; else its refusal.
-- Assumes nothing.
use Prim.Native.Nat.{ℕ}
use mathlib.Core.Path.{◌≡◌, sym}
use mathlib.Core.List.{List}
use Rattle.walk.specs.declared.Settings.{Settings}
use Rattle.walk.specs.Walk.{refusal}
use Rattle.cells.specs.Order.{count_in, gate}
use Rattle.cells.proofs.Gate.{through_open, through_shut}
use Rattle.arrival.specs.Arriving.{refused, arrived_in, arrived}

module _ (s : Settings) (Z : ℕ) (st p : List ℕ) where
  pub arrived_open : gate s Z st ≡ 0 → arrived_in s Z st (count_in Z st) p ≡ arrived s Z st p
  unfolding arrived
  arrived_open g = sym (through_open (gate s Z st) (arrived_in s Z st (count_in Z st) p) (λ k. refused (refusal k)) g)

  pub arrived_shut : (gate s Z st ≡ 0 → ⊥) → arrived s Z st p ≡ refused (refusal (gate s Z st))
  unfolding arrived
  arrived_shut h = through_shut (gate s Z st) (arrived_in s Z st (count_in Z st) p) (λ k. refused (refusal k)) h
