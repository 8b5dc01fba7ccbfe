-- A taking by the check of settings and order: where it passes, the taking from a store in order; else its refusal.
-- Assumes nothing.
use Prim.Native.Nat.{ℕ}
use mathlib.Core.Path.{◌≡◌, sym}
use mathlib.Core.List.{List}
use Rattle.walk.specs.declared.Settings.{Settings}
use Rattle.cells.specs.Order.{count_in, gate}
use Rattle.cells.proofs.Gate.{through_open, through_shut}
use Rattle.taking.specs.Taking.{unable, took_in, took}

module _ (s : Settings) (Z : ℕ) (st : List ℕ) (long : ℕ) where
  pub took_open : gate s Z st ≡ 0 → took_in s Z st (count_in Z st) long ≡ took s Z st long
  unfolding took
  took_open g = sym (through_open (gate s Z st) (took_in s Z st (count_in Z st) long) unable g)

  pub took_shut : (gate s Z st ≡ 0 → ⊥) → took s Z st long ≡ unable (gate s Z st)
  unfolding took
  took_shut h = through_shut (gate s Z st) (took_in s Z st (count_in Z st) long) unable h
