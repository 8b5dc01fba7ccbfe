-- What a joining leaves as it was: for a packet that came whole the store and the output; after a refusal the output, and the store but
-- for what the arrival wrote.
-- Assumes nothing.
use Prim.Native.Nat.{ℕ}
use mathlib.Core.Path.{◌≡◌, refl}
use mathlib.Core.List.{List}
use native.Mathlib.Omega.{arith}
use lib.ListN.{length}
use Rattle.walk.specs.declared.Settings.{Settings}
use Rattle.walk.specs.declared.Refusal.{Refusal}
use Rattle.cells.specs.Order.{count_in}
use Rattle.arrival.specs.Arriving.{Arrived, whole, stored, again, late, refused, arrived, store_with}
use Rattle.taking.specs.Taking.{Took, message, unable, took, out_with, store_less}
use Rattle.join.specs.Joining.{in_packet, unjoined, took_as, joined_by, store_by, out_by, joining, store_joined, out_joined}

-- a taking gives no body in the packet
took_not : (t : Took) (m n : ℕ) → took_as t ≡ in_packet m n → ⊥
took_not (message r) m n e = let z : ◌≡◌ {A = ℕ} 0 1 = cc in omega arith
took_not (unable k) m n e = let z : ◌≡◌ {A = ℕ} 0 1 = cc in omega arith

-- a taking that is refused leaves store and output
took_leaves :
    (s : Settings) (Z : ℕ) (x out : List ℕ) (t : Took) (r : Refusal) → took_as t ≡ unjoined r →
    (store_less s Z x (count_in Z x) t ≡ x) × (out_with out t ≡ out)
unfolding store_less out_with
took_leaves s Z x out (message m) r e = let z : ◌≡◌ {A = ℕ} 0 1 = cc in absurd (omega arith)
took_leaves s Z x out (unable j) r e = (refl, refl)

module _ (s : Settings) (Z : ℕ) (st p out : List ℕ) where
  whole_by :
      (b : Arrived) (m n : ℕ) → joined_by s Z st p (length out) b ≡ in_packet m n →
      (store_by s Z st p (length out) b ≡ st) × (out_by s Z st p out b ≡ out)
  unfolding store_with
  whole_by whole m n e = (refl, refl)
  whole_by (stored i) m n e = absurd (took_not (took s Z (store_with Z st p (stored i)) (length out)) m n e)
  whole_by again m n e = absurd (took_not (took s Z (store_with Z st p again) (length out)) m n e)
  whole_by late m n e = absurd (took_not (took s Z (store_with Z st p late) (length out)) m n e)
  whole_by (refused k) m n e = let z : ◌≡◌ {A = ℕ} 0 1 = cc in absurd (omega arith)

  refused_by_lem :
      (b : Arrived) (r : Refusal) → joined_by s Z st p (length out) b ≡ unjoined r →
      (store_by s Z st p (length out) b ≡ store_with Z st p b) × (out_by s Z st p out b ≡ out)
  refused_by_lem whole k e = let z : ◌≡◌ {A = ℕ} 0 1 = cc in absurd (omega arith)
  refused_by_lem (stored i) k e =
      let x = store_with Z st p (stored i) in took_leaves s Z x out (took s Z x (length out)) k e
  refused_by_lem again k e = let x = store_with Z st p again in took_leaves s Z x out (took s Z x (length out)) k e
  refused_by_lem late k e = let x = store_with Z st p late in took_leaves s Z x out (took s Z x (length out)) k e
  refused_by_lem (refused j) k e = (refl, refl)

  -- SPEC J-5: a packet that came whole leaves the output as it was
  pub whole_untouched :
      (m n : ℕ) → joining s Z st p (length out) ≡ in_packet m n →
      (store_joined s Z st p (length out) ≡ st) × (out_joined s Z st p out ≡ out)
  unfolding joining store_joined out_joined
  whole_untouched m n e = whole_by (arrived s Z st p) m n e

  -- SPEC J-3: a refusal leaves the store changed by the arrival alone
  pub refusal_untouched :
      (r : Refusal) → joining s Z st p (length out) ≡ unjoined r →
      (store_joined s Z st p (length out) ≡ store_with Z st p (arrived s Z st p)) × (out_joined s Z st p out ≡ out)
  unfolding joining store_joined out_joined
  refusal_untouched k e = refused_by_lem (arrived s Z st p) k e
