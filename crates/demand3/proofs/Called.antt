-- What a call leaves, by its arrival and its taking: the store after its arrival, and where it goes on to a taking, that store and the
-- output after the taking. For an arrival, a taking or a forgetting alone this is what its definition says; for a joining, by what its arrival
-- comes to.
-- Assumes nothing.
use Prim.Native.Nat.{ℕ}
use mathlib.Core.Path.{◌≡◌, refl}
use mathlib.Core.List.{List}
use lib.ListN.{length}
use Rattle.octets.specs.Octets.{pick}
use Rattle.walk.specs.declared.Settings.{Settings}
use Rattle.arrival.specs.Arriving.{Arrived, whole, stored, again, late, refused, arrived, store_with}
use Rattle.taking.specs.Taking.{took, out_with}
use Rattle.join.specs.Joining.{less_taken, store_by as store_joined_by, out_by as out_joined_by, store_joined, out_joined}
use Rattle.demand3.specs.Calls.{Call, arrival, taking, joining, forgetting, out_of, goes_on, draws, store_at, store_by, out_by}

module _ (s : Settings) (Z : ℕ) (st : List ℕ) where
  pub store_by_lem : (c : Call) → store_by s Z st c ≡ pick (draws s Z st c) (less_taken s Z (store_at s Z st c) (length (out_of c))) (store_at s Z st c)
  unfolding store_by store_joined
  store_by_lem (arrival p) = refl
  store_by_lem (taking out) = refl
  store_by_lem (forgetting i) = refl
  store_by_lem (joining p out) = by (arrived s Z st p)
    where
      by : (a : Arrived) →
          store_joined_by s Z st p (length out) a ≡ pick (goes_on a) (less_taken s Z (store_with Z st p a) (length out)) (store_with Z st p a)
      by whole = refl
      by (stored i) = refl
      by again = refl
      by late = refl
      by (refused k) = refl

  pub out_by_lem : (c : Call) → out_by s Z st c ≡ pick (draws s Z st c) (out_with (out_of c) (took s Z (store_at s Z st c) (length (out_of c)))) (out_of c)
  unfolding out_by out_joined
  out_by_lem (arrival p) = refl
  out_by_lem (taking out) = refl
  out_by_lem (forgetting i) = refl
  out_by_lem (joining p out) = by (arrived s Z st p)
    where
      by : (a : Arrived) → out_joined_by s Z st p out a ≡ pick (goes_on a) (out_with out (took s Z (store_with Z st p a) (length out))) out
      by whole = refl
      by (stored i) = refl
      by again = refl
      by late = refl
      by (refused k) = refl
