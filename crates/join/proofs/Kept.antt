-- Joining keeps a store in order and as long as it was, so that whoever joins packet after packet pays for the check once.
-- Assumes nothing.
use Prim.Native.Nat.{ℕ, ◌/◌}
use mathlib.Core.Path.{◌≡◌, refl, ap, sym, ◌∙◌}
use mathlib.Core.Bool.{true}
use mathlib.Core.List.{List}
use lib.ListN.{length}
use lib.Seq.{length-sets}
use Rattle.octets.specs.Octets.{Octets}
use Rattle.walk.specs.declared.Settings.{Settings}
use Rattle.cells.specs.Order.{count_in, in_order, gate}
use Rattle.arrival.specs.Arriving.{Arrived, whole, stored, again, late, refused, arrived, store_with}
use Rattle.taking.specs.Taking.{Took, message, unable, writing, took, out_with}
use Rattle.cells.proofs.Gate.{opened_order, gate_again}
use Rattle.arrival.proofs.Keeps.{arrive_long, arrive_keeps}
use Rattle.taking.proofs.Keeps.{take_long, take_keeps}
use Rattle.join.specs.Joining.{less_taken, store_by, out_by, store_joined, out_joined}
use Rattle.join.proofs.Plain.{arrive_octets, took_octets}

-- an output is as long after a taking as before
out_long : (out : List ℕ) (t : Took) → length (out_with out t) ≡ length out
unfolding out_with
out_long out (message r) = length-sets out 0 (writing r)
out_long out (unable k) = refl

module _ (s : Settings) (Z : ℕ) (st p : List ℕ) where
  module _ (long : ℕ) where
    less_long : (x : List ℕ) → length (less_taken s Z x long) ≡ length x
    less_long x = take_long Z x s (count_in Z x) (took s Z x long)

    long_by : (b : Arrived) → length (store_by s Z st p long b) ≡ length (store_with Z st p b)
    long_by whole = refl
    long_by (stored i) = less_long (store_with Z st p (stored i))
    long_by again = less_long (store_with Z st p again)
    long_by late = less_long (store_with Z st p late)
    long_by (refused k) = refl

    pub join_long : length (store_joined s Z st p long) ≡ length st
    unfolding store_joined
    join_long = long_by (arrived s Z st p) ∙ arrive_long Z st p (arrived s Z st p)

    pub join_count : {n : ℕ} → n ≡ count_in Z st → n ≡ count_in Z (store_joined s Z st p long)
    join_count e = e ∙ ap (λ (m : ℕ). m / Z) (sym join_long)

    module _ (o : Octets st) (q : Octets p) where
      -- the arrival kept the order, and so does the taking
      kept_by : (b : Arrived) → in_order s Z (store_with Z st p b) ≡ true → in_order s Z (store_by s Z st p long b) ≡ true
      kept_by whole a = a
      kept_by (stored i) a = take_keeps s Z (store_with Z st p (stored i)) (arrive_octets Z st p (stored i) o q) long a
      kept_by again a = take_keeps s Z (store_with Z st p again) (arrive_octets Z st p again o q) long a
      kept_by late a = take_keeps s Z (store_with Z st p late) (arrive_octets Z st p late o q) long a
      kept_by (refused k) a = a

      -- S-9 of joining
      pub join_keeps : in_order s Z st ≡ true → in_order s Z (store_joined s Z st p long) ≡ true
      unfolding store_joined
      join_keeps w = kept_by (arrived s Z st p) (arrive_keeps s Z st p w)

      -- what the next joining asks
      pub join_gate : gate s Z st ≡ 0 → gate s Z (store_joined s Z st p long) ≡ 0
      join_gate g = gate_again s Z st (store_joined s Z st p long) g (join_keeps (opened_order s Z st g))

      octets_by : (b : Arrived) → Octets (store_by s Z st p long b)
      octets_by whole = arrive_octets Z st p whole o q
      octets_by (stored i) = took_octets s Z (store_with Z st p (stored i)) long (arrive_octets Z st p (stored i) o q)
      octets_by again = took_octets s Z (store_with Z st p again) long (arrive_octets Z st p again o q)
      octets_by late = took_octets s Z (store_with Z st p late) long (arrive_octets Z st p late o q)
      octets_by (refused k) = arrive_octets Z st p (refused k) o q

      -- the store is still octets
      pub join_octets : Octets (store_joined s Z st p long)
      unfolding store_joined
      join_octets = octets_by (arrived s Z st p)

  out_by_lem : (out : List ℕ) (b : Arrived) → length (out_by s Z st p out b) ≡ length out
  out_by_lem out whole = refl
  out_by_lem out (stored i) = out_long out (took s Z (store_with Z st p (stored i)) (length out))
  out_by_lem out again = out_long out (took s Z (store_with Z st p again) (length out))
  out_by_lem out late = out_long out (took s Z (store_with Z st p late) (length out))
  out_by_lem out (refused k) = refl

  pub join_output_long : (out : List ℕ) → length (out_joined s Z st p out) ≡ length out
  unfolding out_joined
  join_output_long out = out_by_lem out (arrived s Z st p)
