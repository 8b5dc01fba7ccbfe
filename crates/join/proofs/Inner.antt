-- Joining at a store whose settings and order were tested is joining at any octets: the arrival keeps the order, so that the taking
-- needs no second test.
-- Assumes nothing.
use Prim.Native.Nat.{ℕ, ◌/◌}
use mathlib.Core.Path.{◌≡◌, refl, ap, ap₂, sym, ◌∙◌}
use mathlib.Core.List.{List}
use lib.ListN.{length}
use Rattle.walk.specs.declared.Settings.{Settings}
use Rattle.cells.specs.Order.{count_in, gate}
use Rattle.arrival.specs.Arriving.{Arrived, whole, stored, again, late, refused, arrived_in, arrived, store_with}
use Rattle.taking.specs.Taking.{Took, took_in, took, out_with, store_less}
use Rattle.cells.proofs.Gate.{opened_order, gate_again}
use Rattle.arrival.proofs.Checked.{arrived_open}
use Rattle.taking.proofs.Checked.{took_open}
use Rattle.arrival.proofs.Keeps.{arrive_long, arrive_keeps}
use Rattle.join.specs.declared.Came.{Came}
use Rattle.join.specs.Joining.{took_as, joined_by, store_by, out_by, joining, store_joined, out_joined}
use Rattle.join.specs.Answer.{joined_answer}
use Rattle.join.specs.Told.{joined_of}
use Rattle.join.specs.Inner.{joined_in_by, store_in_by, out_in_by, joining_in, store_joined_in, out_joined_in}
use Rattle.join.proofs.Joins.{Joins, JoinsIn}

module _ (s : Settings) (Z : ℕ) (st p : List ℕ) {n : ℕ} (g : gate s Z st ≡ 0) (en : n ≡ count_in Z st) where
  pub arrives : arrived_in s Z st n p ≡ arrived s Z st p
  arrives = ap (λ (m : ℕ). arrived_in s Z st m p) en ∙ arrived_open s Z st p g

  -- the store after the arrival has as many cells, and is in order
  module _ (b : Arrived) (eb : b ≡ arrived s Z st p) where
    abbrev x : List ℕ
    x = store_with Z st p b

    count_is : n ≡ count_in Z x
    count_is = en ∙ ap (λ (m : ℕ). m / Z) (sym (arrive_long Z st p b))

    took_same : (long : ℕ) → took_in s Z x n long ≡ took s Z x long
    took_same long =
        ap (λ (m : ℕ). took_in s Z x m long) count_is
        ∙ took_open s Z x long
        (gate_again s Z st x g (rw eb (arrive_keeps s Z st p (opened_order s Z st g))))

    less_same : (long : ℕ) → store_less s Z x n (took_in s Z x n long) ≡ store_less s Z x (count_in Z x) (took s Z x long)
    less_same long = ap₂ (λ (m : ℕ) (k : Took). store_less s Z x m k) count_is (took_same long)

  joined_by_lem : (long : ℕ) (b : Arrived) → b ≡ arrived s Z st p → joined_in_by s Z st n p long b ≡ joined_by s Z st p long b
  joined_by_lem long whole e = refl
  joined_by_lem long (stored i) e = ap took_as (took_same (stored i) e long)
  joined_by_lem long again e = ap took_as (took_same again e long)
  joined_by_lem long late e = ap took_as (took_same late e long)
  joined_by_lem long (refused k) e = refl

  store_by_lem : (long : ℕ) (b : Arrived) → b ≡ arrived s Z st p → store_in_by s Z st n p long b ≡ store_by s Z st p long b
  store_by_lem long whole e = refl
  store_by_lem long (stored i) e = less_same (stored i) e long
  store_by_lem long again e = less_same again e long
  store_by_lem long late e = less_same late e long
  store_by_lem long (refused k) e = refl

  out_by_lem : (out : List ℕ) (b : Arrived) → b ≡ arrived s Z st p → out_in_by s Z st n p out b ≡ out_by s Z st p out b
  out_by_lem out whole e = refl
  out_by_lem out (stored i) e = ap (out_with out) (took_same (stored i) e (length out))
  out_by_lem out again e = ap (out_with out) (took_same again e (length out))
  out_by_lem out late e = ap (out_with out) (took_same late e (length out))
  out_by_lem out (refused k) e = refl

  pub joining_open : (long : ℕ) → joining_in s Z st n p long ≡ joining s Z st p long
  unfolding joining_in joining
  joining_open long = ap (joined_in_by s Z st n p long) arrives ∙ joined_by_lem long (arrived s Z st p) refl

  pub store_open : (long : ℕ) → store_joined_in s Z st n p long ≡ store_joined s Z st p long
  unfolding store_joined_in store_joined
  store_open long = ap (store_in_by s Z st n p long) arrives ∙ store_by_lem long (arrived s Z st p) refl

  pub out_open : (out : List ℕ) → out_joined_in s Z st n p out ≡ out_joined s Z st p out
  unfolding out_joined_in out_joined
  out_open out = ap (out_in_by s Z st n p out) arrives ∙ out_by_lem out (arrived s Z st p) refl

  -- what holds of the one holds of the other
  pub joins_open : (out : List ℕ) (c : Came) {y l : List ℕ} → JoinsIn s Z st p out n c y l → Joins s Z st p out (joined_answer c.joined) y l
  joins_open out c w = (
    w.0 ∙ ap joined_of (joining_open (length out)),
    (w.1.1.0 ∙ store_open (length out), w.1.1.1 ∙ out_open out),
  )
