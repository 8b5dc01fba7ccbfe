-- Places passed over, one by one and in blocks: on plain values.
-- Assumes nothing.
use Prim.Native.Nat.{ℕ, ◌+◌, ◌-◌, ◌≤◌, ◌<◌}
use mathlib.Core.Path.{◌≡◌, refl, ap, ap₂, sym, ◌∙◌}
use mathlib.Core.Logic.{⊎_elim}
use mathlib.Core.Bool.{Bool, true, false}
use mathlib.Core.List.{List}
use native.Mathlib.Omega.{arith}
use lib.ListN.{length, take, drop, length-take, length-drop}
use lib.Seq.{get_or-take, get_or-drop}
use lib.Dec.{eqb}
use Rattle.octets.specs.Octets.{pick, octet_at}
use Rattle.octets.proofs.Lists.{below_or}
use Rattle.salvage.specs.Listing.{marked}
use Rattle.salvage.specs.Inner.{Unmarked, Passed}

pub none_yet : {here next : List ℕ} → Unmarked here next false 0
none_yet = record { none = λ e k h. absurd (omega arith) }

either_false : (a b : Bool) → pick a true b ≡ false → (a ≡ false) × (b ≡ false)
either_false true b e = let z : ◌≡◌ {A = ℕ} 0 1 = cc in absurd (omega arith)
either_false false b e = (refl, e)

pub one_more :
    {here next : List ℕ} {found m r : Bool} {i : ℕ} → Unmarked here next found i →
    m ≡ pick (eqb (octet_at here i) 0x4d) (eqb (octet_at next i) 0x50) false → r ≡ pick found true m → Unmarked here next r (i + 1)
one_more {found = found} {m = m} {i = i} u e f =
    record {
      none =
          λ z k h.
          let t = either_false found m (sym f ∙ z) in
          ⊎_elim
          (λ j. u.none t.0 k j)
          (λ j. let p : k ≡ i = omega arith in rw p (sym e ∙ t.1))
          (below_or k i);
    }

pub all_of : {here next : List ℕ} {found : Bool} {n i : ℕ} → Unmarked here next found i → n ≤ i → Unmarked here next found n
all_of u h = record { none = λ e k j. u.none e k (omega arith) }

-- ---- in the file

pub passed_none : {x : List ℕ} {from end : ℕ} → from ≤ end → Passed x from end from
passed_none h = record { low = omega arith; top = h; none = λ k a b. absurd (omega arith) }

pub passed_one :
    {x : List ℕ} {from end at : ℕ} {r : Bool} → Passed x from end at → at < end →
    {b : ℕ} → b ≡ octet_at x (at + 1) → r ≡ pick (eqb (octet_at x at) 0x4d) (eqb b 0x50) false → r ≡ false → Passed x from end (at + 1)
unfolding marked
passed_one {x} {from} {end} {at} p h g d f =
    let e = d ∙ ap (λ (b : ℕ). pick (eqb (octet_at x at) 0x4d) (eqb b 0x50) false) g in
    record {
      low = omega (arith, p.low);
      top = omega arith;
      none =
          λ k a b.
          ⊎_elim
          (λ j. p.none k a j)
          (λ j. let q : k ≡ at = omega arith in rw q (sym e ∙ f))
          (below_or k at);
    }

-- a block of n places, and the octets after them
pub passed_block :
    {x : List ℕ} {from end at n : ℕ} {r : Bool} → Passed x from end at → at + n < end →
    Unmarked (take (at + n - at) (drop at x)) (take (at + n + 1 - (at + 1)) (drop (at + 1) x)) r n → r ≡ false →
    Passed x from end (at + n)
unfolding marked
passed_block {x} {from} {end} {at} {n} p h u f =
    record {
      low = omega (arith, p.low);
      top = omega arith;
      none = λ k a b. ⊎_elim (λ j. p.none k a j) (λ j. inside k j b) (below_or k at);
    }
  where
    first : (j : ℕ) → j < n → octet_at (take (at + n - at) (drop at x)) j ≡ octet_at x (at + j)
    first j h = let i : j < at + n - at = omega arith in rw (get_or-take, get_or-drop)

    second : (j : ℕ) → j < n → octet_at (take (at + n + 1 - (at + 1)) (drop (at + 1) x)) j ≡ octet_at x (at + 1 + j)
    second j h = let i : j < at + n + 1 - (at + 1) = omega arith in rw (get_or-take, get_or-drop)

    inside : (k : ℕ) → at ≤ k → k < at + n → pick (eqb (octet_at x k) 0x4d) (eqb (octet_at x (k + 1)) 0x50) false ≡ false
    inside k a b =
        let i : k - at < n = omega arith in
        let v : at + (k - at) ≡ k = omega arith in
        let w : at + 1 + (k - at) ≡ k + 1 = omega arith in
        let y : octet_at (take (at + n - at) (drop at x)) (k - at) ≡ octet_at x k = first (k - at) i ∙ ap (octet_at x) v in
        let z : octet_at (take (at + n + 1 - (at + 1)) (drop (at + 1) x)) (k - at) ≡ octet_at x (k + 1) =
        second (k - at) i ∙ ap (octet_at x) w in
        ap₂ (λ (c d : ℕ). pick (eqb c 0x4d) (eqb d 0x50) false) (sym y) (sym z) ∙ u.none f (k - at) i

-- how long a part is that is there
pub part_long : (x : List ℕ) (at n : ℕ) → at + n ≤ length x → length (take n (drop at x)) ≡ n
part_long x at n h = simp (length-take, length-drop) (omega arith)

pub block_long : (x : List ℕ) (at n : ℕ) → at + n ≤ length x → length (take (at + n - at) (drop at x)) ≡ n
block_long x at n h = let e : at + n - at ≡ n = omega arith in rw e (part_long x at n h)

pub next_long : (x : List ℕ) (at n : ℕ) → at + n + 1 ≤ length x → length (take (at + n + 1 - (at + 1)) (drop (at + 1) x)) ≡ n
next_long x at n h = let e : at + n + 1 - (at + 1) ≡ n = omega arith in rw e (part_long x (at + 1) n (omega arith))
