-- Octets that go to the front of their buffer, one after the other: those that are still to go stay where they were.
-- Assumes nothing.
use Prim.Native.Nat.{ℕ, suc, ◌+◌, ◌≤◌, ◌<◌}
use mathlib.Core.Path.{◌≡◌, refl, ap, ap₂, sym, ◌∙◌}
use mathlib.Core.List.{List, [], ◌∷◌, ◌++◌}
use native.Mathlib.Omega.{arith}
use native.Mathlib.Numerals.{add-one}
use lib.ListN.{length, get_or, take, drop, set, length-drop}
use lib.Seq.{sets, length-sets, take-suc, get_or-drop, get_or-set_other, length-take-le}
use Rattle.octets.specs.Octets.{part}
use Rattle.octets.proofs.Lists.{sets_append}

-- a list laid over a list leaves what is after it
behind_kept : (l x : List ℕ) (i j : ℕ) → i + length x ≤ j → get_or (sets l i x) j 0 ≡ get_or l j 0
behind_kept l [] i j h = refl
behind_kept l (v ∷ x) i j h =
    behind_kept (set l i v) x (suc i) j (omega arith) ∙ get_or-set_other l i j v 0 (λ e. omega arith)

-- i of n octets have gone
pub record Moving (l : List ℕ) (from n : ℕ) (m : List ℕ) (i : ℕ) : Type 0 where
  pub within : from + n ≤ length l
  pub most : i ≤ n
  pub long : length m ≡ length l
  pub gone : m ≡ sets l 0 (part l from i)

pub moving_first : (l : List ℕ) (from n : ℕ) → from + n ≤ length l → Moving l from n l 0
moving_first l from n h = record { within = h; most = omega arith; long = refl; gone = refl }

module _ {l : List ℕ} {from n : ℕ} {m : List ℕ} {i : ℕ} (inv : Moving l from n m i) where
  pub moving_turn : i < n → Moving l from n (set m i (get_or m (from + i) 0)) (i + 1)
  moving_turn h =
      let x = part l from i in
      let y = drop from l in
      let a : i ≡ 0 + length x = omega (arith, length-take-le i y (omega (arith, inv.within, length-drop from l))) in
      let v : get_or m (from + i) 0 ≡ get_or y i 0 =
      ap (λ (k : List ℕ). get_or k (from + i) 0) inv.gone ∙ behind_kept l x 0 (from + i) (omega arith) ∙ sym (get_or-drop from l i 0) in
      let w : take (i + 1) y ≡ x ++ (get_or y i 0 ∷ []) =
      ap (λ (k : ℕ). take k y) (add-one i) ∙ take-suc y i 0 (omega (arith, inv.within, length-drop from l)) in
      let e : set m i (get_or m (from + i) 0) ≡ sets l 0 (part l from (i + 1)) =
      ap₂ (λ (k : List ℕ) (u : ℕ). set k i u) inv.gone v
      ∙ ap (λ (k : ℕ). sets (sets l 0 x) k (get_or y i 0 ∷ [])) a
      ∙ sets_append l 0 x (get_or y i 0 ∷ [])
      ∙ ap (sets l 0) (sym w) in
      record {
        within = inv.within;
        most = omega arith;
        long = ap length e ∙ length-sets l 0 (part l from (i + 1));
        gone = e;
      }

  pub moving_done : n ≤ i → m ≡ sets l 0 (part l from n)
  moving_done h =
      let e : i ≡ n = omega (arith, inv.most) in
      inv.gone ∙ ap (λ (k : ℕ). sets l 0 (part l from k)) e
