-- A store's records as the calls test them, octet by octet, and as demand 3 has them, cell by cell: a key and a counter lie in the range of a
-- record there just if they do here.
-- Assumes nothing.
use Prim.Native.Nat.{ℕ, zero, suc, ◌+◌, ◌<◌}
use mathlib.Core.Path.{◌≡◌, refl, sym, ◌∙◌, ap, subst}
use mathlib.Core.Logic.{◌⊎◌, inl, inr}
use mathlib.Core.Bool.{true, false, not, true≢false}
use mathlib.Core.List.{List, Memᴰ}
use native.Mathlib.Omega.{arith}
use lib.ListN.{get_or}
use Rattle.octets.proofs.Lists.{bool}
use Rattle.walk.specs.declared.Settings.{Settings}
use Rattle.packet.specs.Numbers.{next_counter}
use Rattle.cells.specs.Rows.{Range, Cell, free, taken}
use Rattle.cells.specs.Order.{cell_at, covers, untaken_to}
use Rattle.cells.specs.Messages.{cells_of, listed}
use Rattle.cells.proofs.Covered.{untaken_missed, missed_untaken}
use Rattle.demand3.specs.Cells.{spans, recorded}
use Rattle.demand3.proofs.Distinct.{listed_at}
use Rattle.demand3.proofs.Sents.{listed_in}
use Rattle.demand3.proofs.Ranges.{free_not, recorded_has, has_recorded}

same_range : (k : List ℕ) (c : ℕ) (g : Range) → spans next_counter k c g ≡ covers k c g
unfolding spans covers
same_range k c g = refl

module _ (s : Settings) (Z : ℕ) (st : List ℕ) (n : ℕ) (k : List ℕ) (c : ℕ) where
  pub untaken_is : untaken_to s Z st n k c ≡ not (recorded next_counter (cells_of s Z st n) k c)
  untaken_is = go (bool (recorded next_counter (cells_of s Z st n) k c)) (bool (untaken_to s Z st n k c))
    where
      clash : recorded next_counter (cells_of s Z st n) k c ≡ true → untaken_to s Z st n k c ≡ true → ⊥
      clash e h =
          let z = recorded_has next_counter (cells_of s Z st n) k c e in
          let v = listed_at (cell_at s Z st) n 0 (taken z.0) z.1 in
          true≢false
          (sym z.2 ∙ same_range k c z.0 ∙ untaken_missed s Z st n k c h v.0 z.0 (omega (arith, v.2)) (sym v.3))

      none_covers : recorded next_counter (cells_of s Z st n) k c ≡ false → (j : ℕ) (g : Range) → j < n → cell_at s Z st j ≡ taken g → covers k c g ≡ false
      none_covers e j g l a = by (bool (covers k c g))
        where
          by : (covers k c g ≡ true) ⊎ (covers k c g ≡ false) → covers k c g ≡ false
          by (inr h) = h
          by (inl h) =
              absurd
              (true≢false
              (sym (has_recorded next_counter (cells_of s Z st n) k c g
              (subst (λ (x : Cell). Memᴰ x (cells_of s Z st n)) a (listed_in (cell_at s Z st) n 0 j (omega arith) (omega arith)))
              (same_range k c g ∙ h)) ∙ e))

      go : (recorded next_counter (cells_of s Z st n) k c ≡ true) ⊎ (recorded next_counter (cells_of s Z st n) k c ≡ false) →
          (untaken_to s Z st n k c ≡ true) ⊎ (untaken_to s Z st n k c ≡ false) →
          untaken_to s Z st n k c ≡ not (recorded next_counter (cells_of s Z st n) k c)
      go (inl e) (inl h) = absurd (clash e h)
      go (inl e) (inr h) = h ∙ ap not (sym e)
      go (inr e) h = missed_untaken s Z st n k c (none_covers e) ∙ ap not (sym e)

-- a cell by its number in the list
pub listed_get : (f : ℕ → Cell) (n i k x : ℕ) → x ≡ i + k → k < n → get_or (listed f n i) k free ≡ f x
unfolding listed
listed_get f zero i k x e l = absurd (omega arith)
listed_get f (suc n) i zero x e l = let a : i ≡ x = omega arith in ap f a
listed_get f (suc n) i (suc k) x e l = listed_get f n (suc i) k x (omega arith) (omega arith)

-- past its end there is none
pub listed_past : (f : ℕ → Cell) (n i k : ℕ) (g : Range) → get_or (listed f n i) k free ≡ taken g → k < n
unfolding listed
listed_past f zero i k g e = absurd (free_not g e)
listed_past f (suc n) i zero g e = omega arith
listed_past f (suc n) i (suc k) g e = let h = listed_past f n (suc i) k g e in omega arith
