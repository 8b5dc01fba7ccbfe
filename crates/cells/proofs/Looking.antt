-- What `look` finds among the cells, by their numbers: none exactly if no cell has the key and counter, and else what a cell holds.
-- Assumes nothing.
use Prim.Native.Nat.{ℕ, zero, suc}
use mathlib.Core.Path.{◌≡◌, refl, ap, sym, ◌∙◌}
use mathlib.Core.Logic.{◌⊎◌, inl, inr}
use mathlib.Core.Bool.{Bool, true, false}
use mathlib.Core.List.{List}
use mathlib.Core.Option.{Option, none, some, none-ne-some, some-ne-none}
use native.Mathlib.Omega.{arith}
use Rattle.octets.specs.Octets.{pick}
use Rattle.cells.specs.Segments.{Seg, carries}
use Rattle.cells.specs.Rows.{Cell, held, segment_in, by_segment}
use Rattle.cells.specs.Order.{carries_in}
use Rattle.cells.proofs.CellSegments.{segment_or}
use Rattle.cells.specs.Messages.{listed, or_else, held_as, look}
use Rattle.cells.proofs.Listed.{Among, among_first, among_more, among_cases}

-- ---- one cell

module _ (k : List ℕ) (c : ℕ) where
  pick_some : (b : Bool) (t u : Seg) → pick b (some t) none ≡ some u → (b ≡ true) × (t ≡ u)
  pick_some true t u e = let d : t ≡ u = cc in (refl, d)
  pick_some false t u e = let z : ◌≡◌ {A = ℕ} 0 1 = cc in absurd (omega arith)

  -- what a cell gives is what it holds
  pub held_some : (x : Cell) (t : Seg) → held_as k c x ≡ some t → (x ≡ held t) × (carries k c t ≡ true)
  held_some x t e = go (segment_or x)
    where
      go : ((u : Seg) × (x ≡ held u)) ⊎ (segment_in x ≡ none) → (x ≡ held t) × (carries k c t ≡ true)
      go (inl w) =
          let a = pick_some (carries k c w.0) w.0 t (sym (ap (held_as k c) w.1) ∙ e) in
          (w.1 ∙ ap held a.1, ap (carries k c) (sym a.1) ∙ a.0)
      go (inr n) = absurd (none-ne-some t (sym (ap (by_segment none (λ u. pick (carries k c u) (some u) none)) n) ∙ e))

  pub held_yes : (x : Cell) (t : Seg) → x ≡ held t → carries k c t ≡ true → held_as k c x ≡ some t
  held_yes x t e d = ap (held_as k c) e ∙ ap (λ (b : Bool). pick b (some t) none) d

  pub held_none : (x : Cell) → carries_in k c x ≡ false → held_as k c x ≡ none
  held_none x e = go (segment_in x) e
    where
      go : (o : Option Seg) → by_segment false (carries k c) o ≡ false → by_segment none (λ t. pick (carries k c t) (some t) none) o ≡ none
      go none d = refl
      go (some t) d = ap (λ (b : Bool). pick b (some t) none) d

  none_held : (x : Cell) → held_as k c x ≡ none → carries_in k c x ≡ false
  none_held x e = go (segment_in x) e
    where
      by : (t : Seg) (b : Bool) → pick b (some t) none ≡ none → b ≡ false
      by t true d = absurd (some-ne-none t d)
      by t false d = refl

      go : (o : Option Seg) → by_segment none (λ t. pick (carries k c t) (some t) none) o ≡ none → by_segment false (carries k c) o ≡ false
      go none d = refl
      go (some t) d = by t (carries k c t) d

-- ---- one before another

module _ {A : Type 0} where
  pub or_none : (a b : Option A) → or_else a b ≡ none → (a ≡ none) × (b ≡ none)
  or_none none b e = (refl, e)
  or_none (some x) b e = let z : ◌≡◌ {A = ℕ} 0 1 = cc in absurd (omega arith)

  pub or_some : (a b : Option A) (x : A) → or_else a b ≡ some x → (a ≡ some x) ⊎ (b ≡ some x)
  or_some none b x e = inr e
  or_some (some y) b x e = inl e

-- ---- the cells

module _ (f : ℕ → Cell) (k : List ℕ) (c : ℕ) where
  -- nothing is found: no cell has the key and counter
  pub look_none : (n i : ℕ) → look (listed f n i) k c ≡ none → (j : ℕ) → Among n i j → carries_in k c (f j) ≡ false
  unfolding look listed
  look_none zero i e j a = absurd (omega (arith, a.low, a.top))
  look_none (suc n) i e j a = go (look_none n (suc i)) (among_cases a)
    where
      o : (held_as k c (f i) ≡ none) × (look (listed f n (suc i)) k c ≡ none)
      o = or_none (held_as k c (f i)) (look (listed f n (suc i)) k c) e

      go : (look (listed f n (suc i)) k c ≡ none → (m : ℕ) → Among n (suc i) m → carries_in k c (f m) ≡ false) → (j ≡ i) ⊎ Among n (suc i) j → carries_in k c (f j) ≡ false
      go ih (inl d) = ap (λ (m : ℕ). carries_in k c (f m)) d ∙ none_held k c (f i) o.0
      go ih (inr b) = ih o.1 j b

  -- and the other way
  pub look_empty : (n i : ℕ) → ((j : ℕ) → Among n i j → carries_in k c (f j) ≡ false) → look (listed f n i) k c ≡ none
  unfolding look listed
  look_empty zero i h = refl
  look_empty (suc n) i h = rw (held_none k c (f i) (h i (among_first n i))) (look_empty n (suc i) (λ j a. h j (among_more a)))

  -- what is found is held in a cell, and has the key and counter
  pub look_some : (n i : ℕ) (t : Seg) → look (listed f n i) k c ≡ some t → (j : ℕ) × Among n i j × (f j ≡ held t) × (carries k c t ≡ true)
  unfolding look listed
  look_some zero i t e = let z : ◌≡◌ {A = ℕ} 0 1 = cc in absurd (omega arith)
  look_some (suc n) i t e = go (look_some n (suc i) t) (or_some (held_as k c (f i)) (look (listed f n (suc i)) k c) t e)
    where
      go : (look (listed f n (suc i)) k c ≡ some t → (j : ℕ) × Among n (suc i) j × (f j ≡ held t) × (carries k c t ≡ true)) →
          (held_as k c (f i) ≡ some t) ⊎ (look (listed f n (suc i)) k c ≡ some t) → (j : ℕ) × Among (suc n) i j × (f j ≡ held t) × (carries k c t ≡ true)
      go ih (inl d) = let a = held_some k c (f i) t d in (i, among_first n i, a.0, a.1)
      go ih (inr d) = let a = ih d in (a.0, among_more a.1, a.2, a.3)
