-- Cells apart (S-4): `distinct` holds exactly if no two different cells hold segments with equal key and counter.
-- Assumes nothing.
use Prim.Native.Nat.{ℕ, ◌<◌}
use mathlib.Core.Path.{◌≡◌, refl, ap, sym, ◌∙◌}
use mathlib.Core.Logic.{◌⊎◌, inl, inr, ⊎_elim, ◌↔◌}
use mathlib.Core.Bool.{Bool, true, false, not, false≢true}
use mathlib.Core.Option.{none}
use mathlib.Core.List.{List}
use native.Mathlib.Omega.{arith}
use lib.Dec.{eqb}
use borrow.Author.Tests.{not-true, eqb-true, eq-eqb}
use Rattle.octets.specs.Octets.{alike}
use Rattle.octets.proofs.Lists.{bool, below_or, alike_true, alike_self}
use Rattle.walk.specs.declared.Settings.{Settings}
use Rattle.cells.specs.Segments.{Seg, carries}
use Rattle.cells.specs.Rows.{Cell, held, segment_in, by_segment}
use Rattle.cells.specs.Order.{carries_in, cell_at, new_to, new_at, distinct}
use Rattle.cells.proofs.CellSegments.{segment_or}
use Rattle.cells.proofs.Held.{both_true}
use Rattle.cells.proofs.Apart.{all_at}
use Rattle.cells.proofs.Lowest.{all_each}

-- ---- a key and a counter

pub carries_true : (k : List ℕ) (c : ℕ) (t : Seg) → carries k c t ≡ true → (k ≡ t.key) × (c ≡ t.counter)
unfolding carries
carries_true k c t e =
    let a = both_true (eqb c t.counter) (alike k t.key) e in
    (alike_true k t.key a.1, eqb-true c t.counter a.0)

pub carries_yes : (k : List ℕ) (c : ℕ) (t : Seg) → k ≡ t.key → c ≡ t.counter → carries k c t ≡ true
unfolding carries
carries_yes k c t e d = rw (eq-eqb c t.counter d, e) (alike_self t.key)

-- a cell that carries a key and a counter holds such a segment
pub carries_held : (k : List ℕ) (c : ℕ) (x : Cell) → carries_in k c x ≡ true → (t : Seg) × (x ≡ held t) × (k ≡ t.key) × (c ≡ t.counter)
carries_held k c x e = go (segment_or x)
  where
    go : ((t : Seg) × (x ≡ held t)) ⊎ (segment_in x ≡ none) → (t : Seg) × (x ≡ held t) × (k ≡ t.key) × (c ≡ t.counter)
    go (inl w) = let a = carries_true k c w.0 (sym (ap (carries_in k c) w.1) ∙ e) in (w.0, w.1, a.0, a.1)
    go (inr n) = absurd (false≢true (sym (ap (by_segment false (carries k c)) n) ∙ e))

-- ---- cells apart

-- no two different cells of the first n hold segments with equal key and counter
abbrev pub Apart : Settings → ℕ → List ℕ → ℕ → Type 0
Apart s Z st n =
    (i j : ℕ) (t u : Seg) → i < n → j < n → cell_at s Z st i ≡ held t → cell_at s Z st j ≡ held u → t.key ≡ u.key → t.counter ≡ u.counter → i ≡ j

module _ (s : Settings) (Z : ℕ) (st : List ℕ) where
  new_at_lem : (i : ℕ) (x : Cell) (u : Seg) → x ≡ held u → new_at s Z st i x ≡ new_to s Z st i u.key u.counter
  unfolding new_at
  new_at_lem i x u e = ap (new_at s Z st i) e

  -- a lower cell has another key or counter
  lower : (n i j : ℕ) (t u : Seg) → distinct s Z st n ≡ true → i < j → j < n → cell_at s Z st i ≡ held t → cell_at s Z st j ≡ held u → carries u.key u.counter t ≡ false
  unfolding distinct new_to
  lower n i j t u d h l a b =
      let e : new_to s Z st j u.key u.counter ≡ true = sym (new_at_lem j (cell_at s Z st j) u b) ∙ all_at (λ m. new_at s Z st m (cell_at s Z st m)) n j d l in
      let f : not (carries_in u.key u.counter (cell_at s Z st i)) ≡ true = all_at (λ m. not (carries_in u.key u.counter (cell_at s Z st m))) j i e h in
      sym (ap (carries_in u.key u.counter) a) ∙ not-true (carries_in u.key u.counter (cell_at s Z st i)) f

  pub distinct_apart : (n : ℕ) → distinct s Z st n ≡ true → Apart s Z st n
  distinct_apart n d i j t u h l a b p q = ⊎_elim below (λ m. ⊎_elim above (λ k. omega arith) (below_or j i)) (below_or i j)
    where
      clash : {x y : Bool} → x ≡ y → x ≡ true → y ≡ false → i ≡ j
      clash e f g = let z : ◌≡◌ {A = ℕ} 0 1 = cc in absurd (omega arith)

      below : i < j → i ≡ j
      below m = clash refl (carries_yes u.key u.counter t (sym p) (sym q)) (lower n i j t u d m l a b)

      above : j < i → i ≡ j
      above m = clash refl (carries_yes t.key t.counter u p q) (lower n j i u t d m h b a)

  pub apart_distinct : (n : ℕ) → Apart s Z st n → distinct s Z st n ≡ true
  unfolding distinct new_at new_to
  apart_distinct n h = all_each (λ i. new_at s Z st i (cell_at s Z st i)) n (λ i l. one i l (segment_or (cell_at s Z st i)))
    where
      other : (i j : ℕ) (u : Seg) → i < n → j < i → cell_at s Z st i ≡ held u → not (carries_in u.key u.counter (cell_at s Z st j)) ≡ true
      other i j u l m e = ⊎_elim same (λ b. ap not b) (bool (carries_in u.key u.counter (cell_at s Z st j)))
        where
          same : carries_in u.key u.counter (cell_at s Z st j) ≡ true → not (carries_in u.key u.counter (cell_at s Z st j)) ≡ true
          same b =
              let w = carries_held u.key u.counter (cell_at s Z st j) b in
              let k : i ≡ j = h i j u w.0 l (omega arith) e w.1 w.2 w.3 in
              absurd (omega arith)

      one : (i : ℕ) → i < n → ((u : Seg) × (cell_at s Z st i ≡ held u)) ⊎ (segment_in (cell_at s Z st i) ≡ none) → new_at s Z st i (cell_at s Z st i) ≡ true
      one i l (inl w) =
          let u : Seg = w.0 in
          new_at_lem i (cell_at s Z st i) u w.1
          ∙ all_each (λ j. not (carries_in u.key u.counter (cell_at s Z st j))) i (λ j m. other i j u l m w.1)
      one i l (inr e) = ap (by_segment true (λ t. new_to s Z st i t.key t.counter)) e

  -- exactly
  pub distinct_exactly : (n : ℕ) → distinct s Z st n ≡ true ↔ Apart s Z st n
  distinct_exactly n = (distinct_apart n, apart_distinct n)
