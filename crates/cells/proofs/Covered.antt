-- Records and segments (S-16): `untaken` holds exactly if no segment lies in the range of a record, whatever cells they stand in.
-- Assumes nothing.
use Prim.Native.Nat.{ℕ, ◌<◌}
use mathlib.Core.Path.{◌≡◌, ap, sym, ◌∙◌}
use mathlib.Core.Logic.{◌⊎◌, inl, inr, ⊎_elim, ◌↔◌}
use mathlib.Core.Bool.{true, false, not, false≢true}
use mathlib.Core.Option.{none}
use mathlib.Core.List.{List}
use borrow.Author.Tests.{not-true}
use Rattle.octets.proofs.Lists.{bool}
use Rattle.walk.specs.declared.Settings.{Settings}
use Rattle.cells.specs.Segments.{Seg}
use Rattle.cells.specs.Rows.{Range, Cell, held, taken, segment_in, by_segment, range_in, by_range}
use Rattle.cells.specs.Order.{cell_at, covers, covers_in, untaken_to, untaken_in, untaken}
use Rattle.cells.proofs.CellSegments.{segment_or, range_or}
use Rattle.cells.proofs.Apart.{all_at}
use Rattle.cells.proofs.Lowest.{all_each}

-- a cell that covers a key and a counter is such a record
pub covers_taken : (k : List ℕ) (c : ℕ) (x : Cell) → covers_in k c x ≡ true → (g : Range) × (x ≡ taken g) × (covers k c g ≡ true)
covers_taken k c x e = go (range_or x)
  where
    go : ((g : Range) × (x ≡ taken g)) ⊎ (range_in x ≡ none) → (g : Range) × (x ≡ taken g) × (covers k c g ≡ true)
    go (inl w) = (w.0, w.1, sym (ap (covers_in k c) w.1) ∙ e)
    go (inr n) = absurd (false≢true (sym (ap (by_range false (covers k c)) n) ∙ e))

-- no record of the first n cells covers them
abbrev pub Missed : Settings → ℕ → List ℕ → ℕ → List ℕ → ℕ → Type 0
Missed s Z st n k c = (j : ℕ) (g : Range) → j < n → cell_at s Z st j ≡ taken g → covers k c g ≡ false

-- nor any segment there
abbrev pub Clear : Settings → ℕ → List ℕ → ℕ → Type 0
Clear s Z st n =
    (i j : ℕ) (t : Seg) (g : Range) → i < n → j < n → cell_at s Z st i ≡ held t → cell_at s Z st j ≡ taken g → covers t.key t.counter g ≡ false

module _ (s : Settings) (Z : ℕ) (st : List ℕ) (n : ℕ) where
  pub untaken_missed : (k : List ℕ) (c : ℕ) → untaken_to s Z st n k c ≡ true → Missed s Z st n k c
  unfolding untaken_to
  untaken_missed k c e j g h a =
      sym (ap (covers_in k c) a) ∙ not-true (covers_in k c (cell_at s Z st j)) (all_at (λ m. not (covers_in k c (cell_at s Z st m))) n j e h)

  pub missed_untaken : (k : List ℕ) (c : ℕ) → Missed s Z st n k c → untaken_to s Z st n k c ≡ true
  unfolding untaken_to
  missed_untaken k c f = all_each (λ m. not (covers_in k c (cell_at s Z st m))) n one
    where
      one : (j : ℕ) → j < n → not (covers_in k c (cell_at s Z st j)) ≡ true
      one j h = ⊎_elim covered (λ e. ap not e) (bool (covers_in k c (cell_at s Z st j)))
        where
          covered : covers_in k c (cell_at s Z st j) ≡ true → not (covers_in k c (cell_at s Z st j)) ≡ true
          covered e =
              let w = covers_taken k c (cell_at s Z st j) e in
              absurd (false≢true (sym (f j w.0 h w.1) ∙ w.2))

  in_at : (x : Cell) (t : Seg) → x ≡ held t → untaken_in s Z st n x ≡ untaken_to s Z st n t.key t.counter
  in_at x t e = ap (untaken_in s Z st n) e

  pub untaken_clear : untaken s Z st n ≡ true → Clear s Z st n
  unfolding untaken
  untaken_clear e i j t g h l a b =
      untaken_missed t.key t.counter (sym (in_at (cell_at s Z st i) t a) ∙ all_at (λ m. untaken_in s Z st n (cell_at s Z st m)) n i e h) j g l b

  pub clear_untaken : Clear s Z st n → untaken s Z st n ≡ true
  unfolding untaken
  clear_untaken f = all_each (λ m. untaken_in s Z st n (cell_at s Z st m)) n (λ i h. one i h (segment_or (cell_at s Z st i)))
    where
      one : (i : ℕ) → i < n → ((t : Seg) × (cell_at s Z st i ≡ held t)) ⊎ (segment_in (cell_at s Z st i) ≡ none) → untaken_in s Z st n (cell_at s Z st i) ≡ true
      one i h (inl w) =
          in_at (cell_at s Z st i) w.0 w.1
          ∙ missed_untaken w.0.key w.0.counter (λ j g l b. f i j w.0 g h l w.1 b)
      one i h (inr e) = ap (by_segment true (λ t. untaken_to s Z st n t.key t.counter)) e

  -- exactly
  pub untaken_exactly : untaken s Z st n ≡ true ↔ Clear s Z st n
  untaken_exactly = (untaken_clear, clear_untaken)
