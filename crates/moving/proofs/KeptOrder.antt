-- Two stores with the same cells, of whatever sizes: they are listed alike, and if one is in order so is the other.
-- Assumes nothing.
use Prim.Native.Nat.{ℕ, zero, suc, ◌≤◌, ◌<◌}
use mathlib.Core.Path.{◌≡◌, refl, ap, ap₂, sym, ◌∙◌}
use mathlib.Core.Bool.{Bool, true, not}
use mathlib.Core.Option.{Option, none, some}
use mathlib.Core.List.{List}
use native.Mathlib.Omega.{arith}
use lib.ListN.{length}
use Rattle.walk.specs.declared.Settings.{Settings}
use Rattle.cells.specs.Segments.{Seg, both}
use Rattle.cells.specs.Rows.{Cell, by_segment, segment_in}
use Rattle.cells.specs.Order.{is_sound, carries_in, covers_in, cell_at, all_to, new_to, new_at, distinct, sound, untaken_to, untaken_in, untaken, in_order, count_in, length_fits}
use Rattle.cells.specs.Messages.{cells_of}
use Rattle.cells.proofs.Listed.{listed_same}

all_alike : (f g : ℕ → Bool) (n : ℕ) → ((i : ℕ) → i < n → f i ≡ g i) → all_to f n ≡ all_to g n
unfolding all_to
all_alike f g zero h = refl
all_alike f g (suc n) h = ap₂ both (all_alike f g n (λ i l. h i (omega arith))) (h n (omega arith))

segment_alike : (f g : Seg → Bool) (o : Option Seg) → ((t : Seg) → f t ≡ g t) → by_segment true f o ≡ by_segment true g o
segment_alike f g none h = refl
segment_alike f g (some t) h = h t

module _ (s : Settings) (Y Z : ℕ) (st x : List ℕ) (n : ℕ) (same : (i : ℕ) → i < n → cell_at s Z x i ≡ cell_at s Y st i) where
  pub cells_same : cells_of s Z x n ≡ cells_of s Y st n
  cells_same = listed_same (cell_at s Z x) (cell_at s Y st) n 0 (λ j a. same j (omega (arith, a.top)))

  sound_same : sound s Z x n ≡ sound s Y st n
  unfolding sound
  sound_same = all_alike _ _ n (λ i h. ap is_sound (same i h))

  new_same : (i : ℕ) (k : List ℕ) (c : ℕ) → i ≤ n → new_to s Z x i k c ≡ new_to s Y st i k c
  unfolding new_to
  new_same i k c h = all_alike _ _ i (λ j l. ap (λ (y : Cell). not (carries_in k c y)) (same j (omega arith)))

  at_same : (i : ℕ) → i < n → new_at s Z x i (cell_at s Z x i) ≡ new_at s Y st i (cell_at s Y st i)
  unfolding new_at
  at_same i h =
      ap (λ (y : Cell). by_segment true (λ t. new_to s Z x i t.key t.counter) (segment_in y)) (same i h)
      ∙ segment_alike _ _ (segment_in (cell_at s Y st i)) (λ t. new_same i t.key t.counter (omega arith))

  distinct_same : distinct s Z x n ≡ distinct s Y st n
  unfolding distinct
  distinct_same = all_alike _ _ n at_same

  uncovered_same : (k : List ℕ) (c : ℕ) → untaken_to s Z x n k c ≡ untaken_to s Y st n k c
  unfolding untaken_to
  uncovered_same k c = all_alike _ _ n (λ j l. ap (λ (y : Cell). not (covers_in k c y)) (same j l))

  in_same : (i : ℕ) → i < n → untaken_in s Z x n (cell_at s Z x i) ≡ untaken_in s Y st n (cell_at s Y st i)
  in_same i h =
      ap (untaken_in s Z x n) (same i h)
      ∙ segment_alike _ _ (segment_in (cell_at s Y st i)) (λ t. uncovered_same t.key t.counter)

  untaken_same : untaken s Z x n ≡ untaken s Y st n
  unfolding untaken
  untaken_same = all_alike _ _ n in_same

  pub order_kept :
      count_in Y st ≡ n → count_in Z x ≡ n → length_fits Z (length x) ≡ length_fits Y (length st) → in_order s Z x ≡ in_order s Y st
  unfolding in_order
  order_kept ey ez el =
      ap₂ both el
      (ap (λ (k : ℕ). both (sound s Z x k) (both (distinct s Z x k) (untaken s Z x k))) ez
      ∙ ap₂ both sound_same (ap₂ both distinct_same untaken_same)
      ∙ ap (λ (k : ℕ). both (sound s Y st k) (both (distinct s Y st k) (untaken s Y st k))) (sym ey))
