-- A store in order (S-4), cell by cell: its length fits, each cell is sound, no two have equal key and counter, no segment
-- lies in the range of a record.
-- Assumes nothing.
use Prim.Native.Nat.{ℕ, ◌*◌, ◌≤◌, ◌<◌}
use mathlib.Core.Path.{◌≡◌, refl, ap, ◌∙◌}
use mathlib.Core.Bool.{true}
use mathlib.Core.List.{List}
use native.Mathlib.Nat.{div-mul-le_self}
use lib.ListN.{length}
use Rattle.walk.specs.declared.Settings.{Settings}
use Rattle.cells.specs.Segments.{both}
use Rattle.cells.specs.Order.{length_fits, count_in, is_sound, cell_at, sound, distinct, untaken, in_order}
use Rattle.cells.proofs.Held.{both_true}
use Rattle.cells.proofs.Apart.{all_at}
use Rattle.cells.proofs.Lowest.{all_each}
use Rattle.cells.proofs.Distinct.{Apart, distinct_apart, apart_distinct}
use Rattle.cells.proofs.Covered.{Clear, untaken_clear, clear_untaken}

-- the cells there are lie inside the store
pub cells_inside : (Z : ℕ) (st : List ℕ) → count_in Z st * Z ≤ length st
cells_inside Z st = div-mul-le_self (length st) Z

sound_all : (s : Settings) (Z : ℕ) (st : List ℕ) (n : ℕ) → ((i : ℕ) → i < n → is_sound (cell_at s Z st i) ≡ true) → sound s Z st n ≡ true
unfolding sound
sound_all s Z st n h = all_each (λ i. is_sound (cell_at s Z st i)) n h

pub record Ordered (s : Settings) (Z : ℕ) (st : List ℕ) : Type 0 where
  pub fits : length_fits Z (length st) ≡ true
  pub sound : (i : ℕ) → i < count_in Z st → is_sound (cell_at s Z st i) ≡ true
  pub apart : Apart s Z st (count_in Z st)
  pub clear : Clear s Z st (count_in Z st)

module _ (s : Settings) (Z : ℕ) (st : List ℕ) where
  pub order_tells : in_order s Z st ≡ true → Ordered s Z st
  unfolding in_order sound
  order_tells e =
      let n = count_in Z st in
      let a = both_true (length_fits Z (length st)) (both (sound s Z st n) (both (distinct s Z st n) (untaken s Z st n))) e in
      let b = both_true (sound s Z st n) (both (distinct s Z st n) (untaken s Z st n)) a.1 in
      let c = both_true (distinct s Z st n) (untaken s Z st n) b.1 in
      record {
        fits = a.0;
        sound = λ i h. all_at (λ j. is_sound (cell_at s Z st j)) (count_in Z st) i b.0 h;
        apart = distinct_apart s Z st (count_in Z st) c.0;
        clear = untaken_clear s Z st (count_in Z st) c.1;
      }

  -- and the other way
  pub order_told : Ordered s Z st → in_order s Z st ≡ true
  unfolding in_order
  order_told o =
      let n = count_in Z st in
      rw (o.fits, sound_all s Z st n o.sound, apart_distinct s Z st n o.apart, clear_untaken s Z st n o.clear) refl

-- another store as long, whose cells are sound, apart and clear, is in order too
pub order_same :
    (s : Settings) (Z : ℕ) (st x : List ℕ) → length x ≡ length st → Ordered s Z st →
    ((i : ℕ) → i < count_in Z st → is_sound (cell_at s Z x i) ≡ true) → Apart s Z x (count_in Z st) → Clear s Z x (count_in Z st) → in_order s Z x ≡ true
order_same s Z st x e o f g h =
    order_told s Z x (record { fits = ap (length_fits Z) e ∙ o.fits; sound = λ i l. f i (rw e at l); apart = rw e g; clear = rw e h })
