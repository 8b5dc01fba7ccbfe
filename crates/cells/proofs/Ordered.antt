-- A store in order, from the tests that the code makes one after another.
-- Assumes nothing.
use Prim.Native.Nat.{ℕ, ◌/◌, ◌%◌, ◌≤◌}
use mathlib.Core.Path.{◌≡◌, refl, ap, ap₂, sym, ◌∙◌}
use mathlib.Core.Logic.{⊎_elim}
use mathlib.Core.Bool.{Bool, true, false}
use mathlib.Core.List.{List}
use native.Mathlib.Omega.{arith}
use lib.ListN.{length}
use lib.Dec.{leb, eqb}
use borrow.Author.Tests.{leb-true}
use Rattle.octets.specs.Octets.{pick}
use Rattle.octets.proofs.Lists.{bool}
use Rattle.walk.specs.declared.Settings.{Settings}
use Rattle.cells.specs.Segments.{both}
use Rattle.cells.specs.Order.{cells_most, length_fits, count_in, sound, distinct, untaken, in_order}
use Rattle.cells.proofs.Held.{both_true}

-- where the length fits there are cells, and not too many
fits_some : (Z k : ℕ) → length_fits Z k ≡ true → 1 ≤ k / Z
unfolding length_fits
fits_some Z k e =
    let a = both_true (eqb (k % Z) 0) (both (leb 1 (k / Z)) (leb (k / Z) cells_most)) e in
    leb-true 1 (k / Z) (both_true (leb 1 (k / Z)) (leb (k / Z) cells_most) a.1).0

fits_most : (Z k : ℕ) → length_fits Z k ≡ true → k / Z ≤ cells_most
unfolding length_fits
fits_most Z k e =
    let a = both_true (eqb (k % Z) 0) (both (leb 1 (k / Z)) (leb (k / Z) cells_most)) e in
    leb-true (k / Z) cells_most (both_true (leb 1 (k / Z)) (leb (k / Z) cells_most) a.1).1

-- the three tests on the cells
abbrev cells_right : Settings → ℕ → List ℕ → ℕ → Bool
cells_right s Z st n = both (sound s Z st n) (both (distinct s Z st n) (untaken s Z st n))

-- the order from the length and the cells
order_told : (s : Settings) (Z : ℕ) (st : List ℕ) {a b : Bool} → length_fits Z (length st) ≡ a → cells_right s Z st (count_in Z st) ≡ b → in_order s Z st ≡ both a b
unfolding in_order
order_told s Z st e f = rw (e, f) refl

module _ (s : Settings) (Z : ℕ) (st : List ℕ) {n : ℕ} (en : n ≡ pick (length_fits Z (length st)) (length st / Z) 0) where
  fitting : (n ≡ 0 → ⊥) → (length_fits Z (length st) ≡ true) × (n ≡ count_in Z st)
  fitting h =
      ⊎_elim
      (λ e. (e, en ∙ ap (λ (b : Bool). pick b (length st / Z) 0) e))
      (λ e. absurd (h (en ∙ ap (λ (b : Bool). pick b (length st / Z) 0) e)))
      (bool (length_fits Z (length st)))

  -- no cells: the length does not fit
  pub order_length : n ≡ 0 → 0 ≡ pick (in_order s Z st) (count_in Z st) 0
  order_length z =
      ⊎_elim
      (λ e. let k = fits_some Z (length st) e in let m : n ≡ length st / Z = en ∙ ap (λ (b : Bool). pick b (length st / Z) 0) e in absurd (omega arith))
      (λ e. sym (ap (λ (b : Bool). pick b (count_in Z st) 0) (order_told s Z st e refl)))
      (bool (length_fits Z (length st)))

  pub cells_most_lem : (n ≡ 0 → ⊥) → n ≤ cells_most
  cells_most_lem h = rw (fitting h).1 (fits_most Z (length st) (fitting h).0)

  -- the cells tell the rest
  module _ (h : n ≡ 0 → ⊥) {a b d : Bool} (ea : a ≡ sound s Z st n) (eb : b ≡ distinct s Z st n) (ed : d ≡ untaken s Z st n) where
    cells_told : {c : Bool} → both a (both b d) ≡ c → in_order s Z st ≡ c
    cells_told f =
        order_told s Z st (fitting h).0
        (ap (cells_right s Z st) (sym (fitting h).1) ∙ sym (ap₂ both ea (ap₂ both eb ed)) ∙ f)

    pub order_fault : both a (both b d) ≡ false → 0 ≡ pick (in_order s Z st) (count_in Z st) 0
    order_fault f = sym (ap (λ (x : Bool). pick x (count_in Z st) 0) (cells_told f))

    pub order_held : both a (both b d) ≡ true → n ≡ pick (in_order s Z st) (count_in Z st) 0
    order_held f = (fitting h).1 ∙ sym (ap (λ (x : Bool). pick x (count_in Z st) 0) (cells_told f))
