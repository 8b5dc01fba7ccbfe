-- Forgetting a record (S-17): when it is refused; the cells after it, of which the one that is named is free and every other is as it was; and
-- that it keeps a store in order (S-9), and as long as it was.
-- Assumes nothing.
use Prim.Native.Nat.{ℕ, ◌*◌, ◌≤◌, ◌<◌}
use mathlib.Core.Path.{◌≡◌, refl, ap, sym, ◌∙◌}
use mathlib.Core.Logic.{◌≢◌, ◌⊎◌, inl, inr, ⊎_elim}
use mathlib.Core.Bool.{Bool, true, false}
use mathlib.Core.List.{List}
use native.Mathlib.Omega.{arith}
use lib.ListN.{length, length-replicate}
use lib.Seq.{sets, length-sets}
use lib.Dec.{ltb, eqb}
use borrow.Author.Tests.{lt-ltb, le-ltb, ltb-true, eqb-true, eqb-false}
use Rattle.octets.specs.Octets.{pick}
use Rattle.octets.proofs.Lists.{bool}
use Rattle.walk.specs.declared.Settings.{Settings}
use Rattle.cells.specs.Segments.{Seg, both}
use Rattle.cells.specs.Rows.{Range, Cell, free, held, taken, broken, row_at, zero_row, cell_of}
use Rattle.cells.specs.Order.{is_sound, cell_at, count_in, in_order, gate}
use Rattle.cells.specs.Inner.{body_in, judged_of, told_taken}
use Rattle.cells.specs.declared.Judged.{Judged}
use Rattle.cells.proofs.Held.{both_true}
use Rattle.cells.proofs.Gate.{through_open, through_shut}
use Rattle.cells.proofs.Lowest.{same_or}
use Rattle.cells.proofs.Picking.{pick_tells}
use Rattle.cells.proofs.Rows.{row_written, row_other}
use Rattle.cells.proofs.HeldRow.{zero_free}
use Rattle.cells.proofs.StoreOrder.{cells_inside, order_tells, order_same}
use Rattle.taking.specs.Forgetting.{is_record, forgot_in, forgot, store_unless, store_forgotten}

-- ---- as the code tests it

record_told : (at : ℕ) (x : Cell) → told_taken (judged_of at x) ≡ is_record x
record_told at free = refl
record_told at (held t) = refl
record_told at (taken g) = refl
record_told at broken = refl

pub record_judged :
    (s : Settings) (Z : ℕ) (r : List ℕ) {t : Judged} {b : Bool} → t ≡ judged_of (body_in s r) (cell_of s Z r) → b ≡ told_taken t →
    b ≡ is_record (cell_of s Z r)
record_judged s Z r et eb = eb ∙ ap told_taken et ∙ record_told (body_in s r) (cell_of s Z r)

-- a test of the row is one of the cell
pub record_here :
    (s : Settings) (Z : ℕ) (st : List ℕ) (i : ℕ) {r : List ℕ} {b x : Bool} → r ≡ row_at Z st i → b ≡ is_record (cell_of s Z r) → b ≡ x →
    is_record (cell_at s Z st i) ≡ x
record_here s Z st i er eb e = ap (λ (y : List ℕ). is_record (cell_of s Z y)) (sym er) ∙ sym eb ∙ e

module _ (s : Settings) (Z : ℕ) (st : List ℕ) (n i : ℕ) where
  -- what is answered, and the store then
  abbrev Told : ℕ → List ℕ → Type 0
  Told k x = (k ≡ forgot_in s Z st n i) × (x ≡ store_unless (forgot_in s Z st n i) Z st i)

  told : (k : ℕ) → k ≡ forgot_in s Z st n i → Told k (store_unless k Z st i)
  told k e = (e, ap (λ (m : ℕ). store_unless m Z st i) e)

  pub forgot_past : n ≤ i → Told 31 st
  unfolding forgot_in
  forgot_past h = told 31 (sym (ap (λ (a : Bool). pick (both a (is_record (cell_at s Z st i))) 0 31) (le-ltb i n h)))

  module _ (h : i < n) {r : List ℕ} {b : Bool} (er : r ≡ row_at Z st i) (eb : b ≡ is_record (cell_of s Z r)) where
    answer : (x : Bool) → b ≡ x → pick x 0 31 ≡ forgot_in s Z st n i
    unfolding forgot_in
    answer x e =
        ap (λ (y : Bool). pick y 0 31) (sym (record_here s Z st i er eb e))
        ∙ ap (λ (a : Bool). pick (both a (is_record (cell_at s Z st i))) 0 31) (sym (lt-ltb i n h))

    pub forgot_other : b ≡ false → Told 31 st
    forgot_other e = told 31 (answer false e)

    pub forgot_here : b ≡ true → {z x : List ℕ} → z ≡ zero_row Z → x ≡ sets st (i * Z) z → Told 0 x
    forgot_here e ez ex = let w = told 0 (answer true e) in (w.0, ex ∙ ap (sets st (i * Z)) ez ∙ w.1)

-- ---- at any octets

module _ (s : Settings) (Z : ℕ) (st : List ℕ) (i : ℕ) where
  pub forgot_open : gate s Z st ≡ 0 → forgot_in s Z st (count_in Z st) i ≡ forgot s Z st i
  unfolding forgot
  forgot_open g = sym (through_open (gate s Z st) (forgot_in s Z st (count_in Z st) i) (λ k. k) g)

  pub forgot_shut : (gate s Z st ≡ 0 → ⊥) → forgot s Z st i ≡ gate s Z st
  unfolding forgot
  forgot_shut h = through_shut (gate s Z st) (forgot_in s Z st (count_in Z st) i) (λ k. k) h

  -- the record stands in a cell there is
  pub forgot_tells : forgot s Z st i ≡ 0 → (i < count_in Z st) × (is_record (cell_at s Z st i) ≡ true)
  unfolding forgot_in
  forgot_tells e = ⊎_elim came stopped (bool (eqb (gate s Z st) 0))
    where
      came : eqb (gate s Z st) 0 ≡ true → (i < count_in Z st) × (is_record (cell_at s Z st i) ≡ true)
      came g =
          let f = forgot_open (eqb-true (gate s Z st) 0 g) ∙ e in
          let p = pick_tells (both (ltb i (count_in Z st)) (is_record (cell_at s Z st i))) 0 31 0 (λ x. omega arith) f in
          let q = both_true (ltb i (count_in Z st)) (is_record (cell_at s Z st i)) p.0 in
          (ltb-true i (count_in Z st) q.0, q.1)

      stopped : eqb (gate s Z st) 0 ≡ false → (i < count_in Z st) × (is_record (cell_at s Z st i) ≡ true)
      stopped g = let h = eqb-false (gate s Z st) 0 g in absurd (h (sym (forgot_shut h) ∙ e))

  -- ---- the store after it

  left : forgot s Z st i ≡ 0 → store_forgotten s Z st i ≡ sets st (i * Z) (zero_row Z)
  left e = ap (λ (k : ℕ). store_unless k Z st i) e

  stays : eqb (forgot s Z st i) 0 ≡ false → store_forgotten s Z st i ≡ st
  stays e = ap (λ (b : Bool). pick b (sets st (i * Z) (zero_row Z)) st) e

  pub forget_long : length (store_forgotten s Z st i) ≡ length st
  forget_long = go (eqb (forgot s Z st i) 0)
    where
      go : (b : Bool) → length (pick b (sets st (i * Z) (zero_row Z)) st) ≡ length st
      go true = length-sets st (i * Z) (zero_row Z)
      go false = refl

  pub cell_forgotten : forgot s Z st i ≡ 0 → cell_at s Z (store_forgotten s Z st i) i ≡ free
  cell_forgotten e =
      ap (λ (x : List ℕ). cell_at s Z x i) (left e)
      ∙ ap (cell_of s Z) (row_written Z i (count_in Z st) st (zero_row Z) (length-replicate Z 0) (forgot_tells e).0 (cells_inside Z st))
      ∙ zero_free s Z

  pub cell_unforgotten : (j : ℕ) → j ≢ i → cell_at s Z (store_forgotten s Z st i) j ≡ cell_at s Z st j
  cell_unforgotten j d = go (eqb (forgot s Z st i) 0)
    where
      go : (b : Bool) → cell_at s Z (pick b (sets st (i * Z) (zero_row Z)) st) j ≡ cell_at s Z st j
      go true = ap (cell_of s Z) (row_other Z i j st (zero_row Z) (length-replicate Z 0) d)
      go false = refl

  -- S-9: a store in order is in order after it
  pub forget_keeps : in_order s Z st ≡ true → in_order s Z (store_forgotten s Z st i) ≡ true
  forget_keeps w = ⊎_elim gone (λ e. ap (in_order s Z) (stays e) ∙ w) (bool (eqb (forgot s Z st i) 0))
    where
      x : List ℕ
      x = store_forgotten s Z st i

      gone : eqb (forgot s Z st i) 0 ≡ true → in_order s Z x ≡ true
      gone e =
          let o = order_tells s Z st w in
          order_same s Z st x forget_long o (λ j l. sound j (o.sound j l) (same_or j i))
          (λ j k t u l m a b p q. o.apart j k t u l m (before j t a (same_or j i)) (before k u b (same_or k i)) p q)
          (λ j k t g l m a b. o.clear j k t g l m (before j t a (same_or j i)) (record_before k g b (same_or k i)))
        where
          here : (j : ℕ) → j ≡ i → cell_at s Z x j ≡ free
          here j d = ap (cell_at s Z x) d ∙ cell_forgotten (eqb-true (forgot s Z st i) 0 e)

          sound : (j : ℕ) → is_sound (cell_at s Z st j) ≡ true → (j ≡ i) ⊎ (j ≢ i) → is_sound (cell_at s Z x j) ≡ true
          sound j f (inl d) = ap is_sound (here j d)
          sound j f (inr d) = ap is_sound (cell_unforgotten j d) ∙ f

          before : (j : ℕ) (t : Seg) → cell_at s Z x j ≡ held t → (j ≡ i) ⊎ (j ≢ i) → cell_at s Z st j ≡ held t
          before j t a (inl d) = let f : free ≡ held t = sym (here j d) ∙ a in let z : ◌≡◌ {A = ℕ} 0 1 = cc in absurd (omega arith)
          before j t a (inr d) = sym (cell_unforgotten j d) ∙ a

          record_before : (j : ℕ) (g : Range) → cell_at s Z x j ≡ taken g → (j ≡ i) ⊎ (j ≢ i) → cell_at s Z st j ≡ taken g
          record_before j g a (inl d) = let f : free ≡ taken g = sym (here j d) ∙ a in let z : ◌≡◌ {A = ℕ} 0 1 = cc in absurd (omega arith)
          record_before j g a (inr d) = sym (cell_unforgotten j d) ∙ a
