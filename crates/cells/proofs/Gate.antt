-- The check of settings and order: 15, then 16; what a store in order has; and what is known where the check passes.
-- Assumes nothing.
use Prim.Native.Nat.{ℕ, ◌%◌, ◌≤◌}
use mathlib.Core.Path.{◌≡◌, refl, ap, sym, ◌∙◌}
use mathlib.Core.Logic.{◌⊎◌, inl, inr, ⊎_elim}
use mathlib.Core.Bool.{Bool, true, false}
use mathlib.Core.List.{List}
use native.Mathlib.Omega.{arith}
use lib.ListN.{length}
use lib.Dec.{leb, eqb}
use borrow.Author.Tests.{leb-true, eqb-true, eq-eqb, ne_eqb}
use Rattle.octets.specs.Octets.{pick}
use Rattle.octets.proofs.Lists.{bool}
use Rattle.walk.specs.declared.Settings.{Settings}
use Rattle.walk.specs.declared.Refusal.{Refusal}
use Rattle.walk.specs.Walk.{Reading, goes, refused, going, begun, check, refusal}
use Rattle.cells.specs.Segments.{both}
use Rattle.cells.specs.Order.{cells_most, length_fits, count_in, sound as all_sound, distinct, untaken, in_order, gate, through}
use Rattle.cells.proofs.Held.{both_true}
use Rattle.cells.specs.Opening.{Opened, opened_of}

module _ (s : Settings) (Z : ℕ) (st : List ℕ) where
  -- what a store in order has
  pub record Ordered : Type 0 where
    pub least : 1 ≤ count_in Z st
    pub most : count_in Z st ≤ cells_most
    pub sound : all_sound s Z st (count_in Z st) ≡ true
    pub apart : distinct s Z st (count_in Z st) ≡ true
    pub clear : untaken s Z st (count_in Z st) ≡ true

  pub order_has : in_order s Z st ≡ true → Ordered
  unfolding in_order length_fits
  order_has e =
      let n = count_in Z st in
      let a = both_true (length_fits Z (length st)) (both (all_sound s Z st n) (both (distinct s Z st n) (untaken s Z st n))) e in
      let b = both_true (eqb (length st % Z) 0) (both (leb 1 (count_in Z st)) (leb (count_in Z st) cells_most)) a.0 in
      let d = both_true (leb 1 (count_in Z st)) (leb (count_in Z st) cells_most) b.1 in
      let c = both_true (all_sound s Z st n) (both (distinct s Z st n) (untaken s Z st n)) a.1 in
      let f = both_true (distinct s Z st n) (untaken s Z st n) c.1 in
      record {
        least = leb-true 1 (count_in Z st) d.0;
        most = leb-true (count_in Z st) cells_most d.1;
        sound = c.0;
        apart = f.0;
        clear = f.1;
      }

  -- ---- what is tested first

  pub gate_by : {b : Bool} → eqb (begun s).refused 0 ≡ true → in_order s Z st ≡ b → gate s Z st ≡ pick b 0 16
  unfolding gate
  gate_by e f = rw (e, f) refl

  pub gate_15 : eqb (begun s).refused 0 ≡ false → gate s Z st ≡ 15
  unfolding gate
  gate_15 e = rw e refl

  shut_as : {k : ℕ} → gate s Z st ≡ k → (k ≡ 0 → ⊥) → record { refusal = refusal k; cells = 0 } ≡ opened_of s Z st
  unfolding opened_of
  shut_as {k} e h = rw (e, ne_eqb k 0 h) refl

  open_as : gate s Z st ≡ 0 → record { refusal = refusal 0; cells = count_in Z st } ≡ opened_of s Z st
  unfolding opened_of
  open_as e = rw e refl

  module _ {q : Refusal} (eq : q ≡ refusal (begun s).refused) where
    number_is : q.number ≡ (begun s).refused
    number_is = ap (λ (x : Refusal). x.number) eq

    -- T or the profile outside its range: each test keeps the number or gives 15
    told_15 : (b : Bool) (v : Reading) → (v.refused ≡ 0) ⊎ (v.refused ≡ 15) → ((check b 15 v).refused ≡ 0) ⊎ ((check b 15 v).refused ≡ 15)
    unfolding check
    told_15 b v k = by (going v) b
      where
        by : (g c : Bool) → ((pick g (pick c v (refused v.at 15)) v).refused ≡ 0) ⊎ ((pick g (pick c v (refused v.at 15)) v).refused ≡ 15)
        by true true = k
        by true false = inr refl
        by false c = k

    refusal_15 : (q.number ≡ 0 → ⊥) → (begun s).refused ≡ 15
    unfolding begun
    refusal_15 h = ⊎_elim (λ e. absurd (h (number_is ∙ e))) (λ e. e) (told_15 _ _ (told_15 _ _ (told_15 _ (goes 6) (inl refl))))

    pub open_t : (q.number ≡ 0 → ⊥) → record { refusal = q; cells = 0 } ≡ opened_of s Z st
    open_t h =
        ap (λ (x : Refusal). record { refusal = x; cells = 0 }) (eq ∙ ap refusal (refusal_15 h))
        ∙ shut_as (gate_15 (ne_eqb (begun s).refused 0 (λ x. h (number_is ∙ x)))) (λ x. omega arith)

    module _ (h : q.number ≡ 0) {n : ℕ} (en : n ≡ pick (in_order s Z st) (count_in Z st) 0) where
      fine : eqb (begun s).refused 0 ≡ true
      fine = eq-eqb (begun s).refused 0 (sym number_is ∙ h)

      pub open_order : n ≡ 0 → record { refusal = refusal 16; cells = 0 } ≡ opened_of s Z st
      open_order z = ⊎_elim in_it out_of_it (bool (in_order s Z st))
        where
          in_it : in_order s Z st ≡ true → record { refusal = refusal 16; cells = 0 } ≡ opened_of s Z st
          in_it e = absurd (omega (arith, (order_has e).least, en ∙ ap (λ (b : Bool). pick b (count_in Z st) 0) e))

          out_of_it : in_order s Z st ≡ false → record { refusal = refusal 16; cells = 0 } ≡ opened_of s Z st
          out_of_it e = let g : gate s Z st ≡ 16 = gate_by fine e in shut_as g (λ x. omega arith)

      pub open_held : (n ≡ 0 → ⊥) → record { refusal = refusal 0; cells = n } ≡ opened_of s Z st
      open_held k = ⊎_elim in_it out_of_it (bool (in_order s Z st))
        where
          in_it : in_order s Z st ≡ true → record { refusal = refusal 0; cells = n } ≡ opened_of s Z st
          in_it e =
              let g : gate s Z st ≡ 0 = gate_by fine e in
              let m : n ≡ count_in Z st = en ∙ ap (λ (b : Bool). pick b (count_in Z st) 0) e in
              ap (λ (y : ℕ). record { refusal = refusal 0; cells = y }) m ∙ open_as g

          out_of_it : in_order s Z st ≡ false → record { refusal = refusal 0; cells = n } ≡ opened_of s Z st
          out_of_it e = absurd (k (en ∙ ap (λ (b : Bool). pick b (count_in Z st) 0) e))

-- ---- a call by the gate's number

module _ {A : Type 0} (g : ℕ) (a : A) (refuse : ℕ → A) where
  pub through_open : g ≡ 0 → through g a refuse ≡ a
  through_open e = ap (λ (b : Bool). pick b a (refuse g)) (eq-eqb g 0 e)

  pub through_shut : (g ≡ 0 → ⊥) → through g a refuse ≡ refuse g
  through_shut h = ap (λ (b : Bool). pick b a (refuse g)) (ne_eqb g 0 h)

  -- what is no refusal came through
  pub through_tells : (x : A) → ((k : ℕ) → refuse k ≡ x → ⊥) → through g a refuse ≡ x → (g ≡ 0) × (a ≡ x)
  through_tells x not e = told (bool (eqb g 0))
    where
      told : (eqb g 0 ≡ true) ⊎ (eqb g 0 ≡ false) → (g ≡ 0) × (a ≡ x)
      told (inl y) = (eqb-true g 0 y, ap (λ (b : Bool). pick b a (refuse g)) (sym y) ∙ e)
      told (inr y) = absurd (not g (ap (λ (b : Bool). pick b a (refuse g)) (sym y) ∙ e))

-- ---- where the check passes

module _ (s : Settings) (Z : ℕ) (st : List ℕ) where
  pub open_true : gate s Z st ≡ 0 → (eqb (begun s).refused 0 ≡ true) × (in_order s Z st ≡ true)
  unfolding gate
  open_true g = told (eqb (begun s).refused 0) (in_order s Z st) g
    where
      told : (a b : Bool) → ◌≡◌ {A = ℕ} (pick a (pick b 0 16) 15) 0 → (a ≡ true) × (b ≡ true)
      told true true e = (refl, refl)
      told true false e = absurd (omega arith)
      told false b e = absurd (omega arith)

  -- a store that was opened is in order
  pub opened_order : gate s Z st ≡ 0 → in_order s Z st ≡ true
  opened_order g = (open_true g).1

  -- what an opened store is told by
  module _ {o : Opened} (eo : o ≡ opened_of s Z st) where
    pub opened_refusal : o.refusal ≡ refusal (gate s Z st)
    unfolding opened_of
    opened_refusal = ap (λ (x : Opened). x.refusal) eo

    pub opened_number : o.refusal.number ≡ gate s Z st
    opened_number = ap (λ (x : Refusal). x.number) opened_refusal

    module _ (h : o.refusal.number ≡ 0) where
      pub opened_gate : gate s Z st ≡ 0
      opened_gate = sym opened_number ∙ h

      pub opened_cells : o.cells ≡ count_in Z st
      unfolding opened_of
      opened_cells = ap (λ (x : Opened). x.cells) eo ∙ ap (λ (b : Bool). pick b (count_in Z st) 0) (eq-eqb (gate s Z st) 0 opened_gate)

-- another store in order, the settings being the same
pub gate_again : (s : Settings) (Z : ℕ) (st x : List ℕ) → gate s Z st ≡ 0 → in_order s Z x ≡ true → gate s Z x ≡ 0
unfolding gate
gate_again s Z st x g o = told (eqb (begun s).refused 0) (in_order s Z st) (in_order s Z x) g o
  where
    told : (a b d : Bool) → ◌≡◌ {A = ℕ} (pick a (pick b 0 16) 15) 0 → d ≡ true → ◌≡◌ {A = ℕ} (pick a (pick d 0 16) 15) 0
    told true b true e o = refl
    told true b false e o = let z : ◌≡◌ {A = ℕ} 0 1 = cc in absurd (omega arith)
    told false b d e o = absurd (omega arith)
