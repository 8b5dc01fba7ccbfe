-- What the calls tell as numbers, by the tests of the code.
-- Assumes nothing.
use Prim.Native.Nat.{ℕ, ◌+◌, ◌-◌, ◌≤◌, ◌<◌}
use mathlib.Core.Path.{◌≡◌, refl, ap, sym, ◌∙◌}
use mathlib.Core.Bool.{Bool, true, false}
use mathlib.Core.List.{List, [], ◌∷◌}
use mathlib.Core.Logic.{⊎_elim}
use native.Mathlib.Omega.{arith}
use lib.ListN.{length}
use lib.Dec.{eqb}
use borrow.Author.Tests.{eq-eqb, ne_eqb, le-leb, lt-leb}
use Rattle.octets.specs.Octets.{pick}
use Rattle.octets.proofs.Lists.{bool}
use Rattle.walk.specs.declared.Settings.{Settings}
use Rattle.walk.specs.Walk.{begun}
use Rattle.cells.specs.Order.{in_order, count_in, gate, through}
use Rattle.cells.proofs.Gate.{order_has, gate_by, gate_15}
use Rattle.flat_store.specs.Numbers.{order_numbers}
use Rattle.flat_store.specs.Views.{inside_numbers, unnamed, view_numbers}

-- ---- the view

abbrev no_part : List ℕ
no_part = 0 ∷ 0 ∷ 0 ∷ []

module _ (n place long : ℕ) where
  pub inside_behind : n < place → no_part ≡ inside_numbers n place long
  unfolding inside_numbers
  inside_behind h = rw (lt-leb (place + long) n (omega arith)) refl

  pub inside_short : place ≤ n → n - place < long → no_part ≡ inside_numbers n place long
  unfolding inside_numbers
  inside_short l h = rw (lt-leb (place + long) n (omega arith)) refl

  pub inside_there : place ≤ n → long ≤ n - place → 0 ∷ place ∷ long ∷ [] ≡ inside_numbers n place long
  unfolding inside_numbers
  inside_there l h = rw (le-leb (place + long) n (omega arith)) refl

module _ (w : ℕ) (p j : List ℕ) (place long : ℕ) {r : List ℕ} where
  pub view_none : w ≡ 0 → r ≡ inside_numbers 0 place long → r ≡ view_numbers w p j place long
  unfolding view_numbers
  view_none e h = rw (eq-eqb w 0 e) h

  module _ (a : w ≡ 0 → ⊥) where
    pub view_packet : w ≡ 1 → r ≡ inside_numbers (length p) place long → r ≡ view_numbers w p j place long
    unfolding view_numbers
    view_packet e h = rw (ne_eqb w 0 a, eq-eqb w 1 e) h

    module _ (b : w ≡ 1 → ⊥) where
      pub view_joined_lem : w ≡ 2 → r ≡ inside_numbers (length j) place long → r ≡ view_numbers w p j place long
      unfolding view_numbers
      view_joined_lem e h = rw (ne_eqb w 0 a, ne_eqb w 1 b, eq-eqb w 2 e) h

      pub view_unnamed : (w ≡ 2 → ⊥) → r ≡ unnamed → r ≡ view_numbers w p j place long
      unfolding view_numbers
      view_unnamed d h = rw (ne_eqb w 0 a, ne_eqb w 1 b, ne_eqb w 2 d) h

-- ---- the order of a store

module _ (s : Settings) (Z : ℕ) (st : List ℕ) where
  by_gate : {k : ℕ} → gate s Z st ≡ k → through k (0 ∷ count_in Z st ∷ []) (λ n. n ∷ 0 ∷ []) ≡ order_numbers s Z st
  unfolding order_numbers
  by_gate e = ap (λ (g : ℕ). through g (0 ∷ count_in Z st ∷ []) (λ n. n ∷ 0 ∷ [])) (sym e)

  -- T out of range
  pub order_15 : ((begun s).refused ≡ 0 → ⊥) → 15 ∷ 0 ∷ [] ≡ order_numbers s Z st
  order_15 h = by_gate (gate_15 s Z st (ne_eqb (begun s).refused 0 h))

  module _ {n : ℕ} (e : n ≡ pick (in_order s Z st) (count_in Z st) 0) (t : (begun s).refused ≡ 0) where
    fine : eqb (begun s).refused 0 ≡ true
    fine = eq-eqb (begun s).refused 0 t

    cells_some : in_order s Z st ≡ true → (n ≡ count_in Z st) × (1 ≤ n)
    cells_some h =
        let k : n ≡ count_in Z st = e ∙ ap (λ (b : Bool). pick b (count_in Z st) 0) h in
        (k, omega (arith, (order_has s Z st h).least))

    cells_none : in_order s Z st ≡ false → n ≡ 0
    cells_none h = e ∙ ap (λ (b : Bool). pick b (count_in Z st) 0) h

    -- not in order
    pub order_16 : n ≡ 0 → 16 ∷ 0 ∷ [] ≡ order_numbers s Z st
    order_16 z = ⊎_elim (λ h. absurd (omega (arith, (cells_some h).1))) (λ h. by_gate (gate_by s Z st fine h)) (bool _)

    -- in order
    pub order_some : (n ≡ 0 → ⊥) → 0 ∷ n ∷ [] ≡ order_numbers s Z st
    order_some z =
        ⊎_elim (λ h. ap (λ (k : ℕ). 0 ∷ k ∷ []) (cells_some h).0 ∙ by_gate (gate_by s Z st fine h)) (λ h. absurd (z (cells_none h)))
        (bool _)
