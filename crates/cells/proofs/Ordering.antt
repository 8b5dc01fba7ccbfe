-- The pass that sets the cells beside those below them: whether those passed are apart; and they are on their chains.
-- Assumes nothing.
use Prim.Native.Nat.{ℕ, ◌+◌, ◌≤◌, ◌<◌}
use mathlib.Core.Path.{◌≡◌, refl, ap, ◌∙◌}
use mathlib.Core.Bool.{Bool, true}
use mathlib.Core.List.{List}
use native.Mathlib.Numerals.{add-one}
use native.Mathlib.Omega.{arith}
use Rattle.walk.specs.declared.Settings.{Settings}
use Rattle.cells.specs.Segments.{both}
use Rattle.cells.specs.Order.{cell_at, all_to, new_at, distinct}
use Rattle.cells.specs.declared.Chains.{Chains}
use Rattle.cells.specs.Chains.{bucket_at, Chained}

pub record Ordering (s : Settings) (Z : ℕ) (st : List ℕ) (n : ℕ) (T : Chains) (a : Bool) (i : ℕ) : Type 0 where
  pub most : i ≤ n
  pub so_far : a ≡ distinct s Z st i
  pub chained : Chained (bucket_at s Z st) T i

module _ {s : Settings} {Z : ℕ} {st : List ℕ} {n : ℕ} {T : Chains} where
  pub ordering_first : Chained (bucket_at s Z st) T 0 → Ordering s Z st n T true 0
  unfolding distinct all_to
  ordering_first c = record { most = omega arith; so_far = refl; chained = c }

  module _ {i : ℕ} {a : Bool} (p : Ordering s Z st n T a i) where
    pub ordering_turn :
        {b : Bool} {T' : Chains} → i < n → b ≡ both a (new_at s Z st i (cell_at s Z st i)) → Chained (bucket_at s Z st) T' (i + 1) →
        Ordering s Z st n T' b (i + 1)
    unfolding distinct all_to
    ordering_turn h e c =
        record {
          most = omega arith;
          so_far = rw (add-one i) (e ∙ ap (λ (x : Bool). both x (new_at s Z st i (cell_at s Z st i))) p.so_far);
          chained = c;
        }

    -- all passed
    module _ (h : n ≤ i) where
      all_of_them : i ≡ n
      all_of_them = omega (arith, p.most)

      pub ordering_apart : a ≡ distinct s Z st n
      ordering_apart = p.so_far ∙ ap (distinct s Z st) all_of_them

      pub ordering_chained : Chained (bucket_at s Z st) T n
      ordering_chained = rw all_of_them at p.chained
