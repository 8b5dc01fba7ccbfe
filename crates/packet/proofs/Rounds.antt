-- The segment counter's next value: 0 after the largest, else one more; so it is a counter again, and no two numbers have the same.
-- Assumes nothing.
use Prim.Native.Nat.{ℕ, suc, ◌≤◌}
use mathlib.Core.Path.{◌≡◌, ap, sym, ◌∙◌}
use mathlib.Core.Logic.{⊎_elim}
use mathlib.Core.Bool.{Bool, true, false}
use native.Mathlib.Nat.{suc_inj}
use native.Mathlib.Omega.{arith}
use lib.Dec.{eqb}
use borrow.Author.Tests.{eq-eqb, ne_eqb, eqb-true, eqb-false}
use Rattle.octets.specs.Octets.{pick, most32}
use Rattle.octets.proofs.Lists.{bool}
use Rattle.packet.specs.declared.SegmentCounter.{SegmentCounter}
use Rattle.packet.specs.Numbers.{next_counter, next_segment_counter}

pub next_round : (c : ℕ) → c ≡ most32 → next_counter c ≡ 0
unfolding next_counter
next_round c e = ap (λ (b : Bool). pick b 0 (suc c)) (eq-eqb c most32 e)

pub next_on : (c : ℕ) → (c ≡ most32 → ⊥) → next_counter c ≡ suc c
unfolding next_counter
next_on c h = ap (λ (b : Bool). pick b 0 (suc c)) (ne_eqb c most32 h)

pub next_most : (c : ℕ) → c ≤ most32 → next_counter c ≤ most32
next_most c l = ⊎_elim at_top below (bool (eqb c most32))
  where
    at_top : eqb c most32 ≡ true → next_counter c ≤ most32
    at_top e = omega (arith, next_round c (eqb-true c most32 e))

    below : eqb c most32 ≡ false → next_counter c ≤ most32
    below e = let h = eqb-false c most32 e in omega (arith, next_on c h, h)

pub next_injective : (c d : ℕ) → next_counter c ≡ next_counter d → c ≡ d
next_injective c d e = ⊎_elim (λ x. ⊎_elim (both_top x) (one_top x) (bool (eqb d most32))) (λ x. ⊎_elim (other_top x) (none_top x) (bool (eqb d most32)))
    (bool (eqb c most32))
  where
    both_top : eqb c most32 ≡ true → eqb d most32 ≡ true → c ≡ d
    both_top x y = eqb-true c most32 x ∙ sym (eqb-true d most32 y)

    one_top : eqb c most32 ≡ true → eqb d most32 ≡ false → c ≡ d
    one_top x y = absurd (omega (arith, next_round c (eqb-true c most32 x), next_on d (eqb-false d most32 y), e))

    other_top : eqb c most32 ≡ false → eqb d most32 ≡ true → c ≡ d
    other_top x y = absurd (omega (arith, next_round d (eqb-true d most32 y), next_on c (eqb-false c most32 x), e))

    none_top : eqb c most32 ≡ false → eqb d most32 ≡ false → c ≡ d
    none_top x y = suc_inj (sym (next_on c (eqb-false c most32 x)) ∙ e ∙ next_on d (eqb-false d most32 y))

-- ---- as the code has it

abbrev counter : ℕ → SegmentCounter
counter x = record { 0 = x }

pub counter_round : (c : SegmentCounter) → c.0 ≡ most32 → counter 0 ≡ next_segment_counter c
counter_round c e = ap counter (sym (next_round c.0 e))

pub counter_on : (c : SegmentCounter) {n : ℕ} → n ≡ suc c.0 → (c.0 ≡ most32 → ⊥) → counter n ≡ next_segment_counter c
counter_on c e h = ap counter (e ∙ sym (next_on c.0 h))

-- the counter that the code stepped to
pub counter_next : (c : SegmentCounter) {d : SegmentCounter} → d ≡ next_segment_counter c → d.0 ≡ next_counter c.0
counter_next c e = ap (λ (x : SegmentCounter). x.0) e
