-- Steps of a counter: the last one comes last, and some after others are so many together. Of a counter that goes round: n steps from c are
-- c + n, less so many times around; and it comes back to where it was after 4,294,967,296 steps, and not before.
-- Assumes nothing.
use Prim.Native.Nat.{ℕ, zero, suc, ◌+◌, ◌%◌, ◌≤◌, ◌<◌}
use mathlib.Core.Path.{◌≡◌, refl, ap, ◌∙◌}
use mathlib.Core.Logic.{⊎_elim}
use native.Mathlib.Omega.{arith}
use lib.Dec.{eqb}
use borrow.Author.Tests.{eqb-true, eqb-false}
use Rattle.octets.specs.Octets.{most32}
use Rattle.octets.proofs.Lists.{bool}
use Rattle.packet.specs.Numbers.{next_counter}
use Rattle.packet.proofs.Rounds.{next_round, next_on}
use Rattle.sender.specs.Sending.{steps_of}

module _ (next : ℕ → ℕ) where
  pub steps_last : (n c : ℕ) → steps_of next (suc n) c ≡ next (steps_of next n c)
  unfolding steps_of
  steps_last zero c = refl
  steps_last (suc n) c = steps_last n (next c)

  pub steps_more : (m n c : ℕ) → steps_of next n (steps_of next m c) ≡ steps_of next (m + n) c
  unfolding steps_of
  steps_more zero n c = let e : n ≡ 0 + n = omega arith in ap (λ (k : ℕ). steps_of next k c) e
  steps_more (suc m) n c =
      let e : suc (m + n) ≡ suc m + n = omega arith in
      steps_more m n (next c) ∙ ap (λ (k : ℕ). steps_of next k c) e

-- ---- round the end

wraps : (m : ℕ) → m % 4294967296 ≡ most32 → 0 ≡ suc m % 4294967296
wraps m h = omega arith

goes_on_lem : (m : ℕ) → (m % 4294967296 ≡ most32 → ⊥) → suc (m % 4294967296) ≡ suc m % 4294967296
goes_on_lem m h = omega (arith, h)

next_mod : (m : ℕ) → next_counter (m % 4294967296) ≡ suc m % 4294967296
next_mod m =
    ⊎_elim
    (λ e. let h = eqb-true (m % 4294967296) most32 e in next_round (m % 4294967296) h ∙ wraps m h)
    (λ e. let h = eqb-false (m % 4294967296) most32 e in next_on (m % 4294967296) h ∙ goes_on_lem m h)
    (bool (eqb (m % 4294967296) most32))

pub steps_round : (n c : ℕ) → c ≤ most32 → steps_of next_counter n c ≡ (c + n) % 4294967296
unfolding steps_of
steps_round zero c h = omega arith
steps_round (suc n) c h =
    let e : suc (c + n) ≡ c + suc n = omega arith in
    steps_last next_counter n c ∙ ap next_counter (steps_round n c h) ∙ next_mod (c + n) ∙ ap (λ (x : ℕ). x % 4294967296) e

pub steps_counter : (n c : ℕ) → c ≤ most32 → steps_of next_counter n c ≤ most32
steps_counter n c h = omega (arith, steps_round n c h)

pub no_return : (n c : ℕ) → c ≤ most32 → 0 < n → n ≤ most32 → steps_of next_counter n c ≡ c → ⊥
no_return n c h p l e = omega (arith, steps_round n c h)
