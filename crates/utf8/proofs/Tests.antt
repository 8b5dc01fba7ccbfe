-- What the tests of octets say of numbers, both ways.
-- Assumes nothing.
use Prim.Native.Nat.{ℕ, ◌≤◌, ◌<◌}
use mathlib.Core.Path.{◌≡◌, refl, sym, ◌∙◌}
use mathlib.Core.Logic.{◌⊎◌, inl, inr, ⊎_elim}
use mathlib.Core.Bool.{Bool, true, false}
use native.Mathlib.Omega.{arith}
use lib.Dec.{ltb, leb, eqb}
use borrow.Author.Tests.{ltb-true, leb-true, eqb-true, eqb-false, lt-ltb, le-ltb, le-leb, eq-eqb, ne_eqb}
use Rattle.octets.proofs.Lists.{bool}
use Rattle.utf8.specs.Test.{both, either, ended, begins, lowest, highest, continues, follows}

-- ---- Booleans

pub both_true : (p q : Bool) → both p q ≡ true → (p ≡ true) × (q ≡ true)
both_true true q e = (refl, e)
both_true false q e = let z : ◌≡◌ {A = ℕ} 0 1 = cc in absurd (omega arith)

either_true : (p q : Bool) → either p q ≡ true → (p ≡ true) ⊎ (q ≡ true)
either_true true q e = inl refl
either_true false q e = inr e

pub not_true : (p : Bool) → (p ≡ true → ⊥) → p ≡ false
not_true true h = absurd (h refl)
not_true false h = refl

pub same_or : (a b : ℕ) → (a ≡ b) ⊎ (a ≡ b → ⊥)
same_or a b = ⊎_elim (λ e. inl (eqb-true a b e)) (λ e. inr (eqb-false a b e)) (bool (eqb a b))

-- ---- no character is unfinished

pub record Ended (a b c : ℕ) : Type 0 where
  pub third : a < 0xF0
  pub second : b < 0xE0
  pub first : c < 0xC0

pub ended_yes : {a b c : ℕ} → Ended a b c → ended a b c ≡ true
unfolding ended
ended_yes {a} {b} {c} h = simp (lt-ltb a 0xF0 h.third, lt-ltb b 0xE0 h.second, lt-ltb c 0xC0 h.first)

pub ended_true : (a b c : ℕ) → ended a b c ≡ true → Ended a b c
unfolding ended
ended_true a b c e =
    let p = both_true (ltb a 0xF0) (both (ltb b 0xE0) (ltb c 0xC0)) e in
    let q = both_true (ltb b 0xE0) (ltb c 0xC0) p.1 in
    record { third = ltb-true a 0xF0 p.0; second = ltb-true b 0xE0 q.0; first = ltb-true c 0xC0 q.1 }

pub ended_not : (a b c : ℕ) → (Ended a b c → ⊥) → ended a b c ≡ false
ended_not a b c h = not_true (ended a b c) (λ e. h (ended_true a b c e))

-- ---- the octet that begins a character

abbrev pub Begins : ℕ → Type 0
Begins d = (d < 0x80) ⊎ ((0xC2 ≤ d) × (d ≤ 0xF4))

pub begins_yes : (d : ℕ) → Begins d → begins d ≡ true
unfolding begins
begins_yes d (inl h) = simp (lt-ltb d 0x80 h)
begins_yes d (inr h) = simp (le-ltb d 0x80 (omega arith), le-leb 0xC2 d h.0, le-leb d 0xF4 h.1)

pub begins_true : (d : ℕ) → begins d ≡ true → Begins d
unfolding begins
begins_true d e =
    ⊎_elim
    (λ h. inl (ltb-true d 0x80 h))
    (λ h. let p = both_true (leb 0xC2 d) (leb d 0xF4) h in inr (leb-true 0xC2 d p.0, leb-true d 0xF4 p.1))
    (either_true (ltb d 0x80) (both (leb 0xC2 d) (leb d 0xF4)) e)

-- ---- the octets after it

pub record Continues (c d : ℕ) : Type 0 where
  pub least : 0x80 ≤ d
  pub most : d ≤ 0xBF
  pub after_e0 : c ≡ 0xE0 → 0xA0 ≤ d
  pub after_f0 : c ≡ 0xF0 → 0x90 ≤ d
  pub after_ed : c ≡ 0xED → d ≤ 0x9F
  pub after_f4 : c ≡ 0xF4 → d ≤ 0x8F

module _ (c : ℕ) where
  lowest_e0 : c ≡ 0xE0 → lowest c ≡ 0xA0
  unfolding lowest
  lowest_e0 e = simp (eq-eqb c 0xE0 e)

  lowest_f0 : c ≡ 0xF0 → lowest c ≡ 0x90
  unfolding lowest
  lowest_f0 e = simp (ne_eqb c 0xE0 (λ h. omega arith), eq-eqb c 0xF0 e)

  lowest_else : (c ≡ 0xE0 → ⊥) → (c ≡ 0xF0 → ⊥) → lowest c ≡ 0x80
  unfolding lowest
  lowest_else h k = simp (ne_eqb c 0xE0 h, ne_eqb c 0xF0 k)

  highest_ed : c ≡ 0xED → highest c ≡ 0x9F
  unfolding highest
  highest_ed e = simp (eq-eqb c 0xED e)

  highest_f4 : c ≡ 0xF4 → highest c ≡ 0x8F
  unfolding highest
  highest_f4 e = simp (ne_eqb c 0xED (λ h. omega arith), eq-eqb c 0xF4 e)

  highest_else : (c ≡ 0xED → ⊥) → (c ≡ 0xF4 → ⊥) → highest c ≡ 0xBF
  unfolding highest
  highest_else h k = simp (ne_eqb c 0xED h, ne_eqb c 0xF4 k)

  -- by cases of the octet before
  by_lowest : (P : ℕ → Type 0) → (c ≡ 0xE0 → P 0xA0) → (c ≡ 0xF0 → P 0x90) → P 0x80 → P (lowest c)
  by_lowest P f g h =
      ⊎_elim
      (λ e. rw (lowest_e0 e) (f e))
      (λ n. ⊎_elim (λ e. rw (lowest_f0 e) (g e)) (λ m. rw (lowest_else n m) h) (same_or c 0xF0))
      (same_or c 0xE0)

  by_highest : (P : ℕ → Type 0) → (c ≡ 0xED → P 0x9F) → (c ≡ 0xF4 → P 0x8F) → P 0xBF → P (highest c)
  by_highest P f g h =
      ⊎_elim
      (λ e. rw (highest_ed e) (f e))
      (λ n. ⊎_elim (λ e. rw (highest_f4 e) (g e)) (λ m. rw (highest_else n m) h) (same_or c 0xF4))
      (same_or c 0xED)

  lowest_least : 0x80 ≤ lowest c
  lowest_least = by_lowest (λ x. 0x80 ≤ x) (λ e. omega arith) (λ e. omega arith) (omega arith)

  highest_most : highest c ≤ 0xBF
  highest_most = by_highest (λ x. x ≤ 0xBF) (λ e. omega arith) (λ e. omega arith) (omega arith)

  pub continues_yes : {d : ℕ} → Continues c d → continues c d ≡ true
  unfolding continues
  continues_yes {d} h =
      simp (
        le-leb (lowest c) d (by_lowest (λ x. x ≤ d) h.after_e0 h.after_f0 h.least),
        le-leb d (highest c) (by_highest (λ x. d ≤ x) h.after_ed h.after_f4 h.most),
      )

  pub continues_true : (d : ℕ) → continues c d ≡ true → Continues c d
  unfolding continues
  continues_true d e =
      let p = both_true (leb (lowest c) d) (leb d (highest c)) e in
      let l = leb-true (lowest c) d p.0 in
      let h = leb-true d (highest c) p.1 in
      record {
        least = omega (arith, lowest_least);
        most = omega (arith, highest_most);
        after_e0 = λ k. omega (arith, lowest_e0 k);
        after_f0 = λ k. omega (arith, lowest_f0 k);
        after_ed = λ k. omega (arith, highest_ed k);
        after_f4 = λ k. omega (arith, highest_f4 k);
      }

-- ---- the octet that may stand next

pub follows_first : (a b c d : ℕ) → ended a b c ≡ true → follows a b c d ≡ begins d
unfolding follows
follows_first a b c d e = simp e

pub follows_next : (a b c d : ℕ) → ended a b c ≡ false → follows a b c d ≡ continues c d
unfolding follows
follows_next a b c d e = simp e

-- a single octet may stand exactly if no character is unfinished, and then none is after it
pub follows_single : (a b c d : ℕ) → d < 0x80 → follows a b c d ≡ ended a b c
follows_single a b c d h =
    ⊎_elim
    (λ e. follows_first a b c d e ∙ begins_yes d (inl h) ∙ sym e)
    (λ e. follows_next a b c d e ∙ not_true (continues c d) (λ k. let r = continues_true c d k in omega arith) ∙ sym e)
    (bool (ended a b c))

pub ended_single : (a b c d : ℕ) → d < 0x80 → ended a b c ≡ true → ended b c d ≡ true
ended_single a b c d h e =
    let r = ended_true a b c e in
    ended_yes (record { third = omega arith; second = omega arith; first = omega arith })
