-- The sequence count some packets on: the code's closed form is the definition's steps.
-- Assumes nothing.
use Prim.Native.Nat.{ℕ, zero, suc, ◌+◌, ◌%◌, ◌≤◌, ◌<◌}
use mathlib.Core.Path.{◌≡◌, refl, ap, sym, ◌∙◌}
use mathlib.Core.Logic.{⊎_elim}
use native.Mathlib.Omega.{arith}
use native.Mathlib.Nat.{add-mod-mod}
use borrow.Author.Tests.{le-leb, lt-leb}
use Rattle.octets.proofs.Lists.{below_or}
use Rattle.packet.specs.declared.SequenceCount.{SequenceCount}
use Rattle.packet.specs.Numbers.{count_most, next_count, next_sequence_count, count_at, sequence_count_at}
use Rattle.packet.specs.Inner.{held_count}

wraps : (m : ℕ) → 16383 ≤ m % 16384 → 0 ≡ suc m % 16384
wraps m h = omega arith

goes_on_lem : (m : ℕ) → m % 16384 < 16383 → suc (m % 16384) ≡ suc m % 16384
goes_on_lem m h = omega arith

next_mod : (m : ℕ) → next_count (m % 16384) ≡ suc m % 16384
unfolding next_count
next_mod m =
    ⊎_elim
    (λ l. rw (lt-leb count_most (m % 16384) l) (goes_on_lem m l))
    (λ l. rw (le-leb count_most (m % 16384) l) (wraps m l))
    (below_or (m % 16384) count_most)

-- of a count of 14 bits
pub count_mod : (c i : ℕ) → c ≤ count_most → count_at c i ≡ (c + i) % 16384
unfolding count_at
count_mod c zero h = omega arith
count_mod c (suc i) h =
    let e : suc (c + i) ≡ c + suc i = omega arith in
    ap next_count (count_mod c i h) ∙ next_mod (c + i) ∙ ap (λ (n : ℕ). n % 16384) e

-- of any
held_is : (c : ℕ) → (held_count c ≤ count_most) × (next_count (held_count c) ≡ next_count c)
unfolding next_count
held_is c =
    ⊎_elim
    (λ l. let e = lt-leb count_most c l in rw e (omega arith, rw e refl))
    (λ l. rw (le-leb count_most c l) (omega arith, refl))
    (below_or c count_most)

held_on : (c n : ℕ) → count_at (held_count c) (suc n) ≡ count_at c (suc n)
unfolding count_at
held_on c zero = (held_is c).1
held_on c (suc n) = ap next_count (held_on c n)

wide_is : (c n : ℕ) → (n ≡ 0 → ⊥) → (held_count c + n % 16384) % 16384 ≡ count_at c n
wide_is c zero h = absurd (h refl)
wide_is c (suc n) h = add-mod-mod (held_count c) (suc n) 16384 ∙ sym (count_mod (held_count c) (suc n) (held_is c).0) ∙ held_on c n

-- ---- as the code has it

abbrev count : ℕ → SequenceCount
count x = record { 0 = x }

pub count_after : (c : SequenceCount) (n : ℕ) {x : ℕ} → x ≡ held_count c.0 → (n ≡ 0 → ⊥) → count ((x + n % 16384) % 16384) ≡ sequence_count_at c n
count_after c n e h = ap (λ (k : ℕ). count ((k + n % 16384) % 16384)) e ∙ ap count (wide_is c.0 n h)

pub count_here : (c : SequenceCount) (n : ℕ) → n ≡ 0 → c ≡ sequence_count_at c n
unfolding count_at
count_here c n h = ap (sequence_count_at c) (sym h)

pub count_next : (c : SequenceCount) → sequence_count_at c 1 ≡ next_sequence_count c
unfolding count_at
count_next c = refl
