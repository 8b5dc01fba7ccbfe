-- A character's octets by its range, and the character that octets write.
-- Assumes nothing.
use Prim.Native.Nat.{ℕ, ◌+◌, ◌-◌, ◌*◌, ◌/◌, ◌≤◌, ◌<◌}
use mathlib.Core.Path.{◌≡◌, ◌∙◌}
use mathlib.Core.Logic.{inl, inr, ⊎_elim}
use mathlib.Core.List.{List, [], ◌∷◌}
use native.Mathlib.Omega.{arith}
use borrow.Author.Tests.{lt-ltb, le-ltb}
use Rattle.octets.proofs.Lists.{below_or}
use Rattle.utf8.specs.Text.{Scalar, low6, utf8}

pub scalar_top : (c : ℕ) → Scalar c → c ≤ 0x10FFFF
scalar_top c (inl h) = omega arith
scalar_top c (inr h) = h.1

abbrev pub two : ℕ → List ℕ
two c = (0xC0 + c / 64) ∷ low6 c ∷ []

abbrev pub three : ℕ → List ℕ
three c = (0xE0 + c / 4096) ∷ low6 (c / 64) ∷ low6 c ∷ []

abbrev pub four : ℕ → List ℕ
four c = (0xF0 + c / 262144) ∷ low6 (c / 4096) ∷ low6 (c / 64) ∷ low6 c ∷ []

pub utf8_one : (c : ℕ) → c < 0x80 → utf8 c ≡ c ∷ []
unfolding utf8
utf8_one c h = simp (lt-ltb c 0x80 h)

pub utf8_two : (c : ℕ) → 0x80 ≤ c → c < 0x800 → utf8 c ≡ two c
unfolding utf8
utf8_two c h k = simp (le-ltb c 0x80 h, lt-ltb c 0x800 k)

pub utf8_three : (c : ℕ) → 0x800 ≤ c → c < 0x10000 → utf8 c ≡ three c
unfolding utf8
utf8_three c h k = simp (le-ltb c 0x80 (omega arith), le-ltb c 0x800 h, lt-ltb c 0x10000 k)

pub utf8_four : (c : ℕ) → 0x10000 ≤ c → utf8 c ≡ four c
unfolding utf8
utf8_four c h = simp (le-ltb c 0x80 (omega arith), le-ltb c 0x800 (omega arith), le-ltb c 0x10000 h)

-- by cases of the range
pub by_range_lem :
    (c : ℕ) (P : List ℕ → Type 0) → (c < 0x80 → P (c ∷ [])) → (0x80 ≤ c → c < 0x800 → P (two c)) → (0x800 ≤ c → c < 0x10000 → P (three c)) →
    (0x10000 ≤ c → P (four c)) → P (utf8 c)
by_range_lem c P f g h k =
    ⊎_elim
    (λ a. rw (utf8_one c a) (f a))
    (λ a.
    ⊎_elim
    (λ b. rw (utf8_two c a b) (g a b))
    (λ b. ⊎_elim (λ d. rw (utf8_three c b d) (h b d)) (λ d. rw (utf8_four c d) (k d)) (below_or c 0x10000))
    (below_or c 0x800))
    (below_or c 0x80)

-- ---- from octets

-- an octet after the first of a character
abbrev pub Tail : ℕ → Type 0
Tail d = (0x80 ≤ d) × (d ≤ 0xBF)

pub from_two : (c d e : ℕ) → c ≡ (d - 0xC0) * 64 + (e - 0x80) → 0xC2 ≤ d → d < 0xE0 → Tail e → utf8 c ≡ d ∷ e ∷ []
from_two c d e k l h t =
    let p : 0xC0 + c / 64 ≡ d = omega (arith, t.0, t.1) in
    let q : low6 c ≡ e = omega (arith, t.0, t.1) in
    utf8_two c (omega (arith, t.0)) (omega (arith, t.1)) ∙ rw (p, q)

pub from_three :
    (c d e f : ℕ) → c ≡ (d - 0xE0) * 4096 + (e - 0x80) * 64 + (f - 0x80) → 0xE0 ≤ d → d < 0xF0 → Tail e → Tail f → 0x800 ≤ c →
    utf8 c ≡ d ∷ e ∷ f ∷ []
from_three c d e f k l h t u m =
    let p : 0xE0 + c / 4096 ≡ d = omega (arith, t.0, t.1, u.0, u.1) in
    let q : low6 (c / 64) ≡ e = omega (arith, t.0, t.1, u.0, u.1) in
    let r : low6 c ≡ f = omega (arith, t.0, t.1, u.0, u.1) in
    utf8_three c m (omega (arith, t.1, u.1)) ∙ rw (p, q, r)

pub from_four :
    (c d e f g : ℕ) → c ≡ (d - 0xF0) * 262144 + (e - 0x80) * 4096 + (f - 0x80) * 64 + (g - 0x80) → 0xF0 ≤ d → Tail e → Tail f → Tail g →
    0x10000 ≤ c → utf8 c ≡ d ∷ e ∷ f ∷ g ∷ []
from_four c d e f g k l t u v m =
    let p : 0xF0 + c / 262144 ≡ d = omega (arith, t.0, t.1, u.0, u.1, v.0, v.1) in
    let q : low6 (c / 4096) ≡ e = omega (arith, t.0, t.1, u.0, u.1, v.0, v.1) in
    let r : low6 (c / 64) ≡ f = omega (arith, t.0, t.1, u.0, u.1, v.0, v.1) in
    let s : low6 c ≡ g = omega (arith, t.0, t.1, u.0, u.1, v.0, v.1) in
    utf8_four c m ∙ rw (p, q, r, s)
