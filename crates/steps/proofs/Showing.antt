-- A part of a recording shows what stands where it begins, or is too short to show it.
-- Assumes nothing.
use Prim.Native.Nat.{ℕ, ◌+◌, ◌*◌, ◌≤◌, ◌<◌}
use mathlib.Core.Path.{◌≡◌, refl, ap, ap₂, sym, ◌∙◌, subst}
use mathlib.Core.Logic.{◌⊎◌, inl, inr}
use mathlib.Core.Bool.{Bool, true, false}
use mathlib.Core.List.{List, [], ◌∷◌, ◌++◌}
use native.Mathlib.Omega.{arith}
use lib.ListN.{length, take, drop, length-append, length-drop, get_or-append}
use lib.Seq.{take-nil, take-append-le, drop-append-le}
use lib.Dec.{leb, eqb}
use borrow.Author.Tests.{eqb-true, eqb-false, leb-true, leb-false}
use Rattle.octets.specs.Octets.{pick, part, number, octet_at, alike}
use Rattle.octets.proofs.Lists.{bool}
use Rattle.cells.specs.Rows.{size_in, packet_in}
use Rattle.packet.specs.Mark.{packet_mark}
use Rattle.steps.specs.Stepping.{Found, nothing, other, cut, whole, begins, found_in}
use Rattle.steps.proofs.Places.{found_other, found_whole}

-- ---- the mark

begins_two : (a b : ℕ) (r : List ℕ) → begins (a ∷ b ∷ r) ≡ alike (a ∷ b ∷ []) packet_mark
begins_two a b r = ap (λ (l : List ℕ). alike (a ∷ b ∷ []) (0x4d ∷ 0x50 ∷ l)) (take-nil (length r))

begins_first : (a b : ℕ) (r : List ℕ) → begins (a ∷ []) ≡ false → begins (a ∷ b ∷ r) ≡ false
unfolding alike
begins_first a b r e = begins_two a b r ∙ told (eqb a 0x4d) (eqb b 0x50) e
  where
    told : (p q : Bool) → pick p true false ≡ false → pick p (pick q true false) false ≡ false
    told true q d = let z : ◌≡◌ {A = ℕ} 0 1 = cc d in absurd (omega arith)
    told false q d = refl

-- other octets stay other octets
begins_more : (w y : List ℕ) → begins w ≡ false → begins (w ++ y) ≡ false
unfolding alike
begins_more [] y e = let z : ◌≡◌ {A = ℕ} 0 1 = cc in absurd (omega arith)
begins_more (a ∷ []) [] e = e
begins_more (a ∷ []) (b ∷ y) e = begins_first a b y e
begins_more (a ∷ b ∷ w) y e = begins_two a b (w ++ y) ∙ sym (begins_two a b w) ∙ e

-- and a mark stays a mark
begins_same : (w y : List ℕ) → 2 ≤ length w → begins (w ++ y) ≡ begins w
begins_same [] y h = absurd (omega arith)
begins_same (a ∷ []) y h = absurd (omega arith)
begins_same (a ∷ b ∷ w) y h = begins_two a b (w ++ y) ∙ sym (begins_two a b w)

-- ---- a packet

size_same : (w y : List ℕ) → 8 ≤ length w → size_in (w ++ y) ≡ size_in w
unfolding number
size_same w y h =
    let a : octet_at (w ++ y) 6 ≡ octet_at w 6 = get_or-append w y 0 6 (omega arith) in
    let b : octet_at (w ++ y) 7 ≡ octet_at w 7 = get_or-append w y 0 7 (omega arith) in
    ap₂ (λ (m n : ℕ). (0 * 256 + m) * 256 + n + 7) a b

packet_same : (w y : List ℕ) → 2 + size_in w ≤ length w → packet_in (w ++ y) ≡ packet_in w
packet_same w y h =
    ap (λ (n : ℕ). part (w ++ y) 2 n) (size_same w y (omega arith))
    ∙ ap (take (size_in w)) (drop-append-le 2 w y (omega arith))
    ∙ take-append-le (size_in w) (drop 2 w) y (omega (arith, length-drop 2 w))

-- ---- what stands there

-- what the tests were
abbrev Tells : List ℕ → Found → Type 0
Tells x nothing = length x ≡ 0
Tells x other = (length x ≡ 0 → ⊥) × (begins x ≡ false)
Tells x cut = (begins x ≡ true) × (length x < 2 + size_in x)
Tells x (whole p) = (begins x ≡ true) × ((2 + size_in x ≤ length x) × (p ≡ packet_in x))

found_tells : (x : List ℕ) → Tells x (found_in x)
unfolding found_in
found_tells x = told (bool (eqb (length x) 0)) (bool (begins x)) (bool (leb (2 + size_in x) (length x)))
  where
    told :
        (eqb (length x) 0 ≡ true) ⊎ (eqb (length x) 0 ≡ false) → (begins x ≡ true) ⊎ (begins x ≡ false) →
        (leb (2 + size_in x) (length x) ≡ true) ⊎ (leb (2 + size_in x) (length x) ≡ false) →
        Tells x (pick (eqb (length x) 0) nothing (pick (begins x) (pick (leb (2 + size_in x) (length x)) (whole (packet_in x)) cut) other))
    told (inl a) b c = rw a (eqb-true (length x) 0 a)
    told (inr a) (inl b) (inl c) = rw (a, b, c) (b, (leb-true (2 + size_in x) (length x) c, refl))
    told (inr a) (inl b) (inr c) = rw (a, b, c) (b, leb-false (2 + size_in x) (length x) c)
    told (inr a) (inr b) c = rw (a, b) (eqb-false (length x) 0 a, b)

pub nothing_tells : (x : List ℕ) → found_in x ≡ nothing → length x ≡ 0
nothing_tells x e = subst (Tells x) e (found_tells x)

other_tells : (x : List ℕ) → found_in x ≡ other → (length x ≡ 0 → ⊥) × (begins x ≡ false)
other_tells x e = subst (Tells x) e (found_tells x)

pub cut_tells : (x : List ℕ) → found_in x ≡ cut → (begins x ≡ true) × (length x < 2 + size_in x)
cut_tells x e = subst (Tells x) e (found_tells x)

-- a whole packet is the one after the mark
pub whole_tells :
    (x p : List ℕ) → found_in x ≡ whole p → (begins x ≡ true) × ((2 + size_in x ≤ length x) × (p ≡ packet_in x))
whole_tells x p e = subst (Tells x) e (found_tells x)

-- more octets after other octets, or after a whole packet, change nothing
pub other_more : (w y : List ℕ) → found_in w ≡ other → found_in (w ++ y) ≡ other
other_more w y e =
    let a = other_tells w e in
    found_other (w ++ y) (λ h. a.0 (omega (arith, length-append w y))) (begins_more w y a.1)

pub whole_more : (w y p : List ℕ) → found_in w ≡ whole p → found_in (w ++ y) ≡ found_in w
whole_more w y p e =
    let a = whole_tells w p e in
    let l = length-append w y in
    found_whole (w ++ y) (λ h. omega (arith, a.1.0)) (begins_same w y (omega (arith, a.1.0)) ∙ a.0) (omega (arith, a.1.0, size_same w y (omega (arith, a.1.0))))
    ∙ ap whole (packet_same w y a.1.0)
    ∙ sym (found_whole w (λ h. omega (arith, a.1.0)) a.0 a.1.0)
