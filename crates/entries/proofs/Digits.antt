-- The digits that `io::decimal` writes are those of the definition.
-- Assumes nothing.
use Prim.Native.Nat.{ℕ, zero, suc, ◌+◌, ◌-◌, ◌/◌, ◌%◌, ◌^◌, ◌≤◌, ◌<◌}
use mathlib.Core.Path.{◌≡◌, refl, ap, ap₂, ◌∙◌}
use mathlib.Core.Bool.{Bool, cond}
use mathlib.Core.List.{List, [], ◌∷◌, ◌++◌}
use native.Mathlib.Omega.{arith}
use borrow.Author.Tests.{lt-ltb, le-ltb}
use Rattle.io.specs.Digits.{hex_digit_ascii, last_digits, IsDigitCount}
use Rattle.entries.specs.Lines.{decimal_in, decimal}

glyph_is : (d : ℕ) → d < 10 → hex_digit_ascii d ≡ 48 + d
glyph_is d h = ap (λ (b : Bool). cond b (48 + d) (87 + d)) (lt-ltb d 10 h)

sub_one : (k : ℕ) → suc k - 1 ≡ k
sub_one k = omega arith

power_some : (k : ℕ) → 1 ≤ 10 ^ k
power_some zero = omega arith
power_some (suc k) = let h = power_some k in omega arith

-- of a number that has no more than f + 1 digits
decimal_is : (f k n : ℕ) → n < 10 ^ suc f → IsDigitCount 10 1 n k → last_digits 10 k n ≡ decimal_in (suc f) n
unfolding decimal_in
decimal_is f zero n m h = absurd (omega (arith, h.0))
decimal_is f (suc zero) n m h =
    let small : n < 10 = omega (arith, h.1) in
    let same : n % 10 ≡ n = omega arith in
    rw (lt-ltb n 10 small) (ap (λ (d : ℕ). d ∷ []) (ap hex_digit_ascii same ∙ glyph_is n small))
decimal_is zero (suc (suc k)) n m h =
    let p = power_some k in
    let low : 10 ^ suc k ≤ n = rw (sub_one (suc k)) at (h.2 (omega arith)) in
    absurd (omega (arith, p, low))
decimal_is (suc f) (suc (suc k)) n m h =
    let p = power_some k in
    let low : 10 ^ suc k ≤ n = rw (sub_one (suc k)) at (h.2 (omega arith)) in
    let large : 10 ≤ n = omega (arith, p, low) in
    let rest : IsDigitCount 10 1 (n / 10) (suc k) = (omega arith, omega (arith, h.1), λ q. rw (sub_one k) (omega (arith, low))) in
    rw (le-ltb n 10 large)
    (ap₂ (λ (x : List ℕ) (d : ℕ). x ++ (d ∷ [])) (decimal_is f (suc k) (n / 10) (omega arith) rest) (glyph_is (n % 10) (omega arith)))

-- 64 bits have no more than twenty
pub decimal_of : (k n : ℕ) → n < 18446744073709551616 → IsDigitCount 10 1 n k → last_digits 10 k n ≡ decimal n
decimal_of k n m h = let e : 10 ^ 20 ≡ 100000000000000000000 = refl in decimal_is 19 k n (omega (arith, e)) h
