-- The eight presence flags and their octet tell each other: the flags of the octet of flags are those flags, and the octet of the
-- flags of an octet is that octet.
-- Assumes nothing.
use Prim.Native.Nat.{ℕ, ◌+◌, ◌*◌, ◌/◌, ◌%◌, ◌<◌}
use mathlib.Core.Path.{◌≡◌, refl, ap, ◌∙◌}
use mathlib.Core.Bool.{Bool, true, false}
use native.Mathlib.Omega.{arith}
use lib.Dec.{eqb}
use borrow.Author.Tests.{eqb-true, eqb-false}
use Rattle.packet.specs.declared.Present.{Present}
use Rattle.packet.specs.Format.{bit}
use Rattle.packet.specs.FixedPart.{flags_of}

abbrev pub flag_octet : Present → ℕ
flag_octet h =
    128 * bit h.source + 64 * bit h.destination + 32 * bit h.priority + 16 * bit h.timestamp + 8 * bit h.zone
    + 4 * bit h.session_name
    + 2 * bit h.domain
    + bit h.authentication

bit_top : (b : Bool) → bit b < 2
bit_top true = omega arith
bit_top false = omega arith

bit_of : (b : Bool) → eqb (bit b) 1 ≡ b
bit_of true = refl
bit_of false = refl

of_bit : (x : ℕ) → x < 2 → bit (eqb x 1) ≡ x
of_bit x l = go (eqb x 1) refl
  where
    go : (b : Bool) → eqb x 1 ≡ b → bit b ≡ x
    go true e = omega (arith, eqb-true x 1 e)
    go false e = omega (arith, eqb-false x 1 e)

-- a sum of eight bits, and each of them
record Bits (f a b c d e g h i : ℕ) : Type 0 where
  b7 : f / 128 % 2 ≡ a
  b6 : f / 64 % 2 ≡ b
  b5 : f / 32 % 2 ≡ c
  b4 : f / 16 % 2 ≡ d
  b3 : f / 8 % 2 ≡ e
  b2 : f / 4 % 2 ≡ g
  b1 : f / 2 % 2 ≡ h
  b0 : f % 2 ≡ i

bits :
    (a b c d e g h i : ℕ) → a < 2 → b < 2 → c < 2 → d < 2 → e < 2 → g < 2 → h < 2 → i < 2 →
    Bits (128 * a + 64 * b + 32 * c + 16 * d + 8 * e + 4 * g + 2 * h + i) a b c d e g h i
bits a b c d e g h i ha hb hc hd he hg hh hi =
    record {
      b7 = omega arith;
      b6 = omega arith;
      b5 = omega arith;
      b4 = omega arith;
      b3 = omega arith;
      b2 = omega arith;
      b1 = omega arith;
      b0 = omega arith;
    }

sum_of :
    (f f1 f2 f3 f4 f5 f6 f7 a b c d e g h i : ℕ) → f ≡ 2 * f1 + i → f1 ≡ 2 * f2 + h → f2 ≡ 2 * f3 + g → f3 ≡ 2 * f4 + e → f4 ≡ 2 * f5 + d →
    f5 ≡ 2 * f6 + c → f6 ≡ 2 * f7 + b → f7 ≡ a → 128 * a + 64 * b + 32 * c + 16 * d + 8 * e + 4 * g + 2 * h + i ≡ f
sum_of f f1 f2 f3 f4 f5 f6 f7 a b c d e g h i e0 e1 e2 e3 e4 e5 e6 e7 = omega arith

sum :
    (f : ℕ) → f < 256 →
    128 * (f / 128 % 2) + 64 * (f / 64 % 2) + 32 * (f / 32 % 2) + 16 * (f / 16 % 2) + 8 * (f / 8 % 2) + 4 * (f / 4 % 2) + 2 * (f / 2 % 2)
    + f % 2
    ≡ f
sum f l =
    sum_of f (f / 2) (f / 4) (f / 8) (f / 16) (f / 32) (f / 64) (f / 128) _ _ _ _ _ _ _ _ (omega arith) (omega arith) (omega arith)
    (omega arith) (omega arith) (omega arith) (omega arith) (omega arith)

-- the octet of the flags of an octet is that octet
pub octet_flags : (f : ℕ) → f < 256 → flag_octet (flags_of f) ≡ f
unfolding flags_of
octet_flags f l =
    rw (
      of_bit (f / 128 % 2) (omega arith),
      of_bit (f / 64 % 2) (omega arith),
      of_bit (f / 32 % 2) (omega arith),
      of_bit (f / 16 % 2) (omega arith),
      of_bit (f / 8 % 2) (omega arith),
      of_bit (f / 4 % 2) (omega arith),
      of_bit (f / 2 % 2) (omega arith),
      of_bit (f % 2) (omega arith),
    ) (sum f l)

-- the flags of the octet of flags are those flags
pub flags_octet : (h : Present) → flags_of (flag_octet h) ≡ h
unfolding flags_of
flags_octet h =
    let r =
    bits (bit h.source) (bit h.destination) (bit h.priority) (bit h.timestamp) (bit h.zone) (bit h.session_name)
    (bit h.domain) (bit h.authentication) (bit_top h.source) (bit_top h.destination) (bit_top h.priority)
    (bit_top h.timestamp) (bit_top h.zone) (bit_top h.session_name) (bit_top h.domain) (bit_top h.authentication) in
    λ i.
    record {
      source = said h.source r.b7 i;
      destination = said h.destination r.b6 i;
      priority = said h.priority r.b5 i;
      timestamp = said h.timestamp r.b4 i;
      zone = said h.zone r.b3 i;
      session_name = said h.session_name r.b2 i;
      domain = said h.domain r.b1 i;
      authentication = said h.authentication r.b0 i;
    }
  where
    said : {x : ℕ} (b : Bool) → x ≡ bit b → eqb x 1 ≡ b
    said b e = ap (λ (n : ℕ). eqb n 1) e ∙ bit_of b

pub flag_top : (h : Present) → flag_octet h < 256
flag_top h =
    omega (
      arith,
      bit_top h.source,
      bit_top h.destination,
      bit_top h.priority,
      bit_top h.timestamp,
      bit_top h.zone,
      bit_top h.session_name,
      bit_top h.domain,
      bit_top h.authentication,
    )
