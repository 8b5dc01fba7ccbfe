-- The fixed part of the secondary header as one field: SDU type, area, service, operation, area version, the packed two octets,
-- qualifier, transaction id, presence flags.
-- Assumes nothing.
use Prim.Native.Nat.{ℕ, ◌+◌, ◌*◌, ◌/◌, ◌%◌, ◌≤◌, ◌<◌}
use mathlib.Core.Path.{◌≡◌, refl, ap}
use mathlib.Core.List.{List, [], ◌∷◌}
use native.Mathlib.Omega.{arith}
use lib.Dec.{ltb}
use borrow.Author.Tests.{ltb-true, lt-ltb}
use Rattle.octets.specs.Octets.{wide}
use Rattle.walk.specs.declared.Bound.{Bound}
use Rattle.packet.specs.declared.Present.{Present}
use Rattle.packet.specs.FixedPart.{flags_of}
use Rattle.format.proofs.Field.{Field, seq}
use Rattle.format.proofs.Combine.{tested, whole, via, formed}
use Rattle.format.proofs.Numbers.{wide_f, octet_f}
use Rattle.format.proofs.Flags.{flag_octet, octet_flags, flags_octet, flag_top}

-- error, QoS level, session, secondary APID, in two octets
abbrev pub Packed : Type 0
Packed = ℕ × (ℕ × (ℕ × ℕ))

abbrev pub word : Packed → ℕ
word x = x.0 * 32768 + x.1.0 * 8192 + x.1.1.0 * 2048 + x.1.1.1

abbrev pub unpack : ℕ × ℕ → Packed
unpack x = (x.0 / 128, (x.0 / 32 % 4, (x.0 / 8 % 4, x.0 % 8 * 256 + x.1)))

abbrev pub pack : Packed → ℕ × ℕ
pack x = (word x / 256, word x % 256)

abbrev pub PackedFit : Packed → Type 0
PackedFit x = (x.0 < 2) × ((x.1.0 < 4) × ((x.1.1.0 ≤ 2) × (x.1.1.1 < 2048)))

pub pack_unpack : (h l : ℕ) → h < 256 → l < 256 → pack (unpack (h, l)) ≡ (h, l)
pack_unpack h l a b =
    let x : word (unpack (h, l)) / 256 ≡ h = omega arith in
    let y : word (unpack (h, l)) % 256 ≡ l = omega arith in
    λ i. (x i, y i)

pub unpack_pack : (x : Packed) → PackedFit x → unpack (pack x) ≡ x
unpack_pack x f =
    let a : word x / 256 / 128 ≡ x.0 = omega (arith, f.0, f.1.0, f.1.1.0, f.1.1.1) in
    let b : word x / 256 / 32 % 4 ≡ x.1.0 = omega (arith, f.0, f.1.0, f.1.1.0, f.1.1.1) in
    let c : word x / 256 / 8 % 4 ≡ x.1.1.0 = omega (arith, f.0, f.1.0, f.1.1.0, f.1.1.1) in
    let d : word x / 256 % 8 * 256 + word x % 256 ≡ x.1.1.1 = omega (arith, f.0, f.1.0, f.1.1.0, f.1.1.1) in
    λ i. (a i, (b i, (c i, d i)))

-- SDU type, area, service, operation, area version, packed, qualifier, transaction id, presence
abbrev pub Fixed : Type 0
Fixed = ℕ × (ℕ × (ℕ × (ℕ × (ℕ × (Packed × (ℕ × (ℕ × Present)))))))

module _ (bound : Bound) (p : List ℕ) where
  -- 7, then 8
  abbrev pub first_octet : Field bound p ℕ
  first_octet = tested bound p (λ x. ltb (x % 32) 22) 7 (tested bound p (λ x. ltb x 32) 6 (octet_f bound p))

  pub first_undo : (x : ℕ) → first_octet.Fit x → x % 32 ≡ x
  first_undo x f = omega (arith, ltb-true x 32 f.0.1)

  pub sdu_fit : (x : ℕ) → x ≤ 21 → first_octet.Fit x × (x % 32 ≡ x)
  sdu_fit x l = (((omega arith, lt-ltb x 32 (omega arith)), lt-ltb (x % 32) 22 (omega arith)), omega arith)

  pub sdu_top : (x : ℕ) → first_octet.Fit x × (x % 32 ≡ x) → x ≤ 21
  sdu_top x f = omega (arith, ltb-true (x % 32) 22 f.0.1, f.1)

  abbrev pub sdu_f : Field bound p ℕ
  sdu_f =
      formed bound p (via bound p first_octet (λ x. x % 32) (λ x. x) first_undo) (wide 1) (λ x. x ≤ 21) (λ x. refl) (λ x f l. sdu_fit x f) sdu_top

  -- 9 is tested before the second octet
  abbrev pub high_octet : Field bound p ℕ
  high_octet = tested bound p (λ x. ltb (x / 8 % 4) 3) 8 (octet_f bound p)

  abbrev pub two_octets : Field bound p (ℕ × ℕ)
  two_octets = whole bound p (seq bound p high_octet (octet_f bound p))

  abbrev pub packed_via : Field bound p Packed
  packed_via = via bound p two_octets unpack pack (λ a f. pack_unpack a.0 a.1 f.0.0 f.1)

  pub packed_form : (x : Packed) → wide 2 (word x) ≡ packed_via.form x
  unfolding wide
  packed_form x = let e : word x % 256 ≡ word x % 256 % 256 = omega arith in ap (λ (n : ℕ). word x / 256 % 256 ∷ n ∷ []) e

  pub packed_fit : (x : Packed) → PackedFit x → packed_via.Fit x
  packed_fit x f =
      let s : word x / 256 / 8 % 4 < 3 = omega (arith, f.0, f.1.0, f.1.1.0, f.1.1.1) in
      let t : word x / 256 < 256 = omega (arith, f.0, f.1.0, f.1.1.0, f.1.1.1) in
      let l : word x % 256 < 256 = omega arith in
      (((t, lt-ltb (word x / 256 / 8 % 4) 3 s), l), unpack_pack x f)

  pub packed_tops : (x : Packed) → packed_via.Fit x → PackedFit x
  packed_tops x f =
      let a : word x / 256 / 128 ≡ x.0 = ap (λ (y : Packed). y.0) f.1 in
      let b : word x / 256 / 32 % 4 ≡ x.1.0 = ap (λ (y : Packed). y.1.0) f.1 in
      let c : word x / 256 / 8 % 4 ≡ x.1.1.0 = ap (λ (y : Packed). y.1.1.0) f.1 in
      let d : word x / 256 % 8 * 256 + word x % 256 ≡ x.1.1.1 = ap (λ (y : Packed). y.1.1.1) f.1 in
      let t : word x / 256 < 256 = f.0.0.0 in
      let s = ltb-true (word x / 256 / 8 % 4) 3 f.0.0.1 in
      tops (word x) x.0 x.1.0 x.1.1.0 x.1.1.1 a b c d t s
    where
      tops :
          (v e q k z : ℕ) → v / 256 / 128 ≡ e → v / 256 / 32 % 4 ≡ q → v / 256 / 8 % 4 ≡ k → v / 256 % 8 * 256 + v % 256 ≡ z → v / 256 < 256 →
          v / 256 / 8 % 4 < 3 → (e < 2) × ((q < 4) × ((k ≤ 2) × (z < 2048)))
      tops v e q k z ea eq ek ez t s = (omega arith, (omega arith, (omega arith, omega arith)))

  abbrev pub packed_f : Field bound p Packed
  packed_f = formed bound p packed_via (λ x. wide 2 (word x)) PackedFit packed_form (λ x f l. packed_fit x f) packed_tops

  -- any flags
  abbrev pub present_f : Field bound p Present
  present_f =
      formed bound p (via bound p (octet_f bound p) flags_of flag_octet octet_flags) (λ x. wide 1 (flag_octet x)) (λ x. Unit {0}) (λ x. refl)
      (λ x f l. (flag_top x, flags_octet x)) (λ x f. tt)

  abbrev pub fixed_f : Field bound p Fixed
  fixed_f =
      seq bound p sdu_f
      (seq bound p (wide_f bound p 2)
      (seq bound p (wide_f bound p 2)
      (seq bound p (wide_f bound p 2)
      (seq bound p (octet_f bound p) (seq bound p packed_f (seq bound p (wide_f bound p 2) (seq bound p (wide_f bound p 8) present_f)))))))
