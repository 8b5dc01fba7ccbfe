-- The fixed part of a PDU, both ways: the octets of values are read as those values, each at its place, and the octets at those places are
-- those of the values read. Its tests, both ways.
-- Assumes nothing.
use Prim.Native.Nat.{ℕ, ◌+◌, ◌*◌, ◌/◌, ◌%◌, ◌≤◌, ◌<◌}
use mathlib.Core.Path.{◌≡◌, ap, sym, ◌∙◌, subst}
use mathlib.Core.List.{List}
use mathlib.Core.Bool.{true}
use native.Mathlib.Omega.{arith}
use native.Mathlib.Nat.{le_antisymm}
use lib.ListN.{length, length-append}
use lib.Dec.{eqb, leb, ltb}
use borrow.Author.Tests.{eqb-true, leb-true, ltb-true, eq-eqb, le-leb, lt-ltb}
use Rattle.octets.specs.Octets.{Octets, octet_at, number, wide}
use Rattle.octets.proofs.Has.{Has, has_first, has_second, has_both, octets_append}
use Rattle.octets.proofs.Numbers.{wide_length, wide_octets, number_back, number_has}
use Rattle.walk.specs.Walk.{goes, going}
use Rattle.walk.proofs.Steps.{check_held, check_ok}
use Rattle.packet.specs.FixedPart.{flags_of}
use Rattle.format.proofs.Flags.{octet_flags, flags_octet, flag_top}
use Rattle.write.specs.Inner.{present_octet}
use Rattle.pdu.specs.Format.{Pdu, fixed_size, fixed_octets, InRange}
use Rattle.pdu.specs.Reading.{variable_of, wanted, fixed_tests, has_of}

pub fixed_long : (v : Pdu) (n : ℕ) → length (fixed_octets v n) ≡ fixed_size
unfolding fixed_octets
fixed_long v n = simp (length-append, wide_length)

pub fixed_octets_lem : (v : Pdu) (n : ℕ) → Octets (fixed_octets v n)
unfolding fixed_octets
fixed_octets_lem v n =
    octets_append (wide 1 _) _ (wide_octets 1 _)
    (octets_append (wide 2 _) _ (wide_octets 2 _)
    (octets_append (wide 2 _) _ (wide_octets 2 _)
    (octets_append (wide 2 _) _ (wide_octets 2 _)
    (octets_append (wide 1 _) _ (wide_octets 1 _)
    (octets_append (wide 1 _) _ (wide_octets 1 _)
    (octets_append (wide 8 _) _ (wide_octets 8 _)
    (octets_append (wide 1 _) _ (wide_octets 1 _) (octets_append (wide 1 _) (wide 4 _) (wide_octets 1 _) (wide_octets 4 _)))))))))

-- an octet, and the number that it writes
octet_is : (p : List ℕ) (i : ℕ) → number 1 p i ≡ octet_at p i
unfolding number
octet_is p i = let e : i + 0 ≡ i = omega arith in rw e (omega arith)

-- what the octets at the places of the fixed part say
pub record Says (p : List ℕ) (v : Pdu) (n : ℕ) : Type 0 where
  pub first : octet_at p 0 ≡ 32 + v.sdu
  pub area : number 2 p 1 ≡ v.area
  pub service : number 2 p 3 ≡ v.service
  pub operation : number 2 p 5 ≡ v.operation
  pub version : octet_at p 7 ≡ v.version
  pub packed : octet_at p 8 ≡ v.error * 128 + v.qos * 16 + v.session
  pub transaction : number 8 p 9 ≡ v.transaction
  pub has : has_of p ≡ v.has
  pub encoding : octet_at p 18 ≡ v.encoding
  pub variable : variable_of p ≡ n

module _ (p : List ℕ) (v : Pdu) (n : ℕ) where
  pub says : InRange v → n < 4294967296 → Has p 0 (fixed_octets v n) → Says p v n
  unfolding fixed_octets wide present_octet
  says r l h =
      let h1 = has_second (wide 1 (32 + v.sdu)) _ h in
      let h3 = has_second (wide 2 v.area) _ h1 in
      let h5 = has_second (wide 2 v.service) _ h3 in
      let h7 = has_second (wide 2 v.operation) _ h5 in
      let h8 = has_second (wide 1 v.version) _ h7 in
      let h9 = has_second (wide 1 (v.error * 128 + v.qos * 16 + v.session)) _ h8 in
      let h17 = has_second (wide 8 v.transaction) _ h9 in
      let h18 = has_second (wide 1 (present_octet v.has)) _ h17 in
      let h19 = has_second (wide 1 v.encoding) (wide 4 n) h18 in
      let f = sym (octet_is p 17) ∙ number_back 1 p 17 (present_octet v.has) (flag_top v.has) (has_first (wide 1 (present_octet v.has)) _ h17) in
      record {
        first = sym (octet_is p 0) ∙ number_back 1 p 0 (32 + v.sdu) (omega (arith, r.sdu)) (has_first (wide 1 (32 + v.sdu)) _ h);
        area = number_back 2 p 1 v.area (omega (arith, r.area)) (has_first (wide 2 v.area) _ h1);
        service = number_back 2 p 3 v.service (omega (arith, r.service)) (has_first (wide 2 v.service) _ h3);
        operation = number_back 2 p 5 v.operation (omega (arith, r.operation)) (has_first (wide 2 v.operation) _ h5);
        version = sym (octet_is p 7) ∙ number_back 1 p 7 v.version (omega (arith, r.version)) (has_first (wide 1 v.version) _ h7);
        packed =
            sym (octet_is p 8)
            ∙ number_back 1 p 8 (v.error * 128 + v.qos * 16 + v.session) (omega (arith, r.error, r.qos, r.session))
            (has_first (wide 1 (v.error * 128 + v.qos * 16 + v.session)) _ h8);
        transaction = number_back 8 p 9 v.transaction r.transaction (has_first (wide 8 v.transaction) _ h9);
        has = ap flags_of f ∙ flags_octet v.has;
        encoding = sym (octet_is p 18) ∙ number_back 1 p 18 v.encoding (omega (arith, r.encoding)) (has_first (wide 1 v.encoding) _ h18);
        variable = number_back 4 p 19 n l h19;
      }

  -- and so the octets there are those of the values
  pub stands : Octets p → fixed_size ≤ length p → Says p v n → Has p 0 (fixed_octets v n)
  unfolding fixed_octets wide present_octet
  stands o l s =
      let f : present_octet v.has ≡ octet_at p 17 = ap present_octet (sym s.has) ∙ octet_flags (octet_at p 17) (o 17) in
      has_both (wide 1 (32 + v.sdu)) _ (one 0 s.first (omega arith))
      (has_both (wide 2 v.area) _ (more 2 1 s.area (omega arith))
      (has_both (wide 2 v.service) _ (more 2 3 s.service (omega arith))
      (has_both (wide 2 v.operation) _ (more 2 5 s.operation (omega arith))
      (has_both (wide 1 v.version) _ (one 7 s.version (omega arith))
      (has_both (wide 1 (v.error * 128 + v.qos * 16 + v.session)) _ (one 8 s.packed (omega arith))
      (has_both (wide 8 v.transaction) _ (more 8 9 s.transaction (omega arith))
      (has_both (wide 1 (present_octet v.has)) _ (one 17 (sym f) (omega arith))
      (has_both (wide 1 v.encoding) (wide 4 n) (one 18 s.encoding (omega arith)) (more 4 19 s.variable (omega arith))))))))))
    where
      more : (k i : ℕ) {x : ℕ} → number k p i ≡ x → i + k ≤ length p → Has p i (wide k x)
      more k i e b = subst (λ (y : ℕ). Has p i (wide k y)) e (number_has k p i o b)

      one : (i : ℕ) {x : ℕ} → octet_at p i ≡ x → i + 1 ≤ length p → Has p i (wide 1 x)
      one i e b = subst (λ (y : ℕ). Has p i (wide 1 y)) (octet_is p i ∙ e) (number_has 1 p i o b)

-- ---- the tests

-- 1, 7, 8, 5 and 27 passed
pub record Opens (p : List ℕ) : Type 0 where
  pub whole : fixed_size ≤ length p
  pub version : octet_at p 0 / 32 ≡ 1
  pub sdu : octet_at p 0 % 32 < 22
  pub long : length p ≡ wanted p

module _ (p : List ℕ) where
  pub tests_only : going (fixed_tests p) ≡ true → (fixed_tests p ≡ goes fixed_size) × Opens p
  unfolding fixed_tests
  tests_only g =
      let e = check_held (leb (length p) (wanted p)) 26 _ g in
      let d = check_held (leb (wanted p) (length p)) 4 _ e.went in
      let c = check_held (ltb (octet_at p 0 % 32) 22) 7 _ d.went in
      let b = check_held (eqb (octet_at p 0 / 32) 1) 6 _ c.went in
      let a = check_held (leb fixed_size (length p)) 0 _ b.went in (
        e.same ∙ d.same ∙ c.same ∙ b.same ∙ a.same,
        record {
          whole = leb-true _ _ a.held;
          version = eqb-true _ _ b.held;
          sdu = ltb-true _ _ c.held;
          long = le_antisymm (leb-true _ _ e.held) (leb-true _ _ d.held);
        },
      )

  pub tests_back : Opens p → fixed_tests p ≡ goes fixed_size
  unfolding fixed_tests
  tests_back h =
      check_ok (leb (length p) (wanted p)) 27 _ (le-leb (length p) (wanted p) (omega (arith, h.long)))
      ∙ check_ok (leb (wanted p) (length p)) 5 _ (le-leb (wanted p) (length p) (omega (arith, h.long)))
      ∙ check_ok (ltb (octet_at p 0 % 32) 22) 8 _ (lt-ltb _ _ h.sdu)
      ∙ check_ok (eqb (octet_at p 0 / 32) 1) 7 _ (eq-eqb _ _ h.version)
      ∙ check_ok (leb fixed_size (length p)) 1 (goes fixed_size) (le-leb _ _ h.whole)
