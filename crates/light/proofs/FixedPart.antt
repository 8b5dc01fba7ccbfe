-- The fixed part if all of it is there: none of its steps refuses, and the reading after it goes on at octet 27.
-- Assumes nothing.
use Prim.Native.Nat.{ℕ, ◌+◌, ◌*◌, ◌/◌, ◌%◌, ◌≤◌, ◌<◌}
use mathlib.Core.Path.{◌≡◌, refl, ap, sym, ◌∙◌}
use mathlib.Core.Bool.{not}
use mathlib.Core.List.{List}
use native.Mathlib.Omega.{arith}
use lib.ListN.{length}
use borrow.Author.Tests.{lt-ltb, le-leb, eq-eqb, ne_eqb}
use Rattle.octets.specs.Octets.{octet_at, number}
use Rattle.walk.specs.declared.Settings.{Settings}
use Rattle.walk.specs.Walk.{Reading, goes, header_bound, octets, field_from, begun}
use Rattle.walk.proofs.Steps.{octets_goes, check_ok, field_goes}
use Rattle.packet.specs.FixedPart.{after_sdu, after_area, after_service, after_operation, after_version, after_session, after_secondary}
use Rattle.packet.specs.FixedPart.{after_qualifier, after_transaction, after_presence, routing_end, fixed_end, fixed_of, present_of, flags_of}
use Rattle.packet.specs.Reading.{primary_tests, start_at}
use Rattle.light.specs.Light.{Ready, fixed_here}

step :
    (p : List ℕ) (n at : ℕ) {w : Reading} → w ≡ goes at → at + n ≤ 262 → at + n ≤ length p → octets header_bound p n w ≡ goes (at + n)
step p n at e l m = ap (octets header_bound p n) e ∙ octets_goes header_bound p n (goes at) refl l m

module _
    (s : Settings)
    (p : List ℕ)
    (long : 27 ≤ length p)
    (t0 : 1 ≤ s.t)
    (t1 : s.t ≤ 16)
    (t2 : s.profile ≤ 1)
    (v : octet_at p 0 < 32)
    (f : octet_at p 0 / 8 % 2 ≡ 1)
    (a : number 2 p 0 % 2048 ≡ 2047 → ⊥)
    (l : length p ≡ number 2 p 4 + 7)
    (b : octet_at p 6 < 22)
    (e : octet_at p 14 / 8 % 4 < 3) where
  begun_is : begun s ≡ goes 6
  unfolding begun
  begun_is =
      check_ok _ 15 _ (le-leb s.profile 1 t2) ∙ (check_ok _ 15 _ (le-leb s.t 16 t1) ∙ check_ok _ 15 _ (le-leb 1 s.t t0))

  start_is : start_at s p ≡ goes 6
  unfolding primary_tests
  start_is =
      check_ok _ 27 _ (le-leb (length p) (number 2 p 4 + 7) (omega (arith, l)))
      ∙ (check_ok _ 5 _ (le-leb (number 2 p 4 + 7) (length p) (omega (arith, l)))
      ∙ (check_ok _ 4 _ (ap not (ne_eqb (number 2 p 0 % 2048) 2047 a))
      ∙ (check_ok _ 3 _ (eq-eqb (octet_at p 0 / 8 % 2) 1 f)
      ∙ (check_ok _ 2 _ (lt-ltb (octet_at p 0) 32 v) ∙ (check_ok _ 1 _ (le-leb 6 (length p) (omega arith)) ∙ begun_is)))))

  sdu_is : after_sdu header_bound p (goes 6) ≡ goes 7
  unfolding after_sdu
  sdu_is =
      check_ok _ 8 _ (lt-ltb (octet_at p 6 % 32) 22 (omega arith))
      ∙ (check_ok _ 7 _ (lt-ltb (octet_at p 6) 32 (omega arith)) ∙ step p 1 6 refl (omega arith) (omega arith))

  area_is : after_area header_bound p (goes 6) ≡ goes 9
  unfolding after_area
  area_is = step p 2 7 sdu_is (omega arith) (omega arith)

  service_is : after_service header_bound p (goes 6) ≡ goes 11
  unfolding after_service
  service_is = step p 2 9 area_is (omega arith) (omega arith)

  operation_is : after_operation header_bound p (goes 6) ≡ goes 13
  unfolding after_operation
  operation_is = step p 2 11 service_is (omega arith) (omega arith)

  version_is : after_version header_bound p (goes 6) ≡ goes 14
  unfolding after_version
  version_is = step p 1 13 operation_is (omega arith) (omega arith)

  session_is : after_session header_bound p (goes 14) ≡ goes 15
  unfolding after_session
  session_is = check_ok _ 9 _ (lt-ltb (octet_at p 14 / 8 % 4) 3 e) ∙ step p 1 14 refl (omega arith) (omega arith)

  secondary_is : after_secondary header_bound p (goes 14) ≡ goes 16
  unfolding after_secondary
  secondary_is =
      let e = step p 1 15 session_is (omega arith) (omega arith) in
      ap (field_from (goes 14)) e ∙ field_goes (goes 14) (goes 16) refl

  qualifier_is : after_qualifier header_bound p (goes 14) ≡ goes 18
  unfolding after_qualifier
  qualifier_is = step p 2 16 secondary_is (omega arith) (omega arith)

  routing_is : routing_end header_bound p (goes 6) ≡ goes 18
  routing_is = ap (after_qualifier header_bound p) version_is ∙ qualifier_is

  transaction_is : after_transaction header_bound p (goes 18) ≡ goes 26
  unfolding after_transaction
  transaction_is = step p 8 18 refl (omega arith) (omega arith)

  presence_is : after_presence header_bound p (goes 18) ≡ goes 27
  unfolding after_presence
  presence_is = step p 1 26 transaction_is (omega arith) (omega arith)

  after_is : fixed_end header_bound p (goes 6) ≡ goes 27
  after_is = ap (after_presence header_bound p) routing_is ∙ presence_is

  has_is : present_of header_bound p (goes 6) ≡ flags_of (octet_at p 26)
  unfolding present_of
  has_is =
      ap (λ (w : Reading). flags_of (octet_at p (after_transaction header_bound p w).at)) routing_is
      ∙ ap (λ (w : Reading). flags_of (octet_at p w.at)) transaction_is

  fixed_is : fixed_of header_bound p (goes 6) ≡ fixed_here p
  unfolding fixed_of
  fixed_is = rw (sdu_is, area_is, service_is, operation_is, version_is, session_is, secondary_is, qualifier_is)

  pub ready_is : Ready s p
  ready_is = record { small = t1; long = long; start = start_is; after = after_is; fixed = fixed_is; has = has_is }

-- a number of two octets, one of four as two of two, and one of eight as two of four
pub number_two : (p : List ℕ) (at : ℕ) {x y : ℕ} → x ≡ octet_at p at → y ≡ octet_at p (at + 1) → x * 256 + y ≡ number 2 p at
unfolding number
number_two p at {x} {y} e f =
    let a : at + 0 ≡ at = omega arith in
    let b : x ≡ octet_at p (at + 0) = e ∙ ap (octet_at p) (sym a) in
    omega (arith, b, f)

pub number_four : (p : List ℕ) (at : ℕ) {x y : ℕ} → x ≡ number 2 p at → y ≡ number 2 p (at + 2) → x * 65536 + y ≡ number 4 p at
unfolding number
number_four p at {x} {y} e f =
    let a : at + 2 + 0 ≡ at + 2 = omega arith in
    let b : at + 2 + 1 ≡ at + 3 = omega arith in
    let c : octet_at p (at + 2 + 0) ≡ octet_at p (at + 2) = ap (octet_at p) a in
    let d : octet_at p (at + 2 + 1) ≡ octet_at p (at + 3) = ap (octet_at p) b in
    omega (arith, c, d, e, f)

pub number_eight : (p : List ℕ) {x y : ℕ} → x ≡ number 4 p 18 → y ≡ number 4 p 22 → x * 4294967296 + y ≡ number 8 p 18
unfolding number
number_eight p e f = rw (e, f) (omega arith)
