-- What holds of each number by which a field of the secondary header is refused holds of a reading's number after them, if it held
-- before: each step keeps the number or gives one of those.
-- Assumes nothing.
use Prim.Native.Nat.{ℕ, zero, suc, ◌+◌}
use mathlib.Core.Path.{◌≡◌, refl}
use mathlib.Core.Bool.{Bool, true, false}
use mathlib.Core.List.{List}
use lib.ListN.{length}
use lib.Dec.{leb, eqb}
use Rattle.octets.specs.Octets.{pick, octet_at}
use Rattle.walk.specs.declared.Settings.{Settings}
use Rattle.walk.specs.declared.Bound.{Bound}
use Rattle.walk.specs.Walk.{Reading, Step, goes, refused, going, header_bound, past, octets, check, field_from, uinteger, begun}
use Rattle.fields.specs.Fields.{opt, block, blob, text, marked_text, part, Parts, parts_most, no_parts, part_at, parts_to, domain}
use Rattle.packet.specs.declared.Present.{Present}
use Rattle.packet.specs.FixedPart.{octet_field, wide_field, after_sdu, after_area, after_service, after_operation, after_version, after_session}
use Rattle.packet.specs.FixedPart.{after_secondary, after_qualifier, after_transaction, after_presence, fixed_end}
use Rattle.format.proofs.Encoding.{strict, encoding}
use Rattle.packet.specs.Reading.{wanted, primary_tests, segmented, ids_of, texts_of, body_test, start_at, has_at, texts_at, ended}

-- what holds of both sides of a choice
pub picked : {A : Type 0} (F : A → Type 0) (b : Bool) (x y : A) → F x → F y → F (pick b x y)
picked F true x y f g = f
picked F false x y f g = g

-- the numbers by which a field within a bound is refused, but for those of the fixed part, and none; 10 only if some octets write no UInteger
pub record OfContents (s : Settings) (bound : Bound) (P : ℕ → Type 0) : Type 0 where
  pub none : P 0
  pub six : P 6
  pub over : P (past bound)
  pub ten : strict s ≡ true → P 10
  pub eleven : P 11
  pub thirteen : P 13
  pub twenty_eight : P 28

-- a packet's: those of the fixed part with them, and 14
pub record OfFields (s : Settings) (P : ℕ → Type 0) : Type 0 where
  pub none : P 0
  pub six : P 6
  pub seven : P 7
  pub eight : P 8
  pub nine : P 9
  pub ten : strict s ≡ true → P 10
  pub eleven : P 11
  pub twelve : P 12
  pub thirteen : P 13
  pub fourteen : P 14
  pub twenty_eight : P 28

contents : {s : Settings} {P : ℕ → Type 0} → OfFields s P → OfContents s header_bound P
contents k =
    record {
      none = k.none;
      six = k.six;
      over = k.twelve;
      ten = k.ten;
      eleven = k.eleven;
      thirteen = k.thirteen;
      twenty_eight = k.twenty_eight;
    }

-- those of the settings and the primary header; 5 and 27 only if the slice is too short or too long
pub record OfStart (p : List ℕ) (P : ℕ → Type 0) : Type 0 where
  pub fifteen : P 15
  pub one : P 1
  pub two : P 2
  pub three : P 3
  pub four : P 4
  pub five : leb (wanted p) (length p) ≡ false → P 5
  pub twenty_seven : leb (length p) (wanted p) ≡ false → P 27

module _ (P : ℕ → Type 0) where
  abbrev Ok : Reading → Type 0
  Ok w = P w.refused

  pub check_by : (b : Bool) (n : ℕ) (w : Reading) → (b ≡ false → P n) → Ok w → Ok (check b n w)
  unfolding check
  check_by b n w f h = picked Ok (going w) _ w (go b f) h
    where
      go : (c : Bool) → (c ≡ false → P n) → Ok (pick c w (refused w.at n))
      go true g = h
      go false g = g refl

  pub check_ok : (b : Bool) (n : ℕ) (w : Reading) → P n → Ok w → Ok (check b n w)
  check_ok b n w f h = check_by b n w (λ e. f) h

  field_ok : (w r : Reading) → Ok r → Ok (field_from w r)
  unfolding field_from
  field_ok w r h = picked Ok (going r) r (refused w.at r.refused) h h

  -- a step that keeps it
  abbrev Keeps : {A : Type 0} → (Reading → Step A) → Type 0
  Keeps step = (w : Reading) → Ok w → Ok (step w).walk

  pub opt_ok : {A : Type 0} (there : Bool) (none : A) (step : Reading → Step A) → Keeps step → Keeps (opt there none step)
  opt_ok {A = A} there none step f w h =
      picked (λ (x : Step A). Ok x.walk) there (step w) (record { walk = w; value = none }) (f w h) h

  module _ (s : Settings) (bound : Bound) (k : OfContents s bound P) (p : List ℕ) where
    octets_ok : (n : ℕ) (w : Reading) → Ok w → Ok (octets bound p n w)
    unfolding octets
    octets_ok n w h =
        picked Ok (going w) _ w
        (picked Ok (leb (w.at + n) bound.end) _ (refused w.at (past bound))
        (picked Ok (leb (w.at + n) (length p)) (goes (w.at + n)) (refused w.at 6) k.none k.six) k.over) h

    pub number_ok : Keeps (uinteger s bound p)
    number_ok = (encoding s).numbers bound P k.none k.six k.over k.ten p

    block_ok : (n : ℕ) → Keeps (block n bound p)
    unfolding block
    block_ok n w h = octets_ok n w h

    blob_ok : Keeps (blob s bound p)
    unfolding blob
    blob_ok w h = field_ok w _ (octets_ok (uinteger s bound p w).value (uinteger s bound p w).walk (number_ok w h))

    pub text_ok : Keeps (text s bound p)
    unfolding text
    text_ok w h = check_ok _ 28 _ k.twenty_eight (blob_ok w h)

    part_ok : Keeps (part s bound p)
    unfolding part marked_text
    part_ok w h = field_ok w _ (text_ok _ (check_ok (eqb (octet_at p w.at) 1) 11 (octets bound p 1 w) k.eleven (octets_ok 1 w h)))

    parts_ok : (n : ℕ) (d : Step Parts) → Ok d.walk → Ok (parts_to s bound p n d).walk
    unfolding parts_to part_at
    parts_ok zero d h = h
    parts_ok (suc n) d h = part_ok (parts_to s bound p n d).walk (parts_ok n d h)

    domain_ok : Keeps (domain s bound p)
    unfolding domain
    domain_ok w h =
        picked (λ (x : Step Parts). Ok x.walk) (leb (uinteger s bound p w).value parts_most) _ _
        (parts_ok (uinteger s bound p w).value (record { walk = (uinteger s bound p w).walk; value = no_parts (uinteger s bound p w).value }) (number_ok w h))
        (check_ok false 13 (uinteger s bound p w).walk k.thirteen (number_ok w h))

    octet_ok : Keeps (octet_field bound p)
    unfolding octet_field
    octet_ok w h = octets_ok 1 w h

    wide_ok : (n : ℕ) → Keeps (wide_field n bound p)
    unfolding wide_field
    wide_ok n w h = octets_ok n w h

    fixed_ok : P 7 → P 8 → P 9 → (w : Reading) → Ok w → Ok (fixed_end bound p w)
    unfolding after_sdu after_area after_service after_operation after_version after_session after_secondary after_qualifier after_transaction after_presence
    fixed_ok seven eight nine w h =
        octets_ok 1 _
        (octets_ok 8 _
        (octets_ok 2 _
        (field_ok _ _
        (octets_ok 1 _
        (check_ok _ 9 _ nine
        (octets_ok 1 _
        (octets_ok 1 _
        (octets_ok 2 _
        (octets_ok 2 _ (octets_ok 2 _ (check_ok _ 8 _ eight (check_ok _ 7 _ seven (octets_ok 1 w h)))))))))))))

    ids_ok : (q : Bool) (h : Present) → Keeps (ids_of s bound q h p)
    unfolding ids_of
    ids_ok q h w o =
        opt_ok h.priority 0 (uinteger s bound p) number_ok _
        (opt_ok q 0 (wide_field 4 bound p) (wide_ok 4) _
        (opt_ok h.destination 0 (octet_field bound p) octet_ok _ (opt_ok h.source 0 (octet_field bound p) octet_ok w o)))

    pub texts_ok : (h : Present) → Keeps (texts_of s bound h p)
    unfolding texts_of
    texts_ok h w o =
        opt_ok h.authentication _ (blob s bound p) blob_ok _
        (opt_ok h.domain _ (domain s bound p) domain_ok _
        (opt_ok h.session_name _ (text s bound p) text_ok _
        (opt_ok h.zone _ (text s bound p) text_ok _ (opt_ok h.timestamp _ (block s.t bound p) (block_ok s.t) w o))))

-- ---- the stages of a packet

module _ (s : Settings) (P : ℕ → Type 0) (k : OfFields s P) (p : List ℕ) where
  pub fields_keep : P (start_at s p).refused → P (ended s p).refused
  unfolding body_test
  fields_keep h =
      let c = contents k in
      let f = fixed_ok P s header_bound c p k.seven k.eight k.nine (start_at s p) h in
      let a = texts_ok P s header_bound c p (has_at s p) _ (ids_ok P s header_bound c p (segmented p) (has_at s p) _ f) in
      picked (λ (w : Reading). P w.refused) (segmented p) _ (texts_at s p).walk (check_ok P _ 14 (texts_at s p).walk k.fourteen a) a

  pub start_has : OfStart p P → P (start_at s p).refused
  unfolding primary_tests begun
  start_has o =
      check_by P _ 27 _ o.twenty_seven
      (check_by P _ 5 _ o.five
      (check_ok P _ 4 _ o.four
      (check_ok P _ 3 _ o.three
      (check_ok P _ 2 _ o.two
      (check_ok P _ 1 _ o.one
      (check_ok P _ 15 _ o.fifteen (check_ok P _ 15 _ o.fifteen (check_ok P _ 15 (goes 6) o.fifteen k.none))))))))

  -- the number that reading is refused by, 0 if it is not
  pub ended_has : OfStart p P → P (ended s p).refused
  ended_has o = fields_keep (start_has o)
