-- The writer accepts exactly the values in range whose domain lengths add up, where there is room and no zone; the old one with a zone too.
-- Assumes nothing.
use Prim.Native.Nat.{ℕ, ◌≤◌}
use mathlib.Core.Path.{◌≡◌, refl, ap, ◌∙◌}
use mathlib.Core.Logic.{◌↔◌}
use mathlib.Core.Bool.{Bool, true, false}
use mathlib.Core.List.{List}
use native.Mathlib.Omega.{arith}
use lib.ListN.{length}
use lib.Dec.{leb}
use borrow.Author.Tests.{leb-true, le-leb, eq-eqb}
use Rattle.octets.specs.Octets.{pick, Octets, most32}
use Rattle.walk.specs.declared.Settings.{Settings}
use Rattle.walk.specs.declared.Tested.{Tested}
use Rattle.walk.specs.Profile.{fixed_profile}
use Rattle.walk.specs.Walk.{none_failed, timestamp_least, timestamp_most}
use Rattle.fields.specs.Fields.{parts_most}
use Rattle.packet.specs.Format.{Values, segment, secondary_octets, octets_of, header_most, packet_most}
use Rattle.packet.specs.Numbers.{count_most}
use Rattle.write.specs.declared.HeaderValues.{HeaderValues}
use Rattle.write.specs.declared.PacketValues.{PacketValues}
use Rattle.write.specs.Given.{Lent, head_of, packet_of, header_checks, packet_checks}
use Rattle.write.specs.Writing.{settings_test, zone_fits, zone_test, parts_test, text_test, body_fits, given_packet, size_tests, value_refusal, write_refusal}
use Rattle.write.proofs.Tests.{unless_fine, unless_true, AllHold, unless_all_fine, unless_all_true}
use Rattle.write.proofs.Answers.{secondary_length}
use Rattle.write.specs.Lending.{Bits64, LentOctets}
use Rattle.two_way.specs.Writable.{Writable}
use Rattle.two_way.proofs.Fits.{number_opt, opt_number_lem, opt_parts}
use Rattle.two_way.proofs.Headers.{PlainTexts, texts28, checks_sum, checks_range, range_checks, range_utf8}
use Rattle.two_way.proofs.Texts.{lent_texts}

-- 14, each way
body_some : (b : Bool) (n : ℕ) → pick b (leb 1 n) true ≡ true → b ≡ true → 1 ≤ n
body_some true n h e = leb-true 1 n h
body_some false n h e = let z : ◌≡◌ {A = ℕ} 0 1 = cc in absurd (omega arith)

some_body : (b : Bool) (n : ℕ) → (b ≡ true → 1 ≤ n) → pick b (leb 1 n) true ≡ true
some_body true n h = le-leb 1 n (h refl)
some_body false n h = refl

module _ (old : Bool) (s : Settings) (v : HeaderValues) (o : PacketValues) (t : Lent) (body : List ℕ) (room : ℕ) where
  abbrev whole : Values
  whole = given_packet v o t body

  -- what is accepted can be written; what is there of octets of any value is octets
  pub accepted_plain :
      PlainTexts (head_of v t) → Octets body → Bits64 v.transaction → (write_refusal old s v o t body room).number ≡ 0 →
      Writable old s v o t body room
  unfolding write_refusal size_tests value_refusal text_test parts_test zone_test settings_test packet_of packet_checks AllHold
  accepted_plain p q w z =
      let a = unless_fine (leb (length (octets_of s whole)) room) 20 _ (eq-eqb (write_refusal old s v o t body room).number 0 z) in
      let b = unless_fine (body_fits o.flags (length body)) 13 _ a.before in
      let c = unless_fine (leb (length (secondary_octets s whole)) header_most) 11 _ b.before in
      let d = unless_fine (leb (length (octets_of s whole)) packet_most) 22 _ c.before in
      let u = unless_all_fine (texts28 s v t) 27 _ d.before in
      let e = unless_fine (leb (length t.lengths) parts_most) 12 _ u.0 in
      let y = unless_fine (zone_fits old v.has) 29 _ e.before in
      let f = unless_all_fine (packet_checks o) 21 _ y.before in
      let g = unless_all_fine (header_checks s v t) 21 _ f.0 in
      let k = unless_fine (leb s.profile fixed_profile) 14 _ g.0 in
      let i = unless_fine (leb s.t timestamp_most) 14 _ k.before in
      let j = unless_fine (leb timestamp_least s.t) 14 _ i.before in
      record {
        range =
            record {
              settings =
                  record {
                    t_low = leb-true timestamp_least s.t j.held;
                    t_top = leb-true s.t timestamp_most i.held;
                    profile_top = leb-true s.profile fixed_profile k.held;
                  };
              head = checks_range s v t g.1 u.1 (leb-true (length t.lengths) parts_most e.held) w p;
              flags = omega (arith, leb-true o.flags 3 f.1.0);
              sequence_count = omega (arith, leb-true o.sequence_count.0 count_most f.1.1.0);
              counter = number_opt (segment o.flags) o.counter.0 most32 4294967296 refl f.1.1.1.0;
              body = q;
              packet = leb-true (length (octets_of s whole)) packet_most d.held;
              header = leb-true (length (secondary_octets s whole)) header_most c.held;
              some = body_some (segment o.flags) (length body) b.held;
            };
        zone = y.held;
        adds = checks_sum s v t g.1;
        fits = leb-true (length (octets_of s whole)) room a.held;
      }

  -- what can be written is accepted
  module _ (k : Writable old s v o t body room) where
    header_checks_lem : AllHold (header_checks s v t)
    unfolding packet_of
    header_checks_lem =
        range_checks s v t k.range.head k.adds (omega (arith, k.range.header, secondary_length s whole))

    utf8_checks_lem : AllHold (texts28 s v t)
    unfolding packet_of
    utf8_checks_lem = range_utf8 s v t k.range.head k.adds (omega (arith, k.range.header, secondary_length s whole))

    packet_checks_lem : AllHold (packet_checks o)
    unfolding packet_of packet_checks AllHold
    packet_checks_lem = (
      le-leb o.flags 3 (omega (arith, k.range.flags)),
      (
        le-leb o.sequence_count.0 count_most (omega (arith, k.range.sequence_count)),
        (opt_number_lem (segment o.flags) o.counter.0 most32 4294967296 refl k.range.counter, tt),
      ),
    )

    parts_check : length t.lengths ≤ parts_most
    unfolding packet_of head_of
    parts_check = opt_parts t.lengths t.domain k.adds v.has.domain k.range.head.domain

    settings_fine : settings_test s none_failed ≡ none_failed
    unfolding settings_test
    settings_fine =
        unless_true (leb s.profile fixed_profile) 15 _ (le-leb s.profile fixed_profile k.range.settings.profile_top)
        ∙ unless_true (leb s.t timestamp_most) 15 _ (le-leb s.t timestamp_most k.range.settings.t_top)
        ∙ unless_true (leb timestamp_least s.t) 15 _ (le-leb timestamp_least s.t k.range.settings.t_low)

    values_fine : value_refusal old s v o t ≡ none_failed
    unfolding value_refusal text_test parts_test zone_test
    values_fine =
        unless_all_true (texts28 s v t) 28 _ utf8_checks_lem
        ∙ unless_true (leb (length t.lengths) parts_most) 13 _ (le-leb (length t.lengths) parts_most parts_check)
        ∙ unless_true (zone_fits old v.has) 30 _ k.zone
        ∙ unless_all_true (packet_checks o) 22 _ packet_checks_lem
        ∙ unless_all_true (header_checks s v t) 22 _ header_checks_lem
        ∙ settings_fine

    pub written_fine : write_refusal old s v o t body room ≡ none_failed
    unfolding write_refusal size_tests packet_of
    written_fine =
        unless_true (leb (length (octets_of s whole)) room) 21 _ (le-leb (length (octets_of s whole)) room k.fits)
        ∙ unless_true (body_fits o.flags (length body)) 14 _ (some_body (segment o.flags) (length body) k.range.some)
        ∙ unless_true (leb (length (secondary_octets s whole)) header_most) 12 _
        (le-leb (length (secondary_octets s whole)) header_most k.range.header)
        ∙ unless_true (leb (length (octets_of s whole)) packet_most) 23 _ (le-leb (length (octets_of s whole)) packet_most k.range.packet)
        ∙ values_fine

  pub accepts : Writable old s v o t body room → (write_refusal old s v o t body room).number ≡ 0
  accepts k = ap (λ (r : Tested). r.number) (written_fine k)

  -- so, of arguments as a call has them, exactly what can be written
  pub writes_exactly :
      LentOctets t body → Bits64 v.transaction → (write_refusal old s v o t body room).number ≡ 0 ↔ Writable old s v o t body room
  writes_exactly p w = (accepted_plain (lent_texts v t body p) p.body w, accepts)
