-- By computation: the packet of SPEC F-14, written into 27 and into 30 octets, is its packet and the rest as it was. So a writer that
-- writes nothing is refuted. And a segment with every optional field, a zone among them, can be written by the old writer: the laws are not
-- empty.
-- Assumes nothing.
use Prim.Native.Nat.{ℕ, zero, suc, ◌/◌, ◌%◌}
use mathlib.Core.Path.{◌≡◌, refl, ap, sym, ◌∙◌}
use mathlib.Core.Bool.{true, false}
use mathlib.Core.List.{List, [], ◌∷◌, ◌++◌, map}
use native.Mathlib.Omega.{arith}
use lib.ListN.{length, take}
use Rattle.octets.specs.Octets.{octet_at, wide}
use Rattle.utf8.specs.Test.{ended, accepts as accepts_from, is_text}
use Rattle.walk.specs.Walk.{unless, no_refusal, refusal}
use Rattle.fields.specs.Form.{split, all_text}
use Rattle.packet.specs.Answer.{Header}
use Rattle.packet.specs.Figure14.{settings, packet, zeros}
use Rattle.packet.specs.Format.{presence, identification, fixed_octets, front_octets, counter_octets, back_octets, secondary_octets, data_octets, octets_of}
use Rattle.packet.specs.Reading.{primary_of, accepted_header, read_packet}
use Rattle.write.specs.declared.HeaderValues.{HeaderValues}
use Rattle.write.specs.declared.PacketValues.{PacketValues}
use Rattle.write.specs.Answer.{Written}
use Rattle.write.specs.Figure14.{header, own, texts}
use Rattle.write.specs.Given.{Lent, lent, head_of, packet_of, sum, name_checks, routing_checks, id_checks, text_checks, utf8_checks, header_checks, packet_checks, unless_all}
use Rattle.write.specs.Writing.{settings_test, zone_test, parts_test, text_test, given_packet, size_tests, value_refusal, write_refusal, write_answer, write_output}
use Rattle.format.proofs.Start.{answer}
use Rattle.format.proofs.Examples.{two, full, full_in_range, full_octets}
use Rattle.two_way.specs.Writable.{Writable}
use Rattle.two_way.specs.Same.{written, SameRead}
use Rattle.two_way.proofs.Accepts.{accepts}
use Rattle.two_way.proofs.Back.{writable_back}

-- ---- figure 14

-- what writing it into n zeros answers, and the output afterwards
abbrev answers : ℕ → Written
answers n = write_answer false settings header own texts [] (length (zeros n))

abbrev outputs : ℕ → List ℕ
outputs n = write_output false settings header own texts [] (zeros n)

-- 27 octets are room enough, what is after them stays; with one less it is 21, and all is as it was
pub figure_written :
    (map answers (27 ∷ 30 ∷ 26 ∷ [])
    ≡ record { refusal = no_refusal; length = 27 } ∷ record { refusal = no_refusal; length = 27 }
    ∷ record { refusal = refusal 21; length = 0 }
    ∷ [])
    × ((outputs 27 ≡ packet) × ((outputs 30 ≡ packet ++ (0 ∷ 0 ∷ 0 ∷ [])) × (outputs 26 ≡ zeros 26)))
unfolding write_answer write_output write_refusal size_tests value_refusal parts_test zone_test text_test utf8_checks all_text is_text accepts_from ended settings_test
    unless_all unless header_checks name_checks routing_checks id_checks text_checks packet_checks head_of packet_of split sum octets_of identification
    data_octets secondary_octets fixed_octets presence front_octets counter_octets back_octets wide
figure_written = (refl, (refl, (refl, refl)))

-- ---- a writer that writes nothing

-- its output is not the promised one
pub no_silent_output : outputs 27 ≡ zeros 27 → ⊥
no_silent_output e =
    let z : octet_at packet 0 ≡ octet_at (zeros 27) 0 = ap (λ (l : List ℕ). octet_at l 0) (sym figure_written.1.0 ∙ e) in
    omega arith

-- and whatever length it answers, what it left in the output does not read back
first_zero : (n : ℕ) → octet_at (take n (zeros 27)) 0 ≡ 0
first_zero zero = refl
first_zero (suc n) = refl

pub no_silent_writer : (n : ℕ) → SameRead (take n (zeros 27)) (read_packet settings (take n (zeros 27))) header own texts [] → ⊥
unfolding accepted_header primary_of
no_silent_writer n k =
    let a : (read_packet settings (take n (zeros 27))).primary.packet_type ≡ octet_at (take n (zeros 27)) 0 / 16 % 2 =
    ap (λ (h : Header). h.primary.packet_type) (answer settings (take n (zeros 27)) k.no_refusal_lem) in
    omega (arith, k.packet_type, first_zero n)

-- ---- a first segment with every optional field, by the old writer

abbrev pub full_header : HeaderValues
full_header =
    record {
      packet_type = 0;
      apid = record { 0 = 2046 };
      sdu = 21;
      area = 65535;
      service = 0;
      operation = 258;
      version = 255;
      error = 1;
      qos = 3;
      session = 2;
      secondary_apid = record { 0 = 2047 };
      qualifier = 1;
      transaction = 18446744073709551615;
      has =
          record {
            source = true;
            destination = true;
            priority = true;
            timestamp = true;
            zone = true;
            session_name = true;
            domain = true;
            authentication = true;
          };
      source = 255;
      destination = 1;
      priority = 300;
    }

abbrev pub full_own : PacketValues
full_own = record { flags = 1; sequence_count = record { 0 = 16383 }; counter = record { 0 = 4294967295 } }

abbrev pub full_texts : Lent
full_texts = lent (1 ∷ 2 ∷ []) (65 ∷ []) [] (66 ∷ []) (1 ∷ 0 ∷ []) (255 ∷ 0 ∷ [])

abbrev pub full_body : List ℕ
full_body = 7 ∷ []

pub full_given : given_packet full_header full_own full_texts full_body ≡ full
unfolding packet_of head_of split
full_given = refl

pub full_writable : Writable true two full_header full_own full_texts full_body (length (zeros 60))
unfolding packet_of head_of split sum
full_writable = record { range = full_in_range; zone = refl; adds = refl; fits = omega (arith, ap length full_octets) }

pub full_back :
    SameRead (written true two full_header full_own full_texts full_body (zeros 60))
    (read_packet two (written true two full_header full_own full_texts full_body (zeros 60))) full_header full_own full_texts full_body
full_back =
    writable_back true two full_header full_own full_texts full_body (zeros 60) full_writable
    (accepts true two full_header full_own full_texts full_body (length (zeros 60)) full_writable)
