-- What SPEC's figures on cutting show beside their numbers: figure 12's second message goes round the end, and after it the next counter is
-- 1; the laws speak of figure 8's message, and three of the wrong programs are refuted on it (E-5): a cutter that repeats packet 0, one that
-- refuses, and an invented count.
-- The header is figure 14's, H 21, and a body is so many zeros.
-- Assumes nothing.
use Prim.Native.Nat.{ℕ, zero, suc}
use mathlib.Core.Path.{◌≡◌, refl, ap, ◌∙◌}
use mathlib.Core.Bool.{false}
use mathlib.Core.List.{List}
use native.Mathlib.Omega.{arith}
use lib.ListN.{length}
use Rattle.octets.specs.Octets.{Octets, wide, number as number_at}
use Rattle.octets.proofs.Has.{octets_nil}
use Rattle.utf8.specs.Test.{ended, accepts, is_text}
use Rattle.walk.specs.Walk.{begun, check, octets, field_from, unless}
use Rattle.fields.specs.Form.{joined, split, all_text}
use Rattle.packet.specs.Figure14.{settings, zeros}
use Rattle.packet.specs.Numbers.{count_at, next_counter}
use Rattle.packet.specs.Format.{presence, identification, fixed_octets, front_octets, counter_octets, back_octets, header_octets, secondary_octets, data_octets, octets_of}
use Rattle.packet.specs.FixedPart.{after_sdu, after_area, after_service, after_operation, after_version, after_session, after_secondary, after_qualifier}
use Rattle.packet.specs.FixedPart.{after_transaction, after_presence, fixed_of, flags_of, present_of, wide_field}
use Rattle.packet.specs.Reading.{primary_tests, primary_of, ids_of, texts_of, body_test, accepted_header, read_packet}
use Rattle.sender.specs.Sending.{after_segment, after_segments, steps_of}
use Rattle.write.specs.Given.{head_of, sum, name_checks, routing_checks, id_checks, text_checks, utf8_checks, header_checks, unless_all}
use Rattle.write.specs.Writing.{settings_test, zone_test, parts_test, text_test}
use Rattle.write.specs.Lending.{Lends}
use Rattle.write.specs.Figure14.{header as values, texts}
use Rattle.cut.specs.declared.Counted.{Counted}
use Rattle.cut.specs.declared.Cut.{Cut}
use Rattle.cut.specs.Cutting.{counter_at, packets, rounded, limit_test, value_tests, message_tests, count_refusal, sender_after, count_answer, flags_at, body_start, packet_at, packet_answer}
use Rattle.fewest.specs.Figure14.{sender}
use Rattle.fewest.specs.Carrying.{body_of, first_of, Carries}
use Rattle.fewest.specs.Cutting.{number, octets_at, all_packets, AllBack}
use Rattle.fewest.proofs.ReadBack.{packets_read_back, carries}
use Rattle.fewest.proofs.Delivering.{not_refused}

-- figure 12: counters 4,294,967,295 and 0 are used, and the next is 1
pub twelve_round : (count_answer false settings 64 values texts 38 (sender 4294967295)).sender.counter.0 ≡ 1
unfolding count_answer count_refusal message_tests limit_test value_tests settings_test zone_test parts_test text_test utf8_checks all_text is_text accepts ended unless
    unless_all header_checks name_checks routing_checks id_checks text_checks sum packets rounded head_of split header_octets fixed_octets
    front_octets back_octets wide sender_after after_segments after_segment next_counter
twelve_round = refl

-- ---- figure 8's message, and the wrong programs

zeros_octets : (n : ℕ) → Octets (zeros n)
zeros_octets zero i = omega arith
zeros_octets (suc n) zero = omega arith
zeros_octets (suc n) (suc i) = zeros_octets n i

lends : Lends values texts (zeros 38)
lends =
    record {
      octets =
          record {
            timestamp = octets_nil;
            zone = octets_nil;
            session_name = octets_nil;
            domain = octets_nil;
            authentication = octets_nil;
            body = zeros_octets 38;
          };
      transaction = omega arith;
    }

counts : (count_refusal false settings 64 values texts 38 (sender 0)).number ≡ 0
unfolding count_refusal message_tests limit_test value_tests settings_test zone_test parts_test text_test utf8_checks all_text is_text accepts ended unless unless_all
    header_checks name_checks routing_checks id_checks text_checks sum packets rounded head_of split header_octets fixed_octets front_octets
    back_octets wide
counts = refl

-- the laws speak of it: its two packets read back, and carry it
pub eight_back : AllBack settings 64 values texts (zeros 38) (sender 0)
eight_back = packets_read_back false settings 64 values texts (zeros 38) (sender 0) lends counts

pub eight_carries : Carries settings (head_of values texts) (zeros 38) 64 (all_packets settings 64 values texts (zeros 38) (sender 0))
eight_carries = carries false settings 64 values texts (zeros 38) (sender 0) lends counts

-- a cutter that makes packet 0 and repeats it
abbrev pub repeated : List (List ℕ)
repeated = first_of (λ (i : ℕ). octets_at settings 64 values texts (zeros 38) (sender 0) 0) 2

repeated_long : length (joined (body_of settings) repeated) ≡ 66
unfolding first_of joined packet_at flags_at body_start packets rounded count_at counter_at steps_of head_of split octets_of identification data_octets
    secondary_octets fixed_octets presence front_octets counter_octets back_octets header_octets wide read_packet accepted_header primary_tests begun check
    octets number_at primary_of after_sdu after_area after_service after_operation after_version after_session after_secondary field_from after_qualifier after_transaction
    after_presence fixed_of flags_of present_of ids_of texts_of body_test wide_field next_counter
repeated_long = refl

-- does not carry the message: its bodies joined are 66 octets, not 38
pub repeats_refuted : Carries settings (head_of values texts) (zeros 38) 64 repeated → ⊥
repeats_refuted c =
    let e : length (joined (body_of settings) repeated) ≡ 38 = ap length c.bodies in
    omega (arith, repeated_long)

long_at :
    (length (octets_at settings 64 values texts (zeros 38) (sender 0) 0) ≡ 64)
    × (length (octets_at settings 64 values texts (zeros 38) (sender 0) 1) ≡ 36)
unfolding packet_at flags_at body_start packets rounded count_at counter_at steps_of head_of split octets_of identification data_octets secondary_octets
    fixed_octets presence front_octets counter_octets back_octets header_octets wide next_counter
long_at = (refl, refl)

-- nor does the call's promise allow it: packet 1 has 36 octets, and packet 0 has 64
pub repeats_not_promised :
    octets_at settings 64 values texts (zeros 38) (sender 0) 1 ≡ octets_at settings 64 values texts (zeros 38) (sender 0) 0 → ⊥
repeats_not_promised e = let l = ap length e in omega (arith, long_at)

eight_count : (count_answer false settings 64 values texts 38 (sender 0)).count ≡ 2
unfolding count_answer count_refusal message_tests limit_test value_tests settings_test zone_test parts_test text_test utf8_checks all_text is_text accepts ended unless
    unless_all header_checks name_checks routing_checks id_checks text_checks sum packets rounded head_of split header_octets fixed_octets
    front_octets back_octets wide
eight_count = refl

eight_number : number settings 64 values texts (zeros 38) (sender 0) ≡ 2
unfolding packets rounded head_of split header_octets fixed_octets front_octets back_octets wide
eight_number = refl

-- a cutter that refuses what was counted, with room for it, is not promised
pub refuser_refuted :
    (r : Cut) → (r.refusal.number ≡ 0 → ⊥) → r ≡ packet_answer false settings 64 values texts (zeros 38) (sender 0) 0 64 → ⊥
unfolding packet_answer
refuser_refuted r n e =
    n
    (ap (λ (x : Cut). x.refusal.number) e
    ∙ not_refused false settings 64 values texts (zeros 38) (sender 0) counts 0 64 (omega (arith, eight_number)) (omega arith))

-- an invented count of 3 is not the answer
pub invented_refuted : (r : Counted) → r.count ≡ 3 → r ≡ count_answer false settings 64 values texts 38 (sender 0) → ⊥
invented_refuted r n e =
    let k : r.count ≡ 2 = ap (λ (x : Counted). x.count) e ∙ eight_count in
    omega arith
