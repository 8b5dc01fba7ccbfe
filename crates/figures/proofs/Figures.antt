-- SPEC's figures hold: what the definitions come to is what it says, in every row of the table, by computation. Two rows, that would
-- compute over a whole store's octets, are laws: figure 13, and what the recording program writes for figure 14.
-- Assumes nothing.
use mathlib.Core.Path.{◌≡◌, ap, ap₂}
use mathlib.Core.List.{[], ◌∷◌, ◌++◌, map}
use lib.ListN.{take, drop}
use Rattle.octets.specs.Octets.{wide, number as number_at}
use Rattle.utf8.specs.Test.{ended, accepts, is_text}
use Rattle.varint.specs.Varint.{write, octets_of as varint_octets, final, after, read}
use Rattle.walk.specs.Walk.{begun, check, octets, field_from, unless, uinteger, varint_field, varint_step}
use Rattle.fields.specs.Form.{split, all_text}
use Rattle.packet.specs.Numbers.{next_count, count_at, next_counter}
use Rattle.packet.specs.Format.{presence, identification, fixed_octets, front_octets, counter_octets, back_octets, header_octets, secondary_octets, data_octets, octets_of}
use Rattle.packet.specs.FixedPart.{octet_field, wide_field, sdu_field, after_sdu, after_area, after_service, after_operation, after_version, after_session}
use Rattle.packet.specs.FixedPart.{after_secondary, after_qualifier, after_transaction, after_presence, fixed_of, flags_of, present_of}
use Rattle.packet.specs.Reading.{primary_tests, primary_of, ids_of, texts_of, body_test, refused_header, accepted_header, read_packet}
use Rattle.write.specs.Given.{head_of, packet_of, sum, name_checks, routing_checks, id_checks, text_checks, utf8_checks, header_checks, packet_checks, unless_all}
use Rattle.write.specs.Writing.{settings_test, zone_test, parts_test, text_test, size_tests, value_refusal, write_refusal, write_output}
use Rattle.cut.specs.Cutting.{counter_at, sender_after, packets, rounded, limit_test, value_tests, message_tests}
use Rattle.cut.specs.Cutting.{count_refusal, count_answer, flags_at, body_start, packet_at, packet_refusal, packet_answer, packet_output}
use Rattle.recording.proofs.Figure.{figure_14}
use Rattle.figures.specs.Table.{Said, octets as said_octets, Row, table}
use Rattle.figures.proofs.Thirteen.{thirteen}
use Rattle.sender.specs.Sending.{steps_of, after_segments, after_segment}

pub figures : map (λ (r : Row). r.computed) table ≡ map (λ (r : Row). r.said) table
unfolding next_count wide number_at write varint_octets final after read begun check octets unless uinteger varint_field varint_step split presence identification
    fixed_octets front_octets counter_octets back_octets header_octets secondary_octets data_octets octets_of primary_tests primary_of octet_field wide_field
    sdu_field after_sdu after_area after_service after_operation after_version after_session after_secondary field_from after_qualifier after_transaction
    after_presence fixed_of flags_of present_of ids_of texts_of body_test refused_header accepted_header read_packet head_of packet_of sum name_checks
    routing_checks id_checks text_checks header_checks packet_checks unless_all settings_test zone_test parts_test text_test utf8_checks all_text is_text accepts ended
    size_tests value_refusal write_refusal write_output counter_at steps_of count_at packets rounded limit_test value_tests message_tests
    count_refusal count_answer flags_at body_start packet_at packet_refusal packet_answer packet_output next_counter sender_after after_segments after_segment
figures =
    ap₂ (λ (x y : Said). map (λ (r : Row). r.said) (take 29 table) ++ (x ∷ map (λ (r : Row). r.said) (take 2 (drop 30 table)) ++ (y ∷ [])))
    thirteen (ap said_octets figure_14)
