-- By computation: SPEC's figure 14 carried to the office, and back; and which texts are ids. So the hypotheses of the laws can be met.
-- Assumes nothing.
use mathlib.Core.Path.{◌≡◌, refl}
use mathlib.Core.Bool.{true, false}
use mathlib.Core.List.{[], ◌∷◌, ◌++◌, map}
use Rattle.octets.specs.Octets.{number, wide, alike}
use Rattle.octets.specs.Laying.{together}
use Rattle.utf8.specs.Test.{ended, accepts, is_text}
use Rattle.walk.specs.Walk.{check, octets, field_from, unless, no_refusal}
use Rattle.fields.specs.Form.{split, all_text}
use Rattle.packet.specs.Figure14.{settings, zeros}
use Rattle.packet.specs.Format.{presence, identification, fixed_octets, front_octets, back_octets, header_octets}
use Rattle.packet.specs.FixedPart.{after_sdu, after_area, after_service, after_operation, after_version, after_session, after_secondary, after_qualifier}
use Rattle.packet.specs.FixedPart.{after_transaction, after_presence, fixed_of, flags_of, present_of}
use Rattle.packet.specs.Reading.{ids_of, texts_of}
use Rattle.write.specs.Given.{head_of, sum, utf8_checks, unless_all}
use Rattle.write.specs.Writing.{settings_test}
use Rattle.write.specs.Inner.{present_octet}
use Rattle.pdu.specs.Format.{fixed_octets as pdu_fixed, variable_octets, rest_octets, head_octets, octets_of}
use Rattle.pdu.specs.Given.{pdu_of, name_checks, flag_checks, text_checks, value_checks, word_checks}
use Rattle.pdu.specs.Reading.{fixed_tests, fixed_of as pdu_fixed_of, ids_of as pdu_ids, accepted_header, read_pdu}
use Rattle.pdu.specs.Writing.{value_refusal, size_tests, write_refusal, write_answer, write_output}
use Rattle.carry.specs.Digits.{digits, value_of, is_id, id_text, id_value, id_fits}
use Rattle.carry.specs.Message.{message_octets, encoding_test, message_tests, primary_of, accepted_message, read_message, lent_of}
use Rattle.carry.specs.There.{office_values, office_answer, office_output, to_pdu_answer, to_pdu_output}
use Rattle.carry.specs.Back.{route_checks, route_test, value_test, message_values, message_head, size_test, made_answer, made_output, back_answer, back_output, to_message_answer, to_message_output}
use Rattle.carry.specs.Figure14.{message, pdu, route}

-- 23 octets are room enough, and what is after them stays
pub figure_there :
    (to_pdu_answer settings 5 message 24 ≡ record { refusal = no_refusal; length = 23; header = 23 })
    × (to_pdu_output settings 5 message (zeros 24) ≡ pdu ++ (0 ∷ []))
unfolding to_pdu_answer to_pdu_output read_message accepted_message message_tests encoding_test settings_test check octets number primary_of after_sdu after_area
    after_service after_operation after_version after_session after_secondary after_qualifier after_transaction after_presence fixed_of flags_of present_of ids_of
    texts_of field_from office_values office_answer office_output id_text lent_of together write_answer write_output write_refusal size_tests value_refusal
    word_checks utf8_checks all_text is_text accepts ended unless_all unless value_checks name_checks flag_checks text_checks pdu_of split sum octets_of
    rest_octets variable_octets pdu_fixed present_octet head_octets wide
figure_there = (refl, refl)

pub figure_back :
    (to_message_answer settings route pdu 23 ≡ record { refusal = no_refusal; header = 21; body = 0; encoding = 5 })
    × (to_message_output settings route pdu (zeros 23) ≡ message)
unfolding to_message_answer to_message_output route_test route_checks settings_test unless_all unless read_pdu accepted_header fixed_tests check octets number
    pdu_fixed_of flags_of pdu_ids texts_of back_answer back_output value_test id_fits id_value message_head message_values head_of lent_of together split made_answer
    made_output size_test message_octets identification header_octets fixed_octets presence front_octets back_octets wide
figure_back = (refl, refl)

-- "7", "255" and "0" are ids; "", "007", "00", "+1", "256" are none
pub ids_told :
    map is_id ((0x37 ∷ []) ∷ (0x32 ∷ 0x35 ∷ 0x35 ∷ []) ∷ (0x30 ∷ []) ∷ [] ∷ (0x30 ∷ 0x30 ∷ 0x37 ∷ []) ∷ (0x30 ∷ 0x30 ∷ []) ∷ (0x2B ∷ 0x31 ∷ [])
    ∷ (0x32 ∷ 0x35 ∷ 0x36 ∷ [])
    ∷ [])
    ≡ true ∷ true ∷ true ∷ false ∷ false ∷ false ∷ false ∷ false ∷ []
unfolding is_id value_of digits alike
ids_told = refl
