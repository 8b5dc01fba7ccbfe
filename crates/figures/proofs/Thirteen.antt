-- Figure 13: what a taking from two cells with the message of figure 8 writes. It is told by the store's cells, since over its octets
-- the computation passes the limit of steps.
-- Assumes nothing.
use Prim.Native.Nat.{ℕ, ◌≤◌}
use mathlib.Core.Path.{◌≡◌, refl, ap, ap₂, ◌∙◌}
use mathlib.Core.List.{List, [], ◌∷◌}
use native.Mathlib.Omega.{arith}
use Rattle.octets.specs.Octets.{Octets, wide, alike, number as number_at}
use Rattle.utf8.specs.Test.{ended, accepts, is_text}
use Rattle.walk.specs.Walk.{begun, check, octets, field_from, unless}
use Rattle.fields.specs.Form.{split, all_text}
use Rattle.packet.specs.Numbers.{next_count, count_at, next_counter, steps_most}
use Rattle.packet.specs.Format.{presence, identification, fixed_octets, front_octets, counter_octets, back_octets, header_octets, secondary_octets, data_octets, octets_of}
use Rattle.packet.specs.FixedPart.{octet_field, wide_field, sdu_field, after_sdu, after_area, after_service, after_operation, after_version, after_session}
use Rattle.packet.specs.FixedPart.{after_secondary, after_qualifier, after_transaction, after_presence, fixed_of, flags_of, present_of}
use Rattle.packet.specs.Reading.{primary_tests, primary_of, ids_of, texts_of, body_test, refused_header, accepted_header, read_packet}
use Rattle.packet.specs.Key.{counter_place, key_of}
use Rattle.write.specs.Given.{head_of, sum, name_checks, routing_checks, id_checks, text_checks, utf8_checks, header_checks, unless_all}
use Rattle.write.specs.Writing.{settings_test, zone_test, parts_test, text_test}
use Rattle.cut.specs.Cutting.{counter_at, packets, rounded, limit_test, value_tests, message_tests, count_refusal, flags_at, body_start, packet_at, packet_refusal, packet_output}
use Rattle.packet.specs.Figure14.{settings, zeros}
use Rattle.cells.specs.Segments.{Seg, seg_of, carries}
use Rattle.cells.specs.Rows.{Cell, held, may_hold}
use Rattle.cells.specs.Messages.{cells_of, look, role_of, bodies, rest_from, run_from, pick_in}
use Rattle.demand3.specs.Cells.{put, recorded}
use Rattle.demand3.specs.Traffic.{Event, arrives, empty, taken_from, stepped, after}
use Rattle.demand3.specs.Calls.{Call, arrival, Plain, store_by, store_after}
use Rattle.demand3.specs.Presupposed.{InUse, empty_store, store_behind}
use Rattle.demand3.proofs.Steps.{event_of, took_is}
use Rattle.demand3.proofs.Events.{events_in}
use Rattle.demand3.proofs.Plain.{plain_both, plain_arrival}
use Rattle.demand3.proofs.Day.{octets_by}
use Rattle.demand3.proofs.Carried.{behind_cells, behind_keeps}
use Rattle.figures.specs.Table.{is, packet, written, taken, eight}
use Rattle.sender.specs.Sending.{steps_of}

abbrev arrivals : List Call
arrivals = arrival (packet 64 38 0 64) ∷ arrival (packet 64 38 1 36) ∷ []

-- identification and header
abbrev key : List ℕ
key = 0x18 ∷ 5 ∷ 0 ∷ 0 ∷ 1 ∷ 0 ∷ 2 ∷ 0 ∷ 3 ∷ 1 ∷ 0x20 ∷ 6 ∷ 0 ∷ 7 ∷ 0 ∷ 0 ∷ 0 ∷ 0 ∷ 0 ∷ 0 ∷ 0 ∷ 9 ∷ 0 ∷ []

abbrev opens : Seg
opens = record { key = key; counter = 0; flags = 1; body = zeros 33 }

abbrev closes : Seg
closes = record { key = key; counter = 1; flags = 2; body = zeros 5 }

first_comes : event_of settings 1024 (packet 64 38 0 64) ≡ arrives opens
unfolding next_count wide alike number_at begun check octets unless split presence identification fixed_octets front_octets counter_octets back_octets
    header_octets secondary_octets data_octets octets_of primary_tests primary_of octet_field wide_field sdu_field after_sdu after_area after_service
    after_operation after_version after_session after_secondary field_from after_qualifier after_transaction after_presence fixed_of flags_of present_of ids_of
    texts_of body_test refused_header accepted_header read_packet counter_place key_of head_of sum name_checks routing_checks id_checks text_checks header_checks
    unless_all settings_test zone_test parts_test text_test utf8_checks all_text is_text accepts ended counter_at steps_of count_at packets rounded limit_test
    value_tests message_tests count_refusal flags_at body_start packet_at packet_refusal packet_output seg_of may_hold next_counter
first_comes = refl

last_comes : event_of settings 1024 (packet 64 38 1 36) ≡ arrives closes
unfolding next_count wide alike number_at begun check octets unless split presence identification fixed_octets front_octets counter_octets back_octets
    header_octets secondary_octets data_octets octets_of primary_tests primary_of octet_field wide_field sdu_field after_sdu after_area after_service
    after_operation after_version after_session after_secondary field_from after_qualifier after_transaction after_presence fixed_of flags_of present_of ids_of
    texts_of body_test refused_header accepted_header read_packet counter_place key_of head_of sum name_checks routing_checks id_checks text_checks header_checks
    unless_all settings_test zone_test parts_test text_test utf8_checks all_text is_text accepts ended counter_at steps_of count_at packets rounded limit_test
    value_tests message_tests count_refusal flags_at body_start packet_at packet_refusal packet_output seg_of may_hold next_counter
last_comes = refl

-- both are octets
first_octets : Octets (packet 64 38 0 64)
unfolding next_count wide alike number_at begun check octets unless split presence identification fixed_octets front_octets counter_octets back_octets
    header_octets secondary_octets data_octets octets_of head_of sum name_checks routing_checks id_checks text_checks header_checks unless_all settings_test zone_test
    parts_test text_test utf8_checks all_text is_text accepts ended counter_at steps_of count_at packets rounded limit_test value_tests message_tests count_refusal
    flags_at body_start packet_at packet_refusal packet_output next_counter
first_octets = octets_by (packet 64 38 0 64) refl

last_octets : Octets (packet 64 38 1 36)
unfolding next_count wide alike number_at begun check octets unless split presence identification fixed_octets front_octets counter_octets back_octets
    header_octets secondary_octets data_octets octets_of head_of sum name_checks routing_checks id_checks text_checks header_checks unless_all settings_test zone_test
    parts_test text_test utf8_checks all_text is_text accepts ended counter_at steps_of count_at packets rounded limit_test value_tests message_tests count_refusal
    flags_at body_start packet_at packet_refusal packet_output next_counter
last_octets = octets_by (packet 64 38 1 36) refl

plain : Plain arrivals
plain =
    plain_both (arrival (packet 64 38 0 64) ∷ []) (arrival (packet 64 38 1 36) ∷ []) (plain_arrival (packet 64 38 0 64) first_octets)
    (plain_arrival (packet 64 38 1 36) last_octets)

events : events_in settings 1024 (empty_store 1024 2) arrivals ≡ arrives opens ∷ arrives closes ∷ []
unfolding events_in
events = ap₂ (λ (a b : Event). a ∷ b ∷ []) first_comes last_comes

in_use_lem : InUse settings 2
in_use_lem = record { settings = record { t_low = omega arith; t_top = omega arith; profile_top = omega arith }; some = omega arith; most = omega arith }

one : 1 ≤ 1024
one = omega arith

two_held : after next_counter steps_most (empty 2) (arrives opens ∷ arrives closes ∷ []) ≡ held opens ∷ held closes ∷ []
unfolding after stepped look carries alike put recorded
two_held = refl

behind : cells_of settings 1024 (store_behind settings 1024 2 arrivals) 2 ≡ held opens ∷ held closes ∷ []
behind = behind_cells settings 1024 2 one in_use_lem arrivals plain ∙ ap (after next_counter steps_most (empty 2)) events ∙ two_held

sixty_one : written (taken_from next_counter steps_most (held opens ∷ held closes ∷ []) 61) ≡ is 61
unfolding taken_from look carries alike role_of bodies rest_from run_from pick_in next_counter
sixty_one = refl

pub thirteen : taken eight 61 ≡ is 61
unfolding store_after store_by
thirteen =
    ap written (took_is settings 1024 2 (store_behind settings 1024 2 arrivals) (behind_keeps settings 1024 2 one in_use_lem arrivals plain) 61)
    ∙ ap (λ (cs : List Cell). written (taken_from next_counter steps_most cs 61)) behind
    ∙ sixty_one
