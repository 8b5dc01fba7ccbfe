-- A run with a network zone, which is withdrawn: a message that the old cutter cut into two segments arrives at a store, the last segment
-- first and once more, and is taken with its zone octets. The cutter refuses the same message by 30, reading tells that its packets are
-- of the withdrawn kind, and demand 3 speaks of it as of any other. The header is figure 14's, with the zone `no`.
-- Assumes nothing.
use Prim.Native.Nat.{ℕ, ◌≤◌, ◌<◌}
use mathlib.Core.Path.{◌≡◌, refl, ap, ◌∙◌}
use mathlib.Core.Bool.{true, false}
use mathlib.Core.List.{List, [], ◌∷◌, ◌++◌}
use native.Mathlib.Omega.{arith}
use lib.ListN.{length}
use Rattle.octets.specs.Octets.{wide, alike}
use Rattle.octets.proofs.Has.{octets_nil}
use Rattle.utf8.specs.Test.{ended, begins, follows, accepts, is_text}
use Rattle.varint.specs.Varint.{write, octets_of as varint_octets}
use Rattle.walk.specs.Walk.{unless}
use Rattle.fields.specs.Form.{uinteger_octets, blob_octets, text_octets, split, all_text}
use Rattle.packet.specs.Format.{Values, presence, identification, fixed_octets, front_octets, back_octets, header_octets}
use Rattle.packet.specs.Reading.{read_packet}
use Rattle.packet.specs.Numbers.{next_counter, steps_most}
use Rattle.sender.specs.Sending.{steps_of}
use Rattle.write.specs.declared.HeaderValues.{HeaderValues}
use Rattle.write.specs.Given.{Lent, lent, head_of, sum, name_checks, routing_checks, id_checks, text_checks, utf8_checks, header_checks, unless_all}
use Rattle.write.specs.Writing.{settings_test, zone_test, parts_test, text_test}
use Rattle.write.specs.Lending.{Lends}
use Rattle.format.specs.Told.{values_of, head_of as told_head}
use Rattle.format.proofs.TwoWay.{reads_back}
use Rattle.format.proofs.Accepting.{written}
use Rattle.cut.specs.Cutting.{packets, rounded, limit_test, value_tests, message_tests, count_refusal, count_answer, body_start}
use Rattle.cut.proofs.Packets.{packet_most_lem}
use Rattle.fewest.specs.Carrying.{first_of}
use Rattle.fewest.proofs.Numbers.{cuts_well}
use Rattle.cells.specs.Segments.{Seg, carries, same_rest}
use Rattle.cells.specs.Rows.{Cell, held}
use Rattle.cells.specs.Order.{cell_size}
use Rattle.cells.specs.Messages.{cells_of, look, role_of, bodies, rest_from, run_from, pick_in}
use Rattle.taking.specs.Taking.{Took, message, unable, writing, took}
use Rattle.demand3.specs.Cells.{put, recorded}
use Rattle.demand3.specs.Traffic.{arrives, empty, taken_from, stepped, after}
use Rattle.demand3.specs.Calls.{Call, arrival, Plain}
use Rattle.demand3.specs.Sendings.{Sending, flags_in, many_of, values_at, packet_with, segment_at, IsCut}
use Rattle.demand3.specs.Cutter.{Cutting, count_of, packet_of, sending_of, Succeeds}
use Rattle.demand3.specs.Presupposed.{InUse, empty_store, store_behind}
use Rattle.demand3.proofs.ReadAs.{recounted_range, repeat_octets}
use Rattle.demand3.proofs.Plain.{plain_arrival, plain_both}
use Rattle.demand3.proofs.Cutter.{cutter_many, cutter_cut}
use Rattle.demand3.proofs.Steps.{event_of, took_is}
use Rattle.demand3.proofs.Events.{events_in}
use Rattle.demand3.proofs.Carried.{behind_cells, behind_keeps}
use Rattle.demand3.proofs.Acts.{repeat_event}
use Rattle.demand3.proofs.Day.{settings, octets_by}

-- figure 14's values with a zone
abbrev pub values : HeaderValues
values =
    record {
      packet_type = 1;
      apid = record { 0 = 5 };
      sdu = 0;
      area = 1;
      service = 2;
      operation = 3;
      version = 1;
      error = 0;
      qos = 1;
      session = 0;
      secondary_apid = record { 0 = 6 };
      qualifier = 7;
      transaction = 9;
      has =
          record {
            source = false;
            destination = false;
            priority = false;
            timestamp = false;
            zone = true;
            session_name = false;
            domain = false;
            authentication = false;
          };
      source = 0;
      destination = 0;
      priority = 0;
    }

abbrev pub texts : Lent
texts = lent [] (0x6E ∷ 0x6F ∷ []) [] [] [] []

-- two segments, counters 7 and 8, by the old cutter
abbrev pub cutting : Cutting
cutting =
    record {
      old = true;
      limit = 39;
      values = values;
      texts = texts;
      body = 1 ∷ 2 ∷ 3 ∷ 4 ∷ 5 ∷ 6 ∷ 7 ∷ 8 ∷ 9 ∷ 10 ∷ [];
      sender = record { sequence_count = record { 0 = 0 }; counter = record { 0 = 7 } };
    }

abbrev pub zoned : Sending
zoned = sending_of settings cutting

-- ---- the cutter refuses it, the old cutter does not

pub cutter_refuses : (count_answer false settings 39 values texts 10 cutting.sender).refusal.number ≡ 30
unfolding count_answer count_refusal message_tests limit_test value_tests settings_test zone_test parts_test text_test utf8_checks all_text is_text accepts follows begins ended
    unless unless_all header_checks name_checks routing_checks id_checks text_checks sum packets rounded head_of split header_octets fixed_octets
    front_octets back_octets text_octets blob_octets uinteger_octets write varint_octets wide
cutter_refuses = refl

counts : (count_of settings cutting).refusal.number ≡ 0
unfolding count_answer count_refusal message_tests limit_test value_tests settings_test zone_test parts_test text_test utf8_checks all_text is_text accepts follows begins ended
    unless unless_all header_checks name_checks routing_checks id_checks text_checks sum packets rounded head_of split header_octets fixed_octets
    front_octets back_octets text_octets blob_octets uinteger_octets write varint_octets wide
counts = refl

count : (count_of settings cutting).count ≡ 2
unfolding count_answer count_refusal message_tests limit_test value_tests settings_test zone_test parts_test text_test utf8_checks all_text is_text accepts follows begins ended
    unless unless_all header_checks name_checks routing_checks id_checks text_checks sum packets rounded head_of split header_octets fixed_octets
    front_octets back_octets text_octets blob_octets uinteger_octets write varint_octets wide
count = refl

most : (i : ℕ) → length (packet_of settings cutting i) ≤ 39
unfolding count_answer
most i =
    packet_most_lem settings 39 values texts cutting.body cutting.sender i
    (cuts_well true settings 39 values texts cutting.body cutting.sender counts).some

lends : Lends values texts cutting.body
lends =
    record {
      octets =
          record {
            timestamp = octets_nil;
            zone = octets_by texts.zone refl;
            session_name = octets_nil;
            domain = octets_nil;
            authentication = octets_nil;
            body = octets_by cutting.body refl;
          };
      transaction = omega arith;
    }

pub succeeds : Succeeds settings cell_size cutting
succeeds = record { lends = lends; counts = counts; many = omega (arith, count); fits = λ i l. omega (arith, most i) }

-- so it is a message of demand 3
pub zoned_cut : IsCut settings cell_size zoned
zoned_cut = cutter_cut settings cell_size cutting succeeds

many_is : many_of settings zoned ≡ 2
many_is = cutter_many settings cell_size cutting succeeds ∙ count

-- reading tells the kind of each of its packets, whatever the sequence count
pub zoned_told : (i : ℕ) → i < 2 → (c : ℕ) → c < 16384 → (read_packet settings (packet_with settings zoned i c)).withdrawn ≡ true
unfolding values_of told_head head_of
zoned_told i l c h =
    let v = values_at settings zoned i c in
    let r = recounted_range settings (values_at settings zoned i 0) c h (zoned_cut.range i (omega (arith, many_is))) in
    (written settings v r).accepted.withdrawn ∙ ap (λ (u : Values). u.head.has_zone) (reads_back settings v r).1

-- ---- the run

-- identification and header: the zone's three octets come last
abbrev pub key : List ℕ
key =
    0x18 ∷ 5 ∷ 0 ∷ 0 ∷ 1 ∷ 0 ∷ 2 ∷ 0 ∷ 3 ∷ 1 ∷ 0x20 ∷ 6 ∷ 0 ∷ 7 ∷ 0 ∷ 0 ∷ 0 ∷ 0 ∷ 0 ∷ 0 ∷ 0 ∷ 9 ∷ 8 ∷ 2 ∷ 0x6E ∷ 0x6F ∷ []

abbrev pub opens : Seg
opens = record { key = key; counter = 7; flags = 1; body = 1 ∷ 2 ∷ 3 ∷ 4 ∷ 5 ∷ [] }

abbrev pub closes : Seg
closes = record { key = key; counter = 8; flags = 2; body = 6 ∷ 7 ∷ 8 ∷ 9 ∷ 10 ∷ [] }

arrives_as : (i : ℕ) → i < 2 → (t : Seg) → segment_at settings zoned i ≡ t → (c : ℕ) → c < 16384 →
    event_of settings cell_size (packet_with settings zoned i c) ≡ arrives t
arrives_as i l t e c h =
    repeat_event settings cell_size zoned zoned_cut i (omega (arith, many_is)) c h ∙ ap arrives e

is_first : (c : ℕ) → c < 16384 → event_of settings cell_size (packet_with settings zoned 0 c) ≡ arrives opens
unfolding steps_of flags_in first_of body_start count_answer count_refusal message_tests limit_test value_tests settings_test zone_test parts_test text_test
    utf8_checks all_text is_text accepts follows begins ended unless unless_all header_checks name_checks routing_checks id_checks text_checks sum packets rounded
    head_of split header_octets fixed_octets front_octets back_octets text_octets blob_octets uinteger_octets write varint_octets wide identification presence next_counter
is_first = arrives_as 0 (omega arith) opens refl

is_last : (c : ℕ) → c < 16384 → event_of settings cell_size (packet_with settings zoned 1 c) ≡ arrives closes
unfolding steps_of flags_in first_of body_start count_answer count_refusal message_tests limit_test value_tests settings_test zone_test parts_test text_test
    utf8_checks all_text is_text accepts follows begins ended unless unless_all header_checks name_checks routing_checks id_checks text_checks sum packets rounded
    head_of split header_octets fixed_octets front_octets back_octets text_octets blob_octets uinteger_octets write varint_octets wide identification presence next_counter
is_last = arrives_as 1 (omega arith) closes refl

-- the last segment, once more with another sequence count, and the first
abbrev pub calls : List Call
calls =
    arrival (packet_with settings zoned 1 1) ∷ arrival (packet_with settings zoned 1 77) ∷ arrival (packet_with settings zoned 0 0) ∷ []

plain_packet : (i : ℕ) → i < 2 → (c : ℕ) → c < 16384 → Plain (arrival (packet_with settings zoned i c) ∷ [])
plain_packet i l c h =
    plain_arrival (packet_with settings zoned i c) (repeat_octets settings cell_size zoned zoned_cut i (omega (arith, many_is)) c h)

plain : Plain calls
plain =
    plain_both (arrival (packet_with settings zoned 1 1) ∷ []) _ (plain_packet 1 (omega arith) 1 (omega arith))
    (plain_both (arrival (packet_with settings zoned 1 77) ∷ []) _ (plain_packet 1 (omega arith) 77 (omega arith))
    (plain_packet 0 (omega arith) 0 (omega arith)))

events : events_in settings cell_size (empty_store cell_size 2) calls ≡ arrives closes ∷ arrives closes ∷ arrives opens ∷ []
unfolding events_in
events =
    λ j. is_last 1 (omega arith) j ∷ is_last 77 (omega arith) j ∷ is_first 0 (omega arith) j ∷ []

in_use_lem : InUse settings 2
in_use_lem = record { settings = record { t_low = omega arith; t_top = omega arith; profile_top = omega arith }; some = omega arith; most = omega arith }

one : 1 ≤ cell_size
one = omega arith

two_held : after next_counter steps_most (empty 2) (arrives closes ∷ arrives closes ∷ arrives opens ∷ []) ≡ held closes ∷ held opens ∷ []
unfolding after stepped look carries same_rest alike put recorded
two_held = refl

-- both segments are held
pub zoned_held : cells_of settings cell_size (store_behind settings cell_size 2 calls) 2 ≡ held closes ∷ held opens ∷ []
zoned_held = behind_cells settings cell_size 2 one in_use_lem calls plain ∙ ap (after next_counter steps_most (empty 2)) events ∙ two_held

-- what a taking writes
abbrev pub out : Took → List ℕ
out (message r) = writing r
out (unable k) = []

all_out : out (taken_from next_counter steps_most (held closes ∷ held opens ∷ []) 36) ≡ key ++ cutting.body
unfolding taken_from look carries alike role_of bodies rest_from run_from pick_in next_counter
all_out = refl

-- the message is taken, with its zone octets
pub zoned_taken : out (took settings cell_size (store_behind settings cell_size 2 calls) 36) ≡ key ++ cutting.body
zoned_taken =
    ap out (took_is settings cell_size 2 (store_behind settings cell_size 2 calls) (behind_keeps settings cell_size 2 one in_use_lem calls plain) 36)
    ∙ ap (λ (cs : List Cell). out (taken_from next_counter steps_most cs 36)) zoned_held
    ∙ all_out
