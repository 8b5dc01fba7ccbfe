-- A run of calls that demand 3 speaks of: two messages of one key with neighbouring counters, five segments, arrive interleaved at four
-- cells of 1,024 octets. One was cut by the cutter, and its counters go round the end; the other is cut as the cutter never does, its
-- last segment longer than its first. The header is figure 14's. Here: the messages and the packets, and what each is to the store.
-- Assumes nothing.
use Prim.Native.Nat.{ℕ, ◌+◌, ◌≤◌, ◌<◌}
use mathlib.Core.Path.{◌≡◌, refl, ap, ◌∙◌, subst}
use mathlib.Core.Logic.{◌⊎◌, inl, inr}
use mathlib.Core.Bool.{Bool, true, false}
use mathlib.Core.List.{List, [], ◌∷◌, ◌++◌}
use native.Mathlib.Omega.{arith}
use lib.ListN.{length, replicate}
use lib.Dec.{ltb}
use borrow.Author.Tests.{ltb-true}
use Rattle.octets.specs.Octets.{Octets, wide, number as number_at}
use Rattle.octets.proofs.Lists.{below_or}
use Rattle.octets.proofs.Has.{octets_nil, octets_one, octets_append}
use Rattle.utf8.specs.Test.{ended, accepts, is_text}
use Rattle.walk.specs.declared.Settings.{Settings}
use Rattle.walk.specs.Profile.{varint_profile}
use Rattle.walk.specs.Walk.{begun, check, octets, field_from, unless}
use Rattle.fields.specs.Form.{split, all_text}
use Rattle.packet.specs.Format.{presence, identification, fixed_octets, front_octets, back_octets, header_octets, InRange}
use Rattle.packet.specs.FixedPart.{octet_field, wide_field, sdu_field, after_sdu, after_area, after_service, after_operation, after_version, after_session}
use Rattle.packet.specs.FixedPart.{after_secondary, after_qualifier, after_transaction, after_presence, fixed_of, flags_of, present_of}
use Rattle.packet.specs.Reading.{primary_tests, primary_of, ids_of, texts_of, body_test, refusal_of, refused_header, accepted_header, read_packet}
use Rattle.packet.specs.Key.{counter_place, key_of}
use Rattle.packet.specs.Numbers.{next_counter}
use Rattle.sender.specs.Sending.{steps_of}
use Rattle.write.specs.Given.{head_of, sum, name_checks, routing_checks, id_checks, text_checks, utf8_checks, header_checks, unless_all}
use Rattle.write.specs.Writing.{settings_test, zone_test, parts_test, text_test}
use Rattle.write.specs.Lending.{Lends}
use Rattle.write.specs.Figure14.{header as values, texts}
use Rattle.cut.specs.Cutting.{packets, rounded, limit_test, value_tests, message_tests, count_refusal, count_answer, body_start}
use Rattle.cut.proofs.Packets.{packet_most_lem}
use Rattle.fewest.specs.Carrying.{first_of}
use Rattle.fewest.proofs.Numbers.{cuts_well}
use Rattle.cells.specs.Segments.{Seg, seg_of, both}
use Rattle.cells.specs.Rows.{may_hold}
use Rattle.cells.proofs.Held.{both_true}
use Rattle.cells.specs.Order.{cell_size}
use Rattle.demand3.specs.Traffic.{arrives, passes}
use Rattle.demand3.specs.Sendings.{Sending, flags_in, many_of, values_at, packet_with, segment_at, header_size, body_size, IsCut}
use Rattle.demand3.specs.Cutter.{Cutting, count_of, packet_of, sending_of, Succeeds}
use Rattle.demand3.proofs.AnyCut.{part_of, any_cut}
use Rattle.demand3.proofs.Cutter.{cutter_many, cutter_body, cutter_cut}
use Rattle.demand3.proofs.Steps.{event_of}
use Rattle.demand3.proofs.Acts.{repeat_event}

abbrev pub settings : Settings
settings = record { t = 8; profile = varint_profile }

-- three segments, counters 4,294,967,294, 4,294,967,295 and 0
abbrev pub cutting : Cutting
cutting =
    record {
      old = false;
      limit = 34;
      values = values;
      texts = texts;
      body = 1 ∷ 2 ∷ 3 ∷ 4 ∷ 5 ∷ 6 ∷ 7 ∷ 8 ∷ [];
      sender = record { sequence_count = record { 0 = 0 }; counter = record { 0 = 4294967294 } };
    }

abbrev pub three : Sending
three = sending_of settings cutting

-- two segments, counters 1 and 2
abbrev pub two : Sending
two =
    record {
      head = head_of values texts;
      start = 1;
      bodies = (21 ∷ 22 ∷ 23 ∷ []) ∷ (24 ∷ 25 ∷ 26 ∷ 27 ∷ 28 ∷ 29 ∷ 30 ∷ []) ∷ [];
    }

abbrev pub messages : List Sending
messages = three ∷ two ∷ []

-- segment i of a message with a sequence count
abbrev pub of_three : ℕ → ℕ → List ℕ
of_three i c = packet_with settings three i c

abbrev pub of_two : ℕ → ℕ → List ℕ
of_two i c = packet_with settings two i c

-- figure 14's 21 header octets
abbrev pub header : List ℕ
header = 0 ∷ 0 ∷ 1 ∷ 0 ∷ 2 ∷ 0 ∷ 3 ∷ 1 ∷ 0x20 ∷ 6 ∷ 0 ∷ 7 ∷ 0 ∷ 0 ∷ 0 ∷ 0 ∷ 0 ∷ 0 ∷ 0 ∷ 9 ∷ 0 ∷ []

abbrev pub the_key : List ℕ
the_key = 0x18 ∷ 5 ∷ header

-- a whole packet
abbrev pub single : List ℕ
single = 0x18 ∷ 5 ∷ 0xC0 ∷ 0 ∷ 0 ∷ 0x14 ∷ header

-- a packet of two octets
abbrev pub stub : List ℕ
stub = 0 ∷ 0 ∷ []

-- a segment of 1,031 octets
abbrev pub huge : List ℕ
huge = 0x18 ∷ 5 ∷ 0x40 ∷ 0 ∷ 4 ∷ 0 ∷ header ++ (0 ∷ 0 ∷ 0 ∷ 12 ∷ replicate 1000 1)

-- another key, with a counter of the first message
abbrev pub other : List ℕ
other = 0x18 ∷ 6 ∷ 0 ∷ 0 ∷ 0 ∷ 25 ∷ header ++ (255 ∷ 255 ∷ 255 ∷ 255 ∷ 4 ∷ [])

-- ---- octets

abbrev pub small : List ℕ → Bool
small [] = true
small (x ∷ l) = both (ltb x 256) (small l)

pub octets_by : (l : List ℕ) → small l ≡ true → Octets l
octets_by [] e = octets_nil
octets_by (x ∷ l) e =
    let a = both_true (ltb x 256) (small l) e in
    octets_append (x ∷ []) l (octets_one x (ltb-true x 256 a.0)) (octets_by l a.1)

pub single_octets : Octets single
single_octets = octets_by single refl

pub stub_octets : Octets stub
stub_octets = octets_by stub refl

pub huge_octets : Octets huge
huge_octets = octets_by huge refl

pub other_octets : Octets other
other_octets = octets_by other refl

-- ---- the messages are cut

lends : Lends values texts cutting.body
lends =
    record {
      octets =
          record {
            timestamp = octets_nil;
            zone = octets_nil;
            session_name = octets_nil;
            domain = octets_nil;
            authentication = octets_nil;
            body = octets_by cutting.body refl;
          };
      transaction = omega arith;
    }

three_counts : (count_of settings cutting).refusal.number ≡ 0
unfolding count_answer count_refusal message_tests limit_test value_tests settings_test zone_test parts_test text_test utf8_checks all_text is_text accepts ended unless
    unless_all header_checks name_checks routing_checks id_checks text_checks sum packets rounded head_of split header_octets fixed_octets
    front_octets back_octets wide
three_counts = refl

three_count : (count_of settings cutting).count ≡ 3
unfolding count_answer count_refusal message_tests limit_test value_tests settings_test zone_test parts_test text_test utf8_checks all_text is_text accepts ended unless
    unless_all header_checks name_checks routing_checks id_checks text_checks sum packets rounded head_of split header_octets fixed_octets
    front_octets back_octets wide
three_count = refl

-- a packet has at most P octets
most : (i : ℕ) → length (packet_of settings cutting i) ≤ 34
unfolding count_answer
most i =
    packet_most_lem settings 34 values texts cutting.body cutting.sender i
    (cuts_well false settings 34 values texts cutting.body cutting.sender three_counts).some

pub succeeds : Succeeds settings cell_size cutting
succeeds =
    record {
      lends = lends;
      counts = three_counts;
      many = omega (arith, three_count);
      fits = λ i l. omega (arith, most i);
    }

pub three_many : many_of settings three ≡ 3
three_many = cutter_many settings cell_size cutting succeeds ∙ three_count

pub three_cut : IsCut settings cell_size three
three_cut = cutter_cut settings cell_size cutting succeeds

pub three_long : body_size settings three ≡ 8
three_long = ap length (cutter_body settings cell_size cutting succeeds)

pub two_many : many_of settings two ≡ 2
two_many = refl

-- the header is the cutter's
head_range : InRange settings (values_at settings three 0 0)
head_range = three_cut.range 0 (omega (arith, three_many))

header_long : header_size settings two ≡ 21
unfolding header_octets fixed_octets front_octets back_octets wide head_of split
header_long = refl

pub two_cut : IsCut settings cell_size two
two_cut =
    any_cut settings two cell_size (omega arith) head_range.settings head_range.head (omega (arith, header_long)) (omega arith)
    (omega arith) (omega arith)
    (λ i l. parts i l (below_or i 1))
  where
    Part : ℕ → Type 0
    Part i =
        Octets (part_of settings two i) × (1 ≤ length (part_of settings two i)) × (12 + header_size settings two + length (part_of settings two i) ≤ cell_size)

    parts : (i : ℕ) → i < 2 → (i < 1) ⊎ (1 ≤ i) → Part i
    parts i l (inl a) =
        let e : 0 ≡ i = omega arith in
        subst Part e (octets_by (21 ∷ 22 ∷ 23 ∷ []) refl, omega arith, omega (arith, header_long))
    parts i l (inr a) =
        let e : 1 ≡ i = omega arith in
        subst Part e (octets_by (24 ∷ 25 ∷ 26 ∷ 27 ∷ 28 ∷ 29 ∷ 30 ∷ []) refl, omega arith, omega (arith, header_long))

-- ---- what the packets are to the store

abbrev pub seg : ℕ → ℕ → List ℕ → Seg
seg c f b = record { key = the_key; counter = c; flags = f; body = b }

three_at : (i : ℕ) → i < 3 → (t : Seg) → segment_at settings three i ≡ t → (c : ℕ) → c < 16384 →
    event_of settings cell_size (of_three i c) ≡ arrives t
three_at i l t e c h =
    let k : i < many_of settings three = omega (arith, three_many) in
    repeat_event settings cell_size three three_cut i k c h ∙ ap arrives e

two_at : (i : ℕ) → i < 2 → (t : Seg) → segment_at settings two i ≡ t → (c : ℕ) → c < 16384 →
    event_of settings cell_size (of_two i c) ≡ arrives t
two_at i l t e c h =
    let k : i < many_of settings two = omega (arith, two_many) in
    repeat_event settings cell_size two two_cut i k c h ∙ ap arrives e

pub is_three_first : (c : ℕ) → c < 16384 → event_of settings cell_size (of_three 0 c) ≡ arrives (seg 4294967294 1 (1 ∷ 2 ∷ 3 ∷ []))
unfolding steps_of flags_in first_of body_start count_answer count_refusal message_tests limit_test value_tests settings_test zone_test parts_test text_test utf8_checks
    all_text is_text accepts ended unless unless_all header_checks name_checks routing_checks id_checks text_checks sum packets rounded head_of
    split header_octets fixed_octets front_octets back_octets wide identification presence next_counter
is_three_first = three_at 0 (omega arith) (seg 4294967294 1 (1 ∷ 2 ∷ 3 ∷ [])) refl

pub is_three_next : (c : ℕ) → c < 16384 → event_of settings cell_size (of_three 1 c) ≡ arrives (seg 4294967295 0 (4 ∷ 5 ∷ 6 ∷ []))
unfolding steps_of flags_in first_of body_start count_answer count_refusal message_tests limit_test value_tests settings_test zone_test parts_test text_test utf8_checks
    all_text is_text accepts ended unless unless_all header_checks name_checks routing_checks id_checks text_checks sum packets rounded head_of
    split header_octets fixed_octets front_octets back_octets wide identification presence next_counter
is_three_next = three_at 1 (omega arith) (seg 4294967295 0 (4 ∷ 5 ∷ 6 ∷ [])) refl

pub is_three_last : (c : ℕ) → c < 16384 → event_of settings cell_size (of_three 2 c) ≡ arrives (seg 0 2 (7 ∷ 8 ∷ []))
unfolding steps_of flags_in first_of body_start count_answer count_refusal message_tests limit_test value_tests settings_test zone_test parts_test text_test utf8_checks
    all_text is_text accepts ended unless unless_all header_checks name_checks routing_checks id_checks text_checks sum packets rounded head_of
    split header_octets fixed_octets front_octets back_octets wide identification presence next_counter
is_three_last = three_at 2 (omega arith) (seg 0 2 (7 ∷ 8 ∷ [])) refl

pub is_two_first : (c : ℕ) → c < 16384 → event_of settings cell_size (of_two 0 c) ≡ arrives (seg 1 1 (21 ∷ 22 ∷ 23 ∷ []))
unfolding steps_of flags_in head_of split identification header_octets fixed_octets presence front_octets back_octets wide next_counter
is_two_first = two_at 0 (omega arith) (seg 1 1 (21 ∷ 22 ∷ 23 ∷ [])) refl

pub is_two_last : (c : ℕ) → c < 16384 → event_of settings cell_size (of_two 1 c) ≡ arrives (seg 2 2 (24 ∷ 25 ∷ 26 ∷ 27 ∷ 28 ∷ 29 ∷ 30 ∷ []))
unfolding steps_of flags_in head_of split identification header_octets fixed_octets presence front_octets back_octets wide next_counter
is_two_last = two_at 1 (omega arith) (seg 2 2 (24 ∷ 25 ∷ 26 ∷ 27 ∷ 28 ∷ 29 ∷ 30 ∷ [])) refl

abbrev pub stray : Seg
stray = record { key = 0x18 ∷ 6 ∷ header; counter = 4294967295; flags = 0; body = 4 ∷ [] }

pub is_single : event_of settings cell_size single ≡ passes
unfolding may_hold read_packet refusal_of refused_header accepted_header primary_tests begun check octets number_at primary_of octet_field wide_field sdu_field after_sdu
    after_area after_service after_operation after_version after_session after_secondary field_from after_qualifier after_transaction after_presence
    fixed_of flags_of present_of ids_of texts_of body_test
is_single = refl

pub is_stub : event_of settings cell_size stub ≡ passes
unfolding may_hold read_packet refusal_of refused_header accepted_header primary_tests begun check octets number_at primary_of octet_field wide_field sdu_field after_sdu
    after_area after_service after_operation after_version after_session after_secondary field_from after_qualifier after_transaction after_presence
    fixed_of flags_of present_of ids_of texts_of body_test
is_stub = refl

pub is_huge : event_of settings cell_size huge ≡ passes
unfolding may_hold read_packet refusal_of refused_header accepted_header primary_tests begun check octets number_at primary_of octet_field wide_field sdu_field after_sdu
    after_area after_service after_operation after_version after_session after_secondary field_from after_qualifier after_transaction after_presence
    fixed_of flags_of present_of ids_of texts_of body_test
is_huge = refl

pub is_other : event_of settings cell_size other ≡ arrives stray
unfolding seg_of key_of counter_place may_hold read_packet refusal_of refused_header accepted_header primary_tests begun check octets number_at primary_of octet_field
    wide_field sdu_field after_sdu after_area after_service after_operation after_version after_session after_secondary field_from after_qualifier after_transaction
    after_presence fixed_of flags_of present_of ids_of texts_of body_test
is_other = refl

-- it would be read, but for its length
pub huge_read : (read_packet settings huge).refusal.number ≡ 0
unfolding read_packet refusal_of refused_header accepted_header primary_tests begun check octets number_at primary_of octet_field wide_field sdu_field after_sdu after_area
    after_service after_operation after_version after_session after_secondary field_from after_qualifier after_transaction after_presence fixed_of flags_of present_of ids_of texts_of body_test
huge_read = refl
