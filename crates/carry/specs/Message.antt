-- A message in the form that taking writes (SPEC S-11): identification, secondary header without a counter, body. Its octets, and what
-- reading it answers: as a packet of flags 11 would be read, from its third octet on, without the fields that it lacks.
-- SPEC O-9: 1 for fewer than two octets, 2 to 4, then the header's fields from left to right (12, 6, then the value); 34.
-- Assumes nothing: these are definitions.
use Rattle.std.specs.Prelude.{ℕ, ◌-◌, ◌/◌, ◌%◌, List, ◌++◌, map, Bool, true, false, not, length, take, ltb, leb, eqb}
use Rattle.octets.specs.Octets.{pick, octet_at, number, most8}
use Rattle.octets.specs.Laying.{together}
use Rattle.walk.specs.declared.Settings.{Settings}
use Rattle.walk.specs.declared.Refusal.{Refusal}
use Rattle.walk.specs.declared.Bound.{Bound}
use Rattle.walk.specs.declared.Tested.{Tested}
use Rattle.walk.specs.Walk.{Reading, Step, refused, going, no_refusal, none_failed, check, unless}
use Rattle.fields.specs.Fields.{place}
use Rattle.packet.specs.declared.Primary.{Primary}
use Rattle.packet.specs.declared.Present.{Present}
use Rattle.packet.specs.declared.Ids.{Ids}
use Rattle.packet.specs.declared.Texts.{Texts}
use Rattle.packet.specs.Answer.{Header}
use Rattle.packet.specs.Format.{Head, flags_whole, identification, header_octets}
use Rattle.packet.specs.FixedPart.{fixed_end, fixed_of, present_of}
use Rattle.packet.specs.Reading.{ids_of, texts_of, refused_header}
use Rattle.format.specs.Told.{content}
use Rattle.write.specs.Given.{Lent, lent}
use Rattle.write.specs.Writing.{settings_test}
use Rattle.pdu.specs.Format.{timestamp_size}

-- ---- the octets

unfoldable pub message_octets : Settings → Head → List ℕ → List ℕ
message_octets s h body = identification h ++ (header_octets s h ++ body)

-- ---- reading

-- the header stands after the identification, and has at most 256 octets
abbrev pub message_place : ℕ
message_place = 2

abbrev pub message_bound : Bound
message_bound = record { end = 258; limit = true }

-- 15, then 22: an encoding id has eight bits
unfoldable pub encoding_test : Settings → ℕ → Tested
encoding_test s e = unless (leb e most8) 22 (settings_test s none_failed)

-- 1 no whole identification; 2 the version; 3 the secondary header flag; 4 the idle APID
unfoldable pub message_tests : List ℕ → Reading → Reading
message_tests m w =
    check (not (eqb (number 2 m 0 % 2048) 2047)) 4
    (check (eqb (octet_at m 0 / 8 % 2) 1) 3 (check (ltb (octet_at m 0) 32) 2 (check (leb message_place (length m)) 1 w)))

-- the stages
abbrev pub start_at : Settings → ℕ → List ℕ → Reading
start_at s e m = message_tests m (refused message_place (encoding_test s e).number)

abbrev pub has_at : Settings → ℕ → List ℕ → Present
has_at s e m = present_of message_bound m (start_at s e m)

abbrev pub ids_at : Settings → ℕ → List ℕ → Step Ids
ids_at s e m = ids_of s message_bound false (has_at s e m) m (fixed_end message_bound m (start_at s e m))

abbrev pub texts_at : Settings → ℕ → List ℕ → Step Texts
texts_at s e m = texts_of s message_bound (has_at s e m) m (ids_at s e m).walk

-- a timestamp crosses only if T is the length that a PDU gives it
abbrev pub timestamp_fits : Settings → Present → Bool
timestamp_fits s has = pick has.timestamp (eqb s.t timestamp_size) true

abbrev pub ended : Settings → ℕ → List ℕ → Reading
ended s e m = check (timestamp_fits s (has_at s e m)) 34 (texts_at s e m).walk

-- SPEC R-10: beside 6 the place in the secondary header where the unfinished field began
unfoldable pub refusal_of : Reading → Refusal
refusal_of w = record { number = w.refused; octets = 0; place = pick (eqb w.refused 6) (w.at - message_place) 0 }

unfoldable pub primary_of : List ℕ → Primary
primary_of m =
    record {
      packet_type = octet_at m 0 / 16 % 2;
      apid = record { 0 = number 2 m 0 % 2048 };
      flags = flags_whole;
      sequence_count = record { 0 = 0 };
    }

-- H is what stands between identification and body
unfoldable pub accepted_message : Settings → ℕ → List ℕ → Header
accepted_message s e m =
    record {
      refusal = no_refusal;
      primary = primary_of m;
      fixed = fixed_of message_bound m (start_at s e m);
      has = has_at s e m;
      ids = (ids_at s e m).value;
      texts = (texts_at s e m).value;
      h = (ended s e m).at - message_place;
      body = place (ended s e m).at (length m - (ended s e m).at);
      withdrawn = (has_at s e m).zone;
    }

unfoldable pub read_message : Settings → ℕ → List ℕ → Header
read_message s e m = pick (going (ended s e m)) (accepted_message s e m) (refused_header (refusal_of (ended s e m)))

-- ---- the texts that an answer tells the places of: as they are lent to a writer, a domain's parts joined, and their lengths

abbrev pub parts_of : List ℕ → Texts → List (List ℕ)
parts_of p x = map (content p) (take x.count x.parts)

unfoldable pub lent_of : List ℕ → Texts → Lent
lent_of p x =
    lent (content p x.timestamp) (content p x.zone) (content p x.session_name) (together (parts_of p x)) (map length (parts_of p x))
    (content p x.authentication)
