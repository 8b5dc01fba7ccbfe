-- A message's header from a walk on. The pieces in which a message is written: laid one after another they are its octets. And sizes, told up to a largest one.
-- Assumes nothing: these are definitions.
use Rattle.std.specs.Prelude.{ℕ, ◌+◌, ◌-◌, ◌*◌, ◌≤◌, min, ◌≡◌, List, [], ◌∷◌, ◌++◌, length, false}
use Rattle.octets.specs.Octets.{wide}
use Rattle.walk.specs.declared.Settings.{Settings}
use Rattle.walk.specs.Walk.{Reading, Step, check}
use Rattle.fields.specs.Fields.{parts_most, place}
use Rattle.packet.specs.declared.Header.{Header as Decoded}
use Rattle.packet.specs.declared.Ids.{Ids}
use Rattle.packet.specs.declared.Present.{Present}
use Rattle.packet.specs.declared.Texts.{Texts}
use Rattle.packet.specs.FixedPart.{fixed_end, fixed_of, present_of}
use Rattle.packet.specs.Reading.{ids_of, texts_of}
use Rattle.carry.specs.Message.{message_bound, timestamp_fits, primary_of}
use Rattle.write.specs.declared.HeaderValues.{HeaderValues}
use Rattle.write.specs.declared.PacketValues.{PacketValues}
use Rattle.write.specs.Given.{Lent}
use Rattle.write.specs.Inner.{type_unit, secondary_flag, name_pieces, routing_pieces, front_pieces, middle_pieces, end_pieces}

-- ---- the header from a walk on

abbrev pub has_from : List ℕ → Reading → Present
has_from m w = present_of message_bound m w

abbrev pub ids_from : Settings → List ℕ → Reading → Step Ids
ids_from s m w = ids_of s message_bound false (has_from m w) m (fixed_end message_bound m w)

abbrev pub texts_from : Settings → List ℕ → Reading → Step Texts
texts_from s m w = texts_of s message_bound (has_from m w) m (ids_from s m w).walk

abbrev pub ended_from : Settings → List ℕ → Reading → Reading
ended_from s m w = check (timestamp_fits s (has_from m w)) 34 (texts_from s m w).walk

-- its values, and the body
abbrev pub message_from : Settings → List ℕ → Reading → Step Decoded
message_from s m w =
    record {
      walk = ended_from s m w;
      value =
          record {
            primary = primary_of m;
            fixed = fixed_of message_bound m w;
            has = has_from m w;
            ids = (ids_from s m w).value;
            texts = (texts_from s m w).value;
            h = (ended_from s m w).at - 2;
            body = place (ended_from s m w).at (length m - (ended_from s m w).at);
            withdrawn = (has_from m w).zone;
          };
    }

-- ---- the pieces

-- sequence flags 11: no counter
abbrev pub whole : PacketValues
whole = record { flags = 3; sequence_count = record { 0 = 0 }; counter = record { 0 = 0 } }

unfoldable pub message_pieces : Settings → HeaderValues → Lent → List ℕ → List (List ℕ)
message_pieces s v t body =
    (wide 2 (v.packet_type * type_unit + secondary_flag + v.apid.0) ∷ [])
    ++ (name_pieces v
    ++ (routing_pieces v
    ++ (front_pieces v whole
    ++ (middle_pieces s v.has v.priority t
    ++ (end_pieces s v.has t ++ (body ∷ []))))))

-- a domain's octets, told up to one above what a header holds
abbrev pub joined_most : ℕ
joined_most = 257

abbrev pub told_to : ℕ → ℕ
told_to n = min joined_most n

-- at most sixteen parts, in sixteen places
abbrev pub Few : Texts → Type 0
Few x = (x.count ≤ parts_most) × (length x.parts ≡ parts_most)
