-- An answer of reading given to the writer again: the numbers as they were told, each text from its place, the domain as its parts
-- joined and their lengths as told, the body from its place.
-- Assumes nothing: these are definitions.
use Rattle.std.specs.Prelude.{ℕ, List, map, take}
use Rattle.fields.specs.declared.Place.{Place}
use Rattle.fields.specs.Form.{joined}
use Rattle.packet.specs.Answer.{Header}
use Rattle.write.specs.declared.HeaderValues.{HeaderValues}
use Rattle.write.specs.declared.PacketValues.{PacketValues}
use Rattle.write.specs.Given.{Lent, lent}
use Rattle.format.specs.Told.{content}

-- the values that all packets of a message share
unfoldable pub again_header : Header → HeaderValues
again_header h =
    record {
      packet_type = h.primary.packet_type;
      apid = h.primary.apid;
      sdu = h.fixed.sdu;
      area = h.fixed.area;
      service = h.fixed.service;
      operation = h.fixed.operation;
      version = h.fixed.version;
      error = h.fixed.error;
      qos = h.fixed.qos;
      session = h.fixed.session;
      secondary_apid = h.fixed.secondary_apid;
      qualifier = h.fixed.qualifier;
      transaction = h.fixed.transaction;
      has = h.has;
      source = h.ids.source;
      destination = h.ids.destination;
      priority = h.ids.priority;
    }

-- those of the one packet
unfoldable pub again_packet : Header → PacketValues
again_packet h = record { flags = h.primary.flags; sequence_count = h.primary.sequence_count; counter = h.ids.counter }

-- the places of the domain's parts
abbrev pub part_places : Header → List Place
part_places h = take h.texts.count h.texts.parts

-- the parts joined
unfoldable pub again_domain : List ℕ → Header → List ℕ
again_domain p h = joined (content p) (part_places h)

-- and their lengths
unfoldable pub again_lengths : Header → List ℕ
again_lengths h = map (λ (a : Place). a.length) (part_places h)

-- the texts
unfoldable pub again_texts : List ℕ → Header → Lent
again_texts p h =
    lent (content p h.texts.timestamp) (content p h.texts.zone) (content p h.texts.session_name) (again_domain p h) (again_lengths h)
    (content p h.texts.authentication)

-- the body
abbrev pub again_body : List ℕ → Header → List ℕ
again_body p h = content p h.body
