-- The values that an answer of reading tells, and where the contents of its present fields stand.
-- Assumes nothing: these are definitions.
use Rattle.std.specs.Prelude.{ℕ, ◌+◌, ◌≤◌, Bool, List, [], ◌∷◌, ◌++◌, map, take}
use Rattle.octets.specs.Octets.{pick, part}
use Rattle.fields.specs.declared.Place.{Place}
use Rattle.packet.specs.Answer.{Header}
use Rattle.packet.specs.Format.{Head, Values}

-- the octets of a packet at a place
abbrev pub content : List ℕ → Place → List ℕ
content p a = part p a.at a.length

-- what the packets of a message share
unfoldable pub head_of : List ℕ → Header → Head
head_of p h =
    record {
      packet_type = h.primary.packet_type;
      apid = h.primary.apid.0;
      sdu = h.fixed.sdu;
      area = h.fixed.area;
      service = h.fixed.service;
      operation = h.fixed.operation;
      version = h.fixed.version;
      error = h.fixed.error;
      qos = h.fixed.qos;
      session = h.fixed.session;
      secondary_apid = h.fixed.secondary_apid.0;
      qualifier = h.fixed.qualifier;
      transaction = h.fixed.transaction;
      has_source = h.has.source;
      has_destination = h.has.destination;
      has_priority = h.has.priority;
      has_timestamp = h.has.timestamp;
      has_zone = h.has.zone;
      has_session_name = h.has.session_name;
      has_domain = h.has.domain;
      has_authentication = h.has.authentication;
      source = h.ids.source;
      destination = h.ids.destination;
      priority = h.ids.priority;
      timestamp = content p h.texts.timestamp;
      zone = content p h.texts.zone;
      session_name = content p h.texts.session_name;
      domain = map (content p) (take h.texts.count h.texts.parts);
      authentication = content p h.texts.authentication;
    }

-- the values of a packet
unfoldable pub values_of : List ℕ → Header → Values
values_of p h =
    record {
      head = head_of p h;
      flags = h.primary.flags;
      sequence_count = h.primary.sequence_count.0;
      counter = h.ids.counter.0;
      body = content p h.body;
    }

-- the place of a content that is there only if the flag says so
abbrev pub spot : Bool → Place → List Place
spot b a = pick b (a ∷ []) []

-- where the contents of the present fields stand: timestamp, zone, session name, domain parts, authentication id
unfoldable pub spots_of : Header → List Place
spots_of h =
    spot h.has.timestamp h.texts.timestamp
    ++ (spot h.has.zone h.texts.zone
    ++ (spot h.has.session_name h.texts.session_name
    ++ (pick h.has.domain (take h.texts.count h.texts.parts) [] ++ spot h.has.authentication h.texts.authentication)))

-- places that stand one after the other, from one place on and up to another
unfoldable pub InOrder : ℕ → List Place → ℕ → Type 0
InOrder lo [] hi = lo ≤ hi
InOrder lo (a ∷ l) hi = (lo ≤ a.at) × InOrder (a.at + a.length) l hi
