-- What a message and its PDU say of each other, by the two formats and no reader; and exactly which messages cross, and which PDUs.
-- SPEC O-8 to O-10. Ids are digits on the other side; packet type, APIDs and qualifier are lent for the way back, and the encoding id for the
-- way there.
-- Assumes nothing: these are definitions.
use Rattle.std.specs.Prelude.{ℕ, ◌≤◌, ◌<◌, ◌≡◌, true, false, List, length}
use Rattle.octets.specs.Octets.{most8, most32}
use Rattle.walk.specs.declared.Settings.{Settings}
use Rattle.packet.specs.declared.Present.{Present}
use Rattle.packet.specs.Format.{Head, SettingsInRange, HeadInRange, header_octets, header_most}
use Rattle.pdu.specs.Format.{Pdu, timestamp_size, rest_octets, octets_of, InRange}
use Rattle.carry.specs.declared.Route.{Route}
use Rattle.carry.specs.Digits.{id_text, id_value, id_fits}
use Rattle.carry.specs.Message.{message_octets}

abbrev pub flags_of_head : Head → Present
flags_of_head h =
    record {
      source = h.has_source;
      destination = h.has_destination;
      priority = h.has_priority;
      timestamp = h.has_timestamp;
      zone = h.has_zone;
      session_name = h.has_session_name;
      domain = h.has_domain;
      authentication = h.has_authentication;
    }

-- the PDU of a message
unfoldable pub pdu_for : ℕ → Head → List ℕ → Pdu
pdu_for e h body =
    record {
      sdu = h.sdu;
      area = h.area;
      service = h.service;
      operation = h.operation;
      version = h.version;
      error = h.error;
      qos = h.qos;
      session = h.session;
      transaction = h.transaction;
      has = flags_of_head h;
      encoding = e;
      source = id_text h.has_source h.source;
      destination = id_text h.has_destination h.destination;
      priority = h.priority;
      timestamp = h.timestamp;
      zone = h.zone;
      session_name = h.session_name;
      domain = h.domain;
      authentication = h.authentication;
      body = body;
    }

-- the header of a PDU's message
unfoldable pub head_for : Route → Pdu → Head
head_for l v =
    record {
      packet_type = l.packet_type;
      apid = l.apid.0;
      sdu = v.sdu;
      area = v.area;
      service = v.service;
      operation = v.operation;
      version = v.version;
      error = v.error;
      qos = v.qos;
      session = v.session;
      secondary_apid = l.secondary_apid.0;
      qualifier = l.qualifier;
      transaction = v.transaction;
      has_source = v.has.source;
      has_destination = v.has.destination;
      has_priority = v.has.priority;
      has_timestamp = v.has.timestamp;
      has_zone = v.has.zone;
      has_session_name = v.has.session_name;
      has_domain = v.has.domain;
      has_authentication = v.has.authentication;
      source = id_value v.has.source v.source;
      destination = id_value v.has.destination v.destination;
      priority = v.priority;
      timestamp = v.timestamp;
      zone = v.zone;
      session_name = v.session_name;
      domain = v.domain;
      authentication = v.authentication;
    }

-- what has no field in a PDU
unfoldable pub route_of : Head → Route
route_of h =
    record {
      packet_type = h.packet_type;
      apid = record { 0 = h.apid };
      secondary_apid = record { 0 = h.secondary_apid };
      qualifier = h.qualifier;
    }

-- a message that crosses, with so much room
pub record Crosses (s : Settings) (e : ℕ) (m : List ℕ) (room : ℕ) : Type 0 where
  pub settings : SettingsInRange s
  pub encoding : e ≤ most8
  pub head : Head
  pub body : List ℕ
  pub octets : message_octets s head body ≡ m
  pub range : HeadInRange s head
  pub limit : length (header_octets s head) ≤ header_most
  pub timestamp : head.has_timestamp ≡ true → s.t ≡ timestamp_size
  pub variable : length (rest_octets (pdu_for e head body)) ≤ most32
  pub fits : length (octets_of (pdu_for e head body)) ≤ room

-- the lent values of the way back within their ranges
pub record RouteInRange (l : Route) : Type 0 where
  pub packet_type : l.packet_type < 2
  pub apid : l.apid.0 < 2047
  pub secondary_apid : l.secondary_apid.0 < 2048
  pub qualifier : l.qualifier < 65536

-- a PDU that crosses, with so much room
pub record Returns (s : Settings) (l : Route) (p : List ℕ) (room : ℕ) : Type 0 where
  pub settings : SettingsInRange s
  pub route : RouteInRange l
  pub pdu : Pdu
  pub octets : octets_of pdu ≡ p
  pub range : InRange pdu
  pub qos : pdu.qos < 4
  pub session : pdu.session ≤ 2
  pub source : id_fits pdu.has.source pdu.source ≡ true
  pub destination : id_fits pdu.has.destination pdu.destination ≡ true
  pub timestamp : pdu.has.timestamp ≡ true → s.t ≡ timestamp_size
  pub zone : pdu.has.zone ≡ false
  pub limit : length (header_octets s (head_for l pdu)) ≤ header_most
  pub fits : length (message_octets s (head_for l pdu) pdu.body) ≤ room
