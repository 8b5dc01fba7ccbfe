-- A PDU carried back: what is answered and written. It is read as a PDU and written as a message, with the packet type, APIDs and qualifier
-- that are lent.
-- SPEC O-10: 15, 22, the PDU's reading, 35, 33 for the source id and then for the destination id, 34, 30, 12, 21.
-- Assumes nothing: these are definitions.
use Rattle.std.specs.Prelude.{ℕ, Bool, not, List, [], ◌∷◌, ◌++◌, length, drop, ltb, leb, eqb}
use Rattle.octets.specs.Octets.{pick, most16}
use Rattle.walk.specs.declared.Settings.{Settings}
use Rattle.walk.specs.declared.Refusal.{Refusal}
use Rattle.walk.specs.declared.Tested.{Tested}
use Rattle.walk.specs.Walk.{refusal, none_failed, unless}
use Rattle.packet.specs.Format.{Head, header_octets, header_most}
use Rattle.format.specs.Told.{content}
use Rattle.write.specs.declared.HeaderValues.{HeaderValues}
use Rattle.write.specs.Given.{head_of, unless_all, bit_most, apid_idle, qos_most, session_most, secondary_apid_most}
use Rattle.write.specs.Writing.{settings_test, fine}
use Rattle.pdu.specs.declared.Header.{Header}
use Rattle.pdu.specs.Reading.{read_pdu}
use Rattle.carry.specs.declared.Route.{Route}
use Rattle.carry.specs.declared.Carried.{Carried}
use Rattle.carry.specs.Digits.{id_value, id_fits}
use Rattle.carry.specs.Message.{message_octets, timestamp_fits, lent_of}

-- ---- the tests

-- 15, then 22: the lent values within their ranges
unfoldable pub route_checks : Route → List Bool
route_checks l =
    leb l.packet_type bit_most ∷ ltb l.apid.0 apid_idle ∷ leb l.secondary_apid.0 secondary_apid_most ∷ leb l.qualifier most16
    ∷ []

unfoldable pub route_test : Settings → Route → Tested
route_test s l = unless_all (route_checks l) 22 (settings_test s none_failed)

-- 35: a QoS level or a session that a packet has not; 33: an id that is not our digits; 34; 30: a zone is withdrawn
unfoldable pub value_test : Settings → List ℕ → Header → Tested
value_test s p h =
    unless (not h.has.zone) 30
    (unless (timestamp_fits s h.has) 34
    (unless (id_fits h.has.destination (content p h.ids.destination)) 33
    (unless (id_fits h.has.source (content p h.ids.source)) 33
    (unless (leb h.fixed.session session_most) 35 (unless (leb h.fixed.qos qos_most) 35 none_failed)))))

-- ---- the message

-- its header's values
unfoldable pub message_values : Route → List ℕ → Header → HeaderValues
message_values l p h =
    record {
      packet_type = l.packet_type;
      apid = l.apid;
      sdu = h.fixed.sdu;
      area = h.fixed.area;
      service = h.fixed.service;
      operation = h.fixed.operation;
      version = h.fixed.version;
      error = h.fixed.error;
      qos = h.fixed.qos;
      session = h.fixed.session;
      secondary_apid = l.secondary_apid;
      qualifier = l.qualifier;
      transaction = h.fixed.transaction;
      has = h.has;
      source = id_value h.has.source (content p h.ids.source);
      destination = id_value h.has.destination (content p h.ids.destination);
      priority = h.ids.priority;
    }

unfoldable pub message_head : Route → List ℕ → Header → Head
message_head l p h = head_of (message_values l p h) (lent_of p h.texts)

-- 12 a header past 256; 21 an output too short
unfoldable pub size_test : Settings → Head → List ℕ → ℕ → Tested
size_test s h body room =
    unless (leb (length (message_octets s h body)) room) 21 (unless (leb (length (header_octets s h)) header_most) 12 none_failed)

-- ---- the answer: H, the octets of the body, the encoding id; or the refusal and zeros

abbrev pub not_carried : Refusal → Carried
not_carried r = record { refusal = r; header = 0; body = 0; encoding = 0 }

unfoldable pub made_answer : Settings → Head → List ℕ → ℕ → ℕ → Carried
made_answer s h body encoding room =
    pick (fine (size_test s h body room))
    (record { refusal = refusal 0; header = length (header_octets s h); body = length body; encoding = encoding })
    (not_carried (refusal (size_test s h body room).number))

unfoldable pub made_output : Settings → Head → List ℕ → List ℕ → List ℕ
made_output s h body out =
    pick (fine (size_test s h body (length out))) (message_octets s h body ++ drop (length (message_octets s h body)) out) out

-- for a PDU that was read
unfoldable pub back_answer : Settings → Route → List ℕ → Header → ℕ → Carried
back_answer s l p h room =
    pick (fine (value_test s p h)) (made_answer s (message_head l p h) (content p h.body) h.fixed.encoding room)
    (not_carried (refusal (value_test s p h).number))

unfoldable pub back_output : Settings → Route → List ℕ → Header → List ℕ → List ℕ
back_output s l p h out = pick (fine (value_test s p h)) (made_output s (message_head l p h) (content p h.body) out) out

unfoldable pub to_message_answer : Settings → Route → List ℕ → ℕ → Carried
to_message_answer s l p room =
    pick (fine (route_test s l))
    (pick (eqb (read_pdu p).refusal.number 0) (back_answer s l p (read_pdu p) room) (not_carried (read_pdu p).refusal))
    (not_carried (refusal (route_test s l).number))

-- and the output afterwards: the message from the first octet on and the rest as it was; on refusal all as it was
unfoldable pub to_message_output : Settings → Route → List ℕ → List ℕ → List ℕ
to_message_output s l p out =
    pick (fine (route_test s l)) (pick (eqb (read_pdu p).refusal.number 0) (back_output s l p (read_pdu p) out) out) out
