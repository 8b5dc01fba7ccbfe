-- A message carried to the office: what is answered and written. It is read as a message and written as a PDU, whose fields say the same;
-- packet type, APIDs and qualifier have no field there.
-- SPEC O-9: 15, 22, the message's reading, 34, 23, 21.
-- Assumes nothing: these are definitions.
use Rattle.std.specs.Prelude.{ℕ, List, eqb}
use Rattle.octets.specs.Octets.{pick}
use Rattle.walk.specs.declared.Settings.{Settings}
use Rattle.walk.specs.declared.Refusal.{Refusal}
use Rattle.packet.specs.Answer.{Header}
use Rattle.format.specs.Told.{content}
use Rattle.pdu.specs.declared.PduValues.{PduValues}
use Rattle.pdu.specs.declared.Written.{Written}
use Rattle.pdu.specs.Writing.{write_answer, write_output}
use Rattle.carry.specs.Digits.{id_text}
use Rattle.carry.specs.Message.{read_message, lent_of}

-- the values of the PDU
unfoldable pub office_values : Header → ℕ → PduValues
office_values h e =
    record {
      sdu = h.fixed.sdu;
      area = h.fixed.area;
      service = h.fixed.service;
      operation = h.fixed.operation;
      version = h.fixed.version;
      error = h.fixed.error;
      qos = h.fixed.qos;
      session = h.fixed.session;
      transaction = h.fixed.transaction;
      has = h.has;
      encoding = e;
      priority = h.ids.priority;
    }

-- ids as digits
abbrev pub source_text : Header → List ℕ
source_text h = id_text h.has.source h.ids.source

abbrev pub destination_text : Header → List ℕ
destination_text h = id_text h.has.destination h.ids.destination

-- what is written for an accepted message, and the refusal of another
unfoldable pub office_answer : ℕ → List ℕ → Header → ℕ → Written
office_answer e m h room =
    write_answer (office_values h e) (source_text h) (destination_text h) (lent_of m h.texts) (content m h.body) room

unfoldable pub office_output : ℕ → List ℕ → Header → List ℕ → List ℕ
office_output e m h out =
    write_output (office_values h e) (source_text h) (destination_text h) (lent_of m h.texts) (content m h.body) out

abbrev pub not_written : Refusal → Written
not_written r = record { refusal = r; length = 0; header = 0 }

unfoldable pub to_pdu_answer : Settings → ℕ → List ℕ → ℕ → Written
to_pdu_answer s e m room =
    pick (eqb (read_message s e m).refusal.number 0) (office_answer e m (read_message s e m) room) (not_written (read_message s e m).refusal)

unfoldable pub to_pdu_output : Settings → ℕ → List ℕ → List ℕ → List ℕ
to_pdu_output s e m out = pick (eqb (read_message s e m).refusal.number 0) (office_output e m (read_message s e m) out) out
