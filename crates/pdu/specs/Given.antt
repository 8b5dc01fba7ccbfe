-- The values to write as they are given, and which of them are refused by 22 or by 28.
-- SPEC O-7: too wide or out of range, a value for a field that is absent, a timestamp of another length than 6, lengths that do not make up
-- the domain; a source id, destination id, zone, session name or domain part that is not text.
-- Assumes nothing: these are definitions.
use Rattle.std.specs.Prelude.{ℕ, List, [], ◌∷◌, ◌++◌, Bool, true, length, leb, eqb}
use Rattle.octets.specs.Octets.{pick, most8, most16, most32}
use Rattle.utf8.specs.Test.{is_text}
use Rattle.fields.specs.Form.{split}
use Rattle.packet.specs.declared.Present.{Present}
use Rattle.write.specs.Given.{Lent, bit_most, sdu_most, number_fits, exact_fits, lengths_fit, utf8_checks}
use Rattle.pdu.specs.declared.PduValues.{PduValues}
use Rattle.pdu.specs.Format.{Pdu, timestamp_size}

-- the format's values for those that are given, with source id and destination id
unfoldable pub pdu_of : PduValues → List ℕ → List ℕ → Lent → List ℕ → Pdu
pdu_of v source destination t body =
    record {
      sdu = v.sdu;
      area = v.area;
      service = v.service;
      operation = v.operation;
      version = v.version;
      error = v.error;
      qos = v.qos;
      session = v.session;
      transaction = v.transaction;
      has = v.has;
      encoding = v.encoding;
      source = source;
      destination = destination;
      priority = v.priority;
      timestamp = t.timestamp;
      zone = t.zone;
      session_name = t.session_name;
      domain = split t.lengths t.domain;
      authentication = t.authentication;
      body = body;
    }

-- ---- the checks of 22

-- the largest of three and of four bits
abbrev pub qos_most : ℕ
qos_most = 7

abbrev pub session_most : ℕ
session_most = 15

-- no octets if it is not there. A PDU knows no other limit of a text
abbrev pub empty_unless : Bool → ℕ → Bool
empty_unless there n = pick there true (eqb n 0)

-- SDU type to area version
unfoldable pub name_checks : PduValues → List Bool
name_checks v =
    leb v.sdu sdu_most ∷ leb v.area most16 ∷ leb v.service most16 ∷ leb v.operation most16 ∷ leb v.version most8 ∷ []

-- error to priority. A transaction id of 64 bits always fits
unfoldable pub flag_checks : PduValues → List Bool
flag_checks v =
    leb v.error bit_most ∷ leb v.qos qos_most ∷ leb v.session session_most ∷ leb v.encoding most8
    ∷ number_fits v.has.priority v.priority most32
    ∷ []

-- the lent texts
unfoldable pub text_checks : Present → List ℕ → List ℕ → Lent → List Bool
text_checks has source destination t =
    empty_unless has.source (length source) ∷ empty_unless has.destination (length destination)
    ∷ exact_fits has.timestamp (length t.timestamp) timestamp_size
    ∷ empty_unless has.zone (length t.zone)
    ∷ empty_unless has.session_name (length t.session_name)
    ∷ empty_unless has.domain (length t.domain)
    ∷ lengths_fit has.domain t.lengths (length t.domain)
    ∷ empty_unless has.authentication (length t.authentication)
    ∷ []

unfoldable pub value_checks : PduValues → List ℕ → List ℕ → Lent → List Bool
value_checks v source destination t = name_checks v ++ (flag_checks v ++ text_checks v.has source destination t)

-- ---- the checks of 28

unfoldable pub word_checks : List ℕ → List ℕ → List ℕ → List ℕ → List (List ℕ) → List Bool
word_checks source destination zone name parts = is_text source ∷ is_text destination ∷ utf8_checks zone name parts
