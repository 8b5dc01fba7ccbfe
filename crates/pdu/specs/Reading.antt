-- What reading a PDU answers, with its order of refusals.
-- SPEC O-6: 1, 7, 8, then 5 or 27, then the optional fields from left to right (6, 10, 11, 13, 28).
-- Assumes nothing: these are definitions.
use Rattle.std.specs.Prelude.{ℕ, ◌+◌, ◌-◌, ◌/◌, ◌%◌, List, false, length, replicate, ltb, leb, eqb}
use Rattle.octets.specs.Octets.{pick, octet_at, number}
use Rattle.walk.specs.declared.Bound.{Bound}
use Rattle.walk.specs.declared.Refusal.{Refusal}
use Rattle.walk.specs.Walk.{Reading, Step, goes, going, no_refusal, check, uinteger}
use Rattle.fields.specs.Fields.{place, nowhere, opt, text}
use Rattle.packet.specs.declared.Present.{Present}
use Rattle.packet.specs.declared.Texts.{Texts}
use Rattle.packet.specs.FixedPart.{flags_of}
use Rattle.packet.specs.Reading.{texts_of, no_flags}
use Rattle.pdu.specs.declared.Fixed.{Fixed}
use Rattle.pdu.specs.declared.Ids.{Ids}
use Rattle.pdu.specs.declared.Header.{Header}
use Rattle.pdu.specs.Format.{fixed_size, pdu_settings}

-- the octets after the fixed part, as it says, and all that a PDU has by it
abbrev pub variable_of : List ℕ → ℕ
variable_of p = number 4 p 19

abbrev pub wanted : List ℕ → ℕ
wanted p = fixed_size + variable_of p

-- its fields are bound by its end alone: past it is 6
abbrev pub bound_of : List ℕ → Bound
bound_of p = record { end = length p; limit = false }

-- 1 no whole fixed part; 7 the version number; 8 the SDU type; 5 shorter than it says, 27 longer
unfoldable pub fixed_tests : List ℕ → Reading
fixed_tests p =
    check (leb (length p) (wanted p)) 27
    (check (leb (wanted p) (length p)) 5
    (check (ltb (octet_at p 0 % 32) 22) 8 (check (eqb (octet_at p 0 / 32) 1) 7 (check (leb fixed_size (length p)) 1 (goes fixed_size)))))

-- the fixed part, at its own places
unfoldable pub fixed_of : List ℕ → Fixed
fixed_of p =
    record {
      sdu = octet_at p 0 % 32;
      area = number 2 p 1;
      service = number 2 p 3;
      operation = number 2 p 5;
      version = octet_at p 7;
      error = octet_at p 8 / 128;
      qos = octet_at p 8 / 16 % 8;
      session = octet_at p 8 % 16;
      transaction = number 8 p 9;
      encoding = octet_at p 18;
    }

abbrev pub has_of : List ℕ → Present
has_of p = flags_of (octet_at p 17)

-- source id, destination id, priority
unfoldable pub ids_of : Present → List ℕ → Reading → Step Ids
ids_of has p w =
    let a = opt has.source nowhere (text pdu_settings (bound_of p) p) w in
    let x = opt has.destination nowhere (text pdu_settings (bound_of p) p) a.walk in
    let c = opt has.priority 0 (uinteger pdu_settings (bound_of p) p) x.walk in
    record { walk = c.walk; value = record { source = a.value; destination = x.value; priority = c.value } }

-- the stages
abbrev pub ids_at : List ℕ → Step Ids
ids_at p = ids_of (has_of p) p (fixed_tests p)

abbrev pub texts_at : List ℕ → Step Texts
texts_at p = texts_of pdu_settings (bound_of p) (has_of p) p (ids_at p).walk

abbrev pub ended : List ℕ → Reading
ended p = (texts_at p).walk

-- SPEC R-10: beside 5 the octets that are missing, beside 27 those that are left over; beside 6 the place in the PDU where the unfinished
-- field began
unfoldable pub refusal_of : List ℕ → Reading → Refusal
refusal_of p w =
    record {
      number = w.refused;
      octets = pick (eqb w.refused 5) (wanted p - length p) (pick (eqb w.refused 27) (length p - wanted p) 0);
      place = pick (eqb w.refused 6) w.at 0;
    }

-- what a refusal answers beside it: zeros
abbrev pub no_fixed : Fixed
no_fixed =
    record {
      sdu = 0;
      area = 0;
      service = 0;
      operation = 0;
      version = 0;
      error = 0;
      qos = 0;
      session = 0;
      transaction = 0;
      encoding = 0;
    }

unfoldable pub refused_header : Refusal → Header
refused_header r =
    record {
      refusal = r;
      fixed = no_fixed;
      has = no_flags;
      ids = record { source = nowhere; destination = nowhere; priority = 0 };
      texts =
          record {
            timestamp = nowhere;
            zone = nowhere;
            session_name = nowhere;
            count = 0;
            parts = replicate 16 nowhere;
            authentication = nowhere;
          };
      variable = 0;
      body = nowhere;
    }

-- the body stands from the last field's end to the PDU's
unfoldable pub accepted_header : List ℕ → Header
accepted_header p =
    record {
      refusal = no_refusal;
      fixed = fixed_of p;
      has = has_of p;
      ids = (ids_at p).value;
      texts = (texts_at p).value;
      variable = variable_of p;
      body = place (ended p).at (length p - (ended p).at);
    }

unfoldable pub read_pdu : List ℕ → Header
read_pdu p = pick (going (ended p)) (accepted_header p) (refused_header (refusal_of p (ended p)))
