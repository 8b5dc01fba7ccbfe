-- The fixed part of a secondary header: each field at the reading's place, and the refusals 7, 8 and 9 among them.
-- Assumes nothing: these are definitions.
use Rattle.std.specs.Prelude.{ℕ, ◌+◌, ◌*◌, ◌/◌, ◌%◌, List, ltb, eqb}
use Rattle.octets.specs.Octets.{octet_at, number}
use Rattle.walk.specs.declared.Bound.{Bound}
use Rattle.walk.specs.Walk.{Reading, Step, octets, check, field_from}
use Rattle.packet.specs.declared.Fixed.{Fixed}
use Rattle.packet.specs.declared.Present.{Present}
-- a number of n octets, and an octet
unfoldable pub use Rattle.walk.specs.Walk.{octet_field, wide_field}

-- binding version and SDU type, an octet: 7, then 8
unfoldable pub after_sdu : Bound → List ℕ → Reading → Reading
after_sdu b p w = check (ltb (octet_at p w.at % 32) 22) 8 (check (ltb (octet_at p w.at) 32) 7 (octets b p 1 w))

unfoldable pub sdu_field : Bound → List ℕ → Reading → Step ℕ
sdu_field b p w = record { walk = after_sdu b p w; value = octet_at p w.at % 32 }

unfoldable pub after_area : Bound → List ℕ → Reading → Reading
after_area b p w = octets b p 2 (after_sdu b p w)

unfoldable pub after_service : Bound → List ℕ → Reading → Reading
after_service b p w = octets b p 2 (after_area b p w)

unfoldable pub after_operation : Bound → List ℕ → Reading → Reading
after_operation b p w = octets b p 2 (after_service b p w)

unfoldable pub after_version : Bound → List ℕ → Reading → Reading
after_version b p w = octets b p 1 (after_operation b p w)

-- from here: error, QoS level, session and the high bits of the secondary APID, an octet: 9
unfoldable pub after_session : Bound → List ℕ → Reading → Reading
after_session b p w = check (ltb (octet_at p w.at / 8 % 4) 3) 9 (octets b p 1 w)

-- its low bits: the secondary APID is one field, which began in the octet before
unfoldable pub after_secondary : Bound → List ℕ → Reading → Reading
after_secondary b p w = field_from w (octets b p 1 (after_session b p w))

unfoldable pub after_qualifier : Bound → List ℕ → Reading → Reading
after_qualifier b p w = octets b p 2 (after_secondary b p w)

-- from here: transaction id and presence flags
unfoldable pub after_transaction : Bound → List ℕ → Reading → Reading
after_transaction b p w = octets b p 8 w

unfoldable pub after_presence : Bound → List ℕ → Reading → Reading
after_presence b p w = octets b p 1 (after_transaction b p w)

-- the readings after the area version, the qualifier, and the whole fixed part
abbrev pub names_end : Bound → List ℕ → Reading → Reading
names_end b p w = after_version b p w

abbrev pub routing_end : Bound → List ℕ → Reading → Reading
routing_end b p w = after_qualifier b p (names_end b p w)

abbrev pub fixed_end : Bound → List ℕ → Reading → Reading
fixed_end b p w = after_presence b p (routing_end b p w)

unfoldable pub fixed_of : Bound → List ℕ → Reading → Fixed
fixed_of b p w =
    record {
      sdu = octet_at p w.at % 32;
      area = number 2 p (after_sdu b p w).at;
      service = number 2 p (after_area b p w).at;
      operation = number 2 p (after_service b p w).at;
      version = octet_at p (after_operation b p w).at;
      error = octet_at p (names_end b p w).at / 128;
      qos = octet_at p (names_end b p w).at / 32 % 4;
      session = octet_at p (names_end b p w).at / 8 % 4;
      secondary_apid = record { 0 = octet_at p (names_end b p w).at % 8 * 256 + octet_at p (after_session b p (names_end b p w)).at };
      qualifier = number 2 p (after_secondary b p (names_end b p w)).at;
      transaction = number 8 p (routing_end b p w).at;
    }

-- eight presence flags from the high bit down
unfoldable pub flags_of : ℕ → Present
flags_of f =
    record {
      source = eqb (f / 128 % 2) 1;
      destination = eqb (f / 64 % 2) 1;
      priority = eqb (f / 32 % 2) 1;
      timestamp = eqb (f / 16 % 2) 1;
      zone = eqb (f / 8 % 2) 1;
      session_name = eqb (f / 4 % 2) 1;
      domain = eqb (f / 2 % 2) 1;
      authentication = eqb (f % 2) 1;
    }

unfoldable pub present_of : Bound → List ℕ → Reading → Present
present_of b p w = flags_of (octet_at p (after_transaction b p (routing_end b p w)).at)
