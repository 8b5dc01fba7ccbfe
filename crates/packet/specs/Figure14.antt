-- SPEC's figure 14: a packet of 27 octets with neither optional fields nor a body, its values, and all that reading answers of
-- it with T 8 and Varints. The tables and examples of the other crates cite it.
-- Assumes nothing: these are definitions.
use Rattle.std.specs.Prelude.{ℕ, List, [], ◌∷◌, false, replicate}
use Rattle.walk.specs.declared.Settings.{Settings}
use Rattle.walk.specs.Profile.{varint_profile}
use Rattle.fields.specs.Fields.{nowhere, place}
use Rattle.packet.specs.Answer.{Header}
use Rattle.packet.specs.Format.{Values}

abbrev pub settings : Settings
settings = record { t = 8; profile = varint_profile }

-- so many zeros: a body, or an output before it is written to
abbrev pub zeros : ℕ → List ℕ
zeros n = replicate n 0

abbrev pub packet : List ℕ
packet =
    0x18 ∷ 0x05 ∷ 0xC0 ∷ 0 ∷ 0 ∷ 0x14 ∷ 0 ∷ 0 ∷ 1 ∷ 0 ∷ 2 ∷ 0 ∷ 3 ∷ 1 ∷ 0x20 ∷ 6 ∷ 0 ∷ 7 ∷ 0 ∷ 0 ∷ 0 ∷ 0 ∷ 0 ∷ 0 ∷ 0 ∷ 9 ∷ 0 ∷ []

-- its values
abbrev pub values : Values
values =
    record {
      head =
          record {
            packet_type = 1;
            apid = 5;
            sdu = 0;
            area = 1;
            service = 2;
            operation = 3;
            version = 1;
            error = 0;
            qos = 1;
            session = 0;
            secondary_apid = 6;
            qualifier = 7;
            transaction = 9;
            has_source = false;
            has_destination = false;
            has_priority = false;
            has_timestamp = false;
            has_zone = false;
            has_session_name = false;
            has_domain = false;
            has_authentication = false;
            source = 0;
            destination = 0;
            priority = 0;
            timestamp = [];
            zone = [];
            session_name = [];
            domain = [];
            authentication = [];
          };
      flags = 3;
      sequence_count = 0;
      counter = 0;
      body = [];
    }

-- what reading answers
abbrev pub header : Header
header =
    record {
      refusal = record { number = 0; octets = 0; place = 0 };
      primary = record { packet_type = 1; apid = record { 0 = 5 }; flags = 3; sequence_count = record { 0 = 0 } };
      fixed =
          record {
            sdu = 0;
            area = 1;
            service = 2;
            operation = 3;
            version = 1;
            error = 0;
            qos = 1;
            session = 0;
            secondary_apid = record { 0 = 6 };
            qualifier = 7;
            transaction = 9;
          };
      has =
          record {
            source = false;
            destination = false;
            priority = false;
            timestamp = false;
            zone = false;
            session_name = false;
            domain = false;
            authentication = false;
          };
      ids = record { source = 0; destination = 0; counter = record { 0 = 0 }; priority = 0 };
      texts =
          record {
            timestamp = nowhere;
            zone = nowhere;
            session_name = nowhere;
            count = 0;
            parts = replicate 16 nowhere;
            authentication = nowhere;
          };
      h = 21;
      body = place 27 0;
      withdrawn = false;
    }
