-- What SPEC's figure 14 is written from: the header's values, the packet's own, and no texts.
-- Assumes nothing: these are definitions.
use Rattle.std.specs.Prelude.{[], false}
use Rattle.write.specs.declared.HeaderValues.{HeaderValues}
use Rattle.write.specs.declared.PacketValues.{PacketValues}
use Rattle.write.specs.Given.{Lent, lent}

abbrev pub header : HeaderValues
header =
    record {
      packet_type = 1;
      apid = record { 0 = 5 };
      sdu = 0;
      area = 1;
      service = 2;
      operation = 3;
      version = 1;
      error = 0;
      qos = 1;
      session = 0;
      secondary_apid = record { 0 = 6 };
      qualifier = 7;
      transaction = 9;
      has =
          record {
            source = false;
            destination = false;
            priority = false;
            timestamp = false;
            zone = false;
            session_name = false;
            domain = false;
            authentication = false;
          };
      source = 0;
      destination = 0;
      priority = 0;
    }

abbrev pub own : PacketValues
own = record { flags = 3; sequence_count = record { 0 = 0 }; counter = record { 0 = 0 } }

abbrev pub texts : Lent
texts = lent [] [] [] [] [] []
