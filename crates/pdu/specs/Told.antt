-- The values that an answer of reading a PDU tells.
-- Assumes nothing: these are definitions.
use Rattle.std.specs.Prelude.{ℕ, List, map, take}
use Rattle.format.specs.Told.{content}
use Rattle.pdu.specs.declared.Header.{Header}
use Rattle.pdu.specs.Format.{Pdu}

unfoldable pub values_of : List ℕ → Header → Pdu
values_of p h =
    record {
      sdu = h.fixed.sdu;
      area = h.fixed.area;
      service = h.fixed.service;
      operation = h.fixed.operation;
      version = h.fixed.version;
      error = h.fixed.error;
      qos = h.fixed.qos;
      session = h.fixed.session;
      transaction = h.fixed.transaction;
      has = h.has;
      encoding = h.fixed.encoding;
      source = content p h.ids.source;
      destination = content p h.ids.destination;
      priority = h.ids.priority;
      timestamp = content p h.texts.timestamp;
      zone = content p h.texts.zone;
      session_name = content p h.texts.session_name;
      domain = map (content p) (take h.texts.count h.texts.parts);
      authentication = content p h.texts.authentication;
      body = content p h.body;
    }
