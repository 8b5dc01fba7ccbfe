-- The record of the definitions for what reading answers: a header, or the refusal and zeros.
-- Assumes nothing: these are definitions.
use Rattle.std.specs.Prelude.{Result, Ok, Err}
use Rattle.walk.specs.declared.Refused.{Refused}
use Rattle.walk.specs.Walk.{no_refusal}
use Rattle.walk.specs.Told.{told}
use Rattle.pdu.specs.declared.Header.{Header}
use Rattle.pdu.specs.declared.Decoded.{Decoded}
use Rattle.pdu.specs.Reading.{refused_header}

abbrev pub whole : Decoded → Header
whole h =
    record {
      refusal = no_refusal;
      fixed = h.fixed;
      has = h.has;
      ids = h.ids;
      texts = h.texts;
      variable = h.variable;
      body = h.body;
    }

abbrev pub decoded : Result Decoded Refused → Header
decoded (Ok h) = whole h
decoded (Err r) = refused_header (told r)
