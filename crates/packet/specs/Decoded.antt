-- The record of the definitions for what reading answers: a header, or the refusal and zeros.
-- Assumes nothing: these are definitions.
use Rattle.std.specs.Prelude.{Result, Ok, Err}
use Rattle.walk.specs.declared.Refused.{Refused}
use Rattle.walk.specs.Walk.{no_refusal}
use Rattle.walk.specs.Told.{told}
use Rattle.packet.specs.Answer.{Header}
use Rattle.packet.specs.declared.Header.{Header as Decoded}
use Rattle.packet.specs.Reading.{refused_header}

abbrev pub whole : Decoded → Header
whole h =
    record {
      refusal = no_refusal;
      primary = h.primary;
      fixed = h.fixed;
      has = h.has;
      ids = h.ids;
      texts = h.texts;
      h = h.h;
      body = h.body;
      withdrawn = h.withdrawn;
    }

abbrev pub decoded : Result Decoded Refused → Header
decoded (Ok h) = whole h
decoded (Err r) = refused_header (told r)
