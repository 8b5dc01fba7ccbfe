-- What a taking answers: SPEC's number and values for what a taking comes to.
-- SPEC A-2: beside a refusal's number all else is 0.
-- Assumes nothing: these are definitions.
use Rattle.std.specs.Prelude.{◌-◌, length}
use Rattle.cells.specs.Messages.{body_of}
use Rattle.walk.specs.Walk.{refusal}
use Rattle.taking.specs.Answer.{Taken}
use Rattle.taking.specs.Taking.{Took, message, unable}

-- H, B and c of a message; the key is the two octets of identification and H octets of header
abbrev pub taken_of : Took → Taken
taken_of (message r) =
    record {
      refusal = refusal 0;
      header = length r.head.key - 2;
      body = length (body_of r);
      counter = record { 0 = r.head.counter };
    }
taken_of (unable k) = record { refusal = refusal k; header = 0; body = 0; counter = record { 0 = 0 } }
