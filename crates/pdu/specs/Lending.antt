-- What the types of a writer's arguments say of them: source id, destination id, the lent texts and the body are octets, and a transaction
-- id has 64 bits. And what can be written: values in range, domain lengths that add up, and room.
-- Assumes nothing: these are definitions.
use Rattle.std.specs.Prelude.{ℕ, ◌≤◌, ◌≡◌, List, length}
use Rattle.octets.specs.Octets.{Octets}
use Rattle.write.specs.Given.{Lent, sum}
use Rattle.write.specs.Lending.{Bits64, LentOctets}
use Rattle.pdu.specs.declared.PduValues.{PduValues}
use Rattle.pdu.specs.Format.{octets_of, InRange}
use Rattle.pdu.specs.Given.{pdu_of}

pub record Lends (v : PduValues) (source destination : List ℕ) (t : Lent) (body : List ℕ) : Type 0 where
  pub source_octets : Octets source
  pub destination_octets : Octets destination
  pub octets : LentOctets t body
  pub transaction : Bits64 v.transaction

pub record Writable (v : PduValues) (source destination : List ℕ) (t : Lent) (body : List ℕ) (room : ℕ) : Type 0 where
  -- the format's values are in range
  pub range : InRange (pdu_of v source destination t body)
  -- the lengths of the domain's parts add up to its text; an absent one has no parts, so no text either
  pub adds : sum t.lengths ≡ length t.domain
  -- the PDU has room
  pub fits : length (octets_of (pdu_of v source destination t body)) ≤ room
