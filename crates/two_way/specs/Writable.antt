-- What can be written: values in range, no zone but by the old writer, domain lengths that add up, and room.
-- Assumes nothing: these are definitions.
use Rattle.std.specs.Prelude.{ℕ, ◌≤◌, ◌≡◌, Bool, true, List, length}
use Rattle.walk.specs.declared.Settings.{Settings}
use Rattle.packet.specs.Format.{octets_of, InRange}
use Rattle.write.specs.declared.HeaderValues.{HeaderValues}
use Rattle.write.specs.declared.PacketValues.{PacketValues}
use Rattle.write.specs.Given.{Lent, sum}
use Rattle.write.specs.Writing.{zone_fits, given_packet}

pub record Writable (old : Bool) (s : Settings) (v : HeaderValues) (o : PacketValues) (t : Lent) (body : List ℕ) (room : ℕ) : Type 0 where
  -- the format's values are in range
  pub range : InRange s (given_packet v o t body)
  -- a zone is withdrawn: the old writer alone writes it
  pub zone : zone_fits old v.has ≡ true
  -- the lengths of the domain's parts add up to its text; an absent one has no parts, so no text either
  pub adds : sum t.lengths ≡ length t.domain
  -- the packet has room
  pub fits : length (octets_of s (given_packet v o t body)) ≤ room
