-- What the code hands about: a segment by its values, and what an arrival comes to before what is held is asked.
-- Assumes nothing: these are definitions.
use Rattle.std.specs.Prelude.{ℕ, Bool, not, List, eqb}
use Rattle.octets.specs.Octets.{pick, part}
use Rattle.walk.specs.declared.Settings.{Settings}
use Rattle.walk.specs.Walk.{refusal}
use Rattle.packet.specs.Answer.{Header}
use Rattle.packet.specs.Format.{flags_whole}
use Rattle.packet.specs.Reading.{read_packet}
use Rattle.packet.specs.Key.{key_of}
use Rattle.cells.specs.Segments.{Seg, both}
use Rattle.arrival.specs.Arriving.{Arrived, whole, late, refused}

-- the segment of an accepted packet, with what reading answered of it
unfoldable pub seg_with : Settings → List ℕ → ℕ → ℕ → ℕ → ℕ → Seg
seg_with s p flags at long c =
    record { key = key_of p (read_packet s p); counter = c; flags = flags; body = part p at long }

-- what a segment comes to that lies in a taken range, or that does not fit a cell
abbrev pub unplaced_of : Bool → Arrived
unplaced_of untaken = pick untaken (refused (refusal 17)) late
