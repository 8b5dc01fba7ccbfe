-- What the code hands about: a segment in its cell.
-- Assumes nothing: these are definitions.
use Rattle.std.specs.Prelude.{ℕ, List}
use Rattle.walk.specs.declared.Settings.{Settings}
use Rattle.packet.specs.Answer.{Header}
use Rattle.packet.specs.Reading.{read_packet}
use Rattle.cells.specs.Segments.{Seg, seg_of}
use Rattle.cells.specs.Rows.{packet_in}
use Rattle.cells.specs.declared.messages.Piece.{Piece}

-- what is kept of a reading
unfoldable pub piece_of : Header → Piece
piece_of h = record { flags = h.primary.flags; at = h.body.at; length = h.body.length }

-- the segment in a row that holds one
abbrev pub seg_in : Settings → List ℕ → Seg
seg_in s r = seg_of (packet_in r) (read_packet s (packet_in r))
