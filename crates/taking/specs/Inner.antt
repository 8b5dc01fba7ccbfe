-- What the code hands about: a segment in its cell, told where its body begins.
-- Assumes nothing: these are definitions.
use Rattle.std.specs.Prelude.{ℕ, ◌/◌, List, length}
use Rattle.octets.specs.Octets.{octet_at, part}
use Rattle.cells.specs.Rows.{packet_in}
use Rattle.cells.specs.declared.messages.Piece.{Piece}

-- what is kept of a segment, by the octets of its row, told where its packet's body begins
unfoldable pub piece_in : List ℕ → ℕ → Piece
piece_in r body_at =
    record { flags = octet_at r 4 / 64; at = body_at; length = length (part (packet_in r) body_at (length (packet_in r))) }
