-- What a held cell tells: whose message its segment is of, and which of its segments.
-- SPEC P-3 has the sequence flags, S-4 what a key is.
-- Assumes nothing: these are definitions.
use Rattle.std.specs.Prelude.{ℕ, List, Option, Some, None}
use Rattle.walk.specs.declared.Settings.{Settings}
use Rattle.packet.specs.Answer.{Header}
use Rattle.packet.specs.Reading.{read_packet}
use Rattle.cells.specs.Segments.{Seg}
use Rattle.cells.specs.Rows.{Cell, segment_in, by_segment, row_at, packet_in}
use Rattle.cells.specs.Order.{lowest, cell_at}
use Rattle.tally.specs.Counting.{keyed}
use Rattle.tally.specs.declared.Told.{Told}

-- the lowest of the first n cells that holds a segment of this key; n if there is none
unfoldable pub key_at : Settings → ℕ → List ℕ → ℕ → List ℕ → ℕ
key_at s Z st n k = lowest (λ j. keyed k (cell_at s Z st j)) n 0

-- a cell that holds nothing tells nothing
abbrev pub untold : Option Told
untold = None

-- a segment in cell i, with what reading answers of its packet: the lowest cell of its key, which may be its own; packet type, APID, SDU
-- type and transaction id; sequence flags and counter
abbrev pub told_by : Settings → ℕ → List ℕ → ℕ → Header → Seg → Option Told
told_by s Z st i h t =
    Some (record {
      key = key_at s Z st i t.key;
      packet_type = h.primary.packet_type;
      apid = h.primary.apid.0;
      sdu = h.fixed.sdu;
      transaction = h.fixed.transaction;
      flags = t.flags;
      counter = t.counter;
    })

abbrev pub told_in : Settings → ℕ → List ℕ → ℕ → Cell → Option Told
told_in s Z st i x = by_segment untold (told_by s Z st i (read_packet s (packet_in (row_at Z st i)))) (segment_in x)

abbrev pub told_at : Settings → ℕ → List ℕ → ℕ → Option Told
told_at s Z st i = told_in s Z st i (cell_at s Z st i)
