-- The mark that stands before each packet of a recording (SPEC G-1).
-- Assumes nothing: these are definitions.
use Rattle.std.specs.Prelude.{ℕ, List, [], ◌∷◌}

abbrev pub mark_first : ℕ
mark_first = 0x4d

abbrev pub mark_second : ℕ
mark_second = 0x50

abbrev pub packet_mark : List ℕ
packet_mark = mark_first ∷ mark_second ∷ []
