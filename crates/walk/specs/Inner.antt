-- How the code's structs stand for the definitions' records: the same fields.
-- Assumes nothing: these are definitions.
use Rattle.std.specs.Prelude.{ℕ}
use Rattle.walk.specs.declared.Walk.{Walk}
use Rattle.walk.specs.declared.UInteger.{UInteger}
use Rattle.walk.specs.Walk.{Reading, Step}

abbrev pub as_walk : Reading → Walk
as_walk w = record { at = w.at; refused = w.refused }

abbrev pub of_walk : Walk → Reading
of_walk w = record { at = w.at; refused = w.refused }

abbrev pub as_uinteger : Step ℕ → UInteger
as_uinteger n = record { walk = as_walk n.walk; value = n.value }
