-- Joining a recording.
-- SPEC G-2, G-3: 32 cells, from mark to mark, as far as whole packets follow; T 8 and Varints if nothing else is said.
-- Assumes nothing: these are definitions.
use Rattle.std.specs.Prelude.{ℕ, zero, suc, ◌*◌, true, List, [], ◌++◌, length, drop, replicate}
use Rattle.walk.specs.declared.Settings.{Settings}
use Rattle.walk.specs.Profile.{varint_profile}
use Rattle.cells.specs.Order.{cell_size}
use Rattle.steps.specs.Stepping.{stepped, store_behind, used_by, written_by}

-- what f steps write over the rest x of a recording, from a store st on; where it stops, no step goes on
unfoldable pub recorded_from : Settings → ℕ → ℕ → List ℕ → List ℕ → List ℕ
recorded_from s Z zero st x = []
recorded_from s Z (suc f) st x =
    let d = stepped s Z st x true in
    let r = recorded_from s Z f (store_behind s Z st d) (drop (used_by d) x) in
    written_by d ++ r

-- SPEC G-2: of a recording of which nothing else is said
abbrev pub settings : Settings
settings = record { t = 8; profile = varint_profile }

abbrev pub cell_count : ℕ
cell_count = 32

abbrev pub empty_store : List ℕ
empty_store = replicate (cell_count * cell_size) 0

-- no more steps than octets
unfoldable pub recorded : Settings → List ℕ → List ℕ
recorded s x = recorded_from s cell_size (length x) empty_store x
