-- A recording handed over in pieces.
-- At each step some octets from the place reached on are in hand, as many as the caller has got; that the recording ends with them is
-- told by a caller who knows it, and only if it is so.
-- Assumes nothing: these are definitions.
use Rattle.std.specs.Prelude.{ℕ, Bool, true, false, List, [], ◌∷◌, ◌++◌, length, take, drop, leb}
use Rattle.walk.specs.declared.Settings.{Settings}
use Rattle.cells.specs.Segments.{both}
use Rattle.steps.specs.Stepping.{Stepped, wanting, ended, unmarked, torn, came, wrote, stepped, store_behind, used_by}

-- how many octets are in hand, and whether the caller would know an end
pub record Hand : Type 0 where
  pub octets : ℕ
  pub knows : Bool

abbrev pub in_hand : Hand → List ℕ → List ℕ
in_hand h x = take h.octets x

abbrev pub ends_with : Hand → List ℕ → Bool
ends_with h x = both h.knows (leb (length x) h.octets)

-- what the steps have written, and whether they came to a stop
pub record Outcome : Type 0 where
  pub stopped : Bool
  pub output : List ℕ

-- a step that wants more is made again with the next hand; a stop is the last; any other step goes on after what it used up
abbrev pub onward : Stepped → Outcome → Outcome
onward wanting r = r
onward ended r = record { stopped = true; output = [] }
onward unmarked r = record { stopped = true; output = [] }
onward torn r = record { stopped = true; output = [] }
onward (came p c) r = record { stopped = r.stopped; output = wrote p c ++ r.output }

-- the steps over the rest x of a recording, from a store st on
unfoldable pub handed : Settings → ℕ → List ℕ → List ℕ → List Hand → Outcome
handed s Z st x [] = record { stopped = false; output = [] }
handed s Z st x (h ∷ hs) =
    let d = stepped s Z st (in_hand h x) (ends_with h x) in
    let r = handed s Z (store_behind s Z st d) (drop (used_by d) x) hs in
    onward d r
