-- A message in the store by the places of its segments: what the loops of taking follow. The public promise is over `picked`.
-- Assumes nothing: these are definitions.
use Rattle.std.specs.Prelude.{ℕ, zero, suc, ◌+◌, ◌-◌, ◌/◌, ◌≤◌, ◌≡◌, Bool, true, false, List, [], ◌∷◌, ◌++◌, length, ltb, eqb, Some, None}
use Rattle.std.specs.Prelude.{Option as CodeOption}
use Rattle.std.proofs.Math.Option.{Option, none, some}
use Rattle.octets.specs.Octets.{pick, octet_at}
use Rattle.walk.specs.declared.Settings.{Settings}
use Rattle.cells.specs.Segments.{Seg}
use Rattle.cells.specs.Rows.{row_at, zero_row}
use Rattle.cells.specs.Order.{cell_at, found_in, lowest}
use Rattle.cells.specs.Chains.{bucket_at, LentChains, ChainedIf}
use Rattle.taking.specs.declared.Message.{Message}
use Rattle.taking.specs.declared.Copied.{Copied}
use Rattle.cells.specs.Messages.{role_of, link_by, Run, body_of, cells_of, run_in, picked}
use Rattle.cells.specs.Pieces.{seg_in}

-- the segment in cell j, if it holds one
abbrev pub seg_at : Settings → ℕ → List ℕ → ℕ → Seg
seg_at s Z st j = seg_in s (row_at Z st j)

-- ---- the places of a run

-- cell j below n goes on with a run
abbrev pub on_at : Settings → ℕ → List ℕ → ℕ → ℕ → Option (List ℕ) → Option (List ℕ)
on_at s Z st n j r = pick (ltb j n) (link_by (role_of (seg_at s Z st j).flags) j r) none

abbrev pub places_of : Option (List ℕ) → List ℕ
places_of none = []
places_of (some js) = js

-- the bodies in these cells
unfoldable pub bodies_at : Settings → ℕ → List ℕ → List ℕ → List ℕ
bodies_at s Z st [] = []
bodies_at s Z st (j ∷ js) = (seg_at s Z st j).body ++ bodies_at s Z st js

-- ---- as the code tells it

-- b and the octets of the bodies, if the run is complete
abbrev pub total : Settings → ℕ → List ℕ → ℕ → Option (List ℕ) → CodeOption ℕ
total s Z st b none = None
total s Z st b (some js) = Some (b + length (bodies_at s Z st js))

-- the octets of the message's body
abbrev pub answer : Option Run → CodeOption ℕ
answer none = None
answer (some r) = Some (length (body_of r))

-- a message with its first in cell i, of so many octets of body
abbrev pub message_at : ℕ → ℕ → CodeOption Message
message_at i b = Some (record { cell = i; body = b })

-- the message and the cell of its first
abbrev pub chosen : ℕ → Option Run → CodeOption Message
chosen i none = None
chosen i (some r) = message_at i (length (body_of r))

abbrev pub is_some : {A : Type 0} → Option A → Bool
is_some none = false
is_some (some a) = true

-- the packet in row i is a last segment by its sequence flags
abbrev pub ends_at : ℕ → List ℕ → ℕ → Bool
ends_at Z st i = eqb (octet_at (row_at Z st i) 4 / 64) 2

-- what is told of a message that opens with t and has m more segments: H, its first counter, and m
unfoldable pub copied_of : Seg → ℕ → Copied
copied_of t m = record { header = length t.key - 2; counter = record { 0 = t.counter }; steps = m }

-- what a search is lent: the chains of the first n cells if it goes by chains, and a zero cell
abbrev pub Lent : Settings → List ℕ → List ℕ → ℕ → LentChains → Type 0
Lent s z st n chains = ChainedIf (bucket_at s (length z) st) chains n × (z ≡ zero_row (length z))

-- ---- over the counter that follows one and the most steps from a first to its last, as `Messages` has them

module _ (next : ℕ → ℕ) (span : ℕ) where
  -- the cells with the key k from the counter c on, up to a last, f of them at the most
  unfoldable pub follow : Settings → ℕ → List ℕ → ℕ → List ℕ → ℕ → ℕ → Option (List ℕ)
  follow s Z st n k zero c = none
  follow s Z st n k (suc f) c = let r = follow s Z st n k f (next c) in on_at s Z st n (found_in s Z st n k c) r

  -- the places from the counter c on; none if the run is not complete
  unfoldable pub places_from : Settings → ℕ → List ℕ → ℕ → List ℕ → ℕ → List ℕ
  places_from s Z st n k c = places_of (follow s Z st n k span c)

  -- a complete message opens in cell i
  abbrev pub opens_at : Settings → ℕ → List ℕ → ℕ → ℕ → Bool
  opens_at s Z st n i = is_some (run_in next span (cells_of s Z st n) (cell_at s Z st i))

  unfoldable pub picked_of : Settings → ℕ → List ℕ → ℕ → CodeOption Message
  picked_of s Z st n = chosen (lowest (opens_at s Z st n) n 0) (picked next span (cells_of s Z st n))

  -- a run is complete, and there is room for its bodies from a place on
  pub record Ready (s : Settings) (Z : ℕ) (st : List ℕ) (n : ℕ) (k : List ℕ) (c place : ℕ) (out : List ℕ) : Type 0 where
    pub complete : follow s Z st n k span c ≡ some (places_from s Z st n k c)
    pub room : place + length (bodies_at s Z st (places_from s Z st n k c)) ≤ length out

  -- the message that opens in cell i is complete, and there is room for it
  pub record Opens (s : Settings) (Z : ℕ) (st : List ℕ) (n i : ℕ) (out : List ℕ) : Type 0 where
    pub places : List ℕ
    pub complete : follow s Z st n (seg_at s Z st i).key span (next (seg_at s Z st i).counter) ≡ some places
    pub room : length (seg_at s Z st i).key + length (bodies_at s Z st (i ∷ places)) ≤ length out
