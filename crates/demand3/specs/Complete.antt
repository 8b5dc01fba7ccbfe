-- When a message is complete in a store's cells.
-- SPEC S-8: under one key a first at some counter, a last some steps on, a continuation at every counter in between.
-- Assumes nothing: these are definitions.
use Rattle.std.specs.Prelude.{ℕ, ◌≤◌, ◌<◌, ◌≡◌, ◌≢◌}
use Rattle.std.proofs.Math.Option.{some}
use mathlib.Core.List.{List, ◌∷◌, ◌++◌, Memᴰ}
use Rattle.cells.specs.Segments.{Seg}
use Rattle.cells.specs.Rows.{Cell, held}
use Rattle.cells.specs.Messages.{Role, first, middle, last, role_of, look}
use Rattle.sender.specs.Sending.{steps_of}

-- a cell holds the segment
abbrev pub Held : Seg → List Cell → Type 0
Held t cs = Memᴰ (held t) cs

-- no two cells have equal key and counter
abbrev pub Distinct : List Cell → Type 0
Distinct cs = (p q : List Cell) (t u : Seg) → cs ≡ p ++ held t ∷ q → Held u q → t.key ≡ u.key → t.counter ≢ u.counter

-- so that under a held segment's key and counter that segment is found
abbrev pub Single : List Cell → Type 0
Single cs = (t : Seg) → Held t cs → look cs t.key t.counter ≡ some t

-- a cell holds a segment with this key and counter and this place in its message
abbrev pub Has : List Cell → List ℕ → ℕ → Role → Type 0
Has cs k c f = (t : Seg) × Held t cs × (t.key ≡ k) × (t.counter ≡ c) × (role_of t.flags ≡ f)

module _ (next : ℕ → ℕ) (span : ℕ) where
  -- for the key k
  pub record Complete (cs : List Cell) (k : List ℕ) (c n : ℕ) : Type 0 where
    -- there is a first at counter c
    pub opens : Has cs k c first
    -- a last n steps on, at least one and at the most the span
    pub closes : Has cs k (steps_of next n c) last
    pub onward : 1 ≤ n
    pub within : n ≤ span
    -- and continuations at each counter between
    pub between : (j : ℕ) → 0 < j → j < n → Has cs k (steps_of next j c) middle
