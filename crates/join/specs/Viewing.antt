-- The view of a body.
-- SPEC J-6: a part of the packet or of the output, by what joining told; what does not lie inside its buffer is an empty part.
-- Assumes nothing: these are definitions.
use Rattle.std.specs.Prelude.{ℕ, ◌+◌, List, [], length, leb}
use Rattle.octets.specs.Octets.{pick, part}
use Rattle.join.specs.declared.Which.{Which}
use Rattle.join.specs.declared.Which.TheVariants.{Packet, Joined, Nothing}

-- the part of a buffer at a place, empty if place and length are not inside
unfoldable pub inside : List ℕ → ℕ → ℕ → List ℕ
inside b place long = pick (leb (place + long) (length b)) (part b place long) []

-- the buffer that is named, of the packet and the joined one
abbrev pub named : Which → List ℕ → List ℕ → List ℕ
named Packet p j = p
named Joined p j = j
named Nothing p j = []

unfoldable pub viewed : Which → List ℕ → List ℕ → ℕ → ℕ → List ℕ
viewed w p j place long = inside (named w p j) place long
