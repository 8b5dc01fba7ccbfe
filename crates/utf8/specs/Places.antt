-- The test by places, as the code goes through it: the octets of a list from a place on.
-- Assumes nothing: these are definitions.
use Rattle.std.specs.Prelude.{ℕ, zero, suc, ◌+◌, ◌-◌, Bool, true, List, ltb, leb}
use Rattle.octets.specs.Octets.{pick, octet_at}
use Rattle.utf8.specs.Test.{both, ended, follows}

-- the octet k places before a place, and 0 before the first
unfoldable pub octet_before : List ℕ → ℕ → ℕ → ℕ
octet_before o at k = pick (leb k at) (octet_at o (at - k)) 0

-- no character is unfinished at a place
unfoldable pub ended_at : List ℕ → ℕ → Bool
ended_at o at = ended (octet_before o at 3) (octet_before o at 2) (octet_before o at 1)

-- the octet at a place may stand there
unfoldable pub follows_at : List ℕ → ℕ → Bool
follows_at o at = follows (octet_before o at 3) (octet_before o at 2) (octet_before o at 1) (octet_at o at)

-- the octet at a place is a character by itself
unfoldable pub single_at : List ℕ → ℕ → Bool
single_at o at = ltb (octet_at o at) 0x80

-- a test of each of n places from a place on
unfoldable pub all : (ℕ → Bool) → ℕ → ℕ → Bool
all f at zero = true
all f at (suc n) = both (all f at n) (f (at + n))
