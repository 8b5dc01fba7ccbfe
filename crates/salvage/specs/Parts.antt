-- A part of a file in hand, from a place of the file on, and a call over it.
-- It tests a place only if the longest packet lies in the part after it, or if the file ends with the part. So what stands outside does not
-- matter, and the call is one over any file around the part. Stops and entries have the file's own places.
-- Assumes nothing: these are definitions.
use Rattle.std.specs.Prelude.{ℕ, ◌+◌, ◌-◌, ◌/◌, Bool, false, List, [], ◌∷◌, ◌++◌, length, replicate, leb}
use Rattle.octets.specs.Octets.{pick}
use Rattle.walk.specs.declared.Settings.{Settings}
use Rattle.walk.specs.Walk.{going, begun}
use Rattle.salvage.specs.Answer.{Salvaged}
use Rattle.salvage.specs.Listing.{Stop}
use Rattle.salvage.specs.Calling.{Called, calling, entry_size, answer_by, list_by}

-- a mark and the longest packet that a length field tells of
abbrev pub longest : ℕ
longest = 65544

-- the last place at which a part may end: the largest number of 64 bits but one
abbrev pub off_most : ℕ
off_most = 18446744073709551614

-- of n octets in hand, those at which a place can be tested: all if the file ends with them
unfoldable pub testable : Bool → ℕ → ℕ
testable ends n = pick ends n (n + 1 - longest)

abbrev pub till_in : ℕ → Bool → ℕ → ℕ
till_in off ends n = off + testable ends n

-- a file with a part from `off` on: zeros stand before it, and one more after it unless the file ends with it; and its length
unfoldable pub around : ℕ → Bool → List ℕ → List ℕ
around off ends y = replicate off 0 ++ (y ++ pick ends [] (0 ∷ []))

unfoldable pub length_in : ℕ → Bool → ℕ → ℕ
length_in off ends n = pick ends (off + n) (off + n + 1)

abbrev pub call_in : Settings → List ℕ → ℕ → Bool → Stop → ℕ → ℕ → Called
call_in s y off ends w grant free = calling s (around off ends y) (till_in off ends (length y)) grant free w

-- whether a state can be one with n octets from `off` on in hand: the stretch begins at most at the place, and the place lies in the part
unfoldable pub holds : ℕ → ℕ → Stop → Bool
holds off n w = pick (leb (off + n) off_most) (pick (pick (leb w.begin w.place) (leb off w.place) false) (leb w.place (off + n)) false) false

-- 15 first; 40 for a state that can't be one
unfoldable pub refusal_in : Settings → ℕ → ℕ → Stop → ℕ
refusal_in s off n w = pick (going (begun s)) (pick (holds off n w) 0 40) (begun s).refused

-- the answer for a list of so many numbers, and the list afterwards
unfoldable pub salvaged_in : Settings → List ℕ → ℕ → Bool → Stop → ℕ → ℕ → Salvaged
salvaged_in s y off ends w grant long =
    answer_by (refusal_in s off (length y) w) (length_in off ends (length y)) (call_in s y off ends w grant (long / entry_size))

unfoldable pub list_in : Settings → List ℕ → ℕ → Bool → Stop → ℕ → List ℕ → List ℕ
list_in s y off ends w grant l = list_by (refusal_in s off (length y) w) l (call_in s y off ends w grant (length l / entry_size))
