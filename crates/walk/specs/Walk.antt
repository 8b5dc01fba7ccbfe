-- A reading: where it stands, or by which number it was refused. All refusals of reading are made by `octets`, `uinteger` and `check`.
-- SPEC R-2 to R-5, R-12, V-4: first past the bound, which is 12 for a packet, then 6, then the value, octet by octet; a content whose length
-- is known is tested as a whole.
-- Assumes nothing: these are definitions.
use Rattle.std.specs.Prelude.{ℕ, ◌+◌, List, Bool, true, length, take, leb, eqb}
use Rattle.octets.specs.Octets.{pick, octet_at, number}
use Rattle.varint.specs.Varint.{Got, value, ends, bad, read_at}
use Rattle.walk.specs.declared.Settings.{Settings}
use Rattle.walk.specs.declared.Refusal.{Refusal}
use Rattle.walk.specs.declared.Tested.{Tested}
use Rattle.walk.specs.declared.Bound.{Bound}
use Rattle.walk.specs.Profile.{fixed_profile, by_profile, uinteger_size}

-- the settings for any numbers given as T and as the profile; whether they are in range is tested on the numbers as they are given
abbrev pub settings_of : ℕ → ℕ → Settings
settings_of t profile = record { t = t; profile = profile }

-- the next place; or the number of the refusal, and where it was refused: if octets were missing, where their field began
pub record Reading : Type 0 where
  pub at : ℕ
  pub refused : ℕ

-- a reading and what its last step found
pub record Step (A : Type 0) : Type 0 where
  pub walk : Reading
  pub value : A

-- the refusal of a number that tells nothing beside it, and no refusal. SPEC R-10: only 5, 27 and 6 tell more
abbrev pub refusal : ℕ → Refusal
refusal k = record { number = k; octets = 0; place = 0 }

abbrev pub no_refusal : Refusal
no_refusal = refusal 0

-- what tests of values have come to: no refusal, and the one of a number
abbrev pub none_failed : Tested
none_failed = record { number = 0 }

abbrev pub failed : ℕ → Tested
failed k = record { number = k }

-- the refusal k unless the test holds; one that is there stays
unfoldable pub unless : Bool → ℕ → Tested → Tested
unless ok k r = pick (eqb r.number 0) (pick ok r (failed k)) r

-- a reading that goes on at a place
abbrev pub goes : ℕ → Reading
goes at = record { at = at; refused = 0 }

-- a reading that was refused by k at a place
abbrev pub refused : ℕ → ℕ → Reading
refused at k = record { at = at; refused = k }

-- whether it still goes on
abbrev pub going : Reading → Bool
going w = eqb w.refused 0

-- the secondary header stands after the six octets of the primary one and has at most 256: it ends here at the latest
abbrev pub header_end : ℕ
header_end = 262

-- T is 1 to 16 octets
abbrev pub timestamp_least : ℕ
timestamp_least = 1

abbrev pub timestamp_most : ℕ
timestamp_most = 16

-- so a packet's fields are bound by the header's limit
abbrev pub header_bound : Bound
header_bound = record { end = header_end; limit = true }

-- to go past a bound is 12 if it is the header's limit, else 6
abbrev pub past : Bound → ℕ
past b = pick b.limit 12 6

-- n octets at the place: past the bound, then past the end 6
unfoldable pub octets : Bound → List ℕ → ℕ → Reading → Reading
octets b p n w =
    pick (going w)
    (pick (leb (w.at + n) b.end) (pick (leb (w.at + n) (length p)) (goes (w.at + n)) (refused w.at 6)) (refused w.at (past b)))
    w

-- a test on what was read: if it fails, the refusal k
unfoldable pub check : Bool → ℕ → Reading → Reading
check ok k w = pick (going w) (pick ok w (refused w.at k)) w

-- a field of several steps, from w to r: if it is refused in any of them, it began at w
unfoldable pub field_from : Reading → Reading → Reading
field_from w r = pick (going r) r (refused w.at r.refused)

-- where octets end inside a number, the bound comes first if it is reached, else 6
abbrev pub ended_by : Bound → List ℕ → ℕ
ended_by b p = pick (leb b.end (length p)) (past b) 6

-- what a Varint's reading from a place on means here
unfoldable pub varint_step : Bound → List ℕ → ℕ → Got → Step ℕ
varint_step b p at (value v next) = record { walk = goes next; value = v }
varint_step b p at ends = record { walk = refused at (ended_by b p); value = 0 }
varint_step b p at bad = record { walk = refused at 10; value = 0 }

-- a Varint of at most 32 bits, among the octets up to the bound
unfoldable pub varint_field : Bound → List ℕ → Reading → Step ℕ
varint_field b p w = pick (going w) (varint_step b p w.at (read_at 32 (take b.end p) w.at)) (record { walk = w; value = 0 })

-- an octet
unfoldable pub octet_field : Bound → List ℕ → Reading → Step ℕ
octet_field b p w = record { walk = octets b p 1 w; value = octet_at p w.at }

-- a number of n octets, tested as a whole
unfoldable pub wide_field : ℕ → Bound → List ℕ → Reading → Step ℕ
wide_field n b p w = record { walk = octets b p n w; value = number n p w.at }

-- an unsigned number of at most 32 bits, under the settings
unfoldable pub uinteger : Settings → Bound → List ℕ → Reading → Step ℕ
uinteger s b p w = by_profile s (varint_field b) (wide_field uinteger_size b) p w

-- where reading begins: 15 for T and the profile, and then the secondary header after the six octets of the primary one
unfoldable pub begun : Settings → Reading
begun s =
    check (leb s.profile fixed_profile) 15 (check (leb s.t timestamp_most) 15 (check (leb timestamp_least s.t) 15 (goes 6)))
