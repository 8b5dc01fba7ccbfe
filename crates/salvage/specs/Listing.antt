-- What is kept of a file and what is skipped.
-- From the left: a mark with a packet after it that reading accepts within the file is one kept entry, and the next place is the one after
-- them; any other place is skipped by one octet. What is skipped between kept entries is a stretch, one entry too.
-- Assumes nothing: these are definitions.
use Rattle.std.specs.Prelude.{ℕ, zero, suc, ◌+◌, ◌-◌, Bool, false, List, [], ◌∷◌, ◌++◌, length, eqb, leb, ltb}
use Rattle.octets.specs.Octets.{pick, octet_at, number, part}
use Rattle.walk.specs.declared.Settings.{Settings}
use Rattle.packet.specs.Mark.{mark_first, mark_second}
use Rattle.packet.specs.Reading.{read_packet}
pub use Rattle.salvage.specs.declared.Kind.{Kind}
pub use Rattle.salvage.specs.declared.Kind.TheVariants.{Skipped, Kept}
pub use Rattle.salvage.specs.declared.Entry.{Entry}
pub use Rattle.salvage.specs.declared.Stop.{Stop}

-- ---- what stands at a place

unfoldable pub marked : List ℕ → ℕ → Bool
marked x at = pick (eqb (octet_at x at) mark_first) (eqb (octet_at x (at + 1)) mark_second) false

-- the octets of the packet after the mark, by its length field, and those of both together
abbrev pub size_at : List ℕ → ℕ → ℕ
size_at x at = number 2 x (at + 6) + 7

abbrev pub width_at : List ℕ → ℕ → ℕ
width_at x at = 2 + size_at x at

-- a mark, and after it a packet within the file that reading accepts
unfoldable pub kept : Settings → List ℕ → ℕ → Bool
kept s x at =
    pick (marked x at)
    (pick (leb (at + width_at x at) (length x)) (eqb (read_packet s (part x (at + 2) (size_at x at))).refusal.number 0) false)
    false

-- ---- entries

-- mark and packet together are one entry
abbrev pub kept_entry : ℕ → ℕ → Entry
kept_entry at n = record { kind = Kept; place = at; long = n }

-- a stretch from a place up to another
abbrev pub skipped_entry : ℕ → ℕ → Entry
skipped_entry from at = record { kind = Skipped; place = from; long = at - from }

-- ---- from the left

-- between two places tested: where the open stretch begins, and the next place. None is open if the two are the same.
abbrev pub stop : ℕ → ℕ → Stop
stop b at = record { begin = b; place = at }

-- the stretch that is open there, if one is
unfoldable pub stretch : Stop → List Entry
stretch w = pick (ltb w.begin w.place) (skipped_entry w.begin w.place ∷ []) []

module _ (s : Settings) (x : List ℕ) where
  -- what is listed by testing the place: nothing unless it is kept; then the stretch before it comes first
  unfoldable pub listed : Stop → List Entry
  listed w = pick (kept s x w.place) (stretch w ++ (kept_entry w.place (width_at x w.place) ∷ [])) []

  -- and where that leads: after the packet, or one octet on with the stretch still open
  unfoldable pub onward : Stop → Stop
  onward w =
      let n = w.place + width_at x w.place in
      pick (kept s x w.place) (stop n n) (stop w.begin (w.place + 1))

  -- the list from a stop on, and how many places are tested for it, in f octets at most; what is open at the file's end is listed there
  unfoldable pub list_from : ℕ → Stop → List Entry
  list_from zero w = stretch w
  list_from (suc f) w =
      let r = list_from f (onward w) in
      let more = listed w ++ r in
      pick (ltb w.place (length x)) more (stretch w)

  unfoldable pub tests_from : ℕ → Stop → ℕ
  tests_from zero w = 0
  tests_from (suc f) w =
      let r = tests_from f (onward w) in
      let more = 1 + r in
      pick (ltb w.place (length x)) more 0

  -- each place tested leads on by an octet at least
  abbrev pub list_at : Stop → List Entry
  list_at w = list_from (length x - w.place) w

  abbrev pub tests_at : Stop → ℕ
  tests_at w = tests_from (length x - w.place) w

  -- the list of the file, and the places tested for it
  abbrev pub list_of : List Entry
  list_of = list_at (stop 0 0)

  abbrev pub tests_of : ℕ
  tests_of = tests_at (stop 0 0)
