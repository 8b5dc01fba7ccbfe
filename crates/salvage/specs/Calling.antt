-- One call along a file's list: how far it goes, what it lists, and what it answers.
-- It tests no more places than it was granted. It ends too before a place if fewer than two entries are free, and at the file's end if none is
-- free for a stretch that is open there. What is open at a stop goes over to the next call, so it is listed once.
-- Assumes nothing: these are definitions.
use Rattle.std.specs.Prelude.{ℕ, zero, suc, ◌+◌, ◌-◌, ◌/◌, Bool, false, List, [], ◌∷◌, ◌++◌, length, eqb, leb, ltb}
use Rattle.std.proofs.lemmas.List.Edits.{sets}
use Rattle.octets.specs.Octets.{pick}
use Rattle.walk.specs.declared.Settings.{Settings}
use Rattle.walk.specs.Walk.{refusal, no_refusal, going, begun}
use Rattle.salvage.specs.Answer.{Salvaged, refuses}
use Rattle.salvage.specs.Listing.{Kind, Skipped, Kept, Entry, Stop, stop, stretch, listed, onward}

-- ---- how far a call goes

-- the places that it tested, the entries that it listed, and where it stopped
pub record Called : Type 0 where
  pub tested : ℕ
  pub entries : List Entry
  pub stop : Stop

-- what a call comes to that has tested n places and listed some entries, by what the rest of it comes to
abbrev pub ahead : ℕ → List Entry → Called → Called
ahead n es c = record { tested = n + c.tested; entries = es ++ c.entries; stop = c.stop }

-- it tests no more. The end of a file of n octets is no place and needs no grant: a stretch that is open there is listed if an entry is
-- free for it; anywhere else it is handed over
unfoldable pub ending : ℕ → ℕ → Stop → Called
ending n free w =
    pick (pick (eqb w.place n) (leb (length (stretch w)) free) false)
    (record { tested = 0; entries = stretch w; stop = stop w.place w.place })
    (record { tested = 0; entries = []; stop = w })

-- no place from `till` on is tested; two entries must be free before each that is
unfoldable pub calling : Settings → List ℕ → ℕ → ℕ → ℕ → Stop → Called
calling s x till zero free w = ending (length x) free w
calling s x till (suc grant) free w =
    let r = calling s x till grant (free - length (listed s x w)) (onward s x w) in
    let more = ahead 1 (listed s x w) r in
    pick (pick (ltb w.place till) (leb 2 free) false) more (ending (length x) free w)

-- ---- what it answers

-- three numbers for each entry: kind, place, length
abbrev pub entry_size : ℕ
entry_size = 3

abbrev pub kind_number : Kind → ℕ
kind_number Skipped = 0
kind_number Kept = 1

unfoldable pub flat : List Entry → List ℕ
flat [] = []
flat (e ∷ es) = kind_number e.kind ∷ e.place ∷ e.long ∷ flat es

-- the whole file is listed: both numbers of the stop are its length n
abbrev pub is_done : ℕ → Stop → Bool
is_done n w = pick (eqb w.begin n) (eqb w.place n) false

abbrev pub as_told : ℕ → ℕ → ℕ → Stop → Salvaged
as_told n tested entries w =
    record {
      refusal = no_refusal;
      tested = tested;
      entries = entries;
      begin = w.begin;
      place = w.place;
      done = is_done n w;
    }

abbrev pub told_of : ℕ → Called → Salvaged
told_of n c = as_told n c.tested (length c.entries) c.stop

abbrev pub refused_by : ℕ → Salvaged
refused_by k = refuses (refusal k)

-- 15 first; 40 for a state that can't be one, with the place after the file's end or the stretch's beginning after the place
unfoldable pub refusal_of : Settings → List ℕ → Stop → ℕ
refusal_of s x w =
    pick (going (begun s)) (pick (leb w.begin w.place) (pick (leb w.place (length x)) 0 40) 40) (begun s).refused

-- the whole file may be tested
abbrev pub call_of : Settings → List ℕ → Stop → ℕ → ℕ → Called
call_of s x w grant free = calling s x (length x) grant free w

-- the answer of a call over a file of n octets, refused by k or by none; and the list afterwards: the entries from its first number on, the
-- rest as it was
abbrev pub answer_by : ℕ → ℕ → Called → Salvaged
answer_by k n c = pick (eqb k 0) (told_of n c) (refused_by k)

abbrev pub list_by : ℕ → List ℕ → Called → List ℕ
list_by k l c = pick (eqb k 0) (sets l 0 (flat c.entries)) l

-- the answer for a list of so many numbers, and the list afterwards
unfoldable pub salvaged : Settings → List ℕ → Stop → ℕ → ℕ → Salvaged
salvaged s x w grant long = answer_by (refusal_of s x w) (length x) (call_of s x w grant (long / entry_size))

unfoldable pub list_after : Settings → List ℕ → Stop → ℕ → List ℕ → List ℕ
list_after s x w grant l = list_by (refusal_of s x w) l (call_of s x w grant (length l / entry_size))
