-- What the code hands about.
-- Assumes nothing: these are definitions.
use Rattle.std.specs.Prelude.{ℕ, ◌+◌, ◌-◌, ◌*◌, ◌/◌, ◌≤◌, ◌<◌, min, ◌≡◌, Bool, false, List, length, eqb, leb}
use Rattle.std.proofs.lemmas.List.Edits.{sets}
use Rattle.octets.specs.Octets.{pick, octet_at}
use Rattle.packet.specs.Mark.{mark_first, mark_second}
use Rattle.walk.specs.declared.Settings.{Settings}
use Rattle.salvage.specs.Answer.{Salvaged}
use Rattle.salvage.specs.Listing.{marked, Entry, Stop}
use Rattle.salvage.specs.Calling.{Called, ending, entry_size, flat, as_told}
use Rattle.salvage.specs.Parts.{off_most, call_in}

-- if none is found, there is no mark at the first n places
pub record Unmarked (here next : List ℕ) (found : Bool) (n : ℕ) : Type 0 where
  pub none : found ≡ false → (k : ℕ) → k < n → pick (eqb (octet_at here k) mark_first) (eqb (octet_at next k) mark_second) false ≡ false

-- from a place on, none up to another has a mark
pub record Passed (x : List ℕ) (from end at : ℕ) : Type 0 where
  pub low : from ≤ at
  pub top : at ≤ end
  pub none : (k : ℕ) → from ≤ k → k < at → marked x k ≡ false

-- where the grant, the places and the free entries last to
unfoldable pub end_at : ℕ → ℕ → ℕ → ℕ → ℕ
end_at at till grant free = pick (leb 2 free) (at + min grant (till - at)) at

-- entries put after n others
pub record Puts (l : List ℕ) (n : ℕ) (es : List Entry) (m : List ℕ) (r : ℕ) : Type 0 where
  pub count : r ≡ n + length es
  pub numbers : m ≡ sets l (n * entry_size) (flat es)

-- what is told of a call that has tested and listed so much before its end
abbrev pub told_after : ℕ → ℕ → ℕ → Called → Salvaged
told_after n tested entries c = as_told n (tested + c.tested) (entries + length c.entries) c.stop

-- a list of numbers with the entries of a call after so many others
abbrev pub list_with : List ℕ → ℕ → Called → List ℕ
list_with l n c = sets l (n * entry_size) (flat c.entries)

-- the end of a call after so many entries in a list of numbers
abbrev pub end_after : ℕ → List ℕ → ℕ → Stop → Called
end_after n l entries w = ending n (length l / entry_size - entries) w

-- the call over a part in hand, with a list of numbers
abbrev pub call_with : Settings → List ℕ → ℕ → Bool → Stop → ℕ → List ℕ → Called
call_with s y off ends w grant l = call_in s y off ends w grant (length l / entry_size)

-- a state that can be one with n octets from `off` on in hand
pub record Lies (off n : ℕ) (w : Stop) : Type 0 where
  pub order : w.begin ≤ w.place
  pub low : off ≤ w.place
  pub top : w.place ≤ off + n
  pub most : off + n ≤ off_most
