-- What it means that a list covers a file: its entries stand one after another from the file's beginning to its end, each is what it
-- says, and no stretch follows a stretch.
-- Assumes nothing: these are definitions.
use Rattle.std.specs.Prelude.{ℕ, ◌+◌, ◌<◌, ◌≤◌, ◌≡◌, Bool, true, false, List, [], ◌∷◌, ◌++◌}
use Rattle.octets.specs.Octets.{part}
use Rattle.walk.specs.declared.Settings.{Settings}
use Rattle.salvage.specs.Listing.{kept, width_at, Kind, Skipped, Kept, Entry}

-- each entry begins where the one before it ends, the first at a place, and the last ends at another
unfoldable pub Follow : ℕ → ℕ → List Entry → Type 0
Follow from end [] = from ≡ end
Follow from end (e ∷ es) = (e.place ≡ from) × Follow (from + e.long) end es

-- a kept entry is a mark and a packet that reading accepts; a stretch is not empty, and no place in it is kept
unfoldable pub Says : Settings → List ℕ → Kind → ℕ → ℕ → Type 0
Says s x Kept at n = (kept s x at ≡ true) × (n ≡ width_at x at)
Says s x Skipped at n = (0 < n) × ((k : ℕ) → at ≤ k → k < at + n → kept s x k ≡ false)

unfoldable pub AllSay : Settings → List ℕ → List Entry → Type 0
AllSay s x [] = Unit {0}
AllSay s x (e ∷ es) = Says s x e.kind e.place e.long × AllSay s x es

-- a stretch is as long as can be: what follows it, if anything does, is kept
unfoldable pub begins : Kind → List Entry → Bool
begins k [] = true
begins Skipped (e ∷ es) = elim e.kind [ Skipped ↦ false | Kept ↦ true ]
begins Kept (e ∷ es) = true

unfoldable pub Apart : List Entry → Type 0
Apart [] = Unit {0}
Apart (e ∷ es) = (begins e.kind es ≡ true) × Apart es

-- all of that, from a place of the file to its end
pub record Covers (s : Settings) (x : List ℕ) (from end : ℕ) (es : List Entry) : Type 0 where
  pub follow : Follow from end es
  pub say : AllSay s x es
  pub apart : Apart es

-- the octets of a file that entries name, one after another
unfoldable pub named : List ℕ → List Entry → List ℕ
named x [] = []
named x (e ∷ es) = part x e.place e.long ++ named x es
