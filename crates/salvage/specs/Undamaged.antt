-- An undamaged recording: packets that reading accepts, each after its mark, and nothing else; and the entries that its packets have.
-- Assumes nothing: these are definitions.
use Rattle.std.specs.Prelude.{ℕ, ◌+◌, ◌≡◌, List, [], ◌∷◌, ◌++◌, length}
use Rattle.octets.specs.Octets.{Octets}
use Rattle.walk.specs.declared.Settings.{Settings}
use Rattle.packet.specs.Mark.{packet_mark}
use Rattle.packet.specs.Reading.{read_packet}
use Rattle.salvage.specs.Listing.{Entry, kept_entry}

-- packets, each after its mark, one after another
unfoldable pub recording_of : List (List ℕ) → List ℕ
recording_of [] = []
recording_of (p ∷ ps) = packet_mark ++ (p ++ recording_of ps)

-- octets that reading accepts
pub record Readable (s : Settings) (p : List ℕ) : Type 0 where
  pub octets : Octets p
  pub reads : (read_packet s p).refusal.number ≡ 0

unfoldable pub AllReadable : Settings → List (List ℕ) → Type 0
AllReadable s [] = Unit {0}
AllReadable s (p ∷ ps) = Readable s p × AllReadable s ps

-- one entry for each packet, the first from a place on: mark and packet together
unfoldable pub entries_from : ℕ → List (List ℕ) → List Entry
entries_from at [] = []
entries_from at (p ∷ ps) = kept_entry at (2 + length p) ∷ entries_from (at + (2 + length p)) ps
