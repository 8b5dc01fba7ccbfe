-- What it is to carry a message's header and body in a list of packets of at most P octets, whatever way they were made.
-- Assumes nothing: these are definitions.
use Rattle.std.specs.Prelude.{ℕ, zero, suc, ◌≤◌, ◌≡◌, ◌⊎◌, true, false, List, [], ◌∷◌, ◌++◌, length}
use Rattle.octets.specs.Octets.{Octets}
use Rattle.walk.specs.declared.Settings.{Settings}
use Rattle.fields.specs.Form.{joined}
use Rattle.packet.specs.Format.{Head, Each, identification, header_octets}
use Rattle.packet.specs.Reading.{segmented, read_packet}
use Rattle.packet.specs.Key.{key_of}
use Rattle.format.specs.Told.{content}

-- the body of a packet: the octets at the place that reading tells
abbrev pub body_of : Settings → List ℕ → List ℕ
body_of s p = content p (read_packet s p).body

-- one packet of a header under the limit P
pub record Carried (s : Settings) (hd : Head) (P : ℕ) (p : List ℕ) : Type 0 where
  -- it is octets
  pub octets : Octets p
  -- reading accepts it
  pub accepted : (read_packet s p).refusal.number ≡ 0
  -- it has at most P octets
  pub limit : length p ≤ P
  -- its key is this header's: identification, and the secondary header without its counter
  pub key : key_of p (read_packet s p) ≡ identification hd ++ header_octets s hd

-- one unsegmented packet and no other
pub record OneWhole (ps : List (List ℕ)) : Type 0 where
  -- there is one
  pub one : length ps ≡ 1
  -- and it is unsegmented
  pub whole : Each (λ (p : List ℕ). segmented p ≡ false) ps

-- all are segments
abbrev pub AllSegments : List (List ℕ) → Type 0
AllSegments ps = Each (λ (p : List ℕ). segmented p ≡ true) ps

-- packets that carry a header and a body under the limit P
pub record Carries (s : Settings) (hd : Head) (body : List ℕ) (P : ℕ) (ps : List (List ℕ)) : Type 0 where
  -- there is at least one
  pub some : 1 ≤ length ps
  -- each is an accepted packet of this header, of at most P octets
  pub each : Each (Carried s hd P) ps
  -- it is one unsegmented packet, or all are segments
  pub kinds : OneWhole ps ⊎ AllSegments ps
  -- their bodies joined are the body
  pub bodies : joined (body_of s) ps ≡ body

-- the first n of what is numbered from 0
unfoldable pub first_of : {A : Type 0} → (ℕ → A) → ℕ → List A
first_of f zero = []
first_of f (suc n) = first_of f n ++ (f n ∷ [])
