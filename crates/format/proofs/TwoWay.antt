-- Reading and the format, both ways: what is written reads back, and is octets; what is accepted is what could have been written,
-- those values that reading tells. So a slice is accepted exactly if it is written, no two slices tell the same values, and no two
-- values are written alike.
-- Assumes nothing.
use Prim.Native.Nat.{ℕ}
use mathlib.Core.Path.{◌≡◌, refl, ap, sym, ◌∙◌, subst}
use mathlib.Core.List.{List}
use mathlib.Core.Logic.{◌↔◌}
use Rattle.octets.specs.Octets.{Octets}
use Rattle.octets.proofs.Has.{has_self}
use Rattle.walk.specs.declared.Settings.{Settings}
use Rattle.packet.specs.Format.{Values, octets_of, InRange}
use Rattle.packet.specs.Reading.{read_packet}
use Rattle.format.specs.Told.{values_of}
use Rattle.format.proofs.Start.{answered, answer}
use Rattle.format.proofs.Frame.{packet_plain}
use Rattle.format.proofs.Only.{good, told_range, told_written}
use Rattle.format.proofs.Back.{reads, refusal_back, values_back}

-- what is written is octets
pub writes_octets : (s : Settings) (v : Values) → InRange s v → Octets (octets_of s v)
writes_octets s v r = packet_plain s v r

-- what is written reads back the same
pub reads_back :
    (s : Settings) (v : Values) → InRange s v →
    ((read_packet s (octets_of s v)).refusal.number ≡ 0) × (values_of (octets_of s v) (read_packet s (octets_of s v)) ≡ v)
reads_back s v r = (
  refusal_back s (octets_of s v) v r (writes_octets s v r) (has_self (octets_of s v)) refl,
  ap (values_of (octets_of s v)) (reads s (octets_of s v) v r (writes_octets s v r) (has_self (octets_of s v)) refl)
      ∙ values_back s (octets_of s v) v r (writes_octets s v r) (has_self (octets_of s v)) refl,
)

-- what is accepted is the octets of values in range, those that reading tells
pub only_writing :
    (s : Settings) (p : List ℕ) → Octets p → (read_packet s p).refusal.number ≡ 0 →
    InRange s (values_of p (read_packet s p)) × (octets_of s (values_of p (read_packet s p)) ≡ p)
only_writing s p o h =
    let k = good s p o (answered s p h) in
    rw (answer s p h) (told_range s p o k, told_written s p o k)

-- reading accepts a slice exactly if it is the octets of values in range
pub accepts_exactly :
    (s : Settings) (p : List ℕ) → Octets p →
    (read_packet s p).refusal.number ≡ 0 ↔ ((v : Values) × InRange s v × (octets_of s v ≡ p))
accepts_exactly s p o = (
  λ h. (values_of p (read_packet s p), (only_writing s p o h).0, (only_writing s p o h).1),
  λ x. subst (λ (q : List ℕ). (read_packet s q).refusal.number ≡ 0) x.2 (reads_back s x.0 x.1).0,
)

-- no two different slices read as the same values
pub one_slice :
    (s : Settings) (p q : List ℕ) → Octets p → Octets q → (read_packet s p).refusal.number ≡ 0 → (read_packet s q).refusal.number ≡ 0 →
    values_of p (read_packet s p) ≡ values_of q (read_packet s q) → p ≡ q
one_slice s p q o u a b e = sym (only_writing s p o a).1 ∙ ap (octets_of s) e ∙ (only_writing s q u b).1

-- and no two different values are written alike
pub one_value : (s : Settings) (v u : Values) → InRange s v → InRange s u → octets_of s v ≡ octets_of s u → v ≡ u
one_value s v u r q e =
    sym (reads_back s v r).1 ∙ ap (λ (p : List ℕ). values_of p (read_packet s p)) e ∙ (reads_back s u q).1
