-- What a message's packets have once they are read back (C-7).
-- Assumes nothing: these are definitions.
use Rattle.std.specs.Prelude.{ℕ, suc, ◌+◌, ◌%◌, ◌≤◌, ◌<◌, ◌≡◌, Bool, true, false, List, ◌++◌, length}
use Rattle.octets.specs.Octets.{Octets, most32}
use Rattle.walk.specs.declared.Settings.{Settings}
use Rattle.fields.specs.Form.{joined}
use Rattle.packet.specs.Format.{Values, flags_between, flags_first, flags_last, flags_whole, identification, header_octets, octets_of, InRange}
use Rattle.packet.specs.Numbers.{next_count, count_at, count_most, next_counter}
use Rattle.packet.specs.Reading.{segmented, read_packet}
use Rattle.packet.specs.Key.{key_of}
use Rattle.sender.specs.declared.Sender.{Sender}
use Rattle.sender.specs.Sending.{steps_of}
use Rattle.write.specs.declared.HeaderValues.{HeaderValues}
use Rattle.write.specs.Given.{Lent, head_of}
use Rattle.format.specs.Told.{values_of}
use Rattle.cut.specs.Cutting.{single, chunk, packets, header_length, given_at}
use Rattle.fewest.specs.Carrying.{body_of, first_of}

-- the values that reading tells of a packet
abbrev pub told : Settings → List ℕ → Values
told s p = values_of p (read_packet s p)

module _ (s : Settings) (P : ℕ) (v : HeaderValues) (t : Lent) (body : List ℕ) (d : Sender) where
  -- one packet is enough
  abbrev pub one_enough : Bool
  one_enough = single P (header_length s v t) (length body)

  -- how many packets
  abbrev pub number : ℕ
  number = packets P (header_length s v t) (length body)

  -- the body octets of a packet if cutting is needed
  abbrev pub full : ℕ
  full = chunk P (header_length s v t)

  -- packet number i
  abbrev pub octets_at : ℕ → List ℕ
  octets_at i = octets_of s (given_at s P v t body d i)

  -- all of them
  abbrev pub all_packets : List (List ℕ)
  all_packets = first_of octets_at number

  -- packet number i, if cutting is needed
  pub record Segment (i : ℕ) (p : List ℕ) : Type 0 where
    -- it is a segment
    pub is_segment_lem : segmented p ≡ true
    -- the first has the flags 01
    pub first : i ≡ 0 → (told s p).flags ≡ flags_first
    -- the last has 10
    pub last : suc i ≡ number → (told s p).flags ≡ flags_last
    -- those between have 00
    pub between : (i ≡ 0 → ⊥) → (suc i ≡ number → ⊥) → (told s p).flags ≡ flags_between
    -- the counter told is i steps from the sender's
    pub counter : (told s p).counter ≡ steps_of next_counter i d.counter.0
    -- and there is such a counter
    pub counter_top : (told s p).counter ≤ most32
    -- each body but the last has C octets
    pub full_body : suc i < number → length (body_of s p) ≡ full
    -- the last has 1
    pub body_some : 1 ≤ length (body_of s p)
    -- to C
    pub body_top : length (body_of s p) ≤ full

  -- packet number i, read back
  pub record Back (i : ℕ) (p : List ℕ) : Type 0 where
    -- its values are in range
    pub range : InRange s (given_at s P v t body d i)
    -- it is octets
    pub octets : Octets p
    -- reading accepts it
    pub accepted : (read_packet s p).refusal.number ≡ 0
    -- and tells its values
    pub values : told s p ≡ given_at s P v t body d i
    -- so the message's header
    pub head : (told s p).head ≡ head_of v t
    -- its key is the message's
    pub key : key_of p (read_packet s p) ≡ identification (head_of v t) ++ header_octets s (head_of v t)
    -- the sequence count is the sender's, moved on by one for each packet before
    pub count : (told s p).sequence_count ≡ count_at d.sequence_count.0 i
    -- with the wrap: 0 follows 16,383
    pub count_wraps : (told s p).sequence_count ≡ (d.sequence_count.0 + i) % suc count_most
    -- it has at most P octets
    pub limit : length p ≤ P
    -- if one packet is enough: unsegmented, flags 11
    pub whole : one_enough ≡ true → (segmented p ≡ false) × ((told s p).flags ≡ flags_whole)
    -- if cutting is needed
    pub segment : one_enough ≡ false → Segment i p

  -- all of a message's packets, read back
  pub record AllBack : Type 0 where
    -- each of them
    pub each : (i : ℕ) → i < number → Back i (octets_at i)
    -- there is at least one
    pub some : 1 ≤ number
    -- and if cutting is needed at least two, so that the first is not the last
    pub two : one_enough ≡ false → 2 ≤ number
    -- from one to the next the sequence count goes up by one, and 0 follows 16,383
    pub counts : (i : ℕ) → suc i < number → (told s (octets_at (suc i))).sequence_count ≡ next_count (told s (octets_at i)).sequence_count
    -- and if cutting is needed the counter goes up by one, and 0 follows 4,294,967,295
    pub counters : one_enough ≡ false → (i : ℕ) → suc i < number →
        (told s (octets_at (suc i))).counter ≡ next_counter (told s (octets_at i)).counter
    -- their bodies joined are the message's
    pub bodies : joined (body_of s) all_packets ≡ body
