-- A message delivered: its packets, and what reading answers of each (C-7). It is told by the answers alone.
-- Assumes nothing: these are definitions.
use Rattle.std.specs.Prelude.{ℕ, suc, ◌+◌, ◌%◌, ◌≤◌, ◌<◌, ◌≡◌, List, ◌++◌, length}
use Rattle.walk.specs.declared.Settings.{Settings}
use Rattle.fields.specs.Form.{joined}
use Rattle.packet.specs.Answer.{Header}
use Rattle.packet.specs.Format.{flags_between, flags_first, flags_last, flags_whole, identification, header_octets}
use Rattle.packet.specs.Key.{key_of}
use Rattle.packet.specs.Numbers.{next_counter}
use Rattle.sender.specs.Sending.{steps_of}
use Rattle.sender.specs.declared.Sender.{Sender}
use Rattle.write.specs.declared.HeaderValues.{HeaderValues}
use Rattle.write.specs.Given.{Lent, head_of}
use Rattle.format.specs.Told.{content}
use Rattle.fewest.specs.Carrying.{first_of}

-- n packets of at most P octets, sent by the numbers of the sender d
module _ (s : Settings) (P : ℕ) (v : HeaderValues) (t : Lent) (d : Sender) (n : ℕ) where
  -- packet number i, and what reading answers of it
  pub record Delivered (i : ℕ) (p : List ℕ) (h : Header) : Type 0 where
    -- it has at most P octets
    pub limit : length p ≤ P
    -- reading accepts it
    pub accepted : h.refusal.number ≡ 0
    -- its key is the message's
    pub key : key_of p h ≡ identification (head_of v t) ++ header_octets s (head_of v t)
    -- its sequence count is the sender's, moved on by one for each packet before; 0 follows 16,383
    pub count : h.primary.sequence_count.0 ≡ (d.sequence_count.0 + i) % 16384
    -- if it is the only one it is unsegmented, flags 11
    pub whole : n ≡ 1 → h.primary.flags ≡ flags_whole
    -- if there are more, the first has the flags 01
    pub first : 2 ≤ n → i ≡ 0 → h.primary.flags ≡ flags_first
    -- the last has 10
    pub last : 2 ≤ n → suc i ≡ n → h.primary.flags ≡ flags_last
    -- those between have 00
    pub between : 2 ≤ n → (i ≡ 0 → ⊥) → (suc i ≡ n → ⊥) → h.primary.flags ≡ flags_between
    -- and its counter is i steps from the sender's
    pub counter : 2 ≤ n → h.ids.counter.0 ≡ steps_of next_counter i d.counter.0

  -- all of them, of a message with this body
  pub record Delivers (body : List ℕ) (p : ℕ → List ℕ) (h : ℕ → Header) : Type 0 where
    -- there is at least one
    pub some : 1 ≤ n
    pub each : (i : ℕ) → i < n → Delivered i (p i) (h i)
    -- their bodies joined are the message's
    pub bodies : joined (λ (x : List ℕ). x) (first_of (λ (i : ℕ). content (p i) (h i).body) n) ≡ body
