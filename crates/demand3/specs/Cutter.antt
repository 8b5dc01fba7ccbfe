-- Messages of demand 3 that the cutter makes (J-2): values, lent texts, a body, a limit P and a sender's numbers for which the count
-- succeeds with two or more; their segments are the packets that `cut::packet` writes, or, if there is a zone, the old cutter.
-- Assumes nothing: these are definitions.
use Rattle.std.specs.Prelude.{ℕ, ◌+◌, ◌≤◌, ◌<◌, ◌≡◌, Bool, List, length}
use Rattle.walk.specs.declared.Settings.{Settings}
use Rattle.sender.specs.declared.Sender.{Sender}
use Rattle.write.specs.declared.HeaderValues.{HeaderValues}
use Rattle.write.specs.Given.{Lent, head_of}
use Rattle.write.specs.Lending.{Lends}
use Rattle.cut.specs.declared.Counted.{Counted}
use Rattle.cut.specs.Cutting.{header_length, count_answer, body_start}
use Rattle.fewest.specs.Cutting.{octets_at}
use Rattle.fewest.specs.Carrying.{first_of}
use Rattle.demand3.specs.Sendings.{Sending}

-- what the cutter is given beside the settings, which is the limit P, the header's values and texts, the body, and the sender's numbers as they
-- stood before the message; and whether it is the old cutter, which alone writes a zone
pub record Cutting : Type 0 where
  pub old : Bool
  pub limit : ℕ
  pub values : HeaderValues
  pub texts : Lent
  pub body : List ℕ
  pub sender : Sender

module _ (s : Settings) where
  -- what the count answers
  abbrev pub count_of : Cutting → Counted
  count_of m = count_answer m.old s m.limit m.values m.texts (length m.body) m.sender

  -- packet number i as it is cut
  abbrev pub packet_of : Cutting → ℕ → List ℕ
  packet_of m i = octets_at s m.limit m.values m.texts m.body m.sender i

  -- the message that it makes of this
  abbrev pub sending_of : Cutting → Sending
  sending_of m =
      record {
        head = head_of m.values m.texts;
        start = m.sender.counter.0;
        bodies = first_of (body_start m.limit (header_length s m.values m.texts) m.body) (count_of m).count;
      }

  -- the cutter succeeds, for cells of Z octets
  pub record Succeeds (Z : ℕ) (m : Cutting) : Type 0 where
    -- texts and body are octets, and a transaction id has 64 bits: what their types say
    pub lends : Lends m.values m.texts m.body
    -- the count succeeds, so that there are at most 4,096 segments (DEMANDS 3.2)
    pub counts : (count_of m).refusal.number ≡ 0
    -- two segments or more (DEMANDS 3.2)
    pub many : 2 ≤ (count_of m).count
    -- each has room in a cell, after its mark
    pub fits : (i : ℕ) → i < (count_of m).count → 2 + length (packet_of m i) ≤ Z
