-- What an answer of `cut::count` and of `cut::packet` without a refusal says, and of the old cutter too.
-- Assumes nothing: these are definitions.
use Rattle.std.specs.Prelude.{ℕ, ◌<◌, ◌≡◌, Bool, List, length, take, drop}
use Rattle.walk.specs.declared.Settings.{Settings}
use Rattle.sender.specs.declared.Sender.{Sender}
use Rattle.write.specs.declared.HeaderValues.{HeaderValues}
use Rattle.write.specs.Given.{Lent}
use Rattle.cut.specs.declared.Counted.{Counted}
use Rattle.cut.specs.declared.Cut.{Cut}
use Rattle.cut.specs.Cutting.{packets, header_length, count_refusal, sender_after}
use Rattle.fewest.specs.Cutting.{number, octets_at}

-- a count that succeeded
pub record Counts (old : Bool) (s : Settings) (P : ℕ) (v : HeaderValues) (t : Lent) (B : ℕ) (d : Sender) (r : Counted) : Type 0 where
  -- the definition refuses nothing either
  pub no_refusal_lem : (count_refusal old s P v t B d).number ≡ 0
  -- the answer is the formula's count
  pub count : r.count ≡ packets P (header_length s v t) B
  -- and the sender moved on
  pub sender : r.sender ≡ sender_after P (header_length s v t) B d

-- a packet that was written
pub record Wrote
    (old : Bool) (s : Settings) (P : ℕ) (v : HeaderValues) (t : Lent) (body : List ℕ) (d : Sender) (i : ℕ) (r : Cut) (out after : List ℕ) : Type 0 where
  -- the count succeeds
  pub no_refusal_lem : (count_refusal old s P v t (length body) d).number ≡ 0
  -- it is one of the message's
  pub below : i < number s P v t body d
  -- its octets are those of packet number i
  pub octets : take r.length after ≡ octets_at s P v t body d i
  -- after it the output is as it was
  pub rest : drop r.length after ≡ drop r.length out
  -- the sender is as it was
  pub sender : r.sender ≡ d
