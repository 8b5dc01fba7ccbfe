-- A joining's answer as the definitions have it: the buffer with the body, its place there and its length; H, B and c of a message that was
-- taken; or the refusal, beside which all else is 0.
-- Assumes nothing: these are definitions.
use Rattle.std.specs.Prelude.{ℕ, Result, Ok, Err}
use Rattle.walk.specs.declared.Refusal.{Refusal}
use Rattle.walk.specs.declared.Refused.{Refused}
use Rattle.walk.specs.Walk.{no_refusal}
use Rattle.walk.specs.Told.{told}
use Rattle.packet.specs.declared.SegmentCounter.{SegmentCounter}
use Rattle.join.specs.declared.Which.{Which}
use Rattle.join.specs.declared.Which.TheVariants.{Packet as InPacket, Joined as InOutput, Nothing}
use Rattle.join.specs.declared.Joined.{Joined as Body}
use Rattle.join.specs.declared.Joined.TheVariants.{Packet, Message}

pub record Joined : Type 0 where
  pub refusal : Refusal
  pub which : Which
  pub place : ℕ
  pub length : ℕ
  pub header : ℕ
  pub body : ℕ
  pub counter : SegmentCounter

abbrev pub joined_answer : Result Body Refused → Joined
joined_answer (Ok (Packet place long)) =
    record { refusal = no_refusal; which = InPacket; place = place; length = long; header = 0; body = 0; counter = record { 0 = 0 } }
joined_answer (Ok (Message place t)) =
    record { refusal = no_refusal; which = InOutput; place = place; length = t.body; header = t.header; body = t.body; counter = t.counter }
joined_answer (Err r) =
    record { refusal = told r; which = Nothing; place = 0; length = 0; header = 0; body = 0; counter = record { 0 = 0 } }
