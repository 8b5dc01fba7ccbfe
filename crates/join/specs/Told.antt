-- What joining answers: SPEC's word for the buffer as a number, and the answer for what joining comes to.
-- SPEC J-4: the buffer with the body, its place there and its length. A-2: beside a refusal's number all else is 0.
-- Assumes nothing: these are definitions.
use Rattle.std.specs.Prelude.{ℕ, ◌+◌}
use Rattle.packet.specs.declared.SegmentCounter.{SegmentCounter}
use Rattle.taking.specs.Answer.{Taken}
use Rattle.taking.specs.Taking.{message}
use Rattle.walk.specs.Walk.{refusal}
use Rattle.taking.specs.Told.{taken_of}
use Rattle.join.specs.declared.Which.{Which}
use Rattle.join.specs.declared.Which.TheVariants.{Packet, Joined as InJoined, Nothing}
use Rattle.join.specs.Answer.{Joined}
use Rattle.join.specs.Joining.{Joining, in_packet, in_output, unjoined}

-- SPEC's words for the buffer that holds a body, as numbers, and 0 if there is no body
abbrev pub buffer_number : Which → ℕ
buffer_number Nothing = 0
buffer_number Packet = 1
buffer_number InJoined = 2

abbrev pub no_counter : SegmentCounter
no_counter = record { 0 = 0 }

-- a message with this H, B and c: its body stands in the output after the two octets of identification and the header
abbrev pub taken : Taken → Joined
taken t =
    record {
      refusal = refusal 0;
      which = InJoined;
      place = 2 + t.header;
      length = t.body;
      header = t.header;
      body = t.body;
      counter = t.counter;
    }

-- the answer for what joining comes to
abbrev pub joined_of : Joining → Joined
joined_of (in_packet place long) =
    record {
      refusal = refusal 0;
      which = Packet;
      place = place;
      length = long;
      header = 0;
      body = 0;
      counter = no_counter;
    }
joined_of (in_output r) = taken (taken_of (message r))
joined_of (unjoined r) =
    record { refusal = r; which = Nothing; place = 0; length = 0; header = 0; body = 0; counter = no_counter }
