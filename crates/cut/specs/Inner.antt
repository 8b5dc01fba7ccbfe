-- The plan of a message as the code makes it, from a size h that is told up to the limit; and the numbers of a packet, total.
-- Assumes nothing: these are definitions.
use Rattle.std.specs.Prelude.{ℕ, suc, ◌+◌, ◌*◌, min, Bool, true, leb, eqb}
use Rattle.octets.specs.Octets.{pick, room_of}
use Rattle.walk.specs.declared.Tested.{Tested}
use Rattle.walk.specs.Walk.{unless}
use Rattle.fields.specs.Inner.{capped}
use Rattle.packet.specs.Format.{primary_size, counter_width, flags_between, flags_first, flags_last, flags_whole, header_most}
use Rattle.packet.specs.declared.SegmentCounter.{SegmentCounter}
use Rattle.packet.specs.Numbers.{sequence_count_at, segments_most}
use Rattle.sender.specs.declared.Sender.{Sender}
use Rattle.write.specs.declared.PacketValues.{PacketValues}
use Rattle.cut.specs.declared.Plan.{Plan}
use Rattle.cut.specs.Cutting.{counter_at, body_most, chunk, rounded}

abbrev pub single_of : ℕ → ℕ → ℕ → Bool
single_of P h B = leb (capped (primary_size + h + B)) P

abbrev pub packets_of : Bool → ℕ → ℕ → ℕ
packets_of one B C = pick one 1 (rounded B C)

unfoldable pub plan_refusal : Bool → ℕ → ℕ → ℕ → Tested → Tested
plan_refusal one h B C r =
    unless (pick one true (leb (packets_of one B C) segments_most)) 29
    (unless (pick one true (leb 1 C)) 24
    (unless (leb (pick one h (capped (h + counter_width))) header_most) 12 (unless (leb B body_most) 23 r)))

unfoldable pub plan_of : ℕ → ℕ → ℕ → Tested → Plan
plan_of P h B r =
    record {
      tested = plan_refusal (single_of P h B) h B (chunk P h) r;
      single = single_of P h B;
      chunk = chunk P h;
      count = packets_of (single_of P h B) B (chunk P h);
    }

-- the counter of segment i, 0 if there are none
abbrev pub counter_of : Bool → SegmentCounter → ℕ → ℕ
counter_of one c i = pick one 0 (counter_at c i)

-- where the part of packet i begins
abbrev pub from_of : Bool → ℕ → ℕ → ℕ → ℕ
from_of one C i B = pick one 0 (min (i * C) B)

abbrev pub to_of : Bool → ℕ → ℕ → ℕ → ℕ
to_of one from C B = pick one B (from + room_of B from C)

-- the values of packet i
unfoldable pub values_of : Bool → ℕ → Sender → ℕ → PacketValues
values_of one n d i =
    record {
      flags = pick one flags_whole (pick (eqb i 0) flags_first (pick (eqb (suc i) n) flags_last flags_between));
      sequence_count = sequence_count_at d.sequence_count i;
      counter = record { 0 = counter_of one d.counter i };
    }
