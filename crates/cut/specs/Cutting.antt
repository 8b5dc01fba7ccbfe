-- Cutting a message into packets of at most P octets.
-- SPEC C-2 to C-4: one unsegmented packet if 6 + H + B is not above P; else segments of C = P - H - 10 body octets, the last one with
-- what remains, as many as B / C, rounded up. 12 is judged on H alone, or with the counter's 4 octets if there is a cut.
-- A zone is withdrawn (30). `old` is true for the old cutter, which writes it and is for laws and tests alone, and false for the cutter.
-- Assumes nothing: these are definitions.
use Rattle.std.specs.Prelude.{ℕ, suc, ◌+◌, ◌-◌, ◌*◌, ◌/◌, List, ◌++◌, Bool, true, length, drop, ltb, leb, eqb}
use Rattle.octets.specs.Octets.{pick, part, most32}
use Rattle.walk.specs.declared.Settings.{Settings}
use Rattle.walk.specs.declared.Tested.{Tested}
use Rattle.walk.specs.Walk.{refusal, none_failed, unless}
use Rattle.packet.specs.Format.{Head, Values, primary_size, counter_width, flags_between, flags_first, flags_last, flags_whole, header_octets, octets_of}
use Rattle.packet.specs.Format.{packet_most, header_most}
use Rattle.packet.specs.declared.SegmentCounter.{SegmentCounter}
use Rattle.packet.specs.Numbers.{count_most, count_at, next_counter, segments_most}
use Rattle.sender.specs.declared.Sender.{Sender}
use Rattle.sender.specs.Sending.{after_packet, after_segments, steps_of}
use Rattle.write.specs.declared.HeaderValues.{HeaderValues}
use Rattle.write.specs.Given.{Lent, head_of, header_checks, unless_all}
use Rattle.write.specs.Writing.{settings_test, zone_test, parts_test, text_test, fine}
use Rattle.cut.specs.declared.Counted.{Counted}
use Rattle.cut.specs.declared.Cut.{Cut}

-- P, the packet limit for cutting, 27 to 65,542; a message body at most 1,048,576
abbrev pub limit_least : ℕ
limit_least = 27

abbrev pub body_most : ℕ
body_most = 1048576

-- ---- the formula

-- one unsegmented packet is enough
abbrev pub single : ℕ → ℕ → ℕ → Bool
single P H B = leb (primary_size + H + B) P

-- the body octets of a packet if cutting is needed
abbrev pub chunk : ℕ → ℕ → ℕ
chunk P H = P - H - (primary_size + counter_width)

-- B / C rounded up. (If C is 0 this is 0, and 24 is given.)
unfoldable pub rounded : ℕ → ℕ → ℕ
rounded B C = (B + (C - 1)) / C

-- how many packets
unfoldable pub packets : ℕ → ℕ → ℕ → ℕ
packets P H B = pick (single P H B) 1 (rounded B (chunk P H))

-- ---- the sender's numbers along a message

-- the counter of segment number i: i steps from the sender's
unfoldable pub counter_at : SegmentCounter → ℕ → ℕ
counter_at c i = steps_of next_counter i c.0

-- ---- the refusals

-- 15: T and P
unfoldable pub limit_test : Settings → ℕ → Tested → Tested
limit_test s P r = unless (leb P packet_most) 15 (unless (leb limit_least P) 15 (settings_test s r))

-- 22: the header's checks, and the sender's two numbers (of which the counter always fits: its type has no others)
unfoldable pub value_tests : Settings → HeaderValues → Lent → Sender → Tested → Tested
value_tests s v t d r =
    unless (leb d.counter.0 most32) 22 (unless (leb d.sequence_count.0 count_most) 22 (unless_all (header_checks s v t) 22 r))

-- 15, 22, 30, 13, 28: the tests on the values alone
abbrev pub value_refusal : Bool → Settings → ℕ → HeaderValues → Lent → Sender → Tested
value_refusal old s P v t d = text_test t (parts_test t (zone_test old v (value_tests s v t d (limit_test s P none_failed))))

-- 23: the body; 12: the header; 24: C below 1; 29: more segments than a message may have
unfoldable pub message_tests : ℕ → ℕ → ℕ → Tested → Tested
message_tests P H B r =
    unless (pick (single P H B) true (leb (packets P H B) segments_most)) 29
    (unless (pick (single P H B) true (leb 1 (chunk P H))) 24
    (unless (leb (pick (single P H B) H (H + counter_width)) header_most) 12 (unless (leb B body_most) 23 r)))

-- H of the values given
abbrev pub header_length : Settings → HeaderValues → Lent → ℕ
header_length s v t = length (header_octets s (head_of v t))

-- 15, 22, 30, 13, 28, 23, 12, 24, 29
unfoldable pub count_refusal : Bool → Settings → ℕ → HeaderValues → Lent → ℕ → Sender → Tested
count_refusal old s P v t B d = message_tests P (header_length s v t) B (value_refusal old s P v t d)

-- ---- the count and the numbers moved on

unfoldable pub sender_after : ℕ → ℕ → ℕ → Sender → Sender
sender_after P H B d = pick (single P H B) (after_packet d) (after_segments (packets P H B) d)

-- the number of packets and the sender's numbers after the message; or the refusal, 0 and the sender as it was
unfoldable pub count_answer : Bool → Settings → ℕ → HeaderValues → Lent → ℕ → Sender → Counted
count_answer old s P v t B d =
    record {
      refusal = refusal (count_refusal old s P v t B d).number;
      count = pick (fine (count_refusal old s P v t B d)) (packets P (header_length s v t) B) 0;
      sender = pick (fine (count_refusal old s P v t B d)) (sender_after P (header_length s v t) B d) d;
    }

-- ---- packet number i

-- sequence flags: 11 unsegmented, 01 first, 10 last, 00 between
unfoldable pub flags_at : ℕ → ℕ → ℕ → ℕ → ℕ
flags_at P H B i =
    pick (single P H B) flags_whole (pick (eqb i 0) flags_first (pick (eqb (suc i) (packets P H B)) flags_last flags_between))

-- its part of the body
unfoldable pub body_start : ℕ → ℕ → List ℕ → ℕ → List ℕ
body_start P H body i = pick (single P H (length body)) body (part body (i * chunk P H) (chunk P H))

unfoldable pub packet_at : ℕ → ℕ → Head → List ℕ → Sender → ℕ → Values
packet_at P H h body d i =
    record {
      head = h;
      flags = flags_at P H (length body) i;
      sequence_count = count_at d.sequence_count.0 i;
      counter = pick (single P H (length body)) 0 (counter_at d.counter i);
      body = body_start P H body i;
    }

-- the packet of the values given
abbrev pub given_at : Settings → ℕ → HeaderValues → Lent → List ℕ → Sender → ℕ → Values
given_at s P v t body d i = packet_at P (header_length s v t) (head_of v t) body d i

-- and then 26 and 21
unfoldable pub packet_refusal : Bool → Settings → ℕ → HeaderValues → Lent → List ℕ → Sender → ℕ → ℕ → Tested
packet_refusal old s P v t body d i room =
    unless (leb (length (octets_of s (given_at s P v t body d i))) room) 21
    (unless (ltb i (packets P (header_length s v t) (length body))) 26 (count_refusal old s P v t (length body) d))

-- the octets written, or the refusal and 0; the sender as it was
unfoldable pub packet_answer : Bool → Settings → ℕ → HeaderValues → Lent → List ℕ → Sender → ℕ → ℕ → Cut
packet_answer old s P v t body d i room =
    record {
      refusal = refusal (packet_refusal old s P v t body d i room).number;
      length = pick (fine (packet_refusal old s P v t body d i room)) (length (octets_of s (given_at s P v t body d i))) 0;
      sender = d;
    }

-- the output afterwards: the packet from the first octet on and the rest as it was; on refusal all as it was
unfoldable pub packet_output : Bool → Settings → ℕ → HeaderValues → Lent → List ℕ → Sender → ℕ → List ℕ → List ℕ
packet_output old s P v t body d i out =
    pick (fine (packet_refusal old s P v t body d i (length out)))
    (octets_of s (given_at s P v t body d i) ++ drop (length (octets_of s (given_at s P v t body d i))) out)
    out
