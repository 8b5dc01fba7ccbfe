-- What each call over plain numbers answers, and what it writes. If all numbers fit it is the call's own answer, as numbers. If
-- one does not, it is 22, or 15 if T, the profile or P is out of range, since 15 comes first; a sender's numbers stay as given, the output too.
-- Assumes nothing: these are definitions.
use Rattle.std.specs.Prelude.{ℕ, Bool, false, List, [], ◌∷◌, leb}
use Rattle.octets.specs.Octets.{pick, most16, octet_at as number_at}
use Rattle.walk.specs.declared.Settings.{Settings}
use Rattle.walk.specs.declared.Tested.{Tested}
use Rattle.walk.specs.Walk.{none_failed, unless}
use Rattle.packet.specs.Numbers.{next_sequence_count}
use Rattle.sender.specs.Sending.{after_packet, after_segment}
use Rattle.write.specs.Given.{Lent}
use Rattle.write.specs.Writing.{settings_test, write_answer, write_output}
use Rattle.cut.specs.Cutting.{limit_test, count_answer, packet_answer, packet_output}
use Rattle.flat.specs.Given.{header_fits, header_of, packet_fits, packet_of, sender_fits, sender_of}
use Rattle.flat.specs.Told.{written_numbers, sender_numbers, counted_numbers, cut_numbers}

-- a number does not fit: 22, unless it is refused already
abbrev pub too_wide : Tested → ℕ
too_wide r = (unless false 22 r).number

-- the refusal, and the next sequence count
unfoldable pub next_numbers : ℕ → List ℕ
next_numbers count = pick (leb count most16) (0 ∷ (next_sequence_count (record { 0 = count })).0 ∷ []) (22 ∷ 0 ∷ [])

-- ---- writing one packet

abbrev pub write_fits : List ℕ → ℕ → ℕ → ℕ → Bool
write_fits h flags count counter = pick (header_fits h) (packet_fits flags count counter) false

abbrev pub write_refused : Settings → List ℕ
write_refused s = too_wide (settings_test s none_failed) ∷ 0 ∷ []

-- the refusal, and the octets written
unfoldable pub write_numbers : Settings → List ℕ → Lent → ℕ → ℕ → ℕ → List ℕ → ℕ → List ℕ
write_numbers s h x flags count counter body room =
    pick (write_fits h flags count counter)
    (written_numbers (write_answer false s (header_of h) (packet_of flags count counter) x body room))
    (write_refused s)

unfoldable pub write_out : Settings → List ℕ → Lent → ℕ → ℕ → ℕ → List ℕ → List ℕ → List ℕ
write_out s h x flags count counter body out =
    pick (write_fits h flags count counter)
    (write_output false s (header_of h) (packet_of flags count counter) x body out)
    out

-- ---- a sender's numbers

-- a sender's numbers as they were given
abbrev pub given : List ℕ → List ℕ
given d = number_at d 0 ∷ number_at d 1 ∷ []

-- the refusal, and the numbers after an unsegmented packet
unfoldable pub after_packet_numbers : List ℕ → List ℕ
after_packet_numbers d = pick (sender_fits d) (0 ∷ sender_numbers (after_packet (sender_of d))) (22 ∷ given d)

-- and after a segment
unfoldable pub after_segment_numbers : List ℕ → List ℕ
after_segment_numbers d = pick (sender_fits d) (0 ∷ sender_numbers (after_segment (sender_of d))) (22 ∷ given d)

-- ---- cutting

abbrev pub cut_fits : List ℕ → List ℕ → Bool
cut_fits h d = pick (header_fits h) (sender_fits d) false

abbrev pub cut_refused : Settings → ℕ → List ℕ → List ℕ
cut_refused s P d = too_wide (limit_test s P none_failed) ∷ 0 ∷ given d

-- the refusal, the count of packets, and the sender's numbers moved on
unfoldable pub count_numbers : Settings → ℕ → List ℕ → Lent → ℕ → List ℕ → List ℕ
count_numbers s P h x B d =
    pick (cut_fits h d) (counted_numbers (count_answer false s P (header_of h) x B (sender_of d))) (cut_refused s P d)

-- the refusal, the octets of packet i, and the sender's numbers
unfoldable pub packet_numbers : Settings → ℕ → List ℕ → Lent → List ℕ → List ℕ → ℕ → ℕ → List ℕ
packet_numbers s P h x body d i room =
    pick (cut_fits h d) (cut_numbers (packet_answer false s P (header_of h) x body (sender_of d) i room)) (cut_refused s P d)

unfoldable pub packet_out : Settings → ℕ → List ℕ → Lent → List ℕ → List ℕ → ℕ → List ℕ → List ℕ
packet_out s P h x body d i out =
    pick (cut_fits h d) (packet_output false s P (header_of h) x body (sender_of d) i out) out
