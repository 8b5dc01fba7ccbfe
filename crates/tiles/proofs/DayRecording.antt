-- A recording that meets every hypothesis: the two messages of demand 3's run, interleaved, the last of one first; with a repeat, a
-- late repeat after the message was written, a whole packet, a refused one, one too long for a cell, one of another key; and a torn end.
-- Both messages are written.
-- Assumes nothing.
use Prim.Native.Nat.{ℕ, zero, suc, ◌<◌}
use mathlib.Core.Path.{◌≡◌, refl, ap, sym, subst}
use mathlib.Core.Logic.{◌⊎◌, inl, inr}
use mathlib.Core.List.Memᴰ
use mathlib.Core.List.{List, [], ◌∷◌, ◌++◌, Memᴰ}
use native.Mathlib.Omega.{arith}
use lib.ListN.{length, get_or}
use Rattle.octets.specs.Octets.{Octets, number, alike, wide}
use Rattle.octets.specs.Laying.{together}
use Rattle.octets.proofs.Has.{octets_nil, octets_one, octets_append}
use Rattle.fields.specs.Form.{split}
use Rattle.packet.specs.Format.{presence, identification, fixed_octets, front_octets, back_octets, header_octets, SettingsInRange}
use Rattle.packet.specs.Answer.{Header}
use Rattle.packet.specs.Reading.{read_packet}
use Rattle.format.proofs.Figure14.{reads}
use Rattle.write.specs.Given.{head_of}
use Rattle.cells.proofs.Opens.{opens}
use Rattle.packet.specs.Mark.{packet_mark}
use Rattle.steps.specs.Stepping.{found_in, framed}
use Rattle.recording.specs.Recording.{settings}
use Rattle.demand3.specs.Sendings.{ReadsAs, segment_at}
use Rattle.demand3.specs.Presupposed.{malformed}
use Rattle.demand3.proofs.ReadAs.{repeat_reads}
use Rattle.demand3.proofs.Day.{three, two, messages, of_three, of_two, the_key, single, huge, other, three_many, three_cut, two_cut}
use Rattle.demand3.proofs.DayComes.{Fine, three_fine, two_fine, single_fine, huge_fine, other_fine}
use Rattle.demand3.proofs.DayGiven.{traffic}
use Rattle.tiles.specs.Along.{packets_of, marked, Sized, whole_packet, frame_octets, frames_of}
use Rattle.tiles.specs.Written.{AllIn, RecordingOf, RoomAlong, frame_of}
use Rattle.tiles.proofs.Framing.{Z}
use Rattle.tiles.proofs.Marks.{recording_packets}
use Rattle.tiles.proofs.Rooms.{recording_room}
use Rattle.tiles.proofs.Unsegmented.{recording_whole}
use Rattle.tiles.proofs.Recordings.{recording_delivers}

-- ---- the recording

-- a packet with a version that is not 000
abbrev pub bad : List ℕ
bad = 0xFF ∷ 0xFF ∷ 0 ∷ 0 ∷ 0 ∷ 0 ∷ 0 ∷ []

abbrev pub day_packets : List (List ℕ)
day_packets =
    of_three 2 2 ∷ of_two 0 3 ∷ bad ∷ single ∷ of_three 0 0 ∷ of_three 2 77 ∷ huge ∷ other ∷ of_three 1 1 ∷ of_two 1 4 ∷ of_three 1 78 ∷ []

-- a mark, and one octet of a packet
abbrev pub torn : List ℕ
torn = 0x4d ∷ 0x50 ∷ 0x18 ∷ []

abbrev pub day_recording : List ℕ
day_recording = marked day_packets ++ torn

-- ---- each of its packets

data All (P : List ℕ → Type 0) : List (List ℕ) → Type 0 where
  end : All P []
  also : {p : List ℕ} {ps : List (List ℕ)} → P p → All P ps → All P (p ∷ ps)

all_mem : (P : List ℕ → Type 0) (ps : List (List ℕ)) → All P ps → (p : List ℕ) → Memᴰ p ps → P p
all_mem P [] end p h = absurd (Memᴰ.not-nil h)
all_mem P (q ∷ ps) (also a l) p h = go (all_mem P ps l p) (Memᴰ.cases_cons h)
  where
    go : (Memᴰ p ps → P p) → (p ≡ q) ⊎ Memᴰ p ps → P p
    go ih (inl e) = subst P (sym e) a
    go ih (inr k) = ih k

bad_octets : Octets bad
bad_octets =
    octets_append (0xFF ∷ 0xFF ∷ []) (0 ∷ 0 ∷ 0 ∷ 0 ∷ 0 ∷ [])
    (octets_append (0xFF ∷ []) (0xFF ∷ []) (octets_one 0xFF (omega arith)) (octets_one 0xFF (omega arith)))
    (octets_append (0 ∷ []) (0 ∷ 0 ∷ 0 ∷ 0 ∷ []) zero_octet
    (octets_append (0 ∷ []) (0 ∷ 0 ∷ 0 ∷ []) zero_octet
    (octets_append (0 ∷ []) (0 ∷ 0 ∷ []) zero_octet (octets_append (0 ∷ []) (0 ∷ []) zero_octet zero_octet))))
  where
    zero_octet : Octets (0 ∷ [])
    zero_octet = octets_one 0 (omega arith)

bad_fine : Fine bad
bad_fine = (bad_octets, malformed (λ e. let v = (opens settings bad e).version in omega arith))

-- what is asked of each
abbrev Good : List ℕ → Type 0
Good p = Fine p × Sized p

three_reads : (i : ℕ) → i < 3 → (c : ℕ) → c < 16384 → ReadsAs settings (of_three i c) (segment_at settings three i)
three_reads i l c h = repeat_reads settings Z three three_cut i (omega (arith, three_many)) c h

two_reads : (i : ℕ) → i < 2 → (c : ℕ) → c < 16384 → ReadsAs settings (of_two i c) (segment_at settings two i)
two_reads i l c h = repeat_reads settings Z two two_cut i l c h

three_good : (i : ℕ) → i < 3 → (c : ℕ) → c < 16384 → Good (of_three i c)
three_good i l c h = (three_fine i l c h, (opens settings (of_three i c) (three_reads i l c h).accepted).long)

two_good : (i : ℕ) → i < 2 → (c : ℕ) → c < 16384 → Good (of_two i c)
two_good i l c h = (two_fine i l c h, (opens settings (of_two i c) (two_reads i l c h).accepted).long)

single_good : Good single
unfolding number
single_good = (single_fine, refl)

bad_good : Good bad
unfolding number
bad_good = (bad_fine, refl)

huge_good : Good huge
unfolding number
huge_good = (huge_fine, refl)

other_good : Good other
unfolding number
other_good = (other_fine, refl)

all_good : All Good day_packets
all_good =
    also (three_good 2 (omega arith) 2 (omega arith))
    (also (two_good 0 (omega arith) 3 (omega arith))
    (also bad_good
    (also single_good
    (also (three_good 0 (omega arith) 0 (omega arith))
    (also (three_good 2 (omega arith) 77 (omega arith))
    (also huge_good
    (also other_good
    (also (three_good 1 (omega arith) 1 (omega arith))
    (also (two_good 1 (omega arith) 4 (omega arith)) (also (three_good 1 (omega arith) 78 (omega arith)) end))))))))))

-- ---- the hypotheses

in_range : SettingsInRange settings
in_range = record { t_low = omega arith; t_top = omega arith; profile_top = omega arith }

day_packets_lem : packets_of day_recording ≡ day_packets
unfolding found_in number alike
day_packets_lem = recording_packets day_packets torn (λ p h. (all_mem Good day_packets all_good p h).1) refl

marked_octets : (ps : List (List ℕ)) → All Good ps → Octets (marked ps)
unfolding marked
marked_octets [] end = octets_nil
marked_octets (p ∷ ps) (also a l) =
    octets_append packet_mark (p ++ marked ps)
    (octets_append (0x4d ∷ []) (0x50 ∷ []) (octets_one 0x4d (omega arith)) (octets_one 0x50 (omega arith)))
    (octets_append p (marked ps) a.0.0 (marked_octets ps l))

torn_octets : Octets torn
torn_octets =
    octets_append packet_mark (0x18 ∷ [])
    (octets_append (0x4d ∷ []) (0x50 ∷ []) (octets_one 0x4d (omega arith)) (octets_one 0x50 (omega arith)))
    (octets_one 0x18 (omega arith))

pub day_recording_lem : RecordingOf settings messages day_recording
day_recording_lem =
    record {
      octets = octets_append (marked day_packets) torn (marked_octets day_packets all_good) torn_octets;
      cut = traffic.cut;
      apart = traffic.apart;
      packets = λ p h. (all_mem Good day_packets all_good p (subst (Memᴰ p) day_packets_lem h)).0.1;
    }

pub day_room : RoomAlong settings day_recording
day_room = recording_room settings in_range day_recording day_recording_lem.octets (omega (arith, ap length day_packets_lem))

-- ---- both messages

at_place : (l : List (List ℕ)) (i : ℕ) → i < length l → Memᴰ (get_or l i []) l
at_place [] i h = absurd (omega arith)
at_place (p ∷ l) zero h = Memᴰ.head refl
at_place (p ∷ l) (suc i) h = Memᴰ.tail (at_place l i (omega arith))

-- packet number i
in_day : (i : ℕ) → i < 11 → Memᴰ (get_or day_packets i []) (packets_of day_recording)
in_day i h = subst (Memᴰ (get_or day_packets i [])) (sym day_packets_lem) (at_place day_packets i h)

three_in : AllIn settings three day_recording
three_in zero l = (of_three 0 0, in_day 4 (omega arith), three_reads 0 (omega arith) 0 (omega arith))
three_in (suc zero) l = (of_three 1 1, in_day 8 (omega arith), three_reads 1 (omega arith) 1 (omega arith))
three_in (suc (suc zero)) l = (of_three 2 2, in_day 0 (omega arith), three_reads 2 (omega arith) 2 (omega arith))
three_in (suc (suc (suc i))) l = absurd (omega (arith, three_many))

two_in : AllIn settings two day_recording
two_in zero l = (of_two 0 3, in_day 1 (omega arith), two_reads 0 (omega arith) 3 (omega arith))
two_in (suc zero) l = (of_two 1 4, in_day 9 (omega arith), two_reads 1 (omega arith) 4 (omega arith))
two_in (suc (suc i)) l = absurd (omega arith)

pub day_three : Memᴰ (frame_of settings three) (frames_of settings day_recording)
day_three = recording_delivers settings in_range messages day_recording day_recording_lem day_room three (Memᴰ.head refl) three_in

pub day_two : Memᴰ (frame_of settings two) (frames_of settings day_recording)
day_two = recording_delivers settings in_range messages day_recording day_recording_lem day_room two (Memᴰ.tail (Memᴰ.head refl)) two_in

-- and the whole packet
single_read : (read_packet settings single).refusal.number ≡ 0
single_read = ap (λ (h : Header). h.refusal.number) reads

pub day_single : Memᴰ (whole_packet single) (frames_of settings day_recording)
day_single = (recording_whole settings in_range day_recording day_recording_lem.octets single).1 (in_day 3 (omega arith), omega arith, single_read, refl)

-- ---- their octets

two_octets_lem : frame_octets (frame_of settings two) ≡ 0x4d ∷ 0x4d ∷ 0 ∷ 0 ∷ 0 ∷ 33 ∷ (the_key ++ (21 ∷ 22 ∷ 23 ∷ 24 ∷ 25 ∷ 26 ∷ 27 ∷ 28 ∷ 29 ∷ 30 ∷ []))
unfolding framed wide together head_of split identification header_octets fixed_octets presence front_octets back_octets
two_octets_lem = refl
