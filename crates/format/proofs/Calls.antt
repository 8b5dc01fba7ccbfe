-- The same over the generated contracts of the public calls: what `packet::read` accepts is the octets of what it answers, it accepts
-- the octets of any values in range, and two slices that it accepts with the same values are the same. The slice's octets are the
-- contract's own second clause. What a refusal by 5, 27 or 6 tells is right. And two outcomes that a contract allows for the same arguments have the same answer.
-- Assumes nothing.
use Prim.Native.Nat.{ℕ, ◌+◌, ◌≤◌, ◌<◌}
use mathlib.Core.Path.{◌≡◌, ap, sym, ◌∙◌}
use mathlib.Core.List.{List}
use lib.ListN.{length}
use contract.Lifetimes as L
use Rattle.octets.specs.Octets.{Octets}
use Rattle.walk.specs.declared.Settings.{Settings}
use Rattle.packet.specs.Answer.{Header}
use Rattle.packet.specs.Format.{Values, secondary_octets, octets_of, InRange}
use Rattle.packet.specs.Began.{secondary_fields, began, cut_off}
use Rattle.packet.specs.Reading.{wanted, refused_header, read_packet}
use Rattle.packet.specs.Decoded.{decoded}
use Rattle.packet.proofs.Apart.{decoded_one}
use Rattle.packet.proofs.read.Reads as reads
use Rattle.packet.proofs.next_sequence_count.Reads as nexts
use Rattle.packet.proofs.Arguments.{read_call}
use Rattle.format.specs.Told.{values_of}
use Rattle.format.specs.Accepted.{Accepted}
use Rattle.format.proofs.Start.{Withdrawn, withdrawn_exactly}
use Rattle.format.proofs.TwoWay.{only_writing, reads_back}
use Rattle.format.proofs.Accepting.{accepted}
use Rattle.format.proofs.CutOff.{cut_off_lem}
use Rattle.format.proofs.Lengths.{short_told, long_told}

-- ---- over plain values

only_plain :
    (s : Settings) (p : List ℕ) (r : Header) → r ≡ read_packet s p → Octets p → r.refusal.number ≡ 0 →
    InRange s (values_of p r) × (octets_of s (values_of p r) ≡ p)
only_plain s p r e o h = rw e (only_writing s p o (rw e at h))

back_plain :
    (s : Settings) (p : List ℕ) (r : Header) (v : Values) → r ≡ read_packet s p → InRange s v → p ≡ octets_of s v →
    (r.refusal.number ≡ 0) × (values_of p r ≡ v)
back_plain s p r v e i q = rw (e, q) (reads_back s v i)

accepted_plain :
    (s : Settings) (p : List ℕ) (r : Header) → r ≡ read_packet s p → Octets p → r.refusal.number ≡ 0 → Accepted s p r
accepted_plain s p r e o h = rw e (accepted s p o (rw e at h))

-- ---- `packet::read`

-- what the call accepts is the octets of what it answers
pub read_only :
    (κs : L.Lfts 1) (a : _) (r : _) (t : _) → reads.Post κs a r t → (decoded r).refusal.number ≡ 0 →
    InRange a.0 (values_of a.1.0.now (decoded r)) × (octets_of a.0 (values_of a.1.0.now (decoded r)) ≡ a.1.0.now)
read_only κs a r t k h = only_plain a.0 a.1.0.now (decoded r) k.0 k.1 h

-- it accepts the octets of any values in range, and answers those
pub read_back :
    (κs : L.Lfts 1) (a : _) (r : _) (t : _) (v : Values) → reads.Post κs a r t → InRange a.0 v →
    a.1.0.now ≡ octets_of a.0 v → ((decoded r).refusal.number ≡ 0) × (values_of a.1.0.now (decoded r) ≡ v)
read_back κs a r t v k i e = back_plain a.0 a.1.0.now (decoded r) v k.0 i e

-- two slices that are accepted with the same values are the same
pub read_one :
    (κs : L.Lfts 1) (a b : _) (r q : _) (t u : _) → reads.Post κs a r t → reads.Post κs b q u → a.0 ≡ b.0 → (decoded r).refusal.number ≡ 0 →
    (decoded q).refusal.number ≡ 0 → values_of a.1.0.now (decoded r) ≡ values_of b.1.0.now (decoded q) → a.1.0.now ≡ b.1.0.now
read_one κs a b r q t u k j s g h e =
    sym (read_only κs a r t k g).1
    ∙ ap (octets_of a.0) e
    ∙ ap (λ (x : Settings). octets_of x (values_of b.1.0.now (decoded q))) s
    ∙ (read_only κs b q u j h).1

-- what the call accepts has what an accepted packet has
pub read_accepted :
    (κs : L.Lfts 1) (a : _) (r : _) (t : _) → reads.Post κs a r t → (decoded r).refusal.number ≡ 0 → Accepted a.0 a.1.0.now (decoded r)
read_accepted κs a r t k h = accepted_plain a.0 a.1.0.now (decoded r) k.0 k.1 h

-- the header is of the withdrawn kind exactly if the call accepts it and it has a zone
pub read_withdrawn : (κs : L.Lfts 1) (a : _) (r : _) (t : _) → reads.Post κs a r t → Withdrawn (decoded r)
read_withdrawn κs a r t k = rw k.0 (withdrawn_exactly a.0 a.1.0.now)

-- ---- what a refusal tells

-- beside 5 the octets that are missing, beside 27 those that are left over
pub read_short :
    (κs : L.Lfts 1) (a : _) (r : _) (t : _) → reads.Post κs a r t → (decoded r).refusal.number ≡ 5 →
    (0 < (decoded r).refusal.octets) × (length (read_call κs a).packet + (decoded r).refusal.octets ≡ wanted (read_call κs a).packet)
read_short κs a r t k h = rw k.0 (short_told a.0 a.1.0.now (rw k.0 at h))

pub read_long :
    (κs : L.Lfts 1) (a : _) (r : _) (t : _) → reads.Post κs a r t → (decoded r).refusal.number ≡ 27 →
    (0 < (decoded r).refusal.octets) × (length (read_call κs a).packet ≡ wanted (read_call κs a).packet + (decoded r).refusal.octets)
read_long κs a r t k h = rw k.0 (long_told a.0 a.1.0.now (rw k.0 at h))

-- an accepted packet that is cut off inside its secondary header, its length field set right: 6, with the place where the format begins
-- the field that is cut
cut_plain :
    (s : Settings) (p q : List ℕ) (r g : Header) (m : ℕ) → r ≡ read_packet s p → Octets p → r.refusal.number ≡ 0 → g ≡ read_packet s q →
    q ≡ cut_off m p → 1 ≤ m → m < length (secondary_octets s (values_of p r)) →
    g ≡ refused_header (record { number = 6; octets = 0; place = began (secondary_fields s (values_of p r)) m })
cut_plain s p q r g m e o h eg eq l i =
    let w = only_plain s p r e o h in
    eg ∙ ap (read_packet s) (eq ∙ ap (cut_off m) (sym w.1)) ∙ cut_off_lem s (values_of p r) w.0 m l i

pub read_cut_off :
    (κs : L.Lfts 1) (a b : _) (r g : _) (t u : _) (m : ℕ) → reads.Post κs a r t → reads.Post κs b g u → (decoded r).refusal.number ≡ 0 →
    (read_call κs b).settings ≡ (read_call κs a).settings → (read_call κs b).packet ≡ cut_off m (read_call κs a).packet → 1 ≤ m →
    m < length (secondary_octets (read_call κs a).settings (values_of (read_call κs a).packet (decoded r))) →
    decoded g ≡ refused_header (record {
      number = 6;
      octets = 0;
      place = began (secondary_fields (read_call κs a).settings (values_of (read_call κs a).packet (decoded r))) m;
    })
read_cut_off κs a b r g t u m k j h es ep l i =
    cut_plain a.0 a.1.0.now b.1.0.now (decoded r) (decoded g) m k.0 k.1 h
    (j.0 ∙ ap (λ (x : Settings). read_packet x b.1.0.now) es) ep l i

-- ---- the same arguments, the same answer

pub read_same_answer : (κs : L.Lfts 1) (a : _) (r q : _) (s t : _) → reads.Post κs a r s → reads.Post κs a q t → r ≡ q
read_same_answer κs a r q s t k j = decoded_one r q (k.0 ∙ sym j.0)

pub next_same_answer : (κs : L.Lfts 0) (a : _) (r q : _) (s t : _) → nexts.Post κs a r s → nexts.Post κs a q t → r ≡ q
next_same_answer κs a r q s t k j = k ∙ sym j
