-- A message's packets as an arrival reads them: packet i, whatever its sequence count, reads as segment i, with the message's key, the
-- counter i steps from the first, the flags and body i. A packet that reads as a segment is as long as that segment's own packet.
-- Assumes nothing.
use Prim.Native.Nat.{ℕ, suc, ◌+◌, ◌≤◌, ◌<◌}
use mathlib.Core.Path.{◌≡◌, refl, ap, sym, ◌∙◌, subst}
use mathlib.Core.Bool.{Bool, true, false}
use mathlib.Core.List.{List, ◌++◌}
use native.Mathlib.Omega.{arith}
use lib.ListN.{length, drop, length-append, length-take, length-drop}
use lib.Dec.{eqb}
use Rattle.octets.specs.Octets.{pick, part, Octets, most32}
use Rattle.walk.specs.declared.Settings.{Settings}
use Rattle.packet.specs.Format.{Values, Opt, segment, identification, counter_octets, header_octets, secondary_octets, data_octets, octets_of, InRange}
use Rattle.packet.specs.Reading.{read_packet, counter_size}
use Rattle.packet.specs.Key.{key_of}
use Rattle.sender.specs.Sending.{steps_of}
use Rattle.format.specs.Told.{values_of}
use Rattle.format.proofs.TwoWay.{writes_octets, reads_back}
use Rattle.format.proofs.Frame.{identification_long, packet_long}
use Rattle.format.proofs.Accepting.{accepted, written}
use Rattle.cells.specs.Segments.{Seg, seg_of}
use Rattle.demand3.specs.Sendings.{Sending, flags_in, ReadsAs, many_of, start_of, values_at, packet_with, segment_at, IsCut, counter_in}

-- ---- what reading tells of written values

-- the segment of a packet's values
abbrev seg_with : Settings → Values → Seg
seg_with s v =
    record { key = identification v.head ++ header_octets s v.head; counter = v.counter; flags = v.flags; body = v.body }

pub same_seg : {k l : List ℕ} {c d f g : ℕ} {a b : List ℕ} → k ≡ l → c ≡ d → f ≡ g → a ≡ b →
    ◌≡◌ {A = Seg} (record { key = k; counter = c; flags = f; body = a }) (record { key = l; counter = d; flags = g; body = b })
same_seg p q r t = λ i. record { key = p i; counter = q i; flags = r i; body = t i }

module _ (s : Settings) (v : Values) (r : InRange s v) where
  reads_values : segment v.flags ≡ true → ReadsAs s (octets_of s v) (seg_with s v)
  unfolding seg_of values_of
  reads_values e =
      let k = written s v r in
      let b = reads_back s v r in
      record {
        accepted = b.0;
        segmented = k.segments ∙ e;
        segment =
            same_seg k.key (ap (λ (u : Values). u.counter) b.1) (ap (λ (u : Values). u.flags) b.1)
            (ap (λ (u : Values). u.body) b.1);
      }

-- the values of a packet with another sequence count
abbrev recounted : Values → ℕ → Values
recounted v c = record { head = v.head; flags = v.flags; sequence_count = c; counter = v.counter; body = v.body }

-- it changes neither header nor data field
module _ (s : Settings) (v : Values) (c : ℕ) where
  recounted_header : secondary_octets s (recounted v c) ≡ secondary_octets s v
  unfolding secondary_octets counter_octets
  recounted_header = refl

  recounted_data : data_octets s (recounted v c) ≡ data_octets s v
  unfolding data_octets secondary_octets counter_octets
  recounted_data = refl

  pub recounted_long : length (octets_of s (recounted v c)) ≡ length (octets_of s v)
  recounted_long =
      packet_long s (recounted v c) ∙ ap (λ (d : List ℕ). 6 + length d) recounted_data ∙ sym (packet_long s v)

  pub recounted_range : c < 16384 → InRange s v → InRange s (recounted v c)
  recounted_range h r =
      record {
        settings = r.settings;
        head = r.head;
        flags = r.flags;
        sequence_count = h;
        counter = r.counter;
        body = r.body;
        packet = omega (arith, recounted_long, r.packet);
        header = omega (arith, ap length recounted_header, r.header);
        some = r.some;
      }

-- ---- a message's packets

-- flags 01, 00 and 10 are a segment's
pub flags_segment : (n i : ℕ) → segment (flags_in n i) ≡ true
unfolding flags_in
flags_segment n i = go (eqb i 0) (eqb (suc i) n)
  where
    go : (a b : Bool) → segment (pick a 1 (pick b 2 0)) ≡ true
    go true b = refl
    go false true = refl
    go false false = refl

module _ (s : Settings) (Z : ℕ) (m : Sending) (k : IsCut s Z m) (i : ℕ) (l : i < many_of s m) where
  -- no counter is above 4,294,967,295
  pub counter_fits : counter_in s m i < 4294967296
  counter_fits =
      subst (λ (b : Bool). Opt b (λ x. x < 4294967296) 0 (counter_in s m i)) (flags_segment (many_of s m) i) (k.range i l).counter

  module _ (c : ℕ) (h : c < 16384) where
    pub with_range : InRange s (values_at s m i c)
    with_range = recounted_range s (values_at s m i 0) c h (k.range i l)

    -- packet i arrives as segment i, with every sequence count
    pub repeat_reads : ReadsAs s (packet_with s m i c) (segment_at s m i)
    repeat_reads = reads_values s (values_at s m i c) with_range (flags_segment (many_of s m) i)

    pub repeat_octets : Octets (packet_with s m i c)
    repeat_octets = writes_octets s (values_at s m i c) with_range

-- any counter may be the first
pub start_fits : (s : Settings) (Z : ℕ) (m : Sending) → IsCut s Z m → start_of s m ≤ most32
unfolding steps_of
start_fits s Z m k = omega (arith, counter_fits s Z m k 0 (omega (arith, k.many)))

-- ---- lengths

-- how long a packet is that reads as a segment
reads_long : (s : Settings) (p : List ℕ) (t : Seg) → Octets p → ReadsAs s p t → length p ≡ 8 + length t.key + length t.body
unfolding seg_of
reads_long s p t o r =
    let a = accepted s p o r.accepted in
    let h = read_packet s p in
    let c : counter_size p ≡ 4 = ap (λ (b : Bool). pick b 4 0) r.segmented in
    let x : length (key_of p h) ≡ 2 + h.h =
    ap length a.key ∙ length-append (identification (values_of p h).head) (header_octets s (values_of p h).head)
    ∙ omega (arith, identification_long (values_of p h).head, a.h_is) in
    let y : length (part p h.body.at h.body.length) ≡ h.body.length =
    length-take h.body.length (drop h.body.at p)
    ∙ omega (arith, length-drop h.body.at p, a.body_end) in
    let u : length t.key ≡ length (key_of p h) = ap (λ (z : Seg). length z.key) (sym r.segment) in
    let w : length t.body ≡ length (part p h.body.at h.body.length) = ap (λ (z : Seg). length z.body) (sym r.segment) in
    omega (arith, a.body_end, a.body_place)

-- two packets that read as one segment have the same length
pub same_long : (s : Settings) (p q : List ℕ) (t : Seg) → Octets p → Octets q → ReadsAs s p t → ReadsAs s q t → length p ≡ length q
same_long s p q t o u a b = reads_long s p t o a ∙ sym (reads_long s q t u b)

-- so a packet that reads as a segment of a message fits a cell
pub own_fits : (s : Settings) (Z : ℕ) (m : Sending) → IsCut s Z m → (i : ℕ) → i < many_of s m → (p : List ℕ) → Octets p →
    ReadsAs s p (segment_at s m i) → 2 + length p ≤ Z
own_fits s Z m k i l p o r =
    omega (
      arith,
      k.fits i l,
      same_long s p (packet_with s m i 0) (segment_at s m i) o (repeat_octets s Z m k i l 0 (omega arith)) r
          (repeat_reads s Z m k i l 0 (omega arith)),
    )
