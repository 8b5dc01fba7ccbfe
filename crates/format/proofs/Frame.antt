-- The primary header around the data field: its three words and its values, both ways; and what is written is octets.
-- Assumes nothing.
use Prim.Native.Nat.{ℕ, ◌+◌, ◌-◌, ◌*◌, ◌/◌, ◌%◌, ◌≤◌, ◌<◌}
use mathlib.Core.Path.{◌≡◌, refl, ◌∙◌}
use mathlib.Core.List.{List, [], ◌++◌}
use native.Mathlib.Omega.{arith}
use lib.ListN.{length, length-append}
use Rattle.octets.specs.Octets.{Octets, octet_at, number, wide}
use Rattle.octets.proofs.Has.{Has, has_first, has_second, has_both, has_all_lem, octets_append}
use Rattle.octets.proofs.Numbers.{wide_length, wide_octets, number_back, number_has}
use Rattle.walk.specs.declared.Settings.{Settings}
use Rattle.walk.specs.Walk.{header_bound}
use Rattle.packet.specs.Format.{Head, Values, segment, identification, fixed_octets, secondary_octets, data_octets, octets_of, InRange}
use Rattle.format.specs.Accepted.{fixed_size}
use Rattle.format.proofs.Secondary.{secondary_f}
use Rattle.format.proofs.Pairs.{pair_of, pair_form, pair_fit}
use Rattle.format.proofs.Start.{Opens}

-- the values of the primary header are those that p tells
pub record Front (p : List ℕ) (v : Values) : Type 0 where
  pub packet_type : v.head.packet_type ≡ octet_at p 0 / 16 % 2
  pub apid : v.head.apid ≡ number 2 p 0 % 2048
  pub flags : v.flags ≡ octet_at p 2 / 64
  pub sequence_count : v.sequence_count ≡ number 2 p 2 % 16384

pub fixed_long : (h : Head) → length (fixed_octets h) ≡ fixed_size
unfolding fixed_octets wide
fixed_long h = refl

pub identification_long : (h : Head) → length (identification h) ≡ 2
unfolding identification
identification_long h = wide_length 2 _

pub packet_long : (s : Settings) (v : Values) → length (octets_of s v) ≡ 6 + length (data_octets s v)
unfolding octets_of
packet_long s v = simp (length-append, identification_long, wide_length) (omega arith)

-- two octets as one number
pub word_is : (p : List ℕ) (i : ℕ) → number 2 p i ≡ octet_at p i * 256 + octet_at p (i + 1)
unfolding number
word_is p i = let e : i + 0 ≡ i = omega arith in rw e (omega arith)

-- ---- from octets to the format

module _ (s : Settings) (p : List ℕ) (v : Values) (o : Octets p) (d : Opens s p) (f : Front p v) where
  word0 : v.head.packet_type * 4096 + 2048 + v.head.apid ≡ number 2 p 0
  word0 = omega (arith, word_is p 0, f.packet_type, f.apid, d.version, d.second, o 1)

  word2 : v.flags * 16384 + v.sequence_count ≡ number 2 p 2
  word2 = omega (arith, word_is p 2, f.flags, f.sequence_count, o 2, o 3)

  -- as long as the packet's length says
  module _ (h : Has p 6 (data_octets s v)) (l : 6 + length (data_octets s v) ≡ length p) where
    word4 : length (data_octets s v) - 1 ≡ number 2 p 4
    word4 = omega (arith, d.long)

    front : Has p 0 (octets_of s v)
    unfolding octets_of identification wide
    front =
        let m = d.long in
        rw (word0, word2, word4)
        (has_both (wide 2 (number 2 p 0)) _ (number_has 2 p 0 o (omega arith))
        (has_both (wide 2 (number 2 p 2)) _ (number_has 2 p 2 o (omega arith))
        (has_both (wide 2 (number 2 p 4)) (data_octets s v) (number_has 2 p 4 o (omega arith)) h)))

    pub written : octets_of s v ≡ p
    written = has_all_lem p (octets_of s v) front (packet_long s v ∙ l)

-- ---- from the format to octets

pub secondary_plain : (s : Settings) (v : Values) → InRange s v → Octets (secondary_octets s v)
secondary_plain s v r =
    let e = pair_form s header_bound [] v in
    let m : length ((secondary_f s header_bound [] (segment v.flags)).form (pair_of v)) < 4294967296 = rw (← e) (omega (arith, r.header)) in
    rw e ((secondary_f s header_bound [] (segment v.flags)).plain (pair_of v) (pair_fit s header_bound [] v r.head r.counter) m)

wide_before : (x : ℕ) (l : List ℕ) → Octets l → Octets (wide 2 x ++ l)
wide_before x l o = octets_append (wide 2 x) l (wide_octets 2 x) o

data_plain : (s : Settings) (v : Values) → InRange s v → Octets (data_octets s v)
unfolding data_octets
data_plain s v r = octets_append (secondary_octets s v) v.body (secondary_plain s v r) r.body

-- what is written is octets
pub packet_plain : (s : Settings) (v : Values) → InRange s v → Octets (octets_of s v)
unfolding octets_of identification
packet_plain s v r =
    wide_before (v.head.packet_type * 4096 + 2048 + v.head.apid)
    (wide 2 (v.flags * 16384 + v.sequence_count) ++ (wide 2 (length (data_octets s v) - 1) ++ data_octets s v))
    (wide_before (v.flags * 16384 + v.sequence_count) (wide 2 (length (data_octets s v) - 1) ++ data_octets s v)
    (wide_before (length (data_octets s v) - 1) (data_octets s v) (data_plain s v r)))

module _
    (s : Settings)
    (p : List ℕ)
    (v : Values)
    (r : InRange s v)
    (o : Octets p)
    (h : Has p 0 (octets_of s v))
    (l : length p ≡ length (octets_of s v)) where
  -- the three words and what is after them
  record Words : Type 0 where
    w0 : number 2 p 0 ≡ v.head.packet_type * 4096 + 2048 + v.head.apid
    w2 : number 2 p 2 ≡ v.flags * 16384 + v.sequence_count
    w4 : number 2 p 4 ≡ length (data_octets s v) - 1
    behind : Has p 6 (data_octets s v)

  words : Words
  unfolding octets_of identification wide
  words =
      let k = r.packet in
      let n = packet_long s v in
      let h2 = has_second (wide 2 (v.head.packet_type * 4096 + 2048 + v.head.apid)) _ h in
      let h4 = has_second (wide 2 (v.flags * 16384 + v.sequence_count)) _ h2 in
      record {
        w0 = number_back 2 p 0 _ (omega (arith, r.head.packet_type, r.head.apid)) (has_first (wide 2 _) _ h);
        w2 = number_back 2 p 2 _ (omega (arith, r.flags, r.sequence_count)) (has_first (wide 2 _) _ h2);
        w4 = number_back 2 p 4 _ (omega arith) (has_first (wide 2 (length (data_octets s v) - 1)) _ h4);
        behind = has_second (wide 2 (length (data_octets s v) - 1)) (data_octets s v) h4;
      }

  pub data_back : Has p 6 (data_octets s v)
  data_back = words.behind

  pub front_back : Front p v
  front_back =
      let w = words in
      record {
        packet_type = omega (arith, w.w0, word_is p 0, r.head.packet_type, r.head.apid, o 1);
        apid = omega (arith, w.w0, r.head.packet_type, r.head.apid);
        flags = omega (arith, w.w2, word_is p 2, r.flags, r.sequence_count, o 3);
        sequence_count = omega (arith, w.w2, r.flags, r.sequence_count);
      }

  pub opens_back : 1 ≤ length (data_octets s v) → Opens s p
  opens_back z =
      let w = words in
      let n = packet_long s v in
      record {
        settings = r.settings;
        six = omega arith;
        version = omega (arith, w.w0, word_is p 0, r.head.packet_type, r.head.apid, o 1);
        second = omega (arith, w.w0, word_is p 0, r.head.packet_type, r.head.apid, o 1);
        idle = λ e. omega (arith, w.w0, r.head.packet_type, r.head.apid);
        long = omega (arith, w.w4);
      }
