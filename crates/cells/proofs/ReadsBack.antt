-- The record of a message whose segment a cell held reads back (S-15): read as a packet it is the octets of values with the same header,
-- which were in range; so its key is that of the segment, and its two counters are those that were written.
-- Assumes nothing.
use Prim.Native.Nat.{ℕ, zero, suc, ◌+◌, ◌-◌, ◌*◌, ◌/◌, ◌%◌, ◌≤◌, ◌<◌}
use mathlib.Core.Path.{◌≡◌, refl, ap, ap₂, sym, ◌∙◌, subst}
use mathlib.Core.Bool.{Bool, true}
use mathlib.Core.List.{List, [], ◌∷◌, ◌++◌, append-nil, append_assoc}
use native.Mathlib.Omega.{arith}
use lib.ListN.{length, take, length-append, length-take}
use lib.Seq.{drop_at}
use Rattle.octets.specs.Octets.{pick, Octets, octet_at, part, number, wide, most32}
use Rattle.octets.proofs.Has.{Has, has_self, has_first, has_second, has_both, has_at_lem, part_has, octets_nil, octets_one, octets_append, octets_take, octets_part}
use Rattle.octets.proofs.Numbers.{wide_length, wide_octets, number_back}
use Rattle.walk.specs.declared.Settings.{Settings}
use Rattle.packet.specs.Answer.{Header}
use Rattle.packet.specs.Format.{Head, Values, InRange, identification, fixed_octets, front_octets, counter_octets, back_octets, header_octets, secondary_octets, data_octets, octets_of}
use Rattle.packet.specs.Reading.{read_packet, segmented, counter_size}
use Rattle.packet.specs.Key.{counter_place, key_of}
use Rattle.format.specs.Told.{values_of}
use Rattle.format.specs.Accepted.{Accepted}
use Rattle.format.proofs.Frame.{identification_long, fixed_long, packet_long}
use Rattle.format.proofs.Back.{data_long}
use Rattle.format.proofs.Stretches.{counter_long, header_long, secondary_long}
use Rattle.format.proofs.TwoWay.{reads_back, only_writing}
use Rattle.format.proofs.Accepting.{accepted, written}
use Rattle.cells.specs.Segments.{Seg, seg_of}
use Rattle.cells.specs.Rows.{held, taken, zero_row, packet_in, record_row, fore_in, data_in, first_in, key_long, key_taken, first_taken, last_taken}
use Rattle.cells.specs.Rows.{steps_between, range_of, cell_of}
use Rattle.cells.proofs.Counters.{place_told}
use Rattle.cells.proofs.Carries.{held_is}
use Rattle.cells.proofs.Firsts.{pieces_of, first_pieces}
use Rattle.cells.proofs.Records.{Recording, record_is}

-- ---- lists

-- as many as the first list has, and some more
take_past : (b t : List ℕ) (m : ℕ) → take (length b + m) (b ++ t) ≡ b ++ take m t
take_past [] t m = let e : 0 + m ≡ m = omega arith in ap (λ (n : ℕ). take n t) e
take_past (x ∷ b) t m =
    let e : suc (length b) + m ≡ suc (length b + m) = omega arith in
    ap (λ (n : ℕ). take n (x ∷ (b ++ t))) e ∙ ap (λ (l : List ℕ). x ∷ l) (take_past b t m)

pub octets_zeros : (n : ℕ) → Octets (zero_row n)
octets_zeros zero = octets_nil
octets_zeros (suc n) = octets_append (0 ∷ []) (zero_row n) (octets_one 0 (omega arith)) (octets_zeros n)

-- a row with the mark, the pieces of a key, and what follows it
module _ (i f g b t : List ℕ) (li : length i ≡ 2) (lf : length f ≡ 21) {r : List ℕ} (er : r ≡ 0x4d ∷ 0x54 ∷ ((i ++ (f ++ (g ++ b))) ++ t)) where
  abbrev k : List ℕ
  k = i ++ (f ++ (g ++ b))

  all_has : Has r 2 (k ++ t)
  all_has = record { pre = 0x4d ∷ 0x54 ∷ []; post = []; whole = er ∙ ap (λ (x : List ℕ). 0x4d ∷ 0x54 ∷ x) (sym (append-nil (k ++ t))); starts = refl }

  pub key_has : Has r 2 k
  key_has = has_first k t all_has

  pub after_has : Has r (2 + length k) t
  after_has = has_second k t all_has

  header_has : Has r 4 (f ++ (g ++ b))
  header_has = let e : 2 + length i ≡ 4 = omega arith in subst (λ (n : ℕ). Has r n (f ++ (g ++ b))) e (has_second i (f ++ (g ++ b)) key_has)

  pub fixed_has : Has r 4 f
  fixed_has = has_first f (g ++ b) header_has

  pub ids_part : part r 2 2 ≡ i
  ids_part = ap (part r 2) (sym li) ∙ part_has i (has_first i (f ++ (g ++ b)) key_has)

  pub fore_part : part r 4 (21 + length g) ≡ f ++ g
  fore_part =
      let h = has_both f g fixed_has (has_first g b (has_second f (g ++ b) header_has)) in
      let e : 21 + length g ≡ length (f ++ g) = omega (arith, length-append f g) in
      ap (part r 4) e ∙ part_has (f ++ g) h

  apart : r ≡ (0x4d ∷ 0x54 ∷ (i ++ (f ++ g))) ++ (b ++ t)
  apart =
      er
      ∙ ap (λ (x : List ℕ). 0x4d ∷ 0x54 ∷ (x ++ t)) (ap (λ (x : List ℕ). i ++ x) (sym (append_assoc f g b)) ∙ sym (append_assoc i (f ++ g) b))
      ∙ ap (λ (x : List ℕ). 0x4d ∷ 0x54 ∷ x) (append_assoc (i ++ (f ++ g)) b t)

  pub aft_part : (m n : ℕ) → n ≡ length b + m → part r (4 + (21 + length g)) n ≡ b ++ take m t
  aft_part m n e =
      let l : length (0x4d ∷ 0x54 ∷ (i ++ (f ++ g))) ≡ 4 + (21 + length g) = omega (arith, length-append i (f ++ g), length-append f g) in
      ap (λ (x : List ℕ). part x (4 + (21 + length g)) n) apart
      ∙ ap (take n) (drop_at (0x4d ∷ 0x54 ∷ (i ++ (f ++ g))) (b ++ t) (4 + (21 + length g)) l)
      ∙ ap (λ (x : ℕ). take x (b ++ t)) e
      ∙ take_past b t m

-- the data field by its pieces
together_data : (f g c b w : List ℕ) → (f ++ g) ++ (c ++ (b ++ w)) ≡ (f ++ (g ++ (c ++ b))) ++ w
together_data f g c b w =
    append_assoc f g (c ++ (b ++ w))
    ∙ ap (λ (x : List ℕ). f ++ (g ++ x)) (sym (append_assoc c b w))
    ∙ ap (λ (x : List ℕ). f ++ x) (sym (append_assoc g (c ++ b) w))
    ∙ sym (append_assoc f (g ++ (c ++ b)) w)

-- ---- a packet, and the record with its key

module _ (s : Settings) (Z : ℕ) (p : List ℕ) (o : Octets p) (z : (read_packet s p).refusal.number ≡ 0) (q : segmented p ≡ true) (c d : ℕ) where
  abbrev h : Header
  h = read_packet s p

  abbrev v : Values
  v = values_of p h

  abbrev e : Head
  e = v.head

  abbrev key : List ℕ
  key = key_of p h

  a : Accepted s p h
  a = accepted s p o z

  pieces : key ≡ identification e ++ (fixed_octets e ++ (front_octets e ++ back_octets s e))
  unfolding header_octets
  pieces = a.key

  h_long : 21 + (length (front_octets e) + length (back_octets s e)) + 4 ≤ 256
  h_long = let four : counter_size p ≡ 4 = ap (λ (b : Bool). pick b 4 0) q in omega (arith, a.h_top, a.h_is, header_long s e)

  pub key_long_lem : length key ≡ 2 + length (header_octets s e)
  key_long_lem = ap length a.key ∙ length-append (identification e) (header_octets s e) ∙ ap (λ (n : ℕ). n + length (header_octets s e)) (identification_long e)

  -- what follows the key
  abbrev t : List ℕ
  t = wide 4 c ++ (wide 4 d ++ zero_row (Z - (2 + length key + 8)))

  abbrev r : List ℕ
  r = record_row Z key c d

  row_key : r ≡ 0x4d ∷ 0x54 ∷ (key ++ t)
  row_key =
      append_assoc (0x4d ∷ 0x54 ∷ key ++ wide 4 c) (wide 4 d) (zero_row (Z - (2 + length key + 8)))
      ∙ append_assoc (0x4d ∷ 0x54 ∷ key) (wide 4 c) (wide 4 d ++ zero_row (Z - (2 + length key + 8)))

  row_is : r ≡ 0x4d ∷ 0x54 ∷ ((identification e ++ (fixed_octets e ++ (front_octets e ++ back_octets s e))) ++ t)
  row_is = row_key ∙ ap (λ (x : List ℕ). 0x4d ∷ 0x54 ∷ (x ++ t)) pieces

  -- ---- how many octets stand before the counter's place

  fixed_in : Has p 6 (fixed_octets e)
  unfolding octets_of data_octets secondary_octets
  fixed_in =
      let x = has_self (octets_of s v) in
      let y = has_second (identification e) _ x in
      let w = has_second (wide 2 (v.flags * 16384 + v.sequence_count)) _ y in
      let u = has_second (wide 2 (length (data_octets s v) - 1)) (data_octets s v) w in
      let n = has_first (fixed_octets e) _ (has_first (secondary_octets s v) v.body u) in
      let l : 0 + length (identification e) + length (wide 2 (v.flags * 16384 + v.sequence_count)) + length (wide 2 (length (data_octets s v) - 1)) ≡ 6 =
      omega (arith, identification_long e, wide_length 2 (v.flags * 16384 + v.sequence_count), wide_length 2 (length (data_octets s v) - 1)) in
      rw (only_writing s p o z).1 at (subst (λ (n : ℕ). Has (octets_of s v) n (fixed_octets e)) l n)

  presence_same : octet_at r 24 ≡ octet_at p 26
  presence_same =
      let l : 20 < length (fixed_octets e) = omega (arith, fixed_long e) in
      has_at_lem (fixed_octets e) 20
      (fixed_has (identification e) (fixed_octets e) (front_octets e) (back_octets s e) t (identification_long e) (fixed_long e) row_is) l
      ∙ sym (has_at_lem (fixed_octets e) 20 fixed_in l)

  fore_is : fore_in r ≡ 21 + length (front_octets e)
  unfolding fore_in
  fore_is =
      let w = only_writing s p o z in
      let l = ap (λ (x : List ℕ). counter_place (read_packet s x)) (sym w.1) ∙ (written s v w.0).counter_place_lem in
      let n : octet_at p 26 / 128 % 2 + octet_at p 26 / 64 % 2 ≡ length (front_octets e) = omega (arith, place_told s p o z, l) in
      ap (λ (x : ℕ). 21 + (x / 128 % 2 + x / 64 % 2)) presence_same ∙ ap (λ (x : ℕ). 21 + x) n

  -- ---- it is the octets of values in range

  abbrev m : ℕ
  m = 235 - length (front_octets e) - length (back_octets s e)

  abbrev u : Values
  u = record { head = e; flags = 1; sequence_count = 0; counter = 0; body = take m t }

  data_is : part r 4 (fore_in r) ++ (wide 4 0 ++ part r (4 + fore_in r) (256 - fore_in r)) ≡ data_octets s u
  unfolding data_octets secondary_octets counter_octets
  data_is =
      let G = front_octets e in
      let B = back_octets s e in
      let n : 256 - (21 + length G) ≡ length B + m = omega (arith, h_long) in
      let x = fore_part (identification e) (fixed_octets e) G B t (identification_long e) (fixed_long e) row_is in
      let y = aft_part (identification e) (fixed_octets e) G B t (identification_long e) (fixed_long e) row_is m (256 - (21 + length G)) n in
      ap (λ (l : ℕ). part r 4 l ++ (wide 4 0 ++ part r (4 + l) (256 - l))) fore_is
      ∙ ap₂ (λ (l w : List ℕ). l ++ (wide 4 0 ++ w)) x y
      ∙ together_data (fixed_octets e) G (wide 4 0) B (take m t)

  data_same : data_in r ≡ data_octets s u
  unfolding data_in wide
  data_same = append_assoc (part r 4 (fore_in r)) (0 ∷ 0 ∷ 0 ∷ 0 ∷ []) (part r (4 + fore_in r) (256 - fore_in r)) ∙ data_is

  pub first_is : first_in r ≡ octets_of s u
  unfolding octets_of pieces_of
  first_is =
      first_pieces r
      ∙ ap₂ (λ (x w : List ℕ). x ++ (wide 2 0x4000 ++ (wide 2 (length w - 1) ++ (part r 4 (fore_in r) ++ (wide 4 0 ++ part r (4 + fore_in r) (256 - fore_in r))))))
      (ids_part (identification e) (fixed_octets e) (front_octets e) (back_octets s e) t (identification_long e) (fixed_long e) row_is) data_same
      ∙ ap (λ (w : List ℕ). identification e ++ (wide 2 0x4000 ++ (wide 2 (length (data_octets s u) - 1) ++ w))) data_is

  t_octets : Octets t
  t_octets =
      octets_append (wide 4 c) _ (wide_octets 4 c)
      (octets_append (wide 4 d) (zero_row (Z - (2 + length key + 8))) (wide_octets 4 d) (octets_zeros (Z - (2 + length key + 8))))

  t_long : 8 ≤ length t
  t_long =
      omega
      (arith, length-append (wide 4 c) (wide 4 d ++ zero_row (Z - (2 + length key + 8))), length-append (wide 4 d) (zero_row (Z - (2 + length key + 8))), wide_length 4 c, wide_length 4 d)

  secondary_is : length (secondary_octets s u) ≤ 256
  secondary_is = omega (arith, secondary_long s u, counter_long u, header_long s e, h_long)

  in_range : InRange s u
  in_range =
      let w = (only_writing s p o z).0 in
      let l = length-take m t in
      record {
        settings = w.settings;
        head = w.head;
        flags = omega arith;
        sequence_count = omega arith;
        counter = omega arith;
        body = octets_take m t t_octets;
        packet = omega (arith, packet_long s u, data_long s u, secondary_is);
        header = secondary_is;
        some = λ y. omega (arith, h_long, t_long);
      }

  pub first_accepted : (read_packet s (first_in r)).refusal.number ≡ 0
  first_accepted = ap (λ (x : List ℕ). (read_packet s x).refusal.number) first_is ∙ (reads_back s u in_range).0

  key_read : key_long s r ≡ length key
  unfolding key_long
  key_read =
      ap (λ (x : List ℕ). 2 + (read_packet s x).h) first_is
      ∙ ap (λ (n : ℕ). 2 + n) (written s u in_range).h_is
      ∙ sym key_long_lem

  -- ---- its key and its counters

  key_taken_lem : key_taken s r ≡ key
  key_taken_lem =
      let x = key_has (identification e) (fixed_octets e) (front_octets e) (back_octets s e) t (identification_long e) (fixed_long e) row_is in
      ap (part r 2) key_read ∙ part_has key (subst (λ (y : List ℕ). Has r 2 y) (sym pieces) x)

  t_has : Has r (2 + length key) t
  t_has =
      subst (λ (y : List ℕ). Has r (2 + length y) t) (sym pieces)
      (after_has (identification e) (fixed_octets e) (front_octets e) (back_octets s e) t (identification_long e) (fixed_long e) row_is)

  first_taken_lem : c ≤ most32 → first_taken s r ≡ c
  first_taken_lem l =
      ap (λ (n : ℕ). number 4 r (2 + n)) key_read ∙ number_back 4 r (2 + length key) c (omega arith) (has_first (wide 4 c) _ t_has)

  last_taken_lem : d ≤ most32 → last_taken s r ≡ d
  last_taken_lem l =
      let x = has_first (wide 4 d) _ (has_second (wide 4 c) _ t_has) in
      let n : 2 + length key + length (wide 4 c) ≡ 2 + length key + 4 = omega (arith, wide_length 4 c) in
      ap (λ (n : ℕ). number 4 r (2 + n + 4)) key_read
      ∙ number_back 4 r (2 + length key + 4) d (omega arith) (subst (λ (y : ℕ). Has r y (wide 4 d)) n x)

  module _ (fits : 2 + length key + 8 ≤ Z) (lc : c ≤ most32) (ld : d ≤ most32) (some : 1 ≤ steps_between c d) (few : steps_between c d ≤ 4095) where
    recording_is : Recording s Z r
    recording_is =
        let x = first_taken_lem lc in
        let y = last_taken_lem ld in
        record {
          row = ap (λ (w : List ℕ). record_row Z w c d) (sym key_taken_lem) ∙ ap₂ (λ (n k : ℕ). record_row Z (key_taken s r) n k) (sym x) (sym y);
          fits = omega (arith, key_read);
          accepted = first_accepted;
          some = rw (x, y) some;
          few = rw (x, y) few;
        }

    pub record_back : cell_of s Z r ≡ taken (record { key = key; first = c; steps = steps_between c d })
    unfolding range_of
    record_back =
        let x = key_taken_lem in
        let y = first_taken_lem lc in
        let w = ap₂ steps_between (first_taken_lem lc) (last_taken_lem ld) in
        record_is s Z r recording_is ∙ ap taken (λ j. record { key = x j; first = y j; steps = w j })

-- ---- a cell that held a segment

pub record_cell :
    (s : Settings) (Z : ℕ) (r : List ℕ) (t : Seg) (c d : ℕ) → Octets r → cell_of s Z r ≡ held t → 2 + length t.key + 8 ≤ Z → c ≤ most32 → d ≤ most32 →
    1 ≤ steps_between c d → steps_between c d ≤ 4095 →
    cell_of s Z (record_row Z t.key c d) ≡ taken (record { key = t.key; first = c; steps = steps_between c d })
unfolding seg_of
record_cell s Z r t c d o e fits lc ld some few =
    let h = held_is s Z r t e in
    let f : held (seg_of (packet_in r) (read_packet s (packet_in r))) ≡ held t = sym h.cell ∙ e in
    let g : seg_of (packet_in r) (read_packet s (packet_in r)) ≡ t = cc f in
    let k : key_of (packet_in r) (read_packet s (packet_in r)) ≡ t.key = ap (λ (x : Seg). x.key) g in
    ap (λ (x : List ℕ). cell_of s Z (record_row Z x c d)) (sym k)
    ∙ record_back s Z (packet_in r) (octets_part r 2 (number 2 r 6 + 7) o) h.accepted h.segment c d (omega (arith, ap length k)) lc ld some few
    ∙ ap (λ (x : List ℕ). taken (record { key = x; first = c; steps = steps_between c d })) k
