-- A sound cell keeps its content in a row of another size: free stays free, a segment the same segment, a record the same record. A packet has
-- to fit; a record always does, for no header is longer than 256 octets.
-- Assumes nothing.
use Prim.Native.Nat.{ℕ, zero, suc, ◌+◌, ◌-◌, ◌/◌, ◌%◌, ◌≤◌, ◌<◌}
use mathlib.Core.Path.{◌≡◌, refl, ap, ap₂, sym, ◌∙◌}
use mathlib.Core.Logic.{◌⊎◌, inl, inr, ⊎_elim}
use mathlib.Core.Bool.{true, false, false≢true}
use mathlib.Core.Option.{none, some-ne-none}
use mathlib.Core.List.{List, [], ◌∷◌, ◌++◌}
use native.Mathlib.Omega.{arith}
use lib.ListN.{length, take, replicate, length-append}
use lib.Seq.{get_or-take, take-take}
use Rattle.octets.specs.Octets.{Octets, octet_at, part, number, wide, alike}
use Rattle.octets.proofs.Lists.{bool, alike_true}
use Rattle.octets.proofs.Numbers.{wide_length}
use Rattle.walk.specs.declared.Settings.{Settings}
use Rattle.packet.specs.Reading.{read_packet}
use Rattle.cells.specs.Rows.{Range, Cell, free, held, taken, broken, segment_in, range_in, zero_row, held_row, packet_in, cell_of, record_row}
use Rattle.cells.specs.Rows.{fore_in, data_in, first_in, key_long, key_taken, first_taken, last_taken, steps_between, range_of}
use Rattle.cells.specs.Order.{is_sound, is_free}
use Rattle.cells.proofs.Scans.{free_is}
use Rattle.cells.proofs.Transactions.{numbers_same}
use Rattle.cells.proofs.Carries.{Holding, kinds, free_cell}
use Rattle.cells.proofs.HeldRow.{zero_free, packet_held, cell_held}
use Rattle.cells.proofs.Firsts.{header_top}
use Rattle.cells.proofs.Records.{Recording, record_or, record_is, key_whole, record_long}
use Rattle.moving.specs.Moving.{row_as}
use Rattle.moving.proofs.Padding.{Padded, as_begins, padded_as}

-- ---- what a sound row is

none_sound : (x : Cell) → is_sound x ≡ true → is_free x ≡ false → segment_in x ≡ none → range_in x ≡ none → ⊥
none_sound free a b c d = false≢true (sym b)
none_sound (held t) a b c d = some-ne-none t c
none_sound (taken g) a b c d = some-ne-none g d
none_sound broken a b c d = false≢true a

pub sound_or : (s : Settings) (Y : ℕ) (r : List ℕ) → is_sound (cell_of s Y r) ≡ true → (alike r (zero_row Y) ≡ true) ⊎ (Holding s Y r ⊎ Recording s Y r)
sound_or s Y r e =
    ⊎_elim
    (λ a. inl a)
    (λ a. inr (⊎_elim (λ h. inl h) (λ n. inr (⊎_elim (λ w. w) (λ m. absurd (none_sound (cell_of s Y r) e (free_is s Y r ∙ a) n m)) (record_or s Y r))) (kinds s Y r)))
    (bool (alike r (zero_row Y)))

-- ---- two rows that begin alike are read alike

module _ (r q : List ℕ) (m : ℕ) (e : take m r ≡ take m q) where
  octet_alike : (i : ℕ) → i < m → octet_at r i ≡ octet_at q i
  octet_alike i h = sym (get_or-take m r i 0 h) ∙ ap (λ (x : List ℕ). octet_at x i) e ∙ get_or-take m q i 0 h

  number_alike : (n i : ℕ) → i + n ≤ m → number n r i ≡ number n q i
  number_alike n i h = numbers_same n r q i i (λ k l. octet_alike (i + k) (omega arith))

part_begin : (m i n : ℕ) (r : List ℕ) → i + n ≤ m → part (take m r) i n ≡ part r i n
part_begin m zero n r h = take-take n m r (omega arith)
part_begin zero (suc i) n r h = absurd (omega arith)
part_begin (suc m) (suc i) n [] h = refl
part_begin (suc m) (suc i) n (x ∷ r) h = part_begin m i n r (omega arith)

-- what is told of a record, by its key and its two counters
range_by_lem : List ℕ → ℕ → ℕ → Range
range_by_lem k a b = record { key = k; first = a; steps = steps_between a b }

range_is : (s : Settings) (r : List ℕ) → range_of s r ≡ range_by_lem (key_taken s r) (first_taken s r) (last_taken s r)
unfolding range_of range_by_lem
range_is s r = refl

module _ (r q : List ℕ) (m : ℕ) (e : take m r ≡ take m q) where
  part_alike : (i n : ℕ) → i + n ≤ m → part r i n ≡ part q i n
  part_alike i n h = sym (part_begin m i n r h) ∙ ap (λ (x : List ℕ). part x i n) e ∙ part_begin m i n q h

  module _ (h : 260 ≤ m) where
    fore_alike : fore_in r ≡ fore_in q
    unfolding fore_in
    fore_alike = ap (λ (f : ℕ). 21 + (f / 128 % 2 + f / 64 % 2)) (octet_alike r q m e 24 (omega arith))

    fore_small : fore_in r ≤ 23
    unfolding fore_in
    fore_small = omega arith

    data_alike : data_in r ≡ data_in q
    unfolding data_in
    data_alike =
        ap₂
        (λ (x y : List ℕ). x ++ replicate 4 0 ++ y)
        (part_alike 4 (fore_in r) (omega (arith, fore_small)) ∙ ap (part q 4) fore_alike)
        (part_alike (4 + fore_in r) (256 - fore_in r) (omega (arith, fore_small)) ∙ ap (λ (f : ℕ). part q (4 + f) (256 - f)) fore_alike)

    pub first_alike : first_in r ≡ first_in q
    unfolding first_in
    first_alike =
        ap₂ (λ (x y : List ℕ). x ++ 0x40 ∷ 0x00 ∷ wide 2 (length y - 1) ++ y) (part_alike 2 2 (omega arith)) data_alike

    module _ (s : Settings) where
      long_alike : key_long s r ≡ key_long s q
      unfolding key_long
      long_alike = ap (λ (x : List ℕ). 2 + (read_packet s x).h) first_alike

      module _ (l : 2 + key_long s r + 8 ≤ m) where
        pub key_alike : key_taken s r ≡ key_taken s q
        key_alike = part_alike 2 (key_long s r) (omega arith) ∙ ap (part q 2) long_alike

        pub from_alike : first_taken s r ≡ first_taken s q
        from_alike = number_alike r q m e 4 (2 + key_long s r) (omega arith) ∙ ap (λ (k : ℕ). number 4 q (2 + k)) long_alike

        pub to_alike : last_taken s r ≡ last_taken s q
        to_alike = number_alike r q m e 4 (2 + key_long s r + 4) (omega arith) ∙ ap (λ (k : ℕ). number 4 q (2 + k + 4)) long_alike

        pub range_alike : range_of s r ≡ range_of s q
        range_alike =
            range_is s r
            ∙ ap (λ (k : List ℕ). range_by_lem k (first_taken s r) (last_taken s r)) key_alike
            ∙ ap₂ (range_by_lem (key_taken s q)) from_alike to_alike
            ∙ sym (range_is s q)

-- ---- the same in a row of another size

-- the most octets of a record before its zeros: mark, identification, header, two counters
abbrev pub record_most : ℕ
record_most = 268

module _ (s : Settings) (Y Z : ℕ) (r : List ℕ) where
  -- a row of zeros
  module _ (a : alike r (zero_row Y) ≡ true) where
    pub zero_padded : Padded Y Z r
    zero_padded =
        let e : Y ≡ Y - 0 = omega arith in
        record { fore = []; row = alike_true r (zero_row Y) a ∙ ap zero_row e; own = omega arith; other = omega arith }

    pub zero_same : cell_of s Z (row_as Z r) ≡ cell_of s Y r
    unfolding zero_padded
    zero_same =
        let e : Z - 0 ≡ Z = omega arith in
        ap (cell_of s Z) (padded_as zero_padded ∙ ap zero_row e) ∙ zero_free s Z ∙ sym (free_cell s Y r a)

  -- a held one
  module _ (h : Holding s Y r) (l : 2 + length (packet_in r) ≤ Z) where
    two_more : 2 + length (packet_in r) ≡ length (0x4d ∷ 0x53 ∷ packet_in r)
    two_more = omega arith

    pub held_padded : Padded Y Z r
    held_padded =
        record {
          fore = 0x4d ∷ 0x53 ∷ packet_in r;
          row = h.row ∙ ap (λ (n : ℕ). 0x4d ∷ 0x53 ∷ packet_in r ++ zero_row (Y - n)) two_more;
          own = omega (arith, h.fits);
          other = omega arith;
        }

    held_as_lem : row_as Z r ≡ held_row Z (packet_in r)
    unfolding held_padded
    held_as_lem = padded_as held_padded ∙ ap (λ (n : ℕ). 0x4d ∷ 0x53 ∷ packet_in r ++ zero_row (Z - n)) (sym two_more)

    pub held_same : cell_of s Z (row_as Z r) ≡ cell_of s Y r
    held_same = ap (cell_of s Z) held_as_lem ∙ cell_held s Z (packet_in r) h.accepted h.segment l ∙ sym h.cell

    -- it holds the same packet
    pub held_packet : packet_in (row_as Z r) ≡ packet_in r
    held_packet = ap packet_in held_as_lem ∙ packet_held s Z (packet_in r) h.accepted

  -- a record
  module _ (w : Recording s Y r) (o : Octets r) (y : record_most ≤ Y) (z : record_most ≤ Z) where
    abbrev k : List ℕ
    k = key_taken s r

    abbrev a : ℕ
    a = first_taken s r

    abbrev b : ℕ
    b = last_taken s r

    key_top : 2 + key_long s r + 8 ≤ record_most
    unfolding key_long
    key_top = omega (arith, header_top s r o w.accepted)

    fore_long : length (0x4d ∷ 0x54 ∷ k ++ wide 4 a ++ wide 4 b) ≡ 2 + length k + 8
    fore_long =
        omega (arith, length-append (k ++ wide 4 a) (wide 4 b), length-append k (wide 4 a), wide_length 4 a, wide_length 4 b)

    pub record_padded : Padded Y Z r
    record_padded =
        record {
          fore = 0x4d ∷ 0x54 ∷ k ++ wide 4 a ++ wide 4 b;
          row = w.row ∙ ap (λ (n : ℕ). 0x4d ∷ 0x54 ∷ k ++ wide 4 a ++ wide 4 b ++ zero_row (Y - n)) (sym fore_long);
          own = omega (arith, fore_long, key_whole s Y r w, w.fits);
          other = omega (arith, fore_long, key_whole s Y r w, key_top);
        }

    begins : take record_most r ≡ take record_most (row_as Z r)
    begins = sym (as_begins Z r record_most z (omega (arith, record_long s Y r w)))

    moved_row : row_as Z r ≡ record_row Z (key_taken s (row_as Z r)) (first_taken s (row_as Z r)) (last_taken s (row_as Z r))
    unfolding record_padded
    moved_row =
        let q = row_as Z r in
        padded_as record_padded
        ∙ ap (λ (n : ℕ). 0x4d ∷ 0x54 ∷ k ++ wide 4 a ++ wide 4 b ++ zero_row (Z - n)) fore_long
        ∙ ap (λ (x : List ℕ). record_row Z x a b) (key_alike r q record_most begins (omega arith) s key_top)
        ∙ ap₂ (record_row Z (key_taken s q)) (from_alike r q record_most begins (omega arith) s key_top) (to_alike r q record_most begins (omega arith) s key_top)

    moved_record : Recording s Z (row_as Z r)
    moved_record =
        let q = row_as Z r in
        let e = ap₂ steps_between (from_alike r q record_most begins (omega arith) s key_top) (to_alike r q record_most begins (omega arith) s key_top) in
        record {
          row = moved_row;
          fits = omega (arith, key_top, long_alike r q record_most begins (omega arith) s);
          accepted = ap (λ (x : List ℕ). (read_packet s x).refusal.number) (sym (first_alike r q record_most begins (omega arith))) ∙ w.accepted;
          some = omega (arith, e, w.some);
          few = omega (arith, e, w.few);
        }

    pub record_same : cell_of s Z (row_as Z r) ≡ cell_of s Y r
    record_same =
        record_is s Z (row_as Z r) moved_record
        ∙ ap taken (sym (range_alike r (row_as Z r) record_most begins (omega arith) s key_top))
        ∙ sym (record_is s Y r w)
