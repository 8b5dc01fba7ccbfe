-- A row that is a taken record (S-15), as the code tests it; and whether a record covers a key and a counter.
-- Assumes nothing.
use Prim.Native.Nat.{ℕ, zero, suc, ◌+◌, ◌-◌, ◌≤◌}
use mathlib.Core.Path.{◌≡◌, refl, ap, ap₂, sym, ◌∙◌}
use mathlib.Core.Logic.{◌⊎◌, inl, inr, ⊎_elim}
use mathlib.Core.Bool.{Bool, true, false}
use mathlib.Core.Option.{none}
use mathlib.Core.List.{List, ◌∷◌, ◌++◌}
use native.Mathlib.Omega.{arith}
use lib.ListN.{length, drop, replicate, length-append, length-replicate, length-take}
use lib.Dec.{eqb, leb}
use borrow.Author.Tests.{eqb-true, leb-true, le-leb}
use Rattle.octets.specs.Octets.{pick, Octets, octet_at, part, number, wide, alike}
use Rattle.octets.proofs.Has.{Has, has_part, has_both, part_has, part_length}
use Rattle.octets.proofs.Numbers.{wide_length, number_has}
use Rattle.octets.proofs.Lists.{bool, alike_true, alike_self}
use Rattle.walk.specs.declared.Settings.{Settings}
use Rattle.walk.specs.declared.Refused.{Refused}
use Rattle.walk.specs.Told.{told}
use Rattle.walk.proofs.Refuses.{has_number}
use Rattle.packet.specs.Answer.{Header}
use Rattle.packet.specs.Reading.{read_packet, refused_header}
use Rattle.cells.specs.declared.Judged.{Judged}
use Rattle.cells.specs.Segments.{Seg, seg_of, both}
use Rattle.cells.specs.Rows.{Range, free, held, taken, broken, range_in, zero_row, packet_in, held_row, holds, cell_of, record_row}
use Rattle.cells.specs.Rows.{first_in, key_long, key_taken, first_taken, last_taken, steps_between, range_of, records}
use Rattle.cells.specs.Inner.{marked_test, body_in, judged_of, recorded_of}
use Rattle.cells.proofs.Firsts.{header_top}
use Rattle.cells.proofs.Held.{both_true, same_test, marked_row, row_same, judged_record}

-- what such a row is
pub record Recording (s : Settings) (Z : ℕ) (r : List ℕ) : Type 0 where
  pub row : r ≡ record_row Z (key_taken s r) (first_taken s r) (last_taken s r)
  pub fits : 2 + key_long s r + 8 ≤ Z
  pub accepted : (read_packet s (first_in r)).refusal.number ≡ 0
  pub some : 1 ≤ steps_between (first_taken s r) (last_taken s r)
  pub few : steps_between (first_taken s r) (last_taken s r) ≤ 4095

-- ---- its octets

zeros_first : (n : ℕ) → octet_at (zero_row n) 0 ≡ 0
zeros_first zero = refl
zeros_first (suc n) = refl

-- a record has a marked row
pub record_marked : (Z : ℕ) (k : List ℕ) (a b : ℕ) → record_row Z k a b ≡ marked_row 0x54 Z (k ++ wide 4 a ++ wide 4 b)
record_marked Z k a b =
    let l : 2 + length k + 8 ≡ 2 + length (k ++ wide 4 a ++ wide 4 b) =
    omega (arith, length-append (k ++ wide 4 a) (wide 4 b), length-append k (wide 4 a), wide_length 4 a, wide_length 4 b) in
    ap (λ (n : ℕ). 0x4d ∷ 0x54 ∷ k ++ wide 4 a ++ wide 4 b ++ replicate (Z - n) 0) l

module _ (s : Settings) (Z : ℕ) (r : List ℕ) where
  abbrev K : ℕ
  K = key_long s r

  abbrev a : ℕ
  a = first_taken s r

  abbrev b : ℕ
  b = last_taken s r

  pub recording : records s Z r ≡ true → Recording s Z r
  unfolding records
  recording e =
      let v = both_true (alike r (record_row Z (key_taken s r) a b)) _ e in
      let w = both_true (leb (2 + K + 8) Z) _ v.1 in
      let x = both_true (eqb (read_packet s (first_in r)).refusal.number 0) _ w.1 in
      let y = both_true (leb 1 (steps_between a b)) (leb (steps_between a b) 4095) x.1 in
      record {
        row = alike_true r (record_row Z (key_taken s r) a b) v.0;
        fits = leb-true (2 + K + 8) Z w.0;
        accepted = eqb-true (read_packet s (first_in r)).refusal.number 0 x.0;
        some = leb-true 1 (steps_between a b) y.0;
        few = leb-true (steps_between a b) 4095 y.1;
      }

  pub recorded : Recording s Z r → records s Z r ≡ true
  unfolding records
  recorded w =
      let e : alike r (record_row Z (key_taken s r) a b) ≡ true = ap (alike r) (sym w.row) ∙ alike_self r in
      rw (e, le-leb (2 + K + 8) Z w.fits, w.accepted, le-leb 1 (steps_between a b) w.some, le-leb (steps_between a b) 4095 w.few) refl

  -- it is as long as a cell, and its key as it is read
  module _ (w : Recording s Z r) where
    pub record_long : length r ≡ Z
    record_long =
        let l = length-take K (drop 2 r) in
        let k = key_taken s r in
        let n = Z - (2 + length k + 8) in
        let m = length-append (k ++ wide 4 a ++ wide 4 b) (replicate n 0) in
        let t = length-append (k ++ wide 4 a) (wide 4 b) in
        omega (arith, ap length w.row, m, t, length-append k (wide 4 a), wide_length 4 a, wide_length 4 b, length-replicate {A = ℕ} n 0, l, w.fits)

    pub key_whole : length (key_taken s r) ≡ K
    key_whole = part_length r 2 K (omega (arith, record_long, w.fits))

    pub record_mark : octet_at r 1 ≡ 0x54
    record_mark = ap (λ (x : List ℕ). octet_at x 1) w.row

  -- its key and counters are the octets that stand there
  pub pieces : Octets r → 2 + K + 8 ≤ length r → key_taken s r ++ wide 4 a ++ wide 4 b ≡ part r 2 (K + 8)
  pieces o l =
      let k : length (key_taken s r) ≡ K = part_length r 2 K (omega arith) in
      let h : Has r 2 (key_taken s r) = has_part r 2 K (omega arith) in
      let f : Has r (2 + length (key_taken s r)) (wide 4 a) = rw k (number_has 4 r (2 + K) o (omega arith)) in
      let p : Has r 2 (key_taken s r ++ wide 4 a) = has_both (key_taken s r) (wide 4 a) h f in
      let n : 2 + length (key_taken s r ++ wide 4 a) ≡ 2 + K + 4 = omega (arith, length-append (key_taken s r) (wide 4 a), wide_length 4 a) in
      let g : Has r (2 + length (key_taken s r ++ wide 4 a)) (wide 4 b) = rw n (number_has 4 r (2 + K + 4) o (omega arith)) in
      let q : Has r 2 (key_taken s r ++ wide 4 a ++ wide 4 b) = has_both (key_taken s r ++ wide 4 a) (wide 4 b) p g in
      let m : length (key_taken s r ++ wide 4 a ++ wide 4 b) ≡ K + 8 =
      omega (arith, length-append (key_taken s r ++ wide 4 a) (wide 4 b), wide_length 4 b) in
      sym (part_has (key_taken s r ++ wide 4 a ++ wide 4 b) q) ∙ ap (part r 2) m

  -- ---- its cell

  -- a row with another mark is none
  pub other_mark : (octet_at r 1 ≡ 0x54 → ⊥) → records s Z r ≡ false
  other_mark h = ⊎_elim (λ e. absurd (h (record_mark (recording e)))) (λ e. e) (bool (records s Z r))

  -- and one with its mark holds no segment, and is not free
  pub not_holding : octet_at r 1 ≡ 0x54 → holds s Z r ≡ false
  unfolding holds
  not_holding h = ⊎_elim held_it (λ e. e) (bool (holds s Z r))
    where
      held_it : holds s Z r ≡ true → holds s Z r ≡ false
      held_it e =
          let v = both_true (alike r (held_row Z (packet_in r))) _ e in
          let m : octet_at r 1 ≡ 0x53 = ap (λ (x : List ℕ). octet_at x 1) (alike_true r (held_row Z (packet_in r)) v.0) in
          absurd (omega arith)

  pub not_free : octet_at r 0 ≡ 0x4d → alike r (zero_row Z) ≡ false
  not_free h = ⊎_elim zeros (λ e. e) (bool (alike r (zero_row Z)))
    where
      zeros : alike r (zero_row Z) ≡ true → alike r (zero_row Z) ≡ false
      zeros e =
          let m : octet_at r 0 ≡ octet_at (zero_row Z) 0 = ap (λ (x : List ℕ). octet_at x 0) (alike_true r (zero_row Z) e) in
          absurd (omega (arith, zeros_first Z))

  pub record_is : Recording s Z r → cell_of s Z r ≡ taken (range_of s r)
  unfolding cell_of
  record_is w =
      let m : octet_at r 0 ≡ 0x4d = ap (λ (x : List ℕ). octet_at x 0) w.row in
      rw (not_free m, not_holding (record_mark w), recorded w) refl

cell_by_lem :
    (s : Settings) (Z : ℕ) (r : List ℕ) → records s Z r ≡ false →
    cell_of s Z r
    ≡ pick (alike r (zero_row Z)) free (pick (holds s Z r) (held (seg_of (packet_in r) (read_packet s (packet_in r)))) (pick false (taken (range_of s r)) broken))
unfolding cell_of
cell_by_lem s Z r e = rw e refl

-- a row is a record, or none
pub record_or : (s : Settings) (Z : ℕ) (r : List ℕ) → Recording s Z r ⊎ (range_in (cell_of s Z r) ≡ none)
record_or s Z r = ⊎_elim (λ e. inl (recording s Z r e)) (λ e. inr (none_there e)) (bool (records s Z r))
  where
    three : (x y : Bool) (t : Seg) (g : Range) → range_in (pick x free (pick y (held t) (pick false (taken g) broken))) ≡ none
    three true y t g = refl
    three false true t g = refl
    three false false t g = refl

    none_there : records s Z r ≡ false → range_in (cell_of s Z r) ≡ none
    none_there e =
        ap range_in (cell_by_lem s Z r e)
        ∙ three (alike r (zero_row Z)) (holds s Z r) (seg_of (packet_in r) (read_packet s (packet_in r))) (range_of s r)

-- ---- as the code judges it

pub head_small :
    (s : Settings) (r : List ℕ) → Octets r → {h : Header} → h ≡ read_packet s (first_in r) → h.refusal.number ≡ 0 → h.h ≤ 256
head_small s r o e z =
    omega (arith, ap (λ (x : Header). x.h) e, header_top s r o (ap (λ (x : Header). x.refusal.number) (sym e) ∙ z))

-- a refusal has a number
pub refused_number : (r : Refused) → (refused_header (told r)).refusal.number ≡ 0 → ⊥
unfolding refused_header
refused_number r e = has_number r e

pub refused_record :
    (s : Settings) (Z : ℕ) (r : List ℕ) {h : Header} {t : Judged} → h ≡ read_packet s (first_in r) → (h.refusal.number ≡ 0 → ⊥) →
    t ≡ recorded_of false 0 → t ≡ recorded_of (records s Z r) (read_packet s (first_in r)).h
refused_record s Z r e n f = f ∙ ap (λ (b : Bool). recorded_of b (read_packet s (first_in r)).h) (sym none_there)
  where
    none_there : records s Z r ≡ false
    none_there =
        ⊎_elim
        (λ w. absurd (n (ap (λ (x : Header). x.refusal.number) e ∙ (recording s Z r w).accepted)))
        (λ w. w)
        (bool (records s Z r))

module _ (s : Settings) (r z : List ℕ) (ez : z ≡ zero_row (length z)) where
  abbrev Z : ℕ
  Z = length z

  module _ {b : Bool} {m : ℕ} (eb : b ≡ alike r z) (no : b ≡ false) (em : m ≡ octet_at r 1) where
    row_free : alike r (zero_row Z) ≡ false
    row_free = ap (alike r) (sym ez) ∙ sym eb ∙ no

    -- what is told of a record's row is what it is
    header_is : records s Z r ≡ true → recorded_of true (read_packet s (first_in r)).h ≡ judged_of (body_in s r) (taken (range_of s r))
    unfolding range_of key_long
    header_is w =
        let e : (read_packet s (first_in r)).h ≡ length (key_taken s r) - 2 = omega (arith, key_whole s Z r (recording s Z r w)) in
        ap (recorded_of true) e

    pub told_record : {t : Judged} → m ≡ 0x54 → t ≡ recorded_of (records s Z r) (read_packet s (first_in r)).h → t ≡ judged_of (body_in s r) (cell_of s Z r)
    told_record h e = e ∙ both_ways (bool (records s Z r)) ∙ judged_record s Z r row_free (not_holding s Z r (sym em ∙ h))
      where
        both_ways : (records s Z r ≡ true) ⊎ (records s Z r ≡ false) →
            recorded_of (records s Z r) (read_packet s (first_in r)).h ≡ judged_of (body_in s r) (pick (records s Z r) (taken (range_of s r)) broken)
        both_ways (inl w) = rw w (header_is w)
        both_ways (inr w) = rw w refl

    -- a row with neither mark nor zeros
    pub told_none : (m ≡ 0x54 → ⊥) → records s Z r ≡ false
    told_none h = other_mark s Z r (λ e. h (em ∙ e))

  -- its tests
  module _ (o : Octets r) {h : Header} {at end : ℕ} (eh : h ≡ read_packet s (first_in r)) (ok : h.refusal.number ≡ 0) (ea : at ≡ 4 + h.h)
      (ee : end ≡ at + 4 + 4) where
    abbrev long : ℕ
    long = key_long s r

    end_is : end ≡ 2 + long + 8
    unfolding key_long
    end_is = let e = ap (λ (x : Header). x.h) eh in omega arith

    at_is : at ≡ 2 + long
    unfolding key_long
    at_is = let e = ap (λ (x : Header). x.h) eh in omega arith

    marked_row_lem : length r ≡ Z → end ≤ Z → marked_test 0x54 r end z ≡ alike r (record_row Z (key_taken s r) (first_taken s r) (last_taken s r))
    marked_row_lem l f =
        let n : end ≡ 2 + length (part r 2 (long + 8)) = omega (arith, end_is, part_length r 2 (long + 8) (omega (arith, end_is))) in
        let e : record_row Z (key_taken s r) (first_taken s r) (last_taken s r) ≡ marked_row 0x54 Z (part r 2 (long + 8)) =
        record_marked Z (key_taken s r) (first_taken s r) (last_taken s r) ∙ ap (marked_row 0x54 Z) (pieces s Z r o (omega (arith, end_is))) in
        ap (marked_test 0x54 r end) ez
        ∙ ap (λ (k : ℕ). marked_test 0x54 r k (zero_row Z)) n
        ∙ row_same 0x54 Z (long + 8) r refl l
        ∙ ap (alike r) (sym e)

    same_long : marked_test 0x54 r end z ≡ true → length r ≡ Z
    unfolding marked_test
    same_long e =
        let v = both_true (eqb (octet_at r 0) 0x4d) _ e in
        let w = both_true (eqb (octet_at r 1) 0x54) _ v.1 in
        let x = both_true (eqb (length r) (length z)) _ w.1 in
        eqb-true (length r) (length z) x.0

    pub record_tested :
        {n : ℕ} {a f g u v : Bool} → n ≡ steps_between (number 4 r at) (number 4 r (at + 4)) → a ≡ marked_test 0x54 r end z → f ≡ leb end Z →
        g ≡ both (leb 1 n) (leb n 4095) → u ≡ both f g → v ≡ both a u → v ≡ records s Z r
    record_tested {n} {a} {f} {g} {u} {v} en ea ef eg eu ev = same_test v (records s Z r) forth back
      where
        steps : n ≡ steps_between (first_taken s r) (last_taken s r)
        steps = en ∙ ap (λ (k : ℕ). steps_between (number 4 r k) (number 4 r (k + 4))) at_is

        forth : v ≡ true → records s Z r ≡ true
        forth e =
            let x = both_true a u (sym ev ∙ e) in
            let y = both_true f g (sym eu ∙ x.1) in
            let w = both_true (leb 1 n) (leb n 4095) (sym eg ∙ y.1) in
            let q : end ≤ Z = leb-true end Z (sym ef ∙ y.0) in
            let l = same_long (sym ea ∙ x.0) in
            recorded s Z r
            (record {
              row = alike_true r _ (sym (marked_row_lem l q) ∙ sym ea ∙ x.0);
              fits = omega (arith, end_is);
              accepted = sym (ap (λ (y : Header). y.refusal.number) eh) ∙ ok;
              some = rw steps at (leb-true 1 n w.0);
              few = rw steps at (leb-true n 4095 w.1);
            })

        back : records s Z r ≡ true → v ≡ true
        back e =
            let w = recording s Z r e in
            let q : end ≤ Z = omega (arith, end_is, w.fits) in
            let x : a ≡ true = ea ∙ marked_row_lem (record_long s Z r w) q ∙ ap (alike r) (sym w.row) ∙ alike_self r in
            let y : f ≡ true = ef ∙ le-leb end Z q in
            let p : g ≡ true = eg ∙ ap₂ both (le-leb 1 n (rw steps w.some)) (le-leb n 4095 (rw steps w.few)) in
            ev ∙ ap₂ both x (eu ∙ ap₂ both y p)
