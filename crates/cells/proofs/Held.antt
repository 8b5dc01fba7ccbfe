-- A row tested as the code does is the row of its packet; and what a row is.
-- Assumes nothing.
use Prim.Native.Nat.{ℕ, zero, suc, ◌+◌, ◌-◌, ◌/◌, ◌≤◌, ◌<◌}
use mathlib.Core.Path.{◌≡◌, refl, ap, sym, ◌∙◌}
use mathlib.Core.Logic.{⊎_elim}
use mathlib.Core.Bool.{Bool, true, false, not}
use mathlib.Core.List.{List, [], ◌∷◌, ◌++◌}
use native.Mathlib.Omega.{arith}
use native.Mathlib.Nat.{sub-zero}
use lib.ListN.{length, take, drop, replicate, length-append, length-replicate, length-take, length-drop, drop_of_length-le}
use lib.Seq.{take_all, take-nil}
use lib.Dec.{leb, eqb}
use borrow.Author.Tests.{le-leb, leb-true, eq-eqb, ne_eqb, eqb-true, eqb-false}
use Rattle.octets.specs.Octets.{pick, octet_at, part, number, room_of, alike}
use Rattle.octets.proofs.Lists.{bool, below_or, alike_true, pick_false}
use Rattle.walk.specs.declared.Settings.{Settings}
use Rattle.packet.specs.Answer.{Header}
use Rattle.packet.specs.Reading.{read_packet, segmented, accepted_header, primary_of}
use Rattle.format.proofs.Start.{answer}
use Rattle.cells.specs.declared.Judged.TheVariants.{Free, Held, Broken}
use Rattle.cells.specs.declared.Judged.{Judged}
use Rattle.cells.specs.Segments.{seg_of, both}
use Rattle.cells.specs.Rows.{taken, broken, zero_row, held_row, packet_in, may_hold, holds, records, range_of, cell_of}
use Rattle.cells.specs.Inner.{marked_test, body_in, judged_of, place_in}

pub both_true : (a b : Bool) → both a b ≡ true → (a ≡ true) × (b ≡ true)
both_true true b e = (refl, e)
both_true false b e = let z : ◌≡◌ {A = ℕ} 0 1 = cc in absurd (omega arith)

-- two tests that imply each other are equal
pub same_test : (a b : Bool) → (a ≡ true → b ≡ true) → (b ≡ true → a ≡ true) → a ≡ b
same_test true b f g = sym (f refl)
same_test false true f g = g refl
same_test false false f g = refl

drop_zeros : (n m : ℕ) → drop n (zero_row m) ≡ zero_row (m - n)
drop_zeros zero m = ap zero_row (sym (sub-zero m))
drop_zeros (suc n) zero = let e : 0 - suc n ≡ 0 = omega arith in rw e
drop_zeros (suc n) (suc m) = let e : suc m - suc n ≡ m - n = omega arith in rw e (drop_zeros n m)

-- what both begin with does not matter
alike_prefix : (p a b : List ℕ) → alike (p ++ a) (p ++ b) ≡ alike a b
unfolding alike
alike_prefix [] a b = refl
alike_prefix (x ∷ p) a b = rw (eq-eqb x x refl) (alike_prefix p a b)

-- a beginning and the rest
begins : (k : ℕ) (q : List ℕ) → q ≡ take k q ++ drop (length (take k q)) q
begins zero q = refl
begins (suc k) [] = refl
begins (suc k) (x ∷ q) = ap (λ (y : List ℕ). x ∷ y) (begins k q)

-- ---- the row of a packet

tail_same :
    (q : List ℕ) (k n Z : ℕ) → n ≡ Z - (2 + length (take k q)) →
    alike (drop (length (take k q)) q) (zero_row n) ≡ alike q (take k q ++ zero_row n)
tail_same q k n Z e =
    sym
    (ap (λ (y : List ℕ). alike y (take k q ++ zero_row n)) (begins k q)
    ∙ alike_prefix (take k q) (drop (length (take k q)) q) (zero_row n))

-- a mark, told its second octet, octets and zeros
abbrev pub marked_row : ℕ → ℕ → List ℕ → List ℕ
marked_row m Z p = 0x4d ∷ m ∷ p ++ replicate (Z - (2 + length p)) 0

pub row_same :
    (m Z k : ℕ) (r : List ℕ) → eqb 0 m ≡ false → length r ≡ Z → marked_test m r (2 + length (part r 2 k)) (zero_row Z) ≡ alike r (marked_row m Z (part r 2 k))
unfolding marked_test alike
row_same m Z k [] o e = refl
row_same m Z k (x ∷ []) o e = rw o refl
row_same m Z k (x ∷ y ∷ q) o e =
    let l : length (zero_row Z) ≡ Z = length-replicate Z 0 in
    let t : suc (suc (length q)) ≡ length (zero_row Z) = e ∙ sym l in
    let n : 2 + length (take k q) ≡ suc (suc (length (take k q))) = omega arith in
    rw (eq-eqb (suc (suc (length q))) (length (zero_row Z)) t, drop_zeros (2 + length (take k q)) Z, n)
    (ap (λ (b : Bool). both (eqb x 77) (both (eqb y m) b))
    (tail_same q k (Z - suc (suc (length (take k q)))) Z (ap (λ (j : ℕ). Z - j) (sym n))))

-- ---- a held cell

-- the flags that reading answers are the packet's, where it refuses nothing
pub flags_same : (s : Settings) (p : List ℕ) → (read_packet s p).refusal.number ≡ 0 → (read_packet s p).primary.flags ≡ octet_at p 2 / 64
unfolding accepted_header primary_of
flags_same s p z = ap (λ (h : Header). h.primary.flags) (answer s p z)

may_same :
    (s : Settings) (p : List ℕ) →
    both (eqb (read_packet s p).refusal.number 0) (not (eqb (read_packet s p).primary.flags 3))
    ≡ both (eqb (read_packet s p).refusal.number 0) (segmented p)
may_same s p =
    ⊎_elim
    (λ e. ap (λ (n : ℕ). both (eqb (read_packet s p).refusal.number 0) (not (eqb n 3))) (flags_same s p (eqb-true _ 0 e)))
    (λ e. rw e refl)
    (bool (eqb (read_packet s p).refusal.number 0))

-- a packet inside a row fits it
part_fits : (Z k : ℕ) (r : List ℕ) → length r ≡ Z → 2 ≤ Z → 2 + length (part r 2 k) ≤ Z
part_fits Z k r e h = omega (arith, length-take k (drop 2 r), length-drop 2 r)

-- what is told of a held row, by its packet's header
abbrev noted : Header → Judged
noted h = Held h.body.at h.ids.counter

nothing : (a b c d : Bool) → c ≡ false → both a (both b (both c d)) ≡ false
nothing true true c d e = rw e refl
nothing true false c d e = refl
nothing false b c d e = refl

not_both : (a b : Bool) → (a ≡ true → b ≡ true → ⊥) → both a b ≡ false
not_both true true h = absurd (h refl refl)
not_both true false h = refl
not_both false b h = refl

module _ (s : Settings) (Z : ℕ) (r : List ℕ) where
  abbrev p : List ℕ
  p = packet_in r

  abbrev tested : Bool
  tested =
      both (marked_test 0x53 r (2 + length p) (zero_row Z)) (both (eqb (read_packet s p).refusal.number 0) (not (eqb (read_packet s p).primary.flags 3)))

  -- a row of another length is none that holds a packet
  other_test : (length r ≡ Z → ⊥) → tested ≡ false
  unfolding marked_test
  other_test h =
      ap
      (λ (x : Bool). both x (both (eqb (read_packet s p).refusal.number 0) (not (eqb (read_packet s p).primary.flags 3))))
      {y = false}
      (nothing (eqb (octet_at r 0) 0x4d) (eqb (octet_at r 1) 0x53) (eqb (length r) (length (zero_row Z))) _
      (ne_eqb (length r) (length (zero_row Z)) (λ y. h (y ∙ length-replicate Z 0))))

  other_holds : (length r ≡ Z → ⊥) → holds s Z r ≡ false
  unfolding holds may_hold
  other_holds h = not_both (alike r (held_row Z p)) (may_hold s Z p) (λ a b. h (fits a (both_true (leb (2 + length p) Z) _ b).0))
    where
      fits : alike r (held_row Z p) ≡ true → leb (2 + length p) Z ≡ true → length r ≡ Z
      fits a l =
          omega
          (arith, ap length (alike_true r (held_row Z p) a), length-append p (replicate (Z - (2 + length p)) 0), length-replicate {A = ℕ} (Z - (2 + length p)) 0, leb-true (2 + length p) Z l)

  own_length : length r ≡ Z → tested ≡ holds s Z r
  unfolding holds may_hold
  own_length long =
      rw (row_same 0x53 Z (number 2 r 6 + 7) r refl long)
      (⊎_elim
      (λ a.
      let e = alike_true r (held_row Z p) a in
      let two : 2 ≤ Z = omega (arith, ap length e, length-append p (replicate (Z - (2 + length p)) 0)) in
      let l = le-leb (2 + length p) Z (part_fits Z (number 2 r 6 + 7) r long two) in
      rw (a, l) (may_same s p))
      (λ a. rw a refl)
      (bool (alike r (held_row Z p))))

  pub holds_same : tested ≡ holds s Z r
  holds_same =
      ⊎_elim
      (λ e. own_length (eqb-true (length r) Z e))
      (λ e. let h = eqb-false (length r) Z e in other_test h ∙ sym (other_holds h))
      (bool (eqb (length r) Z))

  -- what the row is
  pub judged_free : alike r (zero_row Z) ≡ true → Free ≡ judged_of (body_in s r) (cell_of s Z r)
  unfolding cell_of
  judged_free e = rw e refl

  module _ (no : alike r (zero_row Z) ≡ false) where
    pub judged_held : holds s Z r ≡ true → noted (read_packet s p) ≡ judged_of (body_in s r) (cell_of s Z r)
    unfolding cell_of seg_of
    judged_held e = rw (no, e) refl

    pub judged_broken :
        holds s Z r ≡ false → records s Z r ≡ false →
        Broken ≡ judged_of (body_in s r) (cell_of s Z r)
    unfolding cell_of
    judged_broken e f = rw (no, e, f) refl

    pub judged_record :
        holds s Z r ≡ false → judged_of (body_in s r) (pick (records s Z r) (taken (range_of s r)) broken) ≡ judged_of (body_in s r) (cell_of s Z r)
    unfolding cell_of
    judged_record e = rw (no, e) refl

-- ---- as the code has it

-- what is left from a place on
pub tail_is : (x : List ℕ) (n : ℕ) {from : ℕ} → from ≡ 0 + room_of (length x) 0 n → take (length x - from) (drop from x) ≡ drop n x
tail_is x n {from} e = ⊎_elim past inside (below_or (length x) n)
  where
    past : length x < n → take (length x - from) (drop from x) ≡ drop n x
    past h =
        let k : length x ≤ from = omega arith in
        let l : length x ≤ n = omega arith in
        ap (take (length x - from)) (drop_of_length-le x k) ∙ take-nil (length x - from) ∙ sym (drop_of_length-le x l)

    inside : n ≤ length x → take (length x - from) (drop from x) ≡ drop n x
    inside h =
        let f : from ≡ n = omega arith in
        let l : length (drop from x) ≤ length x - from = omega (arith, length-drop from x) in
        take_all (length x - from) (drop from x) l ∙ ap (λ (m : ℕ). drop m x) f

pub part_room : (r : List ℕ) (k : ℕ) {n : ℕ} → n ≡ length (part r 2 k) → length r < 18446744073709551616 → 2 + n < 18446744073709551616
part_room r k e h = omega (arith, length-take k (drop 2 r), length-drop 2 r)

module _ (s : Settings) (r z : List ℕ) (ez : z ≡ zero_row (length z)) where
  pub told_free : {b : Bool} → b ≡ alike r z → b ≡ true → Free ≡ judged_of (body_in s r) (cell_of s (length z) r)
  told_free e t = judged_free s (length z) r (ap (alike r) (sym ez) ∙ sym e ∙ t)

  module _ {b m t : Bool} {p : List ℕ} {h : Header} (eb : b ≡ alike r z) (no : b ≡ false) (ep : p ≡ part r 2 (number 2 r 6 + 7)) (eh : h ≡ read_packet s p)
      (em : m ≡ marked_test 0x53 r (2 + length p) z) (et : t ≡ both m (both (eqb h.refusal.number 0) (not (eqb h.primary.flags 3)))) where
    row_free : alike r (zero_row (length z)) ≡ false
    row_free = ap (alike r) (sym ez) ∙ sym eb ∙ no

    row_holds : t ≡ holds s (length z) r
    row_holds =
        et
        ∙ ap (λ (g : Header). both m (both (eqb g.refusal.number 0) (not (eqb g.primary.flags 3)))) eh
        ∙ ap (λ (x : Bool). both x (both (eqb (read_packet s p).refusal.number 0) (not (eqb (read_packet s p).primary.flags 3))))
        (em ∙ ap (marked_test 0x53 r (2 + length p)) ez)
        ∙ ap
        (λ (y : List ℕ).
        both (marked_test 0x53 r (2 + length y) (zero_row (length z)))
        (both (eqb (read_packet s y).refusal.number 0) (not (eqb (read_packet s y).primary.flags 3))))
        ep
        ∙ holds_same s (length z) r

    pub told_held_lem : t ≡ true → noted h ≡ judged_of (body_in s r) (cell_of s (length z) r)
    told_held_lem e = ap noted (eh ∙ ap (read_packet s) ep) ∙ judged_held s (length z) r row_free (sym row_holds ∙ e)

    pub told_broken : t ≡ false → records s (length z) r ≡ false → Broken ≡ judged_of (body_in s r) (cell_of s (length z) r)
    told_broken e f = judged_broken s (length z) r row_free (sym row_holds ∙ e) f

    pub told_refused : (h.refusal.number ≡ 0 → ⊥) → records s (length z) r ≡ false → Broken ≡ judged_of (body_in s r) (cell_of s (length z) r)
    told_refused k f = told_broken (et ∙ ap (both m) (ap (λ (x : Bool). both x (not (eqb h.primary.flags 3))) (ne_eqb h.refusal.number 0 k)) ∙ pick_false m) f

-- a counter's place is one of three
pub place_least : (p : List ℕ) → (27 ≤ place_in p) × (place_in p ≤ 29)
unfolding place_in
place_least p = (omega arith, omega arith)
