-- What an arrival comes to, case by case as the code tells them apart.
-- Assumes nothing.
use Prim.Native.Nat.{ℕ, suc, ◌+◌, ◌*◌, ◌/◌, ◌≤◌, ◌<◌}
use mathlib.Core.Path.{◌≡◌, refl, ap, ap₂, sym, ◌∙◌}
use mathlib.Core.Logic.{⊎_elim}
use mathlib.Core.Bool.{Bool, true, false, not}
use mathlib.Core.List.{List, ◌∷◌}
use mathlib.Core.Option.{Option}
use native.Mathlib.Omega.{arith}
use lib.ListN.{length, drop, length-take, length-drop}
use lib.Seq.{sets}
use lib.Dec.{leb, eqb}
use borrow.Author.Tests.{le-leb, lt-leb, leb-true, eq-eqb, ne_eqb, eqb-true, eqb-false, not-true, not-false}
use Rattle.octets.specs.Octets.{pick, Octets, octet_at, part, alike}
use Rattle.octets.proofs.Lists.{alike_true, bool}
use Rattle.walk.specs.declared.Settings.{Settings}
use Rattle.walk.specs.Walk.{refusal}
use Rattle.walk.specs.declared.Refused.{Refused}
use Rattle.walk.specs.Told.{told as refusal_told}
use Rattle.walk.proofs.Refuses.{has_number}
use Rattle.packet.specs.Decoded.{decoded}
use Rattle.std.specs.Prelude.{Err}
use Rattle.packet.specs.Answer.{Header}
use Rattle.packet.specs.Reading.{read_packet, segmented, refused_header}
use Rattle.packet.specs.Key.{key_of}
use Rattle.cells.specs.Segments.{Seg, seg_of, same_rest, both}
use Rattle.cells.specs.Rows.{row_at, zero_row, held_row, packet_in}
use Rattle.cells.specs.Inner.{Asked}
use Rattle.cells.specs.Order.{is_free, lowest, cell_at, found_in, untaken_to}
use Rattle.cells.proofs.Scans.{free_is}
use Rattle.cells.proofs.Held.{flags_same, both_true}
use Rattle.cells.proofs.Laid.{held_laid}
use Rattle.arrival.specs.Arriving.{Arrived, whole, stored, again, late, refused, placed, beside, lowest_free}
use Rattle.arrival.specs.Arriving.{segment_arrived, segment_came, arrived_in, store_with}
use Rattle.cells.specs.declared.messages.Piece.{Piece}
use Rattle.cells.specs.Pieces.{seg_in, piece_of}
use Rattle.arrival.specs.Inner.{seg_with, unplaced_of}
use Rattle.cells.proofs.Looks.{lowest_holds, lowest_same, look_found, look_none}
use Rattle.cells.proofs.Found.{found_held}

-- ---- a new segment

module _ (st z p : List ℕ) (n : ℕ) where
  -- the lowest row of zeros
  abbrev pub low : ℕ
  low = lowest (λ j. alike (row_at (length z) st j) z) n 0

  pub new_full : {i : ℕ} → i ≡ low → n ≤ i → placed n low ≡ refused (refusal 19)
  unfolding placed
  new_full {i} e h = let k : n < suc low = omega arith in ap (λ (b : Bool). pick b (stored low) (refused (refusal 19))) (lt-leb (suc low) n k)

  module _ {i : ℕ} (e : i ≡ low) (h : i < n) where
    pub new_there : placed n low ≡ stored i
    unfolding placed
    new_there = let k : suc low ≤ n = omega arith in ap (λ (b : Bool). pick b (stored low) (refused (refusal 19))) (le-leb (suc low) n k) ∙ ap stored (sym e)

    row_zero : row_at (length z) st i ≡ z
    row_zero =
        let k : low < 0 + n = omega arith in
        alike_true (row_at (length z) st i) z
        (ap (λ (j : ℕ). alike (row_at (length z) st j) z) e ∙ lowest_holds (λ j. alike (row_at (length z) st j) z) n 0 k)

    -- a row as long as the zero cell lies inside
    pub new_inside : 2 + length p ≤ length z → i * length z + (2 + length p) ≤ length st
    new_inside b =
        omega
        (arith, ap length row_zero, length-take (length z) (drop (i * length z) st), length-drop (i * length z) st)

    pub new_laid :
        z ≡ zero_row (length z) → 2 + length p ≤ length z →
        sets st (i * length z) (0x4d ∷ 0x53 ∷ p) ≡ sets st (i * length z) (held_row (length z) p)
    new_laid ez b = held_laid (length z) i st p (row_zero ∙ ez) b

-- ---- a segment

module _ (s : Settings) (st z p : List ℕ) (n flags at long c : ℕ) (ez : z ≡ zero_row (length z)) where
  abbrev Z : ℕ
  Z = length z

  abbrev t : Seg
  t = seg_with s p flags at long c

  abbrev k : List ℕ
  k = key_of p (read_packet s p)

  free_low : lowest_free s Z st n ≡ low st z p n
  free_low =
      lowest_same (λ i. is_free (cell_at s Z st i)) (λ j. alike (row_at Z st j) z) n 0
      (λ j. free_is s Z (row_at Z st j) ∙ ap (alike (row_at Z st j)) (sym ez))

  module _ {j : ℕ} (e : j ≡ found_in s Z st n k c) where
    pub segment_new : n ≤ j → segment_arrived s Z st n t ≡ placed n (low st z p n)
    unfolding segment_arrived seg_with found_in
    segment_new h =
        let m : 0 + n ≤ found_in s Z st n k c = omega arith in
        ap₂ (λ (o : Option Seg) (i : ℕ). beside o t (placed n i)) (look_none (cell_at s Z st) k c n 0 m) free_low

    module _ (h : j < n) where
      pub segment_beside : segment_arrived s Z st n t ≡ pick (same_rest (seg_in s (row_at Z st j)) t) again (refused (refusal 18))
      unfolding segment_arrived seg_with found_in
      segment_beside =
          let m : found_in s Z st n k c < 0 + n = omega arith in
          let o = look_found (cell_at s Z st) k c n 0 (seg_in s (row_at Z st j)) m (ap (cell_at s Z st) (sym e) ∙ (found_held s Z st n k c e h).cell) in
          ap (λ (x : Option Seg). beside x t (placed n (lowest_free s Z st n))) o

      module _ {x : List ℕ} {b : Bool} (ex : x ≡ row_at Z st j) (eb : b ≡ same_rest (seg_in s x) (seg_with s p flags at long 0)) where
        told : b ≡ same_rest (seg_in s (row_at Z st j)) t
        unfolding same_rest seg_with
        told = eb ∙ ap (λ (y : List ℕ). same_rest (seg_in s y) t) ex

        pub segment_same : b ≡ true → segment_arrived s Z st n t ≡ again
        segment_same y = segment_beside ∙ ap (λ (w : Bool). pick w again (refused (refusal 18))) (sym told ∙ y)

        pub segment_other : b ≡ false → segment_arrived s Z st n t ≡ refused (refusal 18)
        segment_other y = segment_beside ∙ ap (λ (w : Bool). pick w again (refused (refusal 18))) (sym told ∙ y)

-- flags and body compared as they stand in two packets
pub rest_same :
    (s : Settings) (r p : List ℕ) (flags at long : ℕ) {q : List ℕ} {u : Piece} {b : Bool} → q ≡ packet_in r → u ≡ piece_of (read_packet s (packet_in r)) →
    b ≡ both (eqb u.flags flags) (alike (part q u.at u.length) (part p at long)) → b ≡ same_rest (seg_in s r) (seg_with s p flags at long 0)
unfolding same_rest seg_of seg_with piece_of
rest_same s r p flags at long eq eu eb =
    eb
    ∙ ap₂ (λ (x : List ℕ) (v : Piece). both (eqb v.flags flags) (alike (part x v.at v.length) (part p at long))) eq eu

-- ---- a packet

module _ (s : Settings) (Z : ℕ) (st p : List ℕ) (n : ℕ) {h : Header} (e : h ≡ read_packet s p) where
  abbrev r : ℕ
  r = (read_packet s p).refusal.number

  number_is : h.refusal.number ≡ r
  number_is = ap (λ (x : Header). x.refusal.number) e

  pub packet_bad : (h.refusal.number ≡ 0 → ⊥) → arrived_in s Z st n p ≡ refused h.refusal
  unfolding arrived_in
  packet_bad bad = rw (ne_eqb r 0 (λ x. bad (number_is ∙ x))) (ap (λ (x : Header). refused x.refusal) (sym e))

  module _ (ok : h.refusal.number ≡ 0) where
    fine : r ≡ 0
    fine = sym number_is ∙ ok

    flags_are : h.primary.flags ≡ octet_at p 2 / 64
    flags_are = ap (λ (x : Header). x.primary.flags) e ∙ flags_same s p fine

    pub packet_whole : h.primary.flags ≡ 3 → arrived_in s Z st n p ≡ whole
    unfolding arrived_in
    packet_whole f = rw (eq-eqb r 0 fine, eq-eqb (octet_at p 2 / 64) 3 (sym flags_are ∙ f)) refl

    module _ (more : h.primary.flags ≡ 3 → ⊥) where
      pub packet_segment : segmented p ≡ true
      packet_segment = ap not (ne_eqb (octet_at p 2 / 64) 3 (λ x. more (flags_are ∙ x)))

      pub packet_asked : Octets p → Asked s p h.body.at
      packet_asked o = record { octets = o; accepted = fine; segment = packet_segment; body = ap (λ (x : Header). x.body.at) e }

      pub packet_came :
          segment_came s Z st n (seg_with s p h.primary.flags h.body.at h.body.length h.ids.counter.0) (length p) ≡ arrived_in s Z st n p
      unfolding arrived_in seg_with seg_of
      packet_came =
          ap (λ (x : Header). segment_came s Z st n (seg_with s p x.primary.flags x.body.at x.body.length x.ids.counter.0) (length p)) e
          ∙ sym (rw (eq-eqb r 0 fine, packet_segment) refl)

-- ---- a segment, by whether a record covers it and whether it fits a cell

module _ (s : Settings) (Z : ℕ) (st : List ℕ) (n : ℕ) (t : Seg) (long : ℕ) {u b : Bool} (eu : u ≡ untaken_to s Z st n t.key t.counter)
    (eb : b ≡ both u (leb (2 + long) Z)) where
  tests : b ≡ true → (u ≡ true) × (leb (2 + long) Z ≡ true)
  tests y = both_true u (leb (2 + long) Z) (sym eb ∙ y)

  pub came_fits : b ≡ true → 2 + long ≤ Z
  came_fits y = leb-true (2 + long) Z (tests y).1

  pub came_placed : b ≡ true → segment_arrived s Z st n t ≡ segment_came s Z st n t long
  unfolding segment_came
  came_placed y = rw (sym eu ∙ (tests y).0, (tests y).1) refl

  -- taken comes before 17
  pub came_unplaced : b ≡ false → unplaced_of u ≡ segment_came s Z st n t long
  unfolding segment_came
  came_unplaced y = go u (leb (2 + long) Z) (sym eb ∙ y) ∙ ap (λ (v : Bool). by v (leb (2 + long) Z)) eu
    where
      by : Bool → Bool → Arrived
      by v f = pick v (pick f (segment_arrived s Z st n t) (refused (refusal 17))) late

      go : (v f : Bool) → both v f ≡ false → unplaced_of v ≡ by v f
      go true true e = absurd (let z : ◌≡◌ {A = ℕ} 0 1 = cc in omega arith)
      go true false e = refl
      go false f e = refl

pub unplaced_store : (u : Bool) (Z : ℕ) (st p : List ℕ) → st ≡ store_with Z st p (unplaced_of u)
unfolding store_with
unplaced_store true Z st p = refl
unplaced_store false Z st p = refl

-- ---- a packet that reading refused

pub packet_refused :
    (s : Settings) (Z : ℕ) (st p : List ℕ) (n : ℕ) (r : Refused) → decoded (Err r) ≡ read_packet s p → arrived_in s Z st n p ≡ refused (refusal_told r)
unfolding refused_header
packet_refused s Z st p n r e = packet_bad s Z st p n e (has_number r)
