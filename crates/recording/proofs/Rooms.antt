-- The room for a message suffices: a store of 32 cells of 1,024 octets holds no message of more than 65,536 octets, so that more room
-- would change nothing, and joining in a recording is never refused by 21 for want of room.
-- Assumes nothing.
use Prim.Native.Nat.{ℕ, zero, suc, ◌+◌, ◌-◌, ◌*◌, ◌≤◌}
use mathlib.Core.Path.{◌≡◌, refl, ap, sym, ◌∙◌}
use mathlib.Core.List.Memᴰ
use mathlib.Core.List.{List, [], ◌∷◌, ◌++◌}
use mathlib.Core.Option.{Option, none, some}
use native.Mathlib.Omega.{arith}
use native.Mathlib.Nat.{suc-mul, mul-le-mul_right}
use lib.ListN.{length, drop, length-append, length-take, length-drop}
use borrow.Author.Tests.{le-leb}
use Rattle.octets.specs.Octets.{part}
use Rattle.walk.specs.declared.Settings.{Settings}
use Rattle.packet.specs.Answer.{Header}
use Rattle.packet.specs.Reading.{read_packet, counter_size}
use Rattle.packet.specs.Key.{key_of, counter_place}
use Rattle.packet.specs.Numbers.{next_counter, steps_most}
use Rattle.cells.specs.Segments.{Seg, seg_of}
use Rattle.cells.specs.Rows.{Cell, held, row_at, packet_in, cell_of, segment_in, by_segment}
use Rattle.cells.proofs.Carries.{held_is}
use Rattle.cells.specs.Order.{cell_at, count_in}
use Rattle.cells.specs.Messages.{listed, cells_of, Run, bodies, body_of, segments, picked}
use Rattle.arrival.specs.Arriving.{Arrived, whole, stored, again, late, refused, arrived, store_with}
use Rattle.taking.specs.Taking.{writing, drawn, took_in, took, store_less}
use Rattle.cells.proofs.Members.{In, opening, picked_held}
use Rattle.arrival.proofs.Keeps.{arrive_long}
use Rattle.join.specs.Joining.{took_as, joined_by, store_by, joining, store_joined}
use Rattle.steps.specs.Stepping.{room}
use Rattle.recording.proofs.Climbing.{sum, sum_most, in_cell, weights, on, rest_climbs, climbs_less}

-- ---- no more segments than cells

abbrev one : Seg → ℕ
one t = 1

ones : (ts : List Seg) → weights one ts ≡ length ts
unfolding weights
ones [] = refl
ones (t ∷ ts) = let a = ones ts in omega arith

cell_one : (x : Cell) → in_cell one x ≤ 1
cell_one x = of (segment_in x)
  where
    of : (o : Option Seg) → by_segment 0 one o ≤ 1
    of none = omega arith
    of (some t) = omega arith

sum_ones : (n i : ℕ) → sum (λ j. 1) n i ≡ n
unfolding sum
sum_ones zero i = refl
sum_ones (suc n) i = let a = sum_ones n (suc i) in omega arith

-- a message has no more segments than there are cells
segments_most_lem : (f : ℕ → Cell) (n : ℕ) (r : Run) → picked next_counter steps_most (listed f n 0) ≡ some r → suc (length r.rest) ≤ n
segments_most_lem f n r e =
    let a = opening next_counter steps_most (listed f n 0) f n 0 r e in
    let w = rest_climbs f n steps_most r.head.key (next_counter r.head.counter) r.rest a.3 in
    let g = climbs_less f n one (on refl a.0 a.1 a.2 w) (omega arith) in
    let m = sum_most (λ j. in_cell one (f j)) (λ j. 1) n 0 (λ j q. cell_one (f j)) in
    omega (arith, ones (segments r), sum_ones n 0)

-- ---- no segment longer than its cell

bodies_most : (ts : List Seg) (b : ℕ) → ((t : Seg) → In t ts → length t.body ≤ b) → length (bodies ts) ≤ length ts * b
unfolding bodies
bodies_most [] b h = omega arith
bodies_most (t ∷ ts) b h =
    let a = bodies_most ts b (λ u m. h u (Memᴰ.tail m)) in
    omega (arith, length-append t.body (bodies ts), h t (Memᴰ.head refl), suc-mul (length ts) b)

part_short : (p : List ℕ) (a n : ℕ) → length (part p a n) ≤ length p
part_short p a n = omega (arith, length-take n (drop a p), length-drop a p)

key_short : (p : List ℕ) (h : Header) → length (key_of p h) ≤ 2 + (length p + length p)
unfolding key_of
key_short p h =
    let x = part p 6 (counter_place h - 6) in
    let y = part p (counter_place h + counter_size p) (h.body.at - (counter_place h + counter_size p)) in
    omega (
      arith,
      length-append (part p 0 2) (x ++ y),
      length-append x y,
      length-take 2 p,
      part_short p 6 (counter_place h - 6),
      part_short p (counter_place h + counter_size p) (h.body.at - (counter_place h + counter_size p)),
    )

pub record Small (Z : ℕ) (t : Seg) : Type 0 where
  pub key : length t.key ≤ 2 + (Z - 2 + (Z - 2))
  pub body : length t.body ≤ Z - 2

pub held_small : (s : Settings) (Z : ℕ) (r : List ℕ) (t : Seg) → cell_of s Z r ≡ held t → Small Z t
unfolding seg_of
held_small s Z r t e =
    let h = held_is s Z r t e in
    let p : List ℕ = packet_in r in
    let d : held (seg_of p (read_packet s p)) ≡ held t = sym h.cell ∙ e in
    let same : seg_of p (read_packet s p) ≡ t = cc d in
    record {
      key = omega (arith, key_short p (read_packet s p), h.fits, ap (λ (u : Seg). length u.key) same);
      body =
          omega (
            arith,
            part_short p (read_packet s p).body.at (read_packet s p).body.length,
            h.fits,
            ap (λ (u : Seg). length u.body) same,
          );
    }

-- ---- so the room is enough

module _ (s : Settings) (Z : ℕ) (zs : Z ≤ 1024) where
  module _ (x : List ℕ) (few : count_in Z x ≤ 32) where
    small : (r : Run) → picked next_counter steps_most (cells_of s Z x (count_in Z x)) ≡ some r → (t : Seg) → In t (segments r) → Small Z t
    small r e t m = let a = picked_held next_counter steps_most (cell_at s Z x) (count_in Z x) r e t m in held_small s Z (row_at Z x a.0) t a.2

    -- a complete message fits
    pub message_fits : (r : Run) → picked next_counter steps_most (cells_of s Z x (count_in Z x)) ≡ some r → length (writing r) ≤ room
    message_fits r e =
        let n = count_in Z x in
        let b = bodies_most (segments r) (Z - 2) (λ t m. (small r e t m).body) in
        let l = segments_most_lem (cell_at s Z x) n r e in
        let k : length (segments r) ≤ 32 = omega arith in
        let c = mul-le-mul_right (Z - 2) k in
        omega (arith, length-append r.head.key (body_of r), (small r e r.head (Memᴰ.head refl)).key)

    drawn_room : (long : ℕ) → room ≤ long → (o : Option Run) → picked next_counter steps_most (cells_of s Z x (count_in Z x)) ≡ o → drawn o long ≡ drawn o room
    drawn_room long h none e = refl
    drawn_room long h (some r) e =
        let f = message_fits r e in
        rw (le-leb (length (writing r)) long (omega arith), le-leb (length (writing r)) room f) refl

    -- more room changes nothing for a taking
    pub took_room : (long : ℕ) → room ≤ long → took s Z x long ≡ took s Z x room
    unfolding took took_in
    took_room long h =
        rw (drawn_room long h (picked next_counter steps_most (cells_of s Z x (count_in Z x))) refl) refl

  module _ (st p : List ℕ) (few : count_in Z st ≤ 32) (long : ℕ) (h : room ≤ long) where
    behind_few : (b : Arrived) → count_in Z (store_with Z st p b) ≤ 32
    behind_few b = rw (arrive_long Z st p b) few

    by_room : (b : Arrived) → joined_by s Z st p long b ≡ joined_by s Z st p room b
    by_room whole = refl
    by_room (stored i) = ap took_as (took_room (store_with Z st p (stored i)) (behind_few (stored i)) long h)
    by_room again = ap took_as (took_room (store_with Z st p again) (behind_few again) long h)
    by_room late = ap took_as (took_room (store_with Z st p late) (behind_few late) long h)
    by_room (refused k) = refl

    -- nor for a joining
    pub joining_room : joining s Z st p long ≡ joining s Z st p room
    unfolding joining
    joining_room = by_room (arrived s Z st p)

    store_by_lem : (b : Arrived) → store_by s Z st p long b ≡ store_by s Z st p room b
    store_by_lem whole = refl
    store_by_lem (stored i) =
        let x = store_with Z st p (stored i) in ap (store_less s Z x (count_in Z x)) (took_room x (behind_few (stored i)) long h)
    store_by_lem again = let x = store_with Z st p again in ap (store_less s Z x (count_in Z x)) (took_room x (behind_few again) long h)
    store_by_lem late = let x = store_with Z st p late in ap (store_less s Z x (count_in Z x)) (took_room x (behind_few late) long h)
    store_by_lem (refused k) = refl

    pub store_room : store_joined s Z st p long ≡ store_joined s Z st p room
    unfolding store_joined
    store_room = store_by_lem (arrived s Z st p)
