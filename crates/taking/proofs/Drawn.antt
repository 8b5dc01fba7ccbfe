-- A message drawn from a store: what is told, what is written and what is left, as taking is defined.
-- Assumes nothing.
use Prim.Native.Nat.{ℕ, ◌+◌, ◌*◌, ◌≤◌, ◌<◌}
use mathlib.Core.Path.{◌≡◌, ap, ap₂, sym, ◌∙◌}
use mathlib.Core.List.{List, ◌∷◌, ◌++◌, append_assoc}
use native.Mathlib.Omega.{arith}
use lib.ListN.{length, take, drop, length-append}
use lib.Seq.{sets, sets-eq, take-append_seam}
use Rattle.octets.specs.Octets.{Octets, part, number}
use Rattle.octets.proofs.Has.{octets_part}
use Rattle.walk.specs.declared.Settings.{Settings}
use Rattle.packet.specs.Numbers.{next_counter, steps_most}
use Rattle.walk.specs.Walk.{refusal}
use Rattle.cells.specs.Segments.{seg_of}
use Rattle.cells.specs.Rows.{held, row_at, packet_in}
use Rattle.cells.specs.Order.{cell_at, lowest}
use Rattle.taking.specs.declared.Copied.{Copied}
use Rattle.std.specs.Prelude.{Some}
use Rattle.cells.specs.Messages.{cells_of, picked}
use Rattle.taking.specs.Taking.{message, took_in, out_with, left_in, store_less}
use Rattle.taking.specs.Cleared.{cleared_to, left_within}
use Rattle.taking.specs.Told.{taken_of}
use Rattle.taking.specs.Follow.{seg_at, places_from, bodies_at, answer, opens_at, copied_of, Opens}
use Rattle.taking.proofs.Heads.{key_two, key_fits}
use Rattle.taking.proofs.Clears.{cleared_same}
use Rattle.taking.proofs.Among.{message_left}
use Rattle.taking.proofs.Drawing.{Message, the_message, message_held, run_of, writing_is, places_are, body_long, told_is, message_opens, took_message}

-- the places in cell numbers of the message that opens in cell i
abbrev pub cells_from : Settings → ℕ → List ℕ → ℕ → ℕ → List ℕ
cells_from s Z st n i = i ∷ places_from next_counter steps_most s Z st n (seg_at s Z st i).key (next_counter (seg_at s Z st i).counter)

module _ (s : Settings) (Z : ℕ) (st out : List ℕ) (n i b : ℕ) (ei : i ≡ lowest (opens_at next_counter steps_most s Z st n) n 0) (below : i < n)
    (eb : Some b ≡ answer (picked next_counter steps_most (cells_of s Z st n))) (room : length (seg_at s Z st i).key + b ≤ length out) where
  m : Message next_counter steps_most s Z st n i
  m = the_message next_counter steps_most s Z st n ei below

  pub draw_cell : cell_at s Z st i ≡ held (seg_at s Z st i)
  draw_cell = m.cell

  pub draw_opens : Opens next_counter steps_most s Z st n i out
  draw_opens = message_opens next_counter steps_most s Z st n m eb out room

  took_is : took_in s Z st n (length out) ≡ message (run_of next_counter steps_most s Z st n m)
  unfolding took_in
  took_is = took_message next_counter steps_most s Z st n m eb (length out) room

  cells_are : cells_from s Z st n i ≡ i ∷ m.places
  cells_are = ap (λ (js : List ℕ). i ∷ js) (places_are next_counter steps_most s Z st n m)

  -- how many others there are
  abbrev more : ℕ
  more = length (places_from next_counter steps_most s Z st n (seg_at s Z st i).key (next_counter (seg_at s Z st i).counter))

  pub draw_told : {u : Copied} → u ≡ copied_of (seg_at s Z st i) more → record
      { refusal = refusal 0; header = u.header; body = b; counter = u.counter } ≡ taken_of (took_in s Z st n (length out))
  draw_told eu = told_is next_counter steps_most s Z st n m eb more eu ∙ ap taken_of (sym took_is)

  pub draw_out : {x : List ℕ} → x ≡ sets out 0 ((seg_at s Z st i).key ++ bodies_at s Z st (cells_from s Z st n i)) → x ≡ out_with out (took_in s Z st n (length out))
  unfolding out_with
  draw_out ex =
      ex
      ∙ ap (λ (js : List ℕ). sets out 0 ((seg_at s Z st i).key ++ bodies_at s Z st js)) cells_are
      ∙ ap (sets out 0) (sym (writing_is next_counter steps_most s Z st n m))
      ∙ ap (out_with out) (sym took_is)

  -- ---- its key stands at the front of the output

  module _ (o : Octets st) {u : Copied} (eu : u ≡ copied_of (seg_at s Z st i) more) where
    key_two_octets : 2 ≤ length (seg_at s Z st i).key
    unfolding seg_of
    key_two_octets =
        key_two s (packet_in (row_at Z st i)) (octets_part (row_at Z st i) 2 (number 2 (row_at Z st i) 6 + 7) (octets_part st (i * Z) Z o))
        (message_held next_counter steps_most s Z st n ei below).accepted

    header_is : 2 + u.header ≡ length (seg_at s Z st i).key
    unfolding copied_of
    header_is = omega (arith, ap (λ (w : Copied). w.header) eu, key_two_octets)

    pub draw_header : 2 + u.header ≤ length out
    draw_header = omega (arith, header_is, room)

    key_front : {x k : List ℕ} → x ≡ sets out 0 ((seg_at s Z st i).key ++ bodies_at s Z st (cells_from s Z st n i)) → k ≡ part x 0 (2 + u.header) → k ≡ (seg_at s Z st i).key
    key_front {x} ex ek =
        let f : 0 + length ((seg_at s Z st i).key ++ bodies_at s Z st (cells_from s Z st n i)) ≤ length out =
        omega (
          arith,
          ap (λ (js : List ℕ). length ((seg_at s Z st i).key ++ bodies_at s Z st js)) cells_are,
          length-append (seg_at s Z st i).key (bodies_at s Z st (i ∷ m.places)),
          body_long next_counter steps_most s Z st n m eb,
          room,
        ) in
        ek
        ∙ ap₂ (λ (l : ℕ) (y : List ℕ). take l y) header_is (ex ∙ sets-eq ((seg_at s Z st i).key ++ bodies_at s Z st (cells_from s Z st n i)) out 0 f)
        ∙ ap (take (length (seg_at s Z st i).key)) (append_assoc (seg_at s Z st i).key (bodies_at s Z st (cells_from s Z st n i))
        (drop (0 + length ((seg_at s Z st i).key ++ bodies_at s Z st (cells_from s Z st n i))) out))
        ∙ take-append_seam (seg_at s Z st i).key (bodies_at s Z st (cells_from s Z st n i) ++ drop (0 + length ((seg_at s Z st i).key ++ bodies_at s Z st (cells_from s Z st n i))) out)

    -- the record of the message fits a cell: where it stands its first segment did, with six octets of primary header and a counter
    pub draw_fits :
        {x k : List ℕ} → x ≡ sets out 0 ((seg_at s Z st i).key ++ bodies_at s Z st (cells_from s Z st n i)) → k ≡ part x 0 (2 + u.header) → 2 + length k + 8 ≤ Z
    unfolding seg_of
    draw_fits ex ek =
        let w = message_held next_counter steps_most s Z st n ei below in
        let l = key_fits s (packet_in (row_at Z st i)) (octets_part (row_at Z st i) 2 (number 2 (row_at Z st i) 6 + 7) (octets_part st (i * Z) Z o)) w.accepted w.segment in
        omega (arith, ap length (key_front ex ek), l, w.fits)

    pub draw_store :
        {x k y : List ℕ} → x ≡ sets out 0 ((seg_at s Z st i).key ++ bodies_at s Z st (cells_from s Z st n i)) → k ≡ part x 0 (2 + u.header) →
        y ≡ cleared_to (λ j. left_within Z k u.counter.0 u.steps (cell_at s Z st j)) Z n st → y ≡ store_less s Z st n (took_in s Z st n (length out))
    unfolding store_less copied_of
    draw_store {x} {k} ex ek ey =
        let d : u.steps ≡ length m.places = ap (λ (w : Copied). w.steps) eu ∙ ap length (places_are next_counter steps_most s Z st n m) in
        ey
        ∙ ap₂ (λ (l : List ℕ) (c : ℕ). cleared_to (λ j. left_within Z l c u.steps (cell_at s Z st j)) Z n st)
        (key_front ex ek) (ap (λ (w : Copied). w.counter.0) eu)
        ∙ ap (λ (e : ℕ). cleared_to (λ j. left_within Z (seg_at s Z st i).key (seg_at s Z st i).counter e (cell_at s Z st j)) Z n st) d
        ∙ cleared_same
        (λ j. left_within Z (seg_at s Z st i).key (seg_at s Z st i).counter (length m.places) (cell_at s Z st j))
        (λ j. left_in Z (run_of next_counter steps_most s Z st n m) (cell_at s Z st j)) Z n st
        (λ j l. message_left s Z st n steps_most (seg_at s Z st i) m.places m.complete (cell_at s Z st j))
        ∙ ap (store_less s Z st n) (sym took_is)
