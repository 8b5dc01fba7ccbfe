-- Whether a cell is a record that covers a key and a counter, as the code tests it.
-- Assumes nothing.
use Prim.Native.Nat.{ℕ, ◌+◌, ◌-◌, ◌≤◌, ◌<◌}
use mathlib.Core.Path.{◌≡◌, ap, ap₂, sym, ◌∙◌}
use mathlib.Core.Logic.{⊎_elim}
use mathlib.Core.Bool.{Bool, true, false}
use mathlib.Core.List.{List}
use native.Mathlib.Omega.{arith}
use lib.ListN.{length, length-append}
use Rattle.octets.specs.Octets.{pick, Octets, octet_at, part, number, alike}
use Rattle.octets.proofs.Lists.{bool, pick_false, alike_true, alike_self}
use Rattle.walk.specs.declared.Settings.{Settings}
use Rattle.packet.specs.Format.{identification, header_octets}
use Rattle.packet.specs.Reading.{read_packet, counter_size}
use Rattle.packet.specs.Key.{key_of}
use Rattle.packet.specs.Numbers.{next_counter}
use Rattle.format.specs.Told.{values_of}
use Rattle.format.proofs.Frame.{identification_long}
use Rattle.format.proofs.Accepting.{accepted}
use Rattle.cells.specs.declared.Judged.{Judged}
use Rattle.cells.specs.Segments.{both, reaches}
use Rattle.cells.specs.Rows.{Cell, by_range, cell_of, first_in, key_long, key_taken, first_taken, last_taken, steps_between, range_of}
use Rattle.cells.specs.Order.{covers, covers_in}
use Rattle.cells.specs.Inner.{body_in, judged_of, told_taken, Asked, told_header}
use Rattle.cells.specs.Chains.{key_in}
use Rattle.cells.proofs.CellSegments.{untaken_none}
use Rattle.cells.proofs.Held.{same_test}
use Rattle.cells.proofs.Carries.{not_held}
use Rattle.cells.proofs.Mixing.{key_asked}
use Rattle.cells.proofs.Transactions.{part_octet, numbers_same, key_transaction}
use Rattle.cells.proofs.Firsts.{first_octets, header_top}
use Rattle.cells.proofs.Records.{Recording, key_whole, record_mark, record_is, record_or}

alike_other : (a b : List ℕ) → alike a b ≡ alike b a
alike_other a b =
    same_test (alike a b) (alike b a)
    (λ e. rw (alike_true a b e) (alike_self b))
    (λ e. rw (alike_true b a e) (alike_self a))

module _ (s : Settings) (Z : ℕ) (r : List ℕ) (o : Octets r) where
  -- the transaction id of a record is that of its key
  record_transaction : Recording s Z r → number 8 (key_taken s r) 14 ≡ number 8 r 16
  unfolding key_long
  record_transaction w = numbers_same 8 (key_taken s r) r 14 16 octet
    where
      octet : (j : ℕ) → j < 8 → octet_at (key_taken s r) (14 + j) ≡ octet_at r (16 + j)
      octet j h =
          let e : 2 + (14 + j) ≡ 16 + j = omega arith in
          part_octet r 2 (key_long s r) (14 + j) (omega (arith, (accepted s (first_in r) (first_octets r o) w.accepted).h_low)) ∙ ap (octet_at r) e

  -- a row that is judged a record is one, and its header is told
  module _ {t : Judged} (et : t ≡ judged_of (body_in s r) (cell_of s Z r)) where
    pub judged_taken : told_taken t ≡ true → Recording s Z r
    judged_taken h =
        ⊎_elim (λ w. w) (λ n. absurd (not_held (ap told_taken (sym et) ∙ h) (untaken_none (body_in s r) (cell_of s Z r) n))) (record_or s Z r)

    pub judged_header : Recording s Z r → (told_taken t ≡ true) × (2 + told_header t ≡ key_long s r)
    unfolding range_of key_long
    judged_header w =
        let f = et ∙ ap (judged_of (body_in s r)) (record_is s Z r w) in
        (ap told_taken f, omega (arith, ap (λ (x : Judged). told_header x) f, key_whole s Z r w))

    pub header_small : told_taken t ≡ true → told_header t ≤ 256
    unfolding key_long
    header_small h =
        let w = judged_taken h in
        omega (arith, (judged_header w).1, header_top s r o w.accepted)

module _ (s : Settings) (r z q : List ℕ) (body_at c : ℕ) (o : Octets r) (a : Asked s q body_at) where
  abbrev k : List ℕ
  k = key_of q (read_packet s q)

  abbrev here : Cell
  here = cell_of s (length z) r

  told :
      Recording s (length z) r →
      covers_in k c here ≡ both (reaches next_counter (steps_between (first_taken s r) (last_taken s r)) (first_taken s r) c) (alike k (key_taken s r))
  unfolding covers range_of
  told w = ap (covers_in k c) (record_is s (length z) r w)

  -- one that is none covers nothing
  unless_taken : (Recording s (length z) r → false ≡ covers_in k c here) → false ≡ covers_in k c here
  unless_taken h = ⊎_elim h (λ n. sym (ap (by_range false (covers k c)) n)) (record_or s (length z) r)

  pub covers_mark : {m : ℕ} → m ≡ octet_at r 1 → (m ≡ 0x54 → ⊥) → false ≡ covers_in k c here
  covers_mark e h = unless_taken (λ w. absurd (h (e ∙ record_mark s (length z) r w)))

  pub covers_apart : {m n : ℕ} → m ≡ number 8 r 16 → n ≡ number 8 q 18 → (m ≡ n → ⊥) → false ≡ covers_in k c here
  covers_apart em en h = unless_taken other
    where
      same : Recording s (length z) r → alike k (key_taken s r) ≡ true → ⊥
      same w e =
          h
          (em
          ∙ sym (record_transaction s (length z) r o w)
          ∙ ap (λ (x : List ℕ). number 8 x 14) (sym (alike_true k (key_taken s r) e) ∙ sym (key_asked s q body_at a))
          ∙ key_transaction q body_at
          ∙ sym en)

      other : Recording s (length z) r → false ≡ covers_in k c here
      other w =
          let reached = reaches next_counter (steps_between (first_taken s r) (last_taken s r)) (first_taken s r) c in
          sym
          (told w
          ∙ ap (both reached) (⊎_elim (λ e. absurd (same w e)) (λ e. e) (bool (alike k (key_taken s r))))
          ∙ pick_false reached)

  -- ---- with the same key, the counters stand where they are looked for

  key_length : length k ≡ body_at - 8
  key_length =
      let x = accepted s q a.octets a.accepted in
      let y : counter_size q ≡ 4 = ap (λ (b : Bool). pick b 4 0) a.segment in
      let i = identification (values_of q (read_packet s q)).head in
      let n = length-append i (header_octets s (values_of q (read_packet s q)).head) in
      omega (arith, ap length x.key, n, identification_long (values_of q (read_packet s q)).head, x.h_is, x.body_place, y, a.body)

  pub place_small : {m : ℕ} → m ≡ body_at - 6 → m ≤ 260
  place_small e = omega (arith, e, a.body, (accepted s q a.octets a.accepted).body_top)

  abbrev reached : Bool
  reached = reaches next_counter (steps_between (first_taken s r) (last_taken s r)) (first_taken s r) c

  -- by the key alone, if it decides
  by_key : Recording s (length z) r → (alike k (key_taken s r) ≡ true → reached ≡ true) → alike k (key_taken s r) ≡ covers_in k c here
  by_key w f =
      ⊎_elim
      (λ e. e ∙ sym (told w ∙ ap₂ both (f e) e))
      (λ e. e ∙ sym (told w ∙ ap (both reached) e ∙ pick_false reached))
      (bool (alike k (key_taken s r)))

  module _ {m first steps : ℕ} {u : Bool} (em : m ≡ body_at - 6) (ef : first ≡ number 4 r m)
      (es : steps ≡ steps_between (number 4 r m) (number 4 r (m + 4))) (eu : u ≡ reaches next_counter steps first c) where
    reached_is : Recording s (length z) r → alike k (key_taken s r) ≡ true → u ≡ reached
    reached_is w e =
        let x = accepted s q a.octets a.accepted in
        let l : length k ≡ key_long s r = ap length (alike_true k (key_taken s r) e) ∙ key_whole s (length z) r w in
        let n : m ≡ 2 + key_long s r = omega (arith, em, l, key_length, a.body, x.body_low) in
        eu
        ∙ ap₂ (λ (j d : ℕ). reaches next_counter j d c)
        (es ∙ ap (λ (j : ℕ). steps_between (number 4 r j) (number 4 r (j + 4))) n)
        (ef ∙ ap (number 4 r) n)

    pub covers_out : u ≡ false → false ≡ covers_in k c here
    covers_out f = unless_taken out
      where
        out : Recording s (length z) r → false ≡ covers_in k c here
        out w =
            ⊎_elim
            (λ e. sym (told w ∙ ap (λ (b : Bool). both b (alike k (key_taken s r))) (sym (reached_is w e) ∙ f)))
            (λ e. sym (told w ∙ ap (both reached) e ∙ pick_false reached))
            (bool (alike k (key_taken s r)))

    module _ {t : Judged} (et : t ≡ judged_of (body_in s r) here) where
      pub covers_none : told_taken t ≡ false → false ≡ covers_in k c here
      covers_none h = unless_taken (λ w. absurd (not_held (judged_header s (length z) r o et w).0 h))

      pub covers_same :
          {x : List ℕ} {b : Bool} → told_taken t ≡ true → u ≡ true → x ≡ part r 2 (2 + told_header t) → b ≡ alike x (key_in q body_at) →
          b ≡ covers_in k c here
      covers_same {x} {b} one eu ex eb =
          let w = judged_taken s (length z) r o et one in
          let l = (judged_header s (length z) r o et w).1 in
          let e : b ≡ alike k (key_taken s r) = eb ∙ ap₂ alike (ex ∙ ap (part r 2) l) (key_asked s q body_at a) ∙ alike_other (key_taken s r) k in
          e ∙ by_key w (λ f. sym (reached_is w f) ∙ eu)
