-- The message that opens in a cell, as the code finds it.
-- Assumes nothing.
use Prim.Native.Nat.{ℕ, ◌+◌, ◌-◌, ◌*◌, ◌/◌, ◌≤◌}
use mathlib.Core.Path.{◌≡◌, refl, ap, ap₂, sym, ◌∙◌}
use mathlib.Core.Logic.{⊎_elim}
use mathlib.Core.Bool.{Bool, true, false}
use mathlib.Core.List.{List, ◌∷◌, map}
use mathlib.Core.Option
use mathlib.Core.Option.{Option, none, some}
use native.Mathlib.Omega.{arith}
use lib.ListN.{length, length-append}
use lib.Dec.{eqb}
use borrow.Author.Tests.{eqb-true}
use Rattle.octets.specs.Octets.{pick, Octets, octet_at, number}
use Rattle.octets.proofs.Has.{octets_part}
use Rattle.walk.specs.declared.Settings.{Settings}
use Rattle.packet.specs.Reading.{read_packet}
use Rattle.packet.specs.Key.{key_of}
use Rattle.format.proofs.Accepting.{accepted}
use Rattle.cells.specs.Segments.{Seg, seg_of}
use Rattle.cells.specs.Rows.{Cell, row_at, packet_in, cell_of, by_segment}
use Rattle.cells.specs.Order.{cell_at}
use Rattle.cells.specs.declared.Judged.{Judged}
use Rattle.cells.specs.Inner.{body_in, judged_of, told_held, Asked, told_body, told_counter}
use Rattle.cells.proofs.Carries.{Holding, not_held, kinds, judged_one, judged_at}
use Rattle.cells.specs.Messages.{Role, first, middle, last, role_of, bodies, cells_of, rest_from, opens_by, run_from, run_in}
use Rattle.std.specs.Prelude.{Option as CodeOption}
use Rattle.std.specs.Prelude.{Some, None}
use Rattle.taking.specs.Follow.{seg_at, follow, bodies_at, total, answer}
use Rattle.cells.proofs.Found.{body_long, part_most}
use Rattle.taking.proofs.Ends.{flags_told}
use Rattle.taking.proofs.Following.{role_first, rest_places, bodies_places}

-- a segment that is no first opens nothing
opens_none : (x : Role) (t : Seg) (r : Option (List Seg)) → (x ≡ first → ⊥) → opens_by x t r ≡ none
opens_none first t r h = absurd (h refl)
opens_none middle t r h = refl
opens_none last t r h = refl

role_of_first : (f : ℕ) → role_of f ≡ first → f ≡ 1
unfolding role_of
role_of_first f e = go (eqb f 1) (eqb f 2) (λ x. eqb-true f 1 x) e
  where
    go : (a b : Bool) → (a ≡ true → f ≡ 1) → pick a first (pick b last middle) ≡ first → f ≡ 1
    go true b h d = h refl
    go false true h d = let z : ◌≡◌ {A = ℕ} 0 1 = cc in absurd (omega arith)
    go false false h d = let z : ◌≡◌ {A = ℕ} 0 1 = cc in absurd (omega arith)

module _ (next : ℕ → ℕ) (span : ℕ) (s : Settings) (Z : ℕ) (st : List ℕ) (n i : ℕ) {r : List ℕ} (er : r ≡ row_at Z st i) where
  abbrev cs : List Cell
  cs = cells_of s Z st n

  abbrev t : Seg
  t = seg_at s Z st i

  abbrev p : List ℕ
  p = packet_in (row_at Z st i)

  runs : Holding s Z (row_at Z st i) → run_in next span cs (cell_at s Z st i) ≡ opens_by (role_of t.flags) t (rest_from next span span cs t.key (next t.counter))
  unfolding run_from
  runs h = ap (run_in next span cs) h.cell

  -- a cell opens nothing unless it holds a segment
  unless_held : (Holding s Z (row_at Z st i) → None ≡ answer (run_in next span cs (cell_at s Z st i))) → None ≡ answer (run_in next span cs (cell_at s Z st i))
  unless_held f =
      ⊎_elim f (λ e. sym (ap (λ (o : Option Seg). answer (by_segment none (run_from next span cs) o)) e)) (kinds s Z (row_at Z st i))

  module _ {f : ℕ} (ef : f ≡ octet_at r 4 / 64) where
    flags_row : f ≡ octet_at (row_at Z st i) 4 / 64
    flags_row = ef ∙ ap (λ (y : List ℕ). octet_at y 4 / 64) er

    -- one whose flags are not those of a first opens nothing
    pub run_none : (f ≡ 1 → ⊥) → None ≡ answer (run_in next span cs (cell_at s Z st i))
    run_none ne =
        unless_held
        (λ h.
        sym
        (ap answer
        (runs h
        ∙ opens_none (role_of t.flags) t (rest_from next span span cs t.key (next t.counter))
        (λ y. ne (flags_row ∙ sym (flags_told s Z st i h) ∙ role_of_first t.flags y)))))

  -- nor does one that is not judged held
  module _ {u : Judged} (eu : u ≡ judged_of (body_in s r) (cell_of s Z r)) where
    judged_there : u ≡ judged_of (body_in s (row_at Z st i)) (cell_of s Z (row_at Z st i))
    judged_there = eu ∙ ap (λ (y : List ℕ). judged_of (body_in s y) (cell_of s Z y)) er

    pub run_other : told_held u ≡ false → None ≡ answer (run_in next span cs (cell_at s Z st i))
    run_other ne = unless_held (λ h. absurd (not_held (judged_at s Z (row_at Z st i) judged_there h).0 ne))

    module _ {q : List ℕ} (eq : q ≡ packet_in r) (o : Octets st) (one : told_held u ≡ true) where
      there : Holding s Z (row_at Z st i)
      there = judged_one s Z (row_at Z st i) judged_there one

      packet_is : q ≡ p
      packet_is = eq ∙ ap packet_in er

      plain : Octets p
      plain = octets_part (row_at Z st i) 2 (number 2 (row_at Z st i) 6 + 7) (octets_part st (i * Z) Z o)

      at_is : (told_body u) ≡ (read_packet s p).body.at
      at_is = (judged_at s Z (row_at Z st i) judged_there there).1.0

      counter_is : (told_counter u) ≡ t.counter
      unfolding seg_of
      counter_is = (judged_at s Z (row_at Z st i) judged_there there).1.1

      key_is : key_of q (read_packet s q) ≡ t.key
      unfolding seg_of
      key_is = ap (λ (y : List ℕ). key_of y (read_packet s y)) packet_is

      ends : (told_body u) + (read_packet s p).body.length ≡ length q
      ends =
          ap (λ (x : ℕ). x + (read_packet s p).body.length) at_is
          ∙ (accepted s p plain there.accepted).body_end
          ∙ ap length (sym packet_is)

      pub run_inside : (told_body u) ≤ length q
      run_inside = omega (arith, ends)

      long_is : length q - (told_body u) ≡ length t.body
      unfolding seg_of
      long_is =
          let e : length q - (told_body u) ≡ (read_packet s p).body.length = omega (arith, ends) in
          e ∙ sym (body_long s p there.accepted)

      pub run_asked : Asked s q (told_body u)
      run_asked =
          record {
            octets = rw packet_is plain;
            accepted = rw packet_is there.accepted;
            segment = rw packet_is there.segment;
            body = at_is ∙ ap (λ (y : List ℕ). (read_packet s y).body.at) (sym packet_is);
          }

      pub run_most : length q - (told_body u) ≤ 65542
      unfolding seg_of
      run_most =
          let m = part_most (row_at Z st i) (read_packet s p).body.at (read_packet s p).body.length (octets_part st (i * Z) Z o) in
          omega (arith, long_is)

      opened : (js : List ℕ) → Some (length t.body + length (bodies_at s Z st js)) ≡ Some (length (bodies (t ∷ map (seg_at s Z st) js)))
      unfolding bodies
      opened js =
          ap (λ (x : ℕ). Some x)
          (sym
          (length-append t.body (bodies (map (seg_at s Z st) js))
          ∙ ap (λ (y : List ℕ). length t.body + length y) (bodies_places next span s Z st n t.key js)))

      pub run_first :
          {f : ℕ} {b : CodeOption ℕ} → f ≡ octet_at r 4 / 64 → f ≡ 1 →
          b ≡ total s Z st (length q - (told_body u)) (follow next span s Z st n (key_of q (read_packet s q)) span (next (told_counter u))) →
          b ≡ answer (run_in next span cs (cell_at s Z st i))
      run_first ef is_first eb =
          eb
          ∙ ap₂ (λ (l : ℕ) (k : List ℕ). total s Z st l (follow next span s Z st n k span (next (told_counter u)))) long_is key_is
          ∙ ap (λ (c : ℕ). total s Z st (length t.body) (follow next span s Z st n t.key span (next c))) counter_is
          ∙ told (follow next span s Z st n t.key span (next t.counter))
          ∙ ap (λ (o : Option (List Seg)). answer (opens_by first t o)) (sym (rest_places next span s Z st n t.key span (next t.counter)))
          ∙ ap (λ (y : Role). answer (opens_by y t (rest_from next span span cs t.key (next t.counter))))
          (sym (role_first (flags_told s Z st i there ∙ sym (flags_row ef) ∙ is_first)))
          ∙ sym (ap answer (runs there))
        where
          told : (o : Option (List ℕ)) → total s Z st (length t.body) o ≡ answer (opens_by first t (Option.map (map (seg_at s Z st)) o))
          told none = refl
          told (some js) = opened js
