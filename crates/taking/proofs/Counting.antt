-- The octets of a run, counted as its segments are found one after the other.
-- Assumes nothing.
use Prim.Native.Nat.{ℕ, suc, ◌+◌, ◌*◌, ◌≤◌, ◌<◌}
use mathlib.Core.Path.{◌≡◌, ap, ap₂, sym, ◌∙◌}
use mathlib.Core.List.{List}
use mathlib.Core.Option.{Option}
use native.Mathlib.Omega.{arith}
use lib.ListN.{length}
use Rattle.octets.specs.Octets.{Octets}
use Rattle.octets.proofs.Has.{octets_part}
use Rattle.walk.specs.declared.Settings.{Settings}
use Rattle.packet.specs.Reading.{read_packet}
use Rattle.cells.specs.Segments.{seg_of}
use Rattle.cells.specs.Rows.{row_at, packet_in}
use Rattle.cells.specs.Order.{found_in}
use Rattle.cells.specs.declared.messages.Piece.{Piece}
use Rattle.cells.specs.Messages.{Role, role_of, link_by}
use Rattle.cells.specs.Pieces.{piece_of}
use Rattle.std.specs.Prelude.{Option as CodeOption}
use Rattle.std.specs.Prelude.{Some, None}
use Rattle.taking.specs.Follow.{seg_at, follow, total}
use Rattle.cells.proofs.Found.{found_held, body_long, part_most}
use Rattle.taking.proofs.Following.{role_first, role_last, role_middle, follow_none, follow_by, total_on, total_last}

-- ---- the segment in a cell that was found, as the code reads it

module _ (s : Settings) (Z : ℕ) (st : List ℕ) (n : ℕ) (k : List ℕ) (c : ℕ) {j : ℕ} (ej : j ≡ found_in s Z st n k c) (h : j < n)
    {r : List ℕ} {u : Piece} (er : r ≡ row_at Z st j) (eu : u ≡ piece_of (read_packet s (packet_in r))) where
  read_is : u ≡ piece_of (read_packet s (packet_in (row_at Z st j)))
  read_is = eu ∙ ap (λ (x : List ℕ). piece_of (read_packet s (packet_in x))) er

  pub piece_flags : u.flags ≡ (seg_at s Z st j).flags
  unfolding seg_of piece_of
  piece_flags = ap (λ (x : Piece). x.flags) read_is

  pub piece_long : u.length ≡ length (seg_at s Z st j).body
  unfolding seg_of piece_of
  piece_long =
      ap (λ (x : Piece). x.length) read_is
      ∙ sym (body_long s (packet_in (row_at Z st j)) (found_held s Z st n k c ej h).accepted)

  pub piece_most : Octets st → u.length ≤ 65542
  unfolding seg_of
  piece_most o =
      let m = part_most (row_at Z st j) (read_packet s (packet_in (row_at Z st j))).body.at (read_packet s (packet_in (row_at Z st j))).body.length (octets_part st (j * Z) Z o) in
      omega (arith, piece_long)

-- ---- one turn

module _ (next : ℕ → ℕ) (span : ℕ) (s : Settings) (Z : ℕ) (st : List ℕ) (n : ℕ) (k : List ℕ) (b from : ℕ) where
  -- what the whole run comes to
  abbrev whole : CodeOption ℕ
  whole = total s Z st b (follow next span s Z st n k span (next from))

  -- what is left after the counter c, and sum octets, come to what the whole run does; so many steps are left
  pub record Counted (c left sum : ℕ) : Type 0 where
    pub same : total s Z st sum (follow next span s Z st n k left (next c)) ≡ whole
    pub most : sum + left * 65542 ≤ b + 281500746448890

  pub counted_first : {left : ℕ} → left ≡ span → left ≤ 4294967295 → Counted from left b
  counted_first e h =
      record { same = ap (λ (f : ℕ). total s Z st b (follow next span s Z st n k f (next from))) e; most = omega arith }

  module _ {c left sum : ℕ} (inv : Counted c left sum) where
    module _ {rest : ℕ} (more : left ≡ suc rest) {d : ℕ} (ed : d ≡ next c) {j : ℕ} (ej : j ≡ found_in s Z st n k d) where
      whole_is : {o : Option (List ℕ)} → follow next span s Z st n k (suc rest) d ≡ o → total s Z st sum o ≡ whole
      whole_is e =
          ap (total s Z st sum) (sym e ∙ ap₂ (λ (f x : ℕ). follow next span s Z st n k f x) (sym more) ed) ∙ inv.same

      pub counted_none : n ≤ j → None ≡ whole
      counted_none h = whole_is (follow_none next span s Z st n k rest d ej h)

      module _ (h : j < n) {r : List ℕ} {u : Piece} (er : r ≡ row_at Z st j) (eu : u ≡ piece_of (read_packet s (packet_in r))) where
        role_is : {x : Role} → role_of u.flags ≡ x → role_of (seg_at s Z st j).flags ≡ x
        role_is e = ap role_of (sym (piece_flags s Z st n k d ej h er eu)) ∙ e

        by : {x : Role} → role_of u.flags ≡ x → total s Z st sum (link_by x j (follow next span s Z st n k rest (next d))) ≡ whole
        by e = whole_is (follow_by next span s Z st n k rest d ej h (role_is e))

        pub counted_room : Octets st → b ≤ 65542 → sum + u.length < 18446744073709551616
        counted_room o l = omega (arith, piece_most s Z st n k d ej h er eu o, inv.most, more)

        pub counted_broken : u.flags ≡ 1 → None ≡ whole
        counted_broken e = by (role_first e)

        pub counted_last : u.flags ≡ 2 → Some (sum + u.length) ≡ whole
        counted_last e =
            ap (λ (x : ℕ). Some (sum + x)) (piece_long s Z st n k d ej h er eu)
            ∙ sym (total_last next span s Z st n k sum j (follow next span s Z st n k rest (next d)))
            ∙ by (role_last e)

        pub counted_on : Octets st → (u.flags ≡ 1 → ⊥) → (u.flags ≡ 2 → ⊥) → Counted d rest (sum + u.length)
        counted_on o x y =
            record {
              same =
                  ap (λ (a : ℕ). total s Z st (sum + a) (follow next span s Z st n k rest (next d)))
                  (piece_long s Z st n k d ej h er eu)
                  ∙ sym (total_on next span s Z st n k sum j (follow next span s Z st n k rest (next d)))
                  ∙ by (role_middle x y);
              most = omega (arith, inv.most, piece_most s Z st n k d ej h er eu o, more);
            }

    -- no step is left
    pub counted_out : left ≤ 0 → None ≡ whole
    unfolding follow
    counted_out h =
        let z : 0 ≡ left = omega arith in
        ap (λ (f : ℕ). total s Z st sum (follow next span s Z st n k f (next c))) z ∙ inv.same
