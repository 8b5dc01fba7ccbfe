-- The cell that a search finds holds a segment with the key and counter looked for; and how long a held segment's body is.
-- Assumes nothing.
use Prim.Native.Nat.{ℕ, ◌+◌, ◌-◌, ◌≤◌, ◌<◌, min}
use mathlib.Core.Path.{◌≡◌, ap, ◌∙◌}
use mathlib.Core.Bool.{true}
use mathlib.Core.List.{List}
use native.Mathlib.Omega.{arith}
use lib.ListN.{length, drop, length-take, length-drop}
use Rattle.octets.specs.Octets.{Octets, part, number}
use Rattle.octets.proofs.Numbers.{number_top}
use Rattle.walk.specs.declared.Settings.{Settings}
use Rattle.packet.specs.Answer.{Header}
use Rattle.packet.specs.Reading.{read_packet, accepted_header, ended}
use Rattle.packet.specs.Format.{packet_most}
use Rattle.format.proofs.Start.{answer}
use Rattle.cells.specs.Rows.{row_at, packet_in}
use Rattle.cells.specs.Order.{carries_in, cell_at, found_in}
use Rattle.cells.proofs.Carries.{Holding, carrying}
use Rattle.cells.proofs.Looks.{lowest_holds}

module _ (s : Settings) (Z : ℕ) (st : List ℕ) (n : ℕ) (k : List ℕ) (c : ℕ) {j : ℕ} (e : j ≡ found_in s Z st n k c) (h : j < n) where
  pub found_carries : carries_in k c (cell_at s Z st j) ≡ true
  unfolding found_in
  found_carries =
      let m : found_in s Z st n k c < 0 + n = omega arith in
      ap (λ (i : ℕ). carries_in k c (cell_at s Z st i)) e ∙ lowest_holds (λ i. carries_in k c (cell_at s Z st i)) n 0 m

  pub found_held : Holding s Z (row_at Z st j)
  found_held = carrying s Z (row_at Z st j) k c found_carries

-- ---- a held segment's body

-- the body's length that reading answers is its octets'
pub body_long : (s : Settings) (p : List ℕ) → (read_packet s p).refusal.number ≡ 0 → length (part p (read_packet s p).body.at (read_packet s p).body.length) ≡ (read_packet s p).body.length
unfolding accepted_header
body_long s p z =
    let a : (read_packet s p).body.at ≡ (ended s p).at = ap (λ (x : Header). x.body.at) (answer s p z) in
    let l : (read_packet s p).body.length ≡ length p - (ended s p).at = ap (λ (x : Header). x.body.length) (answer s p z) in
    rw (a, l) (length-take (length p - (ended s p).at) (drop (ended s p).at p) ∙ all_of_it)
  where
    all_of_it : min (length p - (ended s p).at) (length (drop (ended s p).at p)) ≡ length p - (ended s p).at
    all_of_it = omega (arith, length-drop (ended s p).at p)

-- a packet in a row has at most 65,542 octets, and so has any part of it
pub part_most : (r : List ℕ) (a b : ℕ) → Octets r → length (part (packet_in r) a b) ≤ packet_most
part_most r a b o =
    let t : number 2 r 6 < 65536 = number_top 2 r 6 o in
    omega (arith, length-take b (drop a (packet_in r)), length-drop a (packet_in r), length-take (number 2 r 6 + 7) (drop 2 r))
