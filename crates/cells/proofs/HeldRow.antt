-- A held row reads back (S-1): the packet in it is the one that was put there, and its cell is held with that packet's segment. A row
-- of zeros is free.
-- Assumes nothing.
use Prim.Native.Nat.{ℕ, zero, suc, ◌+◌, ◌-◌, ◌*◌, ◌≤◌}
use mathlib.Core.Path.{◌≡◌, refl, ap, ap₂, sym, ◌∙◌}
use mathlib.Core.Bool.{true, false}
use mathlib.Core.List.{List, ◌∷◌, ◌++◌}
use native.Mathlib.Omega.{arith}
use lib.ListN.{length, take, replicate, length-append, length-replicate, get_or-append}
use lib.Seq.{take_at}
use borrow.Author.Tests.{le-leb}
use Rattle.octets.specs.Octets.{octet_at, number, alike}
use Rattle.octets.proofs.Lists.{alike_self}
use Rattle.walk.specs.declared.Settings.{Settings}
use Rattle.packet.specs.Reading.{read_packet, segmented}
use Rattle.cells.specs.Segments.{seg_of}
use Rattle.cells.specs.Rows.{free, held, zero_row, held_row, size_in, packet_in, may_hold, holds, cell_of}
use Rattle.cells.proofs.Carries.{free_cell}
use Rattle.cells.proofs.Opens.{opens}

-- a row of zeros is free
pub zero_free : (s : Settings) (Z : ℕ) → cell_of s Z (zero_row Z) ≡ free
zero_free s Z = free_cell s Z (zero_row Z) (alike_self (zero_row Z))

-- a row with a mark is not one of zeros
marked : (Z : ℕ) (r : List ℕ) → 1 ≤ Z → alike (0x4d ∷ r) (zero_row Z) ≡ false
unfolding alike
marked zero r h = absurd (omega arith)
marked (suc Z) r h = refl

-- a held row is as long as a cell
pub held_long : (Z : ℕ) (p : List ℕ) → 2 + length p ≤ Z → length (held_row Z p) ≡ Z
held_long Z p h = omega (arith, length-append p (replicate (Z - (2 + length p)) 0), length-replicate {A = ℕ} (Z - (2 + length p)) 0)

-- a row that is just the held row of the packet in it, and that may be held
row_held :
    (s : Settings) (Z : ℕ) (r p : List ℕ) → packet_in r ≡ p → alike r (zero_row Z) ≡ false → alike r (held_row Z p) ≡ true → may_hold s Z p ≡ true →
    cell_of s Z r ≡ held (seg_of p (read_packet s p))
unfolding cell_of holds
row_held s Z r p e a b c = rw (a, e, b, c) refl

module _ (s : Settings) (Z : ℕ) (p : List ℕ) (z : (read_packet s p).refusal.number ≡ 0) where
  size_held : size_in (held_row Z p) ≡ length p
  unfolding number
  size_held =
      let o = opens s p z in
      let t : List ℕ = replicate (Z - (2 + length p)) 0 in
      let a : octet_at (p ++ t) 4 ≡ octet_at p 4 = get_or-append p t 0 4 (omega (arith, o.six)) in
      let b : octet_at (p ++ t) 5 ≡ octet_at p 5 = get_or-append p t 0 5 (omega (arith, o.six)) in
      ap₂ (λ (x y : ℕ). (0 * 256 + x) * 256 + y + 7) a b ∙ sym o.long

  -- the packet in the held row of an accepted packet
  pub packet_held : packet_in (held_row Z p) ≡ p
  packet_held =
      ap (λ (n : ℕ). take n (p ++ replicate (Z - (2 + length p)) 0)) size_held
      ∙ take_at p (replicate (Z - (2 + length p)) 0) (length p) refl

  -- and its cell
  pub cell_held : segmented p ≡ true → 2 + length p ≤ Z → cell_of s Z (held_row Z p) ≡ held (seg_of p (read_packet s p))
  unfolding may_hold
  cell_held g h =
      row_held s Z (held_row Z p) p packet_held (marked Z _ (omega arith)) (alike_self (held_row Z p))
      (rw (le-leb (2 + length p) Z h, z, g) refl)
