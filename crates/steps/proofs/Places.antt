-- What stands at a place, by the tests of the code.
-- Assumes nothing.
use Prim.Native.Nat.{ℕ, ◌+◌, ◌-◌, ◌≤◌, ◌<◌}
use mathlib.Core.Path.{◌≡◌, refl, ap, ap₂, sym, ◌∙◌}
use mathlib.Core.Logic.{⊎_elim}
use mathlib.Core.Bool.{Bool, true, false}
use mathlib.Core.List.{List}
use native.Mathlib.Omega.{arith}
use lib.ListN.{length, take, drop, length-take}
use lib.Seq.{take_all}
use borrow.Author.Tests.{eq-eqb, ne_eqb, le-leb, lt-leb}
use Rattle.octets.specs.Octets.{part, Octets, alike, room_of}
use Rattle.octets.proofs.Lists.{below_or}
use Rattle.octets.proofs.Numbers.{number_top}
use Rattle.cells.specs.Rows.{size_in, packet_in}
use Rattle.packet.specs.Mark.{packet_mark}
use Rattle.steps.specs.Stepping.{begins, found_in, nothing, other, cut, whole}
use Rattle.packet.specs.Format.{packet_most}

-- the mark, as far as there are octets
pub begins_as :
    (x : List ℕ) {y : List ℕ} {n : ℕ} {r : Bool} → y ≡ part x 0 2 → n ≡ 0 + room_of 2 0 (length x) →
    r ≡ alike y (take (n - 0) (drop 0 packet_mark)) → r ≡ begins x
begins_as x {y} {n} ey en er = er ∙ ap₂ alike ey (⊎_elim short long (below_or (length x) 2))
  where
    short : length x < 2 → take (n - 0) packet_mark ≡ take (length x) packet_mark
    short h = let e : n - 0 ≡ length x = omega arith in ap (λ (k : ℕ). take k packet_mark) e

    long : 2 ≤ length x → take (n - 0) packet_mark ≡ take (length x) packet_mark
    long h = take_all (n - 0) packet_mark (omega arith) ∙ sym (take_all (length x) packet_mark h)

module _ (x : List ℕ) where
  pub found_nothing : length x ≡ 0 → found_in x ≡ nothing
  unfolding found_in
  found_nothing h = rw (eq-eqb (length x) 0 h) refl

  module _ (some : length x ≡ 0 → ⊥) where
    pub found_other : begins x ≡ false → found_in x ≡ other
    unfolding found_in
    found_other b = rw (ne_eqb (length x) 0 some, b) refl

    module _ (b : begins x ≡ true) where
      pub found_cut : length x < 2 + size_in x → found_in x ≡ cut
      unfolding found_in
      found_cut h = rw (ne_eqb (length x) 0 some, b, lt-leb (2 + size_in x) (length x) h) refl

      pub found_whole : 2 + size_in x ≤ length x → found_in x ≡ whole (packet_in x)
      unfolding found_in
      found_whole h = rw (ne_eqb (length x) 0 some, b, le-leb (2 + size_in x) (length x) h) refl

-- the longest packet that a length field tells of
pub packet_most_lem : (x : List ℕ) → Octets x → length (packet_in x) ≤ packet_most
packet_most_lem x o = omega (arith, length-take (size_in x) (drop 2 x), number_top 2 x 6 o)
