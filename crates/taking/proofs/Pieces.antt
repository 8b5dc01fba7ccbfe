-- A segment that was found by the key of another has its body at the same place, so that its header need not be read again.
-- Assumes nothing.
use Prim.Native.Nat.{ℕ, ◌+◌, ◌*◌, ◌/◌, ◌<◌}
use mathlib.Core.Path.{◌≡◌, ap, sym, ◌∙◌}
use mathlib.Core.Bool.{true}
use mathlib.Core.List.{List}
use native.Mathlib.Omega.{arith}
use lib.ListN.{length, drop, length-take, length-drop}
use lib.Dec.{eqb}
use borrow.Author.Tests.{eqb-true}
use Rattle.octets.specs.Octets.{Octets, octet_at, part, number, alike}
use Rattle.octets.proofs.Has.{octets_part}
use Rattle.octets.proofs.Lists.{alike_self}
use Rattle.walk.specs.declared.Settings.{Settings}
use Rattle.packet.specs.Reading.{read_packet}
use Rattle.packet.specs.Key.{key_of}
use Rattle.format.proofs.Accepting.{accepted}
use Rattle.cells.specs.Segments.{seg_of, both}
use Rattle.cells.specs.Rows.{row_at, packet_in}
use Rattle.cells.specs.Order.{carries_in, found_in}
use Rattle.cells.specs.Inner.{place_in, spans_alike, Asked}
use Rattle.cells.proofs.Held.{both_true}
use Rattle.cells.proofs.Carries.{Holding}
use Rattle.cells.proofs.SameKeys.{keys_same}
use Rattle.cells.specs.declared.messages.Piece.{Piece}
use Rattle.cells.specs.Pieces.{piece_of}
use Rattle.taking.specs.Inner.{piece_in}
use Rattle.taking.specs.Follow.{seg_at}
use Rattle.cells.proofs.Found.{found_carries, found_held}
use Rattle.taking.proofs.Ends.{flags_told}
use Rattle.cells.proofs.Distinct.{carries_true}

-- as the code reads it
pub piece_read :
    (r : List ℕ) (body_at : ℕ) {p x : List ℕ} {f : ℕ} → p ≡ packet_in r → x ≡ part p body_at (length p) → f ≡ octet_at r 4 / 64 →
    record { flags = f; at = body_at; length = length x } ≡ piece_in r body_at
unfolding piece_in
piece_read r body_at ep ex ef =
    let l = ap length ex ∙ ap (λ (y : List ℕ). length (part y body_at (length y))) ep in
    λ i. record { flags = ef i; at = body_at; length = l i }

-- packets that agree around their counters have their bodies at one place
spans_end : (p q : List ℕ) (end body_at : ℕ) → spans_alike p end q body_at ≡ true → end ≡ body_at
unfolding spans_alike
spans_end p q end body_at e =
    let a = both_true (both (eqb (place_in p) (place_in q)) (eqb end body_at)) _ e in
    eqb-true end body_at (both_true (eqb (place_in p) (place_in q)) (eqb end body_at) a.0).1

module _ (s : Settings) (Z : ℕ) (st q : List ℕ) (n body_at c : ℕ) {j : ℕ} (a : Asked s q body_at) (o : Octets st) (ej : j ≡ found_in s Z st n (key_of q (read_packet s q)) c) (h : j < n) where
  abbrev p : List ℕ
  p = packet_in (row_at Z st j)

  there : Holding s Z (row_at Z st j)
  there = found_held s Z st n (key_of q (read_packet s q)) c ej h

  plain : Octets p
  plain = octets_part (row_at Z st j) 2 (number 2 (row_at Z st j) 6 + 7) (octets_part st (j * Z) Z o)

  key_is : key_of q (read_packet s q) ≡ key_of p (read_packet s p)
  unfolding seg_of
  key_is =
      (carries_true (key_of q (read_packet s q)) c (seg_at s Z st j)
      (sym (ap (carries_in (key_of q (read_packet s q)) c) there.cell) ∙ found_carries s Z st n (key_of q (read_packet s q)) c ej h)).0

  at_is : body_at ≡ (read_packet s p).body.at
  at_is =
      a.body
      ∙ spans_end q p (read_packet s q).body.at (read_packet s p).body.at
      (keys_same s q p a.octets plain a.accepted there.accepted a.segment there.segment
      ∙ ap (λ (k : List ℕ). alike k (key_of p (read_packet s p))) key_is
      ∙ alike_self (key_of p (read_packet s p)))

  long_is : length (part p body_at (length p)) ≡ (read_packet s p).body.length
  long_is = omega (arith, length-take (length p) (drop body_at p), length-drop body_at p, at_is, (accepted s p plain there.accepted).body_end)

  pub piece_found : {r : List ℕ} {u : Piece} → r ≡ row_at Z st j → u ≡ piece_in r body_at → u ≡ piece_of (read_packet s (packet_in r))
  unfolding piece_in piece_of seg_of
  piece_found {r} er eu =
      let f : octet_at (row_at Z st j) 4 / 64 ≡ (read_packet s p).primary.flags = sym (flags_told s Z st j there) in
      eu
      ∙ ap (λ (y : List ℕ). piece_in y body_at) er
      ∙ (λ i. record { flags = f i; at = at_is i; length = long_is i })
      ∙ ap (λ (y : List ℕ). piece_of (read_packet s (packet_in y))) (sym er)
