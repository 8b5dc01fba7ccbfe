-- Two accepted segments agree around their counters exactly if they have the same key.
-- Assumes nothing.
use Prim.Native.Nat.{ℕ, ◌+◌, ◌-◌}
use mathlib.Core.Path.{◌≡◌, refl, ap, ap₂, sym, ◌∙◌}
use mathlib.Core.Bool.{Bool, true}
use mathlib.Core.List.{List, ◌++◌}
use native.Mathlib.Omega.{arith}
use lib.ListN.{length, take, drop}
use lib.Seq.{take_at, drop_at}
use lib.Dec.{eqb}
use borrow.Author.Tests.{eq-eqb}
use Rattle.octets.specs.Octets.{pick, Octets, part, alike}
use Rattle.octets.proofs.Has.{part_length}
use Rattle.octets.proofs.Lists.{alike_self, alike_true}
use Rattle.walk.specs.declared.Settings.{Settings}
use Rattle.packet.specs.Answer.{Header}
use Rattle.packet.specs.Format.{Head, header_octets}
use Rattle.packet.specs.Reading.{read_packet, segmented, counter_size}
use Rattle.packet.specs.Key.{counter_place, key_of, same_key}
use Rattle.format.specs.Told.{values_of, head_of}
use Rattle.format.proofs.Accepting.{accepted}
use Rattle.format.proofs.Keys.{same_key_lem}
use Rattle.cells.specs.Segments.{both}
use Rattle.cells.specs.Inner.{place_in, spans_alike}
use Rattle.cells.proofs.Held.{both_true, same_test}
use Rattle.cells.proofs.Counters.{place_told}

-- lists of equal lengths, one after another
first_same : (a b x y : List ℕ) → length a ≡ length b → a ++ x ≡ b ++ y → a ≡ b
first_same a b x y l e = sym (take_at a x (length b) l) ∙ ap (take (length b)) e ∙ take_at b y (length b) refl

rest_same : (a b x y : List ℕ) → length a ≡ length b → a ++ x ≡ b ++ y → x ≡ y
rest_same a b x y l e = sym (drop_at a x (length b) l) ∙ ap (drop (length b)) e ∙ drop_at b y (length b) refl

both_all : {a b c : Bool} → a ≡ true → b ≡ true → c ≡ true → both (both true true) (both a (both b c)) ≡ true
both_all e f k = rw (e, f, k) refl

-- the key by the places
pub key_told : (p : List ℕ) (h : Header) (c e : ℕ) → counter_place h ≡ c → counter_size p ≡ 4 → h.body.at ≡ e →
    key_of p h ≡ part p 0 2 ++ (part p 6 (c - 6) ++ part p (c + 4) (e - (c + 4)))
unfolding key_of
key_told p h c e a b d = rw (a, b, d) refl

module _ (s : Settings) (p q : List ℕ) (op : Octets p) (oq : Octets q) (zp : (read_packet s p).refusal.number ≡ 0) (zq : (read_packet s q).refusal.number ≡ 0)
    (sp : segmented p ≡ true) (sq : segmented q ≡ true) where
  abbrev h : Header
  h = read_packet s p

  abbrev g : Header
  g = read_packet s q

  place_p : counter_place h ≡ place_in p
  unfolding place_in
  place_p = place_told s p op zp

  place_q : counter_place g ≡ place_in q
  unfolding place_in
  place_q = place_told s q oq zq

  four_p : counter_size p ≡ 4
  four_p = ap (λ (b : Bool). pick b 4 0) sp

  four_q : counter_size q ≡ 4
  four_q = ap (λ (b : Bool). pick b 4 0) sq

  key_p : key_of p h ≡ part p 0 2 ++ (part p 6 (place_in p - 6) ++ part p (place_in p + 4) (h.body.at - (place_in p + 4)))
  key_p = key_told p h (place_in p) h.body.at place_p four_p refl

  key_q : key_of q g ≡ part q 0 2 ++ (part q 6 (place_in q - 6) ++ part q (place_in q + 4) (g.body.at - (place_in q + 4)))
  key_q = key_told q g (place_in q) g.body.at place_q four_q refl

  -- the tests
  abbrev long : Bool
  long = both (eqb (place_in p) (place_in q)) (eqb h.body.at g.body.at)

  abbrev ids : Bool
  ids = alike (part p 0 2) (part q 0 2)

  abbrev fore : Bool
  fore = alike (part p 6 (place_in p - 6)) (part q 6 (place_in q - 6))

  abbrev aft : Bool
  aft = alike (part p (place_in p + 4) (h.body.at - (place_in p + 4))) (part q (place_in q + 4) (g.body.at - (place_in q + 4)))

  -- agreeing around the counter, they have the same key
  forth : spans_alike p h.body.at q g.body.at ≡ true → same_key p h q g ≡ true
  unfolding spans_alike
  forth e =
      let a = both_true long (both ids (both fore aft)) e in
      let b = both_true ids (both fore aft) a.1 in
      let c = both_true fore aft b.1 in
      let i = alike_true (part p 0 2) (part q 0 2) b.0 in
      let j = alike_true (part p 6 (place_in p - 6)) (part q 6 (place_in q - 6)) c.0 in
      let k =
      alike_true (part p (place_in p + 4) (h.body.at - (place_in p + 4))) (part q (place_in q + 4) (g.body.at - (place_in q + 4))) c.1 in
      let same : key_of p h ≡ key_of q g = key_p ∙ ap₂ ◌++◌ i (ap₂ ◌++◌ j k) ∙ sym key_q in
      rw same (alike_self (key_of q g))

  -- the same key: then the same head, and so the same places
  module _ (e : same_key p h q g ≡ true) where
    heads : (values_of p h).head ≡ (values_of q g).head
    heads = (same_key_lem s p q op oq zp zq).0 e

    same_place : place_in p ≡ place_in q
    unfolding counter_place values_of head_of
    same_place =
        sym place_p
        ∙ ap (λ (d : Head). 27 + (pick d.has_source 1 0 + pick d.has_destination 1 0)) heads
        ∙ place_q

    same_end : h.body.at ≡ g.body.at
    same_end =
        let x = accepted s p op zp in
        let y = accepted s q oq zq in
        let l = ap (λ (d : Head). length (header_octets s d)) heads in
        omega (arith, x.body_place, y.body_place, x.h_is, y.h_is, four_p, four_q)

    keys : part p 0 2 ++ (part p 6 (place_in p - 6) ++ part p (place_in p + 4) (h.body.at - (place_in p + 4)))
        ≡ part q 0 2 ++ (part q 6 (place_in q - 6) ++ part q (place_in q + 4) (g.body.at - (place_in q + 4)))
    keys = sym key_p ∙ alike_true (key_of p h) (key_of q g) e ∙ key_q

    two : length (part p 0 2) ≡ length (part q 0 2)
    two =
        let x = accepted s p op zp in
        let y = accepted s q oq zq in
        part_length p 0 2 (omega (arith, x.body_low, x.body_end)) ∙ sym (part_length q 0 2 (omega (arith, y.body_low, y.body_end)))

    middle : length (part p 6 (place_in p - 6)) ≡ length (part q 6 (place_in q - 6))
    middle =
        let x = accepted s p op zp in
        let y = accepted s q oq zq in
        let a = part_length p 6 (place_in p - 6) (omega (arith, x.counter_end, x.body_end, x.body_low, place_p)) in
        let b = part_length q 6 (place_in q - 6) (omega (arith, y.counter_end, y.body_end, y.body_low, place_q)) in
        omega (arith, same_place)

    back : spans_alike p h.body.at q g.body.at ≡ true
    unfolding spans_alike
    back =
        let i = first_same (part p 0 2) (part q 0 2) _ _ two keys in
        let r = rest_same (part p 0 2) (part q 0 2) _ _ two keys in
        let j = first_same (part p 6 (place_in p - 6)) (part q 6 (place_in q - 6)) _ _ middle r in
        let k = rest_same (part p 6 (place_in p - 6)) (part q 6 (place_in q - 6)) _ _ middle r in
        rw (i, j, k, eq-eqb (place_in p) (place_in q) same_place, eq-eqb h.body.at g.body.at same_end)
        (both_all (alike_self (part q 0 2)) (alike_self (part q 6 (place_in q - 6))) (alike_self (part q (place_in q + 4) (g.body.at - (place_in q + 4)))))

  pub keys_same : spans_alike p h.body.at q g.body.at ≡ same_key p h q g
  keys_same = same_test (spans_alike p h.body.at q g.body.at) (same_key p h q g) forth back
