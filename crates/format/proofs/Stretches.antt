-- Where the parts of a packet's secondary header stand: the key is the identification and the header around the counter, the counter
-- stands at its place, and H is the rest. Over any packet that has the secondary header of some values after its primary one.
-- Assumes nothing.
use Prim.Native.Nat.{ℕ, ◌+◌, ◌-◌, ◌≤◌}
use mathlib.Core.Path.{◌≡◌, refl, ap, ◌∙◌}
use mathlib.Core.List.{List, ◌++◌, append_assoc}
use mathlib.Core.Bool.{Bool, true, false}
use native.Mathlib.Omega.{arith}
use lib.ListN.{length, length-append}
use Rattle.octets.specs.Octets.{pick, part, wide}
use Rattle.octets.proofs.Has.{Has, has_first, has_second, part_has}
use Rattle.octets.proofs.Numbers.{wide_length}
use Rattle.walk.specs.declared.Settings.{Settings}
use Rattle.packet.specs.Answer.{Header}
use Rattle.packet.specs.Format.{Head, Values, segment, when, identification, fixed_octets, front_octets, counter_octets, back_octets, header_octets, secondary_octets}
use Rattle.packet.specs.Reading.{segmented, counter_size}
use Rattle.packet.specs.Key.{counter_place, key_of}
use Rattle.format.specs.Accepted.{fixed_size, optional_place}
use Rattle.format.proofs.Frame.{fixed_long, identification_long}

when_one : (b : Bool) (x : ℕ) → length (when b (wide 1 x)) ≡ pick b 1 0
when_one true x = wide_length 1 x
when_one false x = refl

when_four : (b : Bool) (x : ℕ) → length (when b (wide 4 x)) ≡ pick b 4 0
when_four true x = wide_length 4 x
when_four false x = refl

pub front_long : (h : Head) → length (front_octets h) ≡ pick h.has_source 1 0 + pick h.has_destination 1 0
unfolding front_octets
front_long h = simp (length-append, when_one)

pub counter_long : (v : Values) → length (counter_octets v) ≡ pick (segment v.flags) 4 0
unfolding counter_octets
counter_long v = when_four (segment v.flags) v.counter

pub header_long : (s : Settings) (h : Head) → length (header_octets s h) ≡ fixed_size + (length (front_octets h) + length (back_octets s h))
unfolding header_octets
header_long s h = simp (length-append, fixed_long)

pub secondary_long :
    (s : Settings) (v : Values) → length (secondary_octets s v) ≡ length (header_octets s v.head) + length (counter_octets v)
unfolding secondary_octets header_octets
secondary_long s v = simp length-append (omega arith)

module _
    (s : Settings)
    (p : List ℕ)
    (v : Values)
    (h : Header)
    (first : Has p 0 (identification v.head))
    (has : Has p 6 (secondary_octets s v))
    (segments : segment v.flags ≡ segmented p)
    (source : h.has.source ≡ v.head.has_source)
    (destination : h.has.destination ≡ v.head.has_destination)
    (at : h.body.at ≡ 6 + length (secondary_octets s v)) where
  counter_size_lem : length (counter_octets v) ≡ counter_size p
  counter_size_lem = counter_long v ∙ ap (λ (b : Bool). pick b 4 0) segments

  pub place_is : counter_place h ≡ optional_place + length (front_octets v.head)
  unfolding counter_place
  place_is = rw (source, destination, front_long v.head)

  pub body_place : 6 + length (header_octets s v.head) + counter_size p ≡ h.body.at
  body_place = omega (arith, counter_size_lem, secondary_long s v)

  -- the four stretches
  split : Has p 6 ((fixed_octets v.head ++ front_octets v.head) ++ (counter_octets v ++ back_octets s v.head))
  unfolding secondary_octets
  split = rw append_assoc has

  fore_long : length (fixed_octets v.head ++ front_octets v.head) ≡ fixed_size + length (front_octets v.head)
  fore_long = simp (length-append, fixed_long)

  behind : Has p (counter_place h) (counter_octets v ++ back_octets s v.head)
  behind =
      let e : 6 + length (fixed_octets v.head ++ front_octets v.head) ≡ counter_place h = omega (arith, fore_long, place_is) in
      rw e at (has_second (fixed_octets v.head ++ front_octets v.head) (counter_octets v ++ back_octets s v.head) split)

  fore : part p 6 (counter_place h - 6) ≡ fixed_octets v.head ++ front_octets v.head
  fore =
      let e : counter_place h - 6 ≡ length (fixed_octets v.head ++ front_octets v.head) = omega (arith, fore_long, place_is) in
      rw e (part_has (fixed_octets v.head ++ front_octets v.head) (has_first _ _ split))

  aft :
      part p (counter_place h + counter_size p) (h.body.at - (counter_place h + counter_size p)) ≡ back_octets s v.head
  aft =
      let c = counter_size_lem in
      let e : h.body.at - (counter_place h + counter_size p) ≡ length (back_octets s v.head) =
      omega (arith, place_is, secondary_long s v, header_long s v.head) in
      let k : Has p (counter_place h + counter_size p) (back_octets s v.head) =
      rw c at (has_second (counter_octets v) (back_octets s v.head) behind) in
      rw e (part_has (back_octets s v.head) k)

  start : part p 0 2 ≡ identification v.head
  start = rw (identification_long v.head) at (part_has (identification v.head) first)

  pub key_is : key_of p h ≡ identification v.head ++ header_octets s v.head
  unfolding key_of header_octets
  key_is = rw (start, fore, aft, append_assoc)

  -- the counter's octets
  pub counter_is : segmented p ≡ true → part p (counter_place h) 4 ≡ wide 4 v.counter
  unfolding counter_octets
  counter_is q =
      let e : counter_octets v ≡ wide 4 v.counter = ap (λ (b : Bool). when b (wide 4 v.counter)) (segments ∙ q) in
      let k : Has p (counter_place h) (wide 4 v.counter) = rw e at (has_first (counter_octets v) (back_octets s v.head) behind) in
      rw (wide_length 4 v.counter) at (part_has (wide 4 v.counter) k)

  pub counter_end : counter_place h + counter_size p ≤ h.body.at
  counter_end = omega (arith, place_is, counter_size_lem, secondary_long s v, header_long s v.head)
