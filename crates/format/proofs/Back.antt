-- A written packet: reading accepts it, goes on to the place after its secondary header, and tells its values. By the laws of the
-- secondary header's field and of the primary header.
-- Assumes nothing.
use Prim.Native.Nat.{ℕ, ◌+◌, ◌-◌, ◌≤◌}
use mathlib.Core.Path.{◌≡◌, refl, ap, sym, ◌∙◌, subst}
use mathlib.Core.List.{List, ◌++◌}
use mathlib.Core.Bool.{Bool, not}
use native.Mathlib.Omega.{arith}
use lib.ListN.{length, length-append}
use lib.Dec.{eqb}
use Rattle.octets.specs.Octets.{Octets}
use Rattle.octets.proofs.Has.{Has, has_first, has_second, part_has}
use Rattle.walk.specs.declared.Settings.{Settings}
use Rattle.walk.specs.Walk.{Reading, goes, header_bound}
use Rattle.packet.specs.Format.{Values, segment, secondary_octets, data_octets, octets_of, InRange}
use Rattle.packet.specs.Reading.{segmented, start_at, texts_at, ended, accepted_header, read_packet}
use Rattle.packet.proofs.Whole.{accepts}
use Rattle.format.specs.Accepted.{fixed_size}
use Rattle.format.specs.Told.{values_of}
use Rattle.format.proofs.Field.{Room}
use Rattle.format.proofs.Secondary.{secondary_f}
use Rattle.format.proofs.Pairs.{pair_of, pair_form, pair_fit, same_values}
use Rattle.format.proofs.Start.{start_back, body_back}
use Rattle.format.proofs.Frame.{Front, fixed_long, packet_long, data_back, front_back, opens_back}
use Rattle.format.proofs.Only.{told, told_front, told_pair, told_step}

pub secondary_some : (s : Settings) (v : Values) → fixed_size ≤ length (secondary_octets s v)
unfolding secondary_octets
secondary_some s v = simp (length-append, fixed_long) (omega arith)

pub data_long : (s : Settings) (v : Values) → length (data_octets s v) ≡ length (secondary_octets s v) + length v.body
unfolding data_octets
data_long s v = length-append (secondary_octets s v) v.body

module _
    (s : Settings)
    (p : List ℕ)
    (v : Values)
    (r : InRange s v)
    (o : Octets p)
    (h : Has p 0 (octets_of s v))
    (l : length p ≡ length (octets_of s v)) where
  start : start_at s p ≡ goes 6
  start = start_back s p (opens_back s p v r o h l (omega (arith, data_long s v, secondary_some s v)))

  front : Front p v
  front = front_back s p v r o h l

  pub segment_back : segment v.flags ≡ segmented p
  segment_back = ap (λ (n : ℕ). not (eqb n 3)) front.flags

  both : Has p 6 (secondary_octets s v ++ v.body)
  unfolding data_octets
  both = data_back s p v r o h l

  field_back :
      ((secondary_f s header_bound p (segment v.flags)).step (goes 6) ≡ goes (6 + length (secondary_octets s v)))
      × ((secondary_f s header_bound p (segment v.flags)).value (goes 6) ≡ pair_of v)
  field_back =
      let e = pair_form s header_bound p v in
      let a : Has p 6 ((secondary_f s header_bound p (segment v.flags)).form (pair_of v)) = rw (← e) (has_first (secondary_octets s v) v.body both) in
      let m : Room header_bound 6 ((secondary_f s header_bound p (segment v.flags)).form (pair_of v)) =
      rw (← e) (omega (arith, r.header), omega (arith, r.header)) in
      let b = (secondary_f s header_bound p (segment v.flags)).back 6 (pair_of v) (pair_fit s header_bound p v r.head r.counter) a m in
      (b.0 ∙ ap (λ (x : List ℕ). goes (6 + length x)) (sym e), b.1)

  -- by the packet's own flags, at the reading's own start
  field_told :
      ((secondary_f s header_bound p (segmented p)).step (start_at s p) ≡ goes (6 + length (secondary_octets s v)))
      × ((secondary_f s header_bound p (segmented p)).value (start_at s p) ≡ pair_of v)
  field_told =
      subst
      (λ (w : Reading).
      ((secondary_f s header_bound p (segmented p)).step w ≡ goes (6 + length (secondary_octets s v)))
      × ((secondary_f s header_bound p (segmented p)).value w ≡ pair_of v))
      (sym start)
      (subst
      (λ (q : Bool).
      ((secondary_f s header_bound p q).step (goes 6) ≡ goes (6 + length (secondary_octets s v))) × ((secondary_f s header_bound p q).value (goes 6) ≡ pair_of v))
      segment_back
      field_back)

  long : length p ≡ 6 + length (secondary_octets s v) + length v.body
  long = omega (arith, packet_long s v, data_long s v)

  texts_back : (texts_at s p).walk ≡ goes (6 + length (secondary_octets s v))
  texts_back = sym (told_step s p) ∙ field_told.0

  pub ended_back : ended s p ≡ goes (6 + length (secondary_octets s v))
  ended_back =
      let x : (texts_at s p).walk.at ≡ 6 + length (secondary_octets s v) = ap (λ (w : Reading). w.at) texts_back in
      let n = long in
      body_back s p (texts_at s p).walk (λ q. rw x (let z = r.some (segment_back ∙ q) in omega arith)) ∙ texts_back

  pub reads : read_packet s p ≡ accepted_header s p
  reads = accepts s p (rw ended_back refl)

  pub refusal_back : (read_packet s p).refusal.number ≡ 0
  unfolding accepted_header
  refusal_back = rw reads refl

  body_is : (told s p).body ≡ v.body
  unfolding values_of accepted_header
  body_is =
      let n = long in
      let x : (ended s p).at ≡ 6 + length (secondary_octets s v) = ap (λ (w : Reading). w.at) ended_back in
      let y : length p - (6 + length (secondary_octets s v)) ≡ length v.body = omega arith in
      rw (x, y) (part_has v.body (has_second (secondary_octets s v) v.body both))

  pairs : pair_of (told s p) ≡ pair_of v
  pairs = sym (told_pair s p) ∙ field_told.1

  pub values_back : told s p ≡ v
  values_back =
      let f = front in
      let g = told_front s p in
      same_values (told s p) v pairs (g.packet_type ∙ sym f.packet_type) (g.apid ∙ sym f.apid) (g.flags ∙ sym f.flags)
      (g.sequence_count ∙ sym f.sequence_count) body_is
