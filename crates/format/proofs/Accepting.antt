-- What an accepted packet has, for those who store and join packets: proved from its octets and no refusal. And the same of a
-- packet that was written, by its values.
-- Assumes nothing.
use Prim.Native.Nat.{ℕ, ◌+◌}
use mathlib.Core.Path.{◌≡◌, refl, ap, sym, ◌∙◌, subst}
use mathlib.Core.List.{List, ◌++◌}
use mathlib.Core.Bool.{Bool, true, false}
use native.Mathlib.Omega.{arith}
use lib.ListN.{length}
use Rattle.octets.specs.Octets.{pick, Octets, wide}
use Rattle.octets.proofs.Has.{Has, has_self, has_first, has_inside}
use Rattle.octets.proofs.Numbers.{number_top}
use Rattle.walk.specs.declared.Settings.{Settings}
use Rattle.walk.specs.Walk.{Reading, going, header_bound}
use Rattle.fields.specs.Fields.{nowhere, opt, block}
use Rattle.packet.specs.Answer.{Header}
use Rattle.packet.specs.Format.{Values, segment, identification, front_octets, counter_octets, header_octets, secondary_octets, data_octets, octets_of, InRange}
use Rattle.packet.specs.Reading.{segmented, counter_size, has_at, texts_of, texts_at, ended, accepted_header, read_packet}
use Rattle.packet.specs.Key.{counter_place}
use Rattle.format.specs.Told.{head_of, values_of, spots_of, InOrder}
use Rattle.format.specs.Accepted.{optional_place, Accepted, Written}
use Rattle.format.proofs.Start.{body_only, answered, answer}
use Rattle.format.proofs.Frame.{packet_long}
use Rattle.format.proofs.Only.{told, told_segment, good, told_written}
use Rattle.format.proofs.Back.{secondary_some, data_long}
use Rattle.format.proofs.Stretches.{body_place, key_is, counter_is, counter_end, front_long, counter_long, header_long, secondary_long}
use Rattle.format.proofs.Order.{timestamp_inside, zone_inside, name_inside, authentication_inside, parts_inside, texts_order, places}
use Rattle.format.proofs.TwoWay.{reads_back, writes_octets}

module _ (s : Settings) (p : List ℕ) where
  first_has : octets_of s (told s p) ≡ p → Has p 0 (identification (told s p).head)
  unfolding octets_of
  first_has w =
      has_first (identification (told s p).head) _ (subst (λ (q : List ℕ). Has q 0 (octets_of s (told s p))) w (has_self (octets_of s (told s p))))

  stamp_long : (b : Bool) (w : Reading) → b ≡ true → (opt b nowhere (block s.t header_bound p) w).value.length ≡ s.t
  unfolding block
  stamp_long true w e = refl
  stamp_long false w e = let z : ◌≡◌ {A = ℕ} 0 1 = cc in absurd (omega arith)

  timestamp_is : (accepted_header s p).has.timestamp ≡ true → (accepted_header s p).texts.timestamp.length ≡ s.t
  unfolding accepted_header texts_of
  timestamp_is = stamp_long (has_at s p).timestamp _

  in_order_lem : Octets p → going (ended s p) ≡ true → InOrder optional_place (spots_of (accepted_header s p)) (ended s p).at
  in_order_lem o g =
      let b = body_only s p (texts_at s p).walk g in
      let y : (texts_at s p).walk.at ≡ (ended s p).at = ap (λ (w : Reading). w.at) (sym b.same) in
      subst (λ (i : ℕ). InOrder optional_place (spots_of (accepted_header s p)) i) y (texts_order s p o b.went)

  told_accepted : Octets p → going (ended s p) ≡ true → Accepted s p (accepted_header s p)
  unfolding accepted_header values_of head_of
  told_accepted o g =
      let k = good s p o g in
      let d = k.opens in
      let n = k.ends in
      let m = has_inside (secondary_octets s (told s p)) k.has in
      let f = first_has (told_written s p o k) in
      let q = told_segment s p in
      let b = body_place s p (told s p) (accepted_header s p) f k.has q refl refl n in
      let x = in_order_lem o g in
      let z = places s p in
      record {
        packet_top = omega (arith, d.long, number_top 2 p 4 o);
        body_low = omega (arith, secondary_some s (told s p));
        body_top = omega (arith, k.limit);
        body_end = omega arith;
        body_place = omega arith;
        body_some = λ e. omega (arith, k.some e);
        h_low = omega (arith, header_long s (told s p).head);
        h_top = omega (arith, k.limit);
        h_is = omega arith;
        segments = q;
        order = x;
        timestamp = timestamp_inside (accepted_header s p) x;
        timestamp_long = timestamp_is;
        zone = zone_inside (accepted_header s p) x;
        withdrawn = refl;
        session_name = name_inside (accepted_header s p) x;
        parts_most_lem = z.most;
        parts_all = z.all;
        parts = parts_inside (accepted_header s p) x z.none (omega (arith, z.most, z.all));
        authentication = authentication_inside (accepted_header s p) x;
        key = key_is s p (told s p) (accepted_header s p) f k.has q refl refl n;
        counter = counter_is s p (told s p) (accepted_header s p) f k.has q refl refl n;
        counter_end = counter_end s p (told s p) (accepted_header s p) f k.has q refl refl n;
      }

-- what reading accepts has all this
pub accepted : (s : Settings) (p : List ℕ) → Octets p → (read_packet s p).refusal.number ≡ 0 → Accepted s p (read_packet s p)
accepted s p o h = subst (λ (x : Header). Accepted s p x) (sym (answer s p h)) (told_accepted s p o (answered s p h))

-- the counter's place, by the values that any answer tells
place_told : (p : List ℕ) (h : Header) → counter_place h ≡ optional_place + length (front_octets (values_of p h).head)
unfolding counter_place values_of head_of
place_told p h = rw (front_long (head_of p h))

-- what was written has all this, by its values
pub written : (s : Settings) (v : Values) → InRange s v → Written s v (octets_of s v) (read_packet s (octets_of s v))
written s v r = go (octets_of s v) (read_packet s (octets_of s v)) refl (accepted s (octets_of s v) (writes_octets s v r) b.0) b.1
  where
    b : ((read_packet s (octets_of s v)).refusal.number ≡ 0) × (values_of (octets_of s v) (read_packet s (octets_of s v)) ≡ v)
    b = reads_back s v r

    go : (p : List ℕ) (h : Header) → octets_of s v ≡ p → Accepted s p h → values_of p h ≡ v → Written s v p h
    go p h w a e =
        let q : segment v.flags ≡ segmented p = ap (λ (u : Values). segment u.flags) (sym e) ∙ a.segments in
        let n : h.h ≡ length (header_octets s v.head) = a.h_is ∙ ap (λ (u : Values). length (header_octets s u.head)) e in
        let c : length (counter_octets v) ≡ counter_size p = counter_long v ∙ ap (λ (t : Bool). pick t 4 0) q in
        let x : h.body.at ≡ 6 + length (secondary_octets s v) = omega (arith, a.body_place, secondary_long s v) in
        let l : length p ≡ 6 + length (data_octets s v) = ap length (sym w) ∙ packet_long s v in
        record {
          accepted = a;
          segments = sym q;
          key = a.key ∙ ap (λ (u : Values). identification u.head ++ header_octets s u.head) e;
          h_is = n;
          body_at = x;
          body_long = omega (arith, a.body_end, data_long s v);
          counter_place_lem = place_told p h ∙ ap (λ (u : Values). optional_place + length (front_octets u.head)) e;
          counter = λ t. a.counter (sym q ∙ t) ∙ ap (λ (u : Values). wide 4 u.counter) e;
        }
