-- Where the contents of an accepted packet stand: in order, after the fixed part and before the body; and so each of them.
-- Assumes nothing.
use Prim.Native.Nat.{ℕ, zero, suc, ◌+◌, ◌≤◌, ◌<◌}
use mathlib.Core.Path.{◌≡◌, refl, ap, ◌∙◌, subst}
use mathlib.Core.List.{List, [], ◌∷◌, ◌++◌}
use mathlib.Core.Bool.{Bool, true, false}
use native.Mathlib.Omega.{arith}
use lib.ListN.{length, get_or, take, length-replicate}
use lib.Seq.{get_or-take, length-take-le}
use Rattle.octets.specs.Octets.{pick, Octets, wide}
use Rattle.walk.specs.declared.Settings.{Settings}
use Rattle.walk.specs.Walk.{Reading, going, header_bound}
use Rattle.fields.specs.declared.Place.{Place}
use Rattle.fields.specs.Fields.{nowhere, opt, no_parts, domain, parts_most}
use Rattle.packet.specs.Answer.{Header}
use Rattle.packet.specs.FixedPart.{after_sdu, after_area, after_service, after_operation, after_version, after_session}
use Rattle.packet.specs.FixedPart.{after_secondary, after_qualifier, after_transaction, after_presence, fixed_of, present_of}
use Rattle.packet.specs.Reading.{segmented, ids_of, texts_of, start_at, has_at, texts_at, accepted_header}
use Rattle.format.specs.Told.{spot, spots_of, InOrder}
use Rattle.format.specs.Accepted.{Inside, optional_place, fixed_size}
use Rattle.format.proofs.Field.{Sound, took_at, took_sound, order_lower}
use Rattle.format.proofs.FixedPart.{Fixed, fixed_f}
use Rattle.format.proofs.Secondary.{optionals_f}
use Rattle.format.proofs.Domain.{domain_count, domain_all}
use Rattle.format.proofs.Start.{start_only}
use Rattle.format.proofs.Only.{start_sound}

-- ---- parts of what is in order

order_le : (lo hi : ℕ) (x : List Place) → InOrder lo x hi → lo ≤ hi
unfolding InOrder
order_le lo hi [] o = o
order_le lo hi (a ∷ x) o = omega (arith, o.0, order_le (a.at + a.length) hi x o.1)

pub order_first : (lo hi : ℕ) (x y : List Place) → InOrder lo (x ++ y) hi → InOrder lo x hi
unfolding InOrder
order_first lo hi [] y o = order_le lo hi y o
order_first lo hi (a ∷ x) y o = (o.0, order_first (a.at + a.length) hi x y o.1)

pub order_second : (lo hi : ℕ) (x y : List Place) → InOrder lo (x ++ y) hi → InOrder lo y hi
unfolding InOrder
order_second lo hi [] y o = o
order_second lo hi (a ∷ x) y o =
    order_lower (a.at + a.length) lo hi y (omega (arith, o.0)) (order_second (a.at + a.length) hi x y o.1)

order_spot : (lo hi : ℕ) (b : Bool) (a : Place) → InOrder lo (spot b a) hi → b ≡ true → (lo ≤ a.at) × (a.at + a.length ≤ hi)
unfolding InOrder
order_spot lo hi true a o e = o
order_spot lo hi false a o e = let z : ◌≡◌ {A = ℕ} 0 1 = cc in absurd (omega arith)

order_index :
    (lo hi : ℕ) (x : List Place) (k : ℕ) → InOrder lo x hi → k < length x →
    (lo ≤ (get_or x k nowhere).at) × ((get_or x k nowhere).at + (get_or x k nowhere).length ≤ hi)
unfolding InOrder
order_index lo hi [] k o l = absurd (omega arith)
order_index lo hi (a ∷ x) zero o l = (o.0, order_le (a.at + a.length) hi x o.1)
order_index lo hi (a ∷ x) (suc k) o l =
    let r = order_index (a.at + a.length) hi x k o.1 (omega arith) in
    (omega (arith, o.0, r.0), r.1)

-- ---- each content of an answer

module _ (h : Header) (o : InOrder optional_place (spots_of h) h.body.at) where
  abbrev spot1 : List Place
  spot1 = spot h.has.timestamp h.texts.timestamp

  abbrev spot2 : List Place
  spot2 = spot h.has.zone h.texts.zone

  abbrev spot3 : List Place
  spot3 = spot h.has.session_name h.texts.session_name

  abbrev spots4 : List Place
  spots4 = pick h.has.domain (take h.texts.count h.texts.parts) []

  abbrev spot5 : List Place
  spot5 = spot h.has.authentication h.texts.authentication

  from1 : InOrder optional_place (spot1 ++ (spot2 ++ (spot3 ++ (spots4 ++ spot5)))) h.body.at
  unfolding spots_of
  from1 = o

  from2 : InOrder optional_place (spot2 ++ (spot3 ++ (spots4 ++ spot5))) h.body.at
  from2 = order_second _ _ spot1 _ from1

  from3 : InOrder optional_place (spot3 ++ (spots4 ++ spot5)) h.body.at
  from3 = order_second _ _ spot2 _ from2

  from4 : InOrder optional_place (spots4 ++ spot5) h.body.at
  from4 = order_second _ _ spot3 _ from3

  inside : (b : Bool) (a : Place) → InOrder optional_place (spot b a) h.body.at → b ≡ true → Inside h a
  inside b a q e = let r = order_spot optional_place h.body.at b a q e in record { low = r.0; top = r.1 }

  pub timestamp_inside : h.has.timestamp ≡ true → Inside h h.texts.timestamp
  timestamp_inside = inside _ _ (order_first _ _ spot1 _ from1)

  pub zone_inside : h.has.zone ≡ true → Inside h h.texts.zone
  zone_inside = inside _ _ (order_first _ _ spot2 _ from2)

  pub name_inside : h.has.session_name ≡ true → Inside h h.texts.session_name
  name_inside = inside _ _ (order_first _ _ spot3 _ from3)

  pub authentication_inside : h.has.authentication ≡ true → Inside h h.texts.authentication
  authentication_inside = inside _ _ (order_second _ _ spots4 spot5 from4)

  part_inside :
      (b : Bool) (n : ℕ) (l : List Place) → (b ≡ false → n ≡ 0) → n ≤ length l →
      InOrder optional_place (pick b (take n l) []) h.body.at → (k : ℕ) → k < n → Inside h (get_or l k nowhere)
  part_inside true n l z m q k i =
      let e = length-take-le n l m in
      let r = order_index optional_place h.body.at (take n l) k q (omega arith) in
      let g = get_or-take n l k nowhere i in
      let w : Inside h (get_or (take n l) k nowhere) = record { low = r.0; top = r.1 } in
      rw g at w
  part_inside false n l z m q k i = let e = z refl in absurd (omega arith)

  pub parts_inside :
      (h.has.domain ≡ false → h.texts.count ≡ 0) → h.texts.count ≤ length h.texts.parts → (k : ℕ) → k < h.texts.count →
      Inside h (get_or h.texts.parts k nowhere)
  parts_inside z m = part_inside h.has.domain h.texts.count h.texts.parts z m (order_first _ _ spots4 spot5 from4)

-- ---- an accepted packet

fixed_form : (p : List ℕ) (x : Fixed) → length ((fixed_f header_bound p).form x) ≡ fixed_size
unfolding wide
fixed_form p x = refl

module _ (s : Settings) (p : List ℕ) where
  pub texts_order : Octets p → going (texts_at s p).walk ≡ true → InOrder optional_place (spots_of (accepted_header s p)) (texts_at s p).walk.at
  unfolding spots_of accepted_header fixed_of present_of ids_of texts_of after_sdu after_area after_service after_operation after_version
      after_session after_secondary after_qualifier after_transaction after_presence
  texts_order o g =
      let z : Sound header_bound p ((fixed_f header_bound p).step (start_at s p)) =
      λ e. took_sound header_bound p _ ((fixed_f header_bound p).only o (start_at s p) (start_sound s p) e).0 e in
      let b = (optionals_f s header_bound p (has_at s p) (segmented p)).only o ((fixed_f header_bound p).step (start_at s p)) z g in
      let c = ((fixed_f header_bound p).only o (start_at s p) (start_sound s p) b.0.went).0 in
      let x : (start_at s p).at ≡ 6 = ap (λ (w : Reading). w.at) (start_only s p c.went).0 in
      let n = fixed_form p ((fixed_f header_bound p).value (start_at s p)) in
      let y : ((fixed_f header_bound p).step (start_at s p)).at ≡ optional_place = took_at header_bound p _ c ∙ omega arith in
      subst (λ (i : ℕ). InOrder i (spots_of (accepted_header s p)) (texts_at s p).walk.at) y
      ((optionals_f s header_bound p (has_at s p) (segmented p)).order o ((fixed_f header_bound p).step (start_at s p)) z g)

  -- the domain's places
  pub record Places (there : Bool) (count : ℕ) (places : List Place) : Type 0 where
    pub most : count ≤ parts_most
    pub all : length places ≡ parts_most
    pub none : there ≡ false → count ≡ 0

  places_of :
      (b : Bool) (w : Reading) →
      Places b (opt b (no_parts 0) (domain s header_bound p) w).value.count (opt b (no_parts 0) (domain s header_bound p) w).value.places
  places_of true w =
      record {
        most = domain_count s header_bound p w;
        all = domain_all s header_bound p w;
        none = λ e. let z : ◌≡◌ {A = ℕ} 0 1 = cc in absurd (omega arith);
      }
  places_of false w = record { most = omega arith; all = length-replicate 16 nowhere; none = λ e. refl }

  pub places : Places (accepted_header s p).has.domain (accepted_header s p).texts.count (accepted_header s p).texts.parts
  unfolding accepted_header texts_of
  places = places_of (has_at s p).domain _
