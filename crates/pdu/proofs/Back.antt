-- A written PDU: it is octets, reading accepts it and tells its values. By the laws of the optional fields and of the fixed part.
-- Assumes nothing.
use Prim.Native.Nat.{ℕ, ◌+◌, ◌-◌, ◌<◌}
use mathlib.Core.Path.{◌≡◌, refl, ap, sym, ◌∙◌, subst}
use mathlib.Core.List.{List, [], ◌++◌}
use native.Mathlib.Omega.{arith}
use lib.ListN.{length, length-append}
use Rattle.octets.specs.Octets.{Octets}
use Rattle.octets.proofs.Has.{Has, has_first, has_second, has_inside, part_has, octets_append}
use Rattle.walk.specs.Walk.{Reading, goes}
use Rattle.packet.specs.declared.Present.{Present}
use Rattle.format.proofs.Field.{Room}
use Rattle.pdu.specs.Format.{Pdu, fixed_size, fixed_octets, variable_octets, rest_octets, octets_of, InRange}
use Rattle.pdu.specs.Reading.{bound_of, fixed_tests, fixed_of, has_of, ended, accepted_header, read_pdu}
use Rattle.pdu.specs.Told.{values_of}
use Rattle.pdu.proofs.Whole.{accepts}
use Rattle.pdu.proofs.Variable.{pair_of, optionals_f, pair_form, pair_fit}
use Rattle.pdu.proofs.FixedPart.{Says, Opens, fixed_long, fixed_octets_lem, says, tests_back}
use Rattle.pdu.proofs.Only.{told, told_pair, told_step}

pub octets_long : (v : Pdu) → length (octets_of v) ≡ fixed_size + length (rest_octets v)
unfolding octets_of
octets_long v = simp (length-append, fixed_long)

pub rest_long : (v : Pdu) → length (rest_octets v) ≡ length (variable_octets v) + length v.body
unfolding rest_octets
rest_long v = length-append (variable_octets v) v.body

pub octets_plain : (v : Pdu) → InRange v → Octets (octets_of v)
unfolding octets_of rest_octets
octets_plain v r =
    let e = pair_form [] v in
    let l : length (variable_octets v) < 4294967296 = omega (arith, r.variable, rest_long v) in
    let m : Octets (variable_octets v) = rw e ((optionals_f [] v.has).plain (pair_of v) (pair_fit [] v r) (rw e at l)) in
    octets_append (fixed_octets v (length (rest_octets v))) (rest_octets v) (fixed_octets_lem v (length (rest_octets v)))
    (octets_append (variable_octets v) v.body m r.body)

-- the optional values and those of the fixed part and the body tell all values
same_values :
    (u v : Pdu) → pair_of u ≡ pair_of v → u.sdu ≡ v.sdu → u.area ≡ v.area → u.service ≡ v.service → u.operation ≡ v.operation →
    u.version ≡ v.version → u.error ≡ v.error → u.qos ≡ v.qos → u.session ≡ v.session → u.transaction ≡ v.transaction → u.has ≡ v.has →
    u.encoding ≡ v.encoding → u.body ≡ v.body → u ≡ v
same_values u v q s a e o w r l n t h d b =
    λ i.
    record {
      sdu = s i;
      area = a i;
      service = e i;
      operation = o i;
      version = w i;
      error = r i;
      qos = l i;
      session = n i;
      transaction = t i;
      has = h i;
      encoding = d i;
      source = (q i).0;
      destination = (q i).1.0;
      priority = (q i).1.1.0;
      timestamp = (q i).1.1.1.0;
      zone = (q i).1.1.1.1.0;
      session_name = (q i).1.1.1.1.1.0;
      domain = (q i).1.1.1.1.1.1.0;
      authentication = (q i).1.1.1.1.1.1.1;
      body = b i;
    }

module _ (p : List ℕ) (v : Pdu) (r : InRange v) (h : Has p 0 (octets_of v)) (l : length p ≡ length (octets_of v)) where
  fixed : Has p 0 (fixed_octets v (length (rest_octets v)))
  unfolding octets_of
  fixed = has_first (fixed_octets v (length (rest_octets v))) (rest_octets v) h

  rest : Has p fixed_size (rest_octets v)
  unfolding octets_of
  rest =
      let k : 0 + length (fixed_octets v (length (rest_octets v))) ≡ fixed_size = omega (arith, fixed_long v (length (rest_octets v))) in
      subst (λ (i : ℕ). Has p i (rest_octets v)) k (has_second (fixed_octets v (length (rest_octets v))) (rest_octets v) h)

  said : Says p v (length (rest_octets v))
  said = says p v (length (rest_octets v)) r (omega (arith, r.variable)) fixed

  long : length p ≡ fixed_size + length (rest_octets v)
  long = l ∙ octets_long v

  opens : Opens p
  opens =
      record {
        whole = omega (arith, long);
        version = omega (arith, said.first, r.sdu);
        sdu = omega (arith, said.first, r.sdu);
        long = omega (arith, long, said.variable);
      }

  start : fixed_tests p ≡ goes fixed_size
  start = tests_back p opens

  both : Has p fixed_size (variable_octets v ++ v.body)
  unfolding rest_octets
  both = rest

  field_back :
      ((optionals_f p v.has).step (goes fixed_size) ≡ goes (fixed_size + length (variable_octets v)))
      × ((optionals_f p v.has).value (goes fixed_size) ≡ pair_of v)
  field_back =
      let e = pair_form p v in
      let c = has_first (variable_octets v) v.body both in
      let a : Has p fixed_size ((optionals_f p v.has).form (pair_of v)) = rw (← e) c in
      let m : Room (bound_of p) fixed_size ((optionals_f p v.has).form (pair_of v)) =
      rw (← e) (has_inside (variable_octets v) c, omega (arith, r.variable, rest_long v)) in
      let b = (optionals_f p v.has).back fixed_size (pair_of v) (pair_fit p v r) a m in
      (b.0 ∙ ap (λ (x : List ℕ). goes (fixed_size + length x)) (sym e), b.1)

  -- by the PDU's own flags, at the reading's own start
  field_told :
      ((optionals_f p (has_of p)).step (fixed_tests p) ≡ goes (fixed_size + length (variable_octets v)))
      × ((optionals_f p (has_of p)).value (fixed_tests p) ≡ pair_of v)
  field_told =
      subst
      (λ (w : Reading).
      ((optionals_f p (has_of p)).step w ≡ goes (fixed_size + length (variable_octets v))) × ((optionals_f p (has_of p)).value w ≡ pair_of v))
      (sym start)
      (subst
      (λ (q : Present).
      ((optionals_f p q).step (goes fixed_size) ≡ goes (fixed_size + length (variable_octets v)))
      × ((optionals_f p q).value (goes fixed_size) ≡ pair_of v))
      (sym said.has)
      field_back)

  pub ended_back : ended p ≡ goes (fixed_size + length (variable_octets v))
  ended_back = sym (told_step p) ∙ field_told.0

  pub reads : read_pdu p ≡ accepted_header p
  reads = accepts p (rw ended_back refl)

  body_is : (told p).body ≡ v.body
  unfolding values_of accepted_header
  body_is =
      let x : (ended p).at ≡ fixed_size + length (variable_octets v) = ap (λ (w : Reading). w.at) ended_back in
      let y : length p - (fixed_size + length (variable_octets v)) ≡ length v.body = omega (arith, long, rest_long v) in
      rw (x, y) (part_has v.body (has_second (variable_octets v) v.body both))

  pub values_back : told p ≡ v
  unfolding values_of accepted_header fixed_of
  values_back =
      let s = said in
      same_values (told p) v (sym (told_pair p) ∙ field_told.1) (omega (arith, s.first, r.sdu)) s.area s.service s.operation s.version
      (omega (arith, s.packed, r.error, r.qos, r.session)) (omega (arith, s.packed, r.error, r.qos, r.session))
      (omega (arith, s.packed, r.error, r.qos, r.session)) s.transaction s.has s.encoding body_is
