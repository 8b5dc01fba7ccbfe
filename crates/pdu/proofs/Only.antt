-- An accepted PDU: the values that reading tells are in range, and the PDU is their octets. By the laws of the optional fields and of the
-- fixed part.
-- Assumes nothing.
use Prim.Native.Nat.{ℕ, ◌+◌, ◌-◌, ◌/◌}
use mathlib.Core.Path.{◌≡◌, refl, ap, sym, ◌∙◌, subst}
use mathlib.Core.List.{List, ◌++◌}
use mathlib.Core.Bool.{true}
use native.Mathlib.Omega.{arith}
use lib.ListN.{length, length-append}
use Rattle.octets.specs.Octets.{Octets, octet_at}
use Rattle.octets.proofs.Has.{Has, has_inside, has_both, has_all_lem, octets_part}
use Rattle.octets.proofs.Numbers.{number_top}
use Rattle.walk.specs.Walk.{Reading, goes, going}
use Rattle.packet.specs.Reading.{texts_of}
use Rattle.format.proofs.Field.{Sound, Took, took_at}
use Rattle.format.proofs.Only.{rest_has}
use Rattle.pdu.specs.Format.{Pdu, fixed_size, fixed_octets, variable_octets, rest_octets, octets_of, InRange}
use Rattle.pdu.specs.Reading.{variable_of, bound_of, fixed_tests, fixed_of, has_of, ids_of, ended, accepted_header}
use Rattle.pdu.specs.Told.{values_of}
use Rattle.pdu.proofs.Variable.{pair_of, optionals_f, pair_form}
use Rattle.pdu.proofs.FixedPart.{Says, Opens, fixed_long, stands, tests_only}

module _ (p : List ℕ) where
  -- the values that reading tells, if it tells any
  abbrev pub told : Pdu
  told = values_of p (accepted_header p)

  pub told_pair : (optionals_f p (has_of p)).value (fixed_tests p) ≡ pair_of told
  unfolding values_of accepted_header ids_of texts_of
  told_pair = refl

  pub told_step : (optionals_f p (has_of p)).step (fixed_tests p) ≡ ended p
  unfolding ids_of texts_of
  told_step = refl

  told_has : told.has ≡ has_of p
  unfolding values_of accepted_header
  told_has = refl

  pub told_says : octet_at p 0 / 32 ≡ 1 → Says p told (variable_of p)
  unfolding values_of accepted_header fixed_of
  told_says e =
      record {
        first = omega (arith, e);
        area = refl;
        service = refl;
        operation = refl;
        version = refl;
        packed = omega arith;
        transaction = refl;
        has = refl;
        encoding = refl;
        variable = refl;
      }

  sound : Sound (bound_of p) p (fixed_tests p)
  sound e = let d = tests_only p e in rw d.0 (d.1.whole, d.1.whole)

  told_took :
      Octets p → going (ended p) ≡ true →
      Took (bound_of p) p (fixed_tests p) (ended p) (variable_octets told) × (optionals_f p told.has).Fit (pair_of told)
  unfolding values_of accepted_header ids_of texts_of
  told_took o g =
      let c = (optionals_f p (has_of p)).only o (fixed_tests p) sound g in
      (subst (λ (l : List ℕ). Took (bound_of p) p (fixed_tests p) (ended p) l) (sym (pair_form p told)) c.0, c.1)

  -- what an accepted PDU gives
  pub record Good : Type 0 where
    pub opens : Opens p
    pub has : Has p fixed_size (variable_octets told)
    pub ends : (ended p).at ≡ fixed_size + length (variable_octets told)
    pub fit : (optionals_f p told.has).Fit (pair_of told)

  took_good :
      {w : Reading} (l : List ℕ) → fixed_tests p ≡ goes fixed_size → Took (bound_of p) p (fixed_tests p) w l →
      Has p fixed_size l × (w.at ≡ fixed_size + length l)
  took_good l e t =
      let x : (fixed_tests p).at ≡ fixed_size = ap (λ (w : Reading). w.at) e in
      (rw x at t.has, took_at (bound_of p) p l t ∙ ap (λ (i : ℕ). i + length l) x)

  pub good : Octets p → going (ended p) ≡ true → Good
  good o g =
      let c = told_took o g in
      let d = tests_only p c.0.went in
      let e = took_good (variable_octets told) d.0 c.0 in
      record { opens = d.1; has = e.0; ends = e.1; fit = c.1 }

  -- the body is what is left
  told_body :
      Good → Has p (fixed_size + length (variable_octets told)) told.body
      × (fixed_size + length (variable_octets told) + length told.body ≡ length p)
  unfolding values_of accepted_header
  told_body k = rest_has p (ended p).at (fixed_size + length (variable_octets told)) k.ends (has_inside (variable_octets told) k.has)

  told_rest : Good → Has p fixed_size (rest_octets told) × (fixed_size + length (rest_octets told) ≡ length p)
  unfolding rest_octets
  told_rest k =
      let b = told_body k in
      (has_both (variable_octets told) told.body k.has b.0, simp length-append (omega (arith, b.1)))

  pub told_variable : Good → length (rest_octets told) ≡ variable_of p
  told_variable k = omega (arith, (told_rest k).1, k.opens.long)

  pub told_written : Octets p → Good → octets_of told ≡ p
  unfolding octets_of
  told_written o k =
      let r = told_rest k in
      let n = told_variable k in
      let f = fixed_long told (variable_of p) in
      let s = stands p told (variable_of p) o k.opens.whole (told_says k.opens.version) in
      let h : Has p (0 + length (fixed_octets told (variable_of p))) (rest_octets told) = rw f r.0 in
      rw n
      (has_all_lem p (fixed_octets told (variable_of p) ++ rest_octets told) (has_both (fixed_octets told (variable_of p)) (rest_octets told) s h)
      (simp length-append (omega (arith, r.1))))

  told_octets : Octets p → Octets told.body
  unfolding values_of accepted_header
  told_octets o = octets_part p (ended p).at (length p - (ended p).at) o

  pub told_range : Octets p → Good → InRange told
  unfolding values_of accepted_header fixed_of
  told_range o k =
      let d = k.opens in
      let f = k.fit in
      record {
        sdu = omega (arith, d.sdu);
        area = number_top 2 p 1 o;
        service = number_top 2 p 3 o;
        operation = number_top 2 p 5 o;
        version = o 7;
        error = omega (arith, o 8);
        qos = omega arith;
        session = omega arith;
        transaction = number_top 8 p 9 o;
        encoding = o 18;
        source = f.0;
        destination = f.1.0;
        priority = f.1.1.0;
        timestamp = f.1.1.1.0;
        zone = f.1.1.1.1.0;
        session_name = f.1.1.1.1.1.0;
        domain = f.1.1.1.1.1.1.0;
        authentication = f.1.1.1.1.1.1.1;
        body = told_octets o;
        variable = let n = told_variable k in omega (arith, number_top 4 p 19 o);
      }
