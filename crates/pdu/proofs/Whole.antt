-- A PDU, from its tests and the steps of a reader.
-- Assumes nothing.
use Prim.Native.Nat.{ℕ, ◌+◌, ◌-◌, ◌/◌, ◌%◌, ◌<◌}
use mathlib.Core.Path.{◌≡◌, refl, ap, sym, ◌∙◌, subst}
use mathlib.Core.Bool.{Bool, true, false}
use mathlib.Core.List.{List}
use native.Mathlib.Omega.{arith}
use lib.Dec.{eqb, ltb, leb}
use lib.ListN.{length}
use borrow.Author.Tests.{le-leb, lt-leb}
use Rattle.std.specs.Prelude.{Result, Ok, Err}
use Rattle.octets.specs.Octets.{pick, octet_at, number}
use Rattle.walk.specs.declared.Settings.{Settings}
use Rattle.walk.specs.declared.Bound.{Bound}
use Rattle.walk.specs.declared.Reader.{Reader}
use Rattle.walk.specs.declared.Refused.{Refused}
use Rattle.walk.specs.declared.Refused.TheVariants.{FewOctets, Binding, SduType, Short, Long}
use Rattle.walk.specs.declared.Refusal.{Refusal}
use Rattle.walk.specs.Told.{told}
use Rattle.walk.specs.Walk.{Reading, Step, goes, refused, going, check}
use Rattle.walk.specs.Read.{tells, Refuses, Stopped, Went}
use Rattle.walk.proofs.Keeps.{Kept, kept, refuses_on, refused_as, uinteger_keeps, optional_kept}
use Rattle.fields.specs.Fields.{place}
use Rattle.fields.proofs.Steps.{text_keeps}
use Rattle.packet.specs.declared.Present.{Present}
use Rattle.packet.specs.declared.Texts.{Texts}
use Rattle.packet.specs.FixedPart.{flags_of}
use Rattle.packet.specs.Reading.{texts_of}
use Rattle.packet.proofs.Chain.{then_went, then_stopped}
use Rattle.packet.proofs.Keeping.{texts_keep}
use Rattle.pdu.specs.declared.Fixed.{Fixed}
use Rattle.pdu.specs.declared.Ids.{Ids}
use Rattle.pdu.specs.declared.Decoded.{Decoded}
use Rattle.pdu.specs.Format.{pdu_settings}
use Rattle.pdu.specs.Reading.{variable_of, wanted, bound_of, fixed_tests, fixed_of, has_of, ids_of, ids_at, texts_at, ended, refusal_of}
use Rattle.pdu.specs.Reading.{refused_header, accepted_header, read_pdu}
use Rattle.pdu.specs.Inner.{ids_step, Judges}
use Rattle.pdu.specs.Decoded.{decoded, whole}

-- where the reading goes on to its end, the answer is the header
pub accepts : (p : List ℕ) → going (ended p) ≡ true → read_pdu p ≡ accepted_header p
unfolding read_pdu
accepts p h = rw h

-- ---- the fixed part, by which of its tests fails first

-- refused by k, and this refusal tells so
judged :
    (p : List ℕ) (e d : Refused) (k : ℕ) → fixed_tests p ≡ refused 23 k → told d ≡ tells (refused 23 k) → eqb k 0 ≡ false →
    told e ≡ refusal_of p (refused 23 k) → Judges p (Err e)
judged p e d k h n z t = (t ∙ ap (refusal_of p) (sym h), (d, refused_as _ h n z))

pub few : (p : List ℕ) {e : Refused} → (leb 23 (length p) ≡ false) × (e ≡ FewOctets) → Judges p (Err e)
unfolding fixed_tests check refusal_of
few p h = judged p _ FewOctets 1 (rw h.0 refl) refl refl (ap told h.1)

-- x is the first octet, w the octets that the fixed part tells
module _ (p : List ℕ) {x : ℕ} (ex : x ≡ octet_at p 0) (a : leb 23 (length p) ≡ true) where
  pub version : {e : Refused} → (eqb (x / 32) 1 ≡ false) × (e ≡ Binding) → Judges p (Err e)
  unfolding fixed_tests check refusal_of
  version h = judged p _ Binding 7 (rw (a, ← ex, h.0) refl) refl refl (ap told h.1)

  module _ (v : eqb (x / 32) 1 ≡ true) where
    pub sdu_type : {e : Refused} → (ltb (x % 32) 22 ≡ false) × (e ≡ SduType) → Judges p (Err e)
    unfolding fixed_tests check refusal_of
    sdu_type h = judged p _ SduType 8 (rw (a, ← ex, v, h.0) refl) refl refl (ap told h.1)

    module _ (f : ltb (x % 32) 22 ≡ true) {w : ℕ} (ew : w ≡ variable_of p) where
      pub short : length p < 23 + w → Judges p (Err (Short (23 + w - length p)))
      unfolding fixed_tests check refusal_of
      short h =
          judged p (Short (23 + w - length p)) (Short 0) 5 (rw (a, ← ex, ← ew, v, f, lt-leb (23 + w) (length p) h) refl) refl refl
          (ap (λ (k : ℕ). told (Short (23 + k - length p))) ew)

      pub long : 23 + w < length p → Judges p (Err (Long (length p - (23 + w))))
      unfolding fixed_tests check refusal_of
      long h =
          judged p (Long (length p - (23 + w))) (Long 0) 27
          (rw (a, ← ex, ← ew, v, f, le-leb (23 + w) (length p) (omega arith), lt-leb (length p) (23 + w) h) refl) refl refl
          (ap (λ (k : ℕ). told (Long (length p - (23 + k)))) ew)

      pub fitting : 23 + w ≡ length p → Judges p (Ok tt)
      unfolding fixed_tests check
      fitting h = (
        rw (a, ← ex, ← ew, v, f, le-leb (23 + w) (length p) (omega arith), le-leb (length p) (23 + w) (omega arith)) refl,
        ap (λ (k : ℕ). 23 + k) (sym ew) ∙ h,
      )

-- ---- the PDU

-- what a refused walk's refusal tells of the PDU
told_in : List ℕ → Refusal → Refusal
told_in p t =
    record {
      number = t.number;
      octets = pick (eqb t.number 5) (wanted p - length p) (pick (eqb t.number 27) (length p - wanted p) 0);
      place = t.place;
    }

refusal_is : (p : List ℕ) (w : Reading) → refusal_of p w ≡ told_in p (tells w)
unfolding refusal_of told_in
refusal_is p w = refl

-- a PDU that is as long as it says has no octets missing or left over
no_octets : (b c : Bool) (w l : ℕ) → w ≡ l → 0 ≡ pick b (w - l) (pick c (l - w) 0)
no_octets true c w l h = omega arith
no_octets false true w l h = omega arith
no_octets false false w l h = refl

ids_keep :
    (s : Settings) (b : Bound) (p : List ℕ) (has : Present) {u w : Reading} → Kept u w → Kept u (ids_step s b has p w).walk
ids_keep s b p has h =
    let x = optional_kept has.source _ _ h (text_keeps s b p h) in
    let y = optional_kept has.destination _ _ x (text_keeps s b p x) in
    optional_kept has.priority 0 _ y (uinteger_keeps s b p y)

module _ (p : List ℕ) where
  ids_same : (has : Present) (w : Reading) → ids_of has p w ≡ ids_step pdu_settings (bound_of p) has p w
  unfolding ids_of
  ids_same has w = refl

  refuses_whole : (e : Refused) → going (ended p) ≡ false → told e ≡ refusal_of p (ended p) → decoded (Err e) ≡ read_pdu p
  unfolding read_pdu
  refuses_whole e h t = ap refused_header t ∙ rw h refl

  pub fixed_refused : (e : Refused) → Judges p (Err e) → decoded (Err e) ≡ read_pdu p
  unfolding ids_of
  fixed_refused e h =
      let d = h.1.1 in
      let k = refuses_on (texts_keep pdu_settings (bound_of p) p (has_of p) (ids_keep pdu_settings (bound_of p) p (has_of p) (kept d))) d in
      refuses_whole e k.stops (h.0 ∙ refusal_is p (fixed_tests p) ∙ ap (told_in p) (sym d.tells ∙ k.tells) ∙ sym (refusal_is p (ended p)))

  -- a field that was refused
  module _ (j : Judges p (Ok tt)) where
    field_refused : (e : Refused) → Refuses e (ended p) → decoded (Err e) ≡ read_pdu p
    unfolding told_in
    field_refused e k =
        let o : (told e).octets ≡ (told_in p (told e)).octets =
        ap (λ (x : Refusal). x.octets) k.tells ∙ no_octets (eqb (told e).number 5) (eqb (told e).number 27) (wanted p) (length p) j.1 in
        refuses_whole e k.stops ((λ i. record (told e) { octets = o i }) ∙ ap (told_in p) k.tells ∙ sym (refusal_is p (ended p)))

    -- the steps of a reader, whose settings and bound are a PDU's, from after the fixed part
    module _ (r : Reader) (ep : r.octets.now ≡ p) (ea : r.at ≡ 23) (es : r.settings ≡ pdu_settings) (eb : r.bound ≡ bound_of p) {has : Present} (eh : has ≡ has_of p) where
      abbrev ids_in : Settings → Bound → List ℕ → Reading → Step Ids
      ids_in s b q = ids_step s b has q

      abbrev texts_in : Settings → Bound → List ℕ → Reading → Step Texts
      texts_in s b q = texts_of s b has q

      abbrev I : Step Ids
      I = ids_in r.settings r.bound r.octets.now (goes r.at)

      abbrev T : Step Texts
      T = texts_in r.settings r.bound r.octets.now I.walk

      ids_is : I ≡ ids_at p
      ids_is =
          (λ i. ids_step (es i) (eb i) (eh i) (ep i) (goes (ea i))) ∙ sym (ids_same (has_of p) (goes 23))
          ∙ ap (ids_of (has_of p) p) (sym j.0)

      texts_is : T ≡ texts_at p
      texts_is = λ i. texts_of (es i) (eb i) (eh i) (ep i) (ids_is i).walk

      pub ids_refused : (e : Refused) {q : Reader} → Stopped e I.walk r q → decoded (Err e) ≡ read_pdu p
      ids_refused e h =
          let k : Refuses e (ids_at p).walk = subst (λ (x : Step Ids). Refuses e x.walk) ids_is h.refuses in
          field_refused e (refuses_on (texts_keep pdu_settings (bound_of p) p (has_of p) (kept k)) k)

      module _ {q : Reader} {i : Ids} (x : Went I r q i) where
        pub texts_refused :
            (e : Refused) {t : Reader} → Stopped e (texts_in q.settings q.bound q.octets.now (goes q.at)).walk q t → decoded (Err e) ≡ read_pdu p
        texts_refused e h =
            field_refused e (subst (λ (y : Step Texts). Refuses e y.walk) texts_is (then_stopped texts_in x h).refuses)

        pub header_whole :
            {u : Reader} {t : Texts} {f : Fixed} {n l : ℕ} → Went (texts_in q.settings q.bound q.octets.now (goes q.at)) q u t → f ≡ fixed_of p →
            n ≡ variable_of p → l ≡ length p - u.at →
            decoded (Ok (record { fixed = f; has = has; ids = i; texts = t; variable = n; body = place u.at l })) ≡ read_pdu p
        unfolding accepted_header
        header_whole {u} {t} {f} {n} {l} y ef en el =
            let z = then_went texts_in x y in
            let w : ended p ≡ goes u.at = ap (λ (s : Step Texts). s.walk) (sym texts_is) ∙ z.walk in
            let same : _ ≡ accepted_header p =
            λ k.
            record {
              refusal = record { number = 0; octets = 0; place = 0 };
              fixed = ef k;
              has = eh k;
              ids = (sym x.value ∙ ap (λ (s : Step Ids). s.value) ids_is) k;
              texts = (sym z.value ∙ ap (λ (s : Step Texts). s.value) texts_is) k;
              variable = en k;
              body = place (sym w k).at ((el ∙ ap (λ (v : Reading). length p - v.at) (sym w)) k);
            } in
            same ∙ sym (accepts p (ap going w))
