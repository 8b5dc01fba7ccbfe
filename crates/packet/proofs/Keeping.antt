-- The parts of a header after a step that was refused keep it.
-- Assumes nothing.
use Prim.Native.Nat.{ℕ, ◌/◌, ◌%◌, ◌≤◌, ◌<◌}
use mathlib.Core.Path.{◌≡◌, refl, ap, sym, ◌∙◌, subst}
use mathlib.Core.List.{List}
use mathlib.Core.Bool.{Bool, true, false}
use lib.Dec.{eqb, ltb}
use lib.ListN.{length}
use borrow.Author.Tests.{lt-ltb, le-ltb}
use Rattle.octets.specs.Octets.{pick, octet_at}
use Rattle.walk.specs.declared.Settings.{Settings}
use Rattle.walk.specs.declared.Bound.{Bound}
use Rattle.walk.specs.declared.Refused.{Refused}
use Rattle.walk.specs.declared.Refused.TheVariants.{Binding, SduType, Session, EmptySegment}
use Rattle.std.specs.Prelude.{Result, Ok, Err}
use Rattle.walk.specs.Told.{told, Holds}
use Rattle.walk.specs.Walk.{Reading, goes, going, octets, check}
use Rattle.walk.specs.declared.Reader.{Reader}
use Rattle.walk.specs.Walk.{octet_field}
use Rattle.walk.specs.Read.{Refuses, Stopped, Went, Tests}
use Rattle.walk.proofs.Steps.{check_ok}
use Rattle.walk.proofs.Keeps.{Kept, kept, refuses_on, stopped_on, octets_keeps, octets_stand, check_keeps, check_stops, octet_keeps, wide_keeps, uinteger_keeps, optional_kept}
use Rattle.walk.proofs.Keeps.{field_stops, field_same, field_keeps, field_kept_at, field_kept, then_stops, test_stops}
use Rattle.fields.proofs.Steps.{block_keeps, text_keeps, blob_keeps, domain_keeps}
use Rattle.packet.specs.declared.Present.{Present}
use Rattle.packet.specs.FixedPart.{after_sdu, after_area, after_service, after_operation, after_version, fixed_end}
use Rattle.packet.specs.FixedPart.{after_session, after_secondary, after_qualifier, after_transaction, after_presence}
use Rattle.packet.specs.Reading.{primary_tests, segmented, ids_of, texts_of, body_test}

module _ (b : Bound) (p : List ℕ) {u w : Reading} where
  pub session_keeps : Kept u w → Kept u (after_session b p w)
  unfolding after_session
  session_keeps h = check_keeps _ 9 (octets_keeps b p 1 h)

  pub qualifier_keeps : Kept u w → Kept u (after_qualifier b p w)
  unfolding after_qualifier after_secondary
  qualifier_keeps h = octets_keeps b p 2 (field_kept h (octets_keeps b p 1 (session_keeps h)))

  pub transaction_keeps : Kept u w → Kept u (after_transaction b p w)
  unfolding after_transaction
  transaction_keeps h = octets_keeps b p 8 h

  pub presence_keeps : Kept u w → Kept u (after_presence b p w)
  unfolding after_presence
  presence_keeps h = octets_keeps b p 1 (transaction_keeps h)

  pub names_keep : Kept u w → Kept u (after_version b p w)
  unfolding after_version after_operation after_service after_area after_sdu
  names_keep h =
      octets_keeps b p 1 (octets_keeps b p 2 (octets_keeps b p 2 (octets_keeps b p 2 (check_keeps _ 8 (check_keeps _ 7 (octets_keeps b p 1 h))))))

module _ (b : Bound) (p : List ℕ) {u : Reading} where
  pub fixed_keeps : {w : Reading} → Kept u w → Kept u (fixed_end b p w)
  fixed_keeps h = presence_keeps b p (qualifier_keeps b p (names_keep b p h))

pub primary_keeps : (p : List ℕ) {u w : Reading} → Kept u w → Kept u (primary_tests p w)
unfolding primary_tests
primary_keeps p h = check_keeps _ 27 (check_keeps _ 5 (check_keeps _ 4 (check_keeps _ 3 (check_keeps _ 2 (check_keeps _ 1 h)))))

-- binding version and SDU type, as a reader has them
module _ {r q : Reader} {first : ℕ} {e : Refused} (w : Went (octet_field r.bound r.octets.now (goes r.at)) r q first) where
  pub binding_refused : (ltb first 32 ≡ false) × (e ≡ Binding) → Stopped e (after_sdu r.bound r.octets.now (goes r.at)) r q
  unfolding octet_field after_sdu
  binding_refused h =
      let f = ap (λ (x : ℕ). ltb x 32) w.value ∙ h.0 in
      let k = test_stops (ltb (octet_at r.octets.now r.at) 32) 7 w f (ap told h.1) refl in
      stopped_on (check_keeps _ 8 (kept k.refuses)) k

  pub type_refused : ltb first 32 ≡ true → (ltb (first % 32) 22 ≡ false) × (e ≡ SduType) → Stopped e (after_sdu r.bound r.octets.now (goes r.at)) r q
  unfolding octet_field after_sdu
  type_refused m h =
      let f = ap (λ (x : ℕ). ltb (x % 32) 22) w.value ∙ h.0 in
      let k = test_stops (ltb (octet_at r.octets.now r.at % 32) 22) 8 w f (ap told h.1) refl in
      let p = check_ok (ltb (octet_at r.octets.now r.at) 32) 7 (octets r.bound r.octets.now 1 (goes r.at)) (ap (λ (x : ℕ). ltb x 32) w.value ∙ m) in
      subst (λ (v : Reading). Stopped e (check (ltb (octet_at r.octets.now r.at % 32) 22) 8 v) r q) (sym p) k

-- error to secondary APID, one field: refused in its first octet, by its session, in its second octet
module _ (b : Bound) (p : List ℕ) (at : ℕ) where
  pub secondary_high : {e : Refused} → Refuses e (octets b p 1 (goes at)) → Refuses e (after_secondary b p (goes at))
  unfolding after_secondary after_session
  secondary_high h = field_same _ _ (octets_stand b p 1 at h.stops) h (refuses_on (octets_keeps b p 1 (check_keeps _ 9 (kept h))) h)

  pub secondary_session :
      {e : Refused} → going (octets b p 1 (goes at)) ≡ true → (ltb (octet_at p at / 8 % 4) 3 ≡ false) × (e ≡ Session) →
      Refuses e (after_secondary b p (goes at))
  unfolding after_secondary after_session
  secondary_session {e} g h =
      let k = check_stops {e = e} _ 9 (octets b p 1 (goes at)) g h.0 (ap told h.1) refl in
      field_keeps _ _ (refuses_on (octets_keeps b p 1 (kept k)) k)
      (subst (λ (x : Refused). told x ≡ record (told x) { place = pick (eqb (told x).number 6) at 0 }) (sym h.1) refl)

  pub secondary_low :
      {e d : Refused} (next : ℕ) → after_session b p (goes at) ≡ goes next → Refuses e (octets b p 1 (goes next)) →
      told d ≡ record (told e) { place = pick (eqb (told e).number 6) at 0 } → Refuses d (after_secondary b p (goes at))
  unfolding after_secondary
  secondary_low {e} next g h t = field_keeps _ _ (subst (λ (x : Reading). Refuses e (octets b p 1 x)) (sym g) h) t

-- as a reader has it: refused in its first octet, by its session, in its second octet
module _ {r q : Reader} where
  pub high_refused :
      {e : Refused} → Stopped e (octet_field r.bound r.octets.now (goes r.at)).walk r q → Stopped e (after_qualifier r.bound r.octets.now (goes r.at)) r q
  unfolding octet_field after_qualifier after_secondary after_session
  high_refused h =
      let k = octets_keeps r.bound r.octets.now 1 (check_keeps _ 9 (kept h.refuses)) in
      stopped_on (octets_keeps r.bound r.octets.now 2 (field_kept_at _ _ (octets_stand r.bound r.octets.now 1 r.at h.refuses.stops) k)) h

  module _ {high : ℕ} (w : Went (octet_field r.bound r.octets.now (goes r.at)) r q high) where
    pub session_refused : 3 ≤ high / 8 % 4 → Stopped Session (after_qualifier r.bound r.octets.now (goes r.at)) r (record q { at = r.at })
    unfolding octet_field after_qualifier after_secondary after_session
    session_refused l =
        let f = ap (λ (x : ℕ). ltb (x / 8 % 4) 3) w.value ∙ le-ltb _ _ l in
        let k = test_stops {e = Session} (ltb (octet_at r.octets.now r.at / 8 % 4) 3) 9 w f refl refl in
        let x = field_stops _ (stopped_on (octets_keeps r.bound r.octets.now 1 (kept k.refuses)) k) refl in
        stopped_on (octets_keeps r.bound r.octets.now 2 (kept x.refuses)) x

    pub low_refused :
        {t : Reader} {e d : Refused} → high / 8 % 4 < 3 → Stopped e (octet_field q.bound q.octets.now (goes q.at)).walk q t →
        told d ≡ record (told e) { place = pick (eqb (told e).number 6) r.at 0 } →
        Stopped d (after_qualifier r.bound r.octets.now (goes r.at)) r (record t { at = r.at })
    unfolding octet_field after_qualifier after_secondary after_session
    low_refused {t} {e} l h d =
        let o : octets r.bound r.octets.now 1 (goes r.at) ≡ goes q.at = w.walk in
        let m : ltb (octet_at r.octets.now r.at / 8 % 4) 3 ≡ true = ap (λ (x : ℕ). ltb (x / 8 % 4) 3) w.value ∙ lt-ltb _ _ l in
        let a : after_session r.bound r.octets.now (goes r.at) ≡ goes q.at = check_ok _ 9 _ m ∙ o in
        let s : octets q.bound q.octets.now 1 (goes q.at) ≡ octets r.bound r.octets.now 1 (after_session r.bound r.octets.now (goes r.at)) =
        (λ i. octets (w.bound i) (w.octets i).now 1 (sym a i)) in
        let x = field_stops _ (subst (λ (v : Reading). Stopped e v r t) s (then_stops w h)) d in
        stopped_on (octets_keeps r.bound r.octets.now 2 (kept x.refuses)) x

module _ (s : Settings) (b : Bound) (p : List ℕ) (has : Present) {u w : Reading} where
  pub ids_keep : (segment : Bool) → Kept u w → Kept u (ids_of s b segment has p w).walk
  unfolding ids_of
  ids_keep segment h =
      let x = optional_kept has.source 0 _ h (octet_keeps b p h) in
      let y = optional_kept has.destination 0 _ x (octet_keeps b p x) in
      let c = optional_kept segment 0 _ y (wide_keeps 4 b p y) in
      optional_kept has.priority 0 _ c (uinteger_keeps s b p c)

  pub texts_keep : Kept u w → Kept u (texts_of s b has p w).walk
  unfolding texts_of
  texts_keep h =
      let t = optional_kept has.timestamp _ _ h (block_keeps s b p s.t h) in
      let z = optional_kept has.zone _ _ t (text_keeps s b p t) in
      let n = optional_kept has.session_name _ _ z (text_keeps s b p z) in
      let d = optional_kept has.domain _ _ n (domain_keeps s b p n) in
      optional_kept has.authentication _ _ d (blob_keeps s b p d)

pub body_keeps : (p : List ℕ) {u w : Reading} → Kept u w → Kept u (body_test p w)
unfolding body_test
body_keeps p {u} {w} h = go (segmented p)
  where
    go : (k : Bool) → Kept u (pick k (check (ltb w.at (length p)) 14 w) w)
    go true = check_keeps _ 14 h
    go false = h

-- what the test of the body answers
pub body_tests :
    (p : List ℕ) (end : ℕ) (x : Result (Unit {0}) Refused) → segmented p ≡ true → Holds (ltb end (length p)) EmptySegment x →
    Tests (body_test p (goes end)) end x
unfolding body_test
body_tests p end (Ok u) g h = rw g (check_ok _ 14 (goes end) h)
body_tests p end (Err e) g h =
    let k : Refuses e (check (ltb end (length p)) 14 (goes end)) = check_stops _ 14 (goes end) refl h.0 (ap told h.1) refl in
    subst (λ (b : Bool). Refuses e (pick b (check (ltb end (length p)) 14 (goes end)) (goes end))) (sym g) k
