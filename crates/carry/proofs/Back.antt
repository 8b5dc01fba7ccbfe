-- Exactly which PDUs cross back, and what is then written: the octets of the message that says what the PDU says, with the values lent.
-- Assumes nothing.
use Prim.Native.Nat.{ℕ, ◌≤◌, ◌<◌}
use mathlib.Core.Path.{◌≡◌, refl, ap, ap₂, sym, ◌∙◌, subst}
use mathlib.Core.Logic.{◌↔◌}
use mathlib.Core.Bool.{Bool, true, false, not}
use mathlib.Core.List.{List, ◌++◌}
use native.Mathlib.Omega.{arith}
use lib.ListN.{length, drop}
use lib.Dec.{eqb, leb}
use borrow.Author.Tests.{leb-true, ltb-true, eqb-true, eqb-false, not-true, eq-eqb, le-leb, lt-ltb}
use Rattle.octets.specs.Octets.{pick, Octets, most16}
use Rattle.walk.specs.declared.Settings.{Settings}
use Rattle.walk.specs.Walk.{refusal, no_refusal, none_failed}
use Rattle.packet.specs.Format.{Head, SettingsInRange, header_octets, header_most}
use Rattle.format.specs.Told.{content}
use Rattle.write.specs.Given.{head_of}
use Rattle.write.specs.Writing.{settings_test, fine}
use Rattle.write.proofs.Tests.{AllHold, unless_fine, unless_true, unless_all_fine, unless_all_true}
use Rattle.pdu.specs.declared.Header.{Header}
use Rattle.pdu.specs.Format.{Pdu, timestamp_size}
use Rattle.pdu.specs.Reading.{read_pdu}
use Rattle.pdu.specs.Told.{values_of}
use Rattle.pdu.proofs.TwoWay.{reads_back, only_writing}
use Rattle.carry.specs.declared.Route.{Route}
use Rattle.carry.specs.declared.Carried.{Carried}
use Rattle.carry.specs.Digits.{id_fits}
use Rattle.carry.specs.Message.{message_octets, timestamp_fits, parts_of, lent_of}
use Rattle.carry.specs.Back.{route_checks, route_test, value_test, message_values, message_head, size_test, not_carried}
use Rattle.carry.specs.Back.{made_answer, made_output, back_answer, back_output, to_message_answer, to_message_output}
use Rattle.carry.specs.Crossing.{head_for, RouteInRange, Returns}
use Rattle.carry.proofs.Joined.{split_together}
use Rattle.carry.proofs.Only.{settings_only}
use Rattle.carry.proofs.Written.{settings_fine}

-- what is given to the writer is the header of the PDU's message
pub given_head_lem : (l : Route) (p : List ℕ) (h : Header) → message_head l p h ≡ head_for l (values_of p h)
unfolding message_head head_of message_values lent_of head_for values_of
given_head_lem l p h = rw (split_together (parts_of p h.texts)) refl

stamp_only : (b : Bool) (t : ℕ) → pick b (eqb t timestamp_size) true ≡ true → b ≡ true → t ≡ timestamp_size
stamp_only true t h z = eqb-true _ _ h
stamp_only false t h z = let y : ◌≡◌ {A = ℕ} 0 1 = cc in absurd (omega arith)

stamp_back : (b : Bool) (t : ℕ) → (b ≡ true → t ≡ timestamp_size) → pick b (eqb t timestamp_size) true ≡ true
stamp_back true t f = eq-eqb _ _ (f refl)
stamp_back false t f = refl

-- ---- the lent values

route_only : (s : Settings) (l : Route) → fine (route_test s l) ≡ true → SettingsInRange s × RouteInRange l
unfolding route_test route_checks AllHold
route_only s l g =
    let a = unless_all_fine (route_checks l) 21 (settings_test s none_failed) g in
    let b = a.1 in (
      settings_only s a.0,
      record {
        packet_type = omega (arith, leb-true l.packet_type 1 b.0);
        apid = ltb-true l.apid.0 2047 b.1.0;
        secondary_apid = omega (arith, leb-true l.secondary_apid.0 2047 b.1.1.0);
        qualifier = omega (arith, leb-true l.qualifier most16 b.1.1.1.0);
      },
    )

route_holds : (l : Route) → RouteInRange l → AllHold (route_checks l)
unfolding route_checks AllHold
route_holds l r = (
  le-leb l.packet_type 1 (omega (arith, r.packet_type)),
  (
    lt-ltb l.apid.0 2047 r.apid,
    (
      le-leb l.secondary_apid.0 2047 (omega (arith, r.secondary_apid)),
      (le-leb l.qualifier most16 (omega (arith, r.qualifier)), tt),
    ),
  ),
)

route_fine : (s : Settings) (l : Route) → SettingsInRange s → RouteInRange l → route_test s l ≡ none_failed
unfolding route_test
route_fine s l x r = unless_all_true (route_checks l) 22 (settings_test s none_failed) (route_holds l r) ∙ settings_fine s x

-- ---- the PDU's values

-- what a packet can say
record Sayable (s : Settings) (v : Pdu) : Type 0 where
  qos : v.qos < 4
  session : v.session ≤ 2
  source : id_fits v.has.source v.source ≡ true
  destination : id_fits v.has.destination v.destination ≡ true
  timestamp : v.has.timestamp ≡ true → s.t ≡ timestamp_size
  zone : v.has.zone ≡ false

value_only : (s : Settings) (p : List ℕ) (h : Header) → fine (value_test s p h) ≡ true → Sayable s (values_of p h)
unfolding value_test values_of
value_only s p h g =
    let f = unless_fine (not h.has.zone) 29 _ g in
    let e = unless_fine (timestamp_fits s h.has) 33 _ f.before in
    let d = unless_fine (id_fits h.has.destination (content p h.ids.destination)) 32 _ e.before in
    let c = unless_fine (id_fits h.has.source (content p h.ids.source)) 32 _ d.before in
    let b = unless_fine (leb h.fixed.session 2) 34 _ c.before in
    let a = unless_fine (leb h.fixed.qos 3) 34 _ b.before in
    record {
      qos = omega (arith, leb-true h.fixed.qos 3 a.held);
      session = leb-true h.fixed.session 2 b.held;
      source = c.held;
      destination = d.held;
      timestamp = stamp_only h.has.timestamp s.t e.held;
      zone = not-true h.has.zone f.held;
    }

value_fine : (s : Settings) (p : List ℕ) (h : Header) → Sayable s (values_of p h) → value_test s p h ≡ none_failed
unfolding value_test values_of
value_fine s p h r =
    unless_true (not h.has.zone) 30 _ (ap not r.zone)
    ∙ unless_true (timestamp_fits s h.has) 34 _ (stamp_back h.has.timestamp s.t r.timestamp)
    ∙ unless_true (id_fits h.has.destination (content p h.ids.destination)) 33 _ r.destination
    ∙ unless_true (id_fits h.has.source (content p h.ids.source)) 33 _ r.source
    ∙ unless_true (leb h.fixed.session 2) 35 _ (le-leb h.fixed.session 2 r.session)
    ∙ unless_true (leb h.fixed.qos 3) 35 none_failed (le-leb h.fixed.qos 3 (omega (arith, r.qos)))

-- ---- the sizes

size_only :
    (s : Settings) (h : Head) (body : List ℕ) (room : ℕ) → fine (size_test s h body room) ≡ true →
    (length (header_octets s h) ≤ header_most) × (length (message_octets s h body) ≤ room)
unfolding size_test
size_only s h body room g =
    let b = unless_fine (leb (length (message_octets s h body)) room) 20 _ g in
    let a = unless_fine (leb (length (header_octets s h)) header_most) 11 _ b.before in
    (leb-true _ _ a.held, leb-true _ _ b.held)

size_fine :
    (s : Settings) (h : Head) (body : List ℕ) (room : ℕ) → length (header_octets s h) ≤ header_most → length (message_octets s h body) ≤ room →
    size_test s h body room ≡ none_failed
unfolding size_test
size_fine s h body room a b =
    unless_true (leb (length (message_octets s h body)) room) 21 _ (le-leb _ _ b)
    ∙ unless_true (leb (length (header_octets s h)) header_most) 12 none_failed (le-leb _ _ a)

-- ---- a test that answers

-- of two answers, one of a refusal: if there is none, it is the other
chosen : (b : Bool) (x y : Carried) → (b ≡ false → y.refusal.number ≡ 0 → ⊥) → (pick b x y).refusal.number ≡ 0 → (b ≡ true) × (x.refusal.number ≡ 0)
chosen true x y f z = (refl, z)
chosen false x y f z = absurd (f refl z)

module _ (s : Settings) (l : Route) (p : List ℕ) (room : ℕ) where
  -- nothing refused: what each test says
  record Passed : Type 0 where
    route : fine (route_test s l) ≡ true
    read : (read_pdu p).refusal.number ≡ 0
    values : fine (value_test s p (read_pdu p)) ≡ true
    sizes : fine (size_test s (message_head l p (read_pdu p)) (content p (read_pdu p).body) room) ≡ true

  passed : (to_message_answer s l p room).refusal.number ≡ 0 → Passed
  unfolding to_message_answer back_answer made_answer
  passed z =
      let a = chosen (fine (route_test s l)) _ (not_carried (refusal (route_test s l).number)) (λ q k. eqb-false _ _ q k) z in
      let b = chosen (eqb (read_pdu p).refusal.number 0) _ (not_carried (read_pdu p).refusal) (λ q k. eqb-false _ _ q k) a.1 in
      let c =
      chosen (fine (value_test s p (read_pdu p))) _ (not_carried (refusal (value_test s p (read_pdu p)).number)) (λ q k. eqb-false _ _ q k) b.1 in
      let d =
      chosen (fine (size_test s (message_head l p (read_pdu p)) (content p (read_pdu p).body) room)) _
      (not_carried (refusal (size_test s (message_head l p (read_pdu p)) (content p (read_pdu p).body) room).number)) (λ q k. eqb-false _ _ q k) c.1 in
      record { route = a.0; read = eqb-true _ _ b.0; values = c.0; sizes = d.0 }

  pub returns_only : Octets p → (to_message_answer s l p room).refusal.number ≡ 0 → Returns s l p room
  unfolding values_of
  returns_only o z =
      let k = passed z in
      let a = route_only s l k.route in
      let b = only_writing p o k.read in
      let c = value_only s p (read_pdu p) k.values in
      let d = size_only s (message_head l p (read_pdu p)) (content p (read_pdu p).body) room k.sizes in
      let e = given_head_lem l p (read_pdu p) in
      record {
        settings = a.0;
        route = a.1;
        pdu = values_of p (read_pdu p);
        octets = b.1;
        range = b.0;
        qos = c.qos;
        session = c.session;
        source = c.source;
        destination = c.destination;
        timestamp = c.timestamp;
        zone = c.zone;
        limit = subst (λ (h : Head). length (header_octets s h) ≤ header_most) e d.0;
        fits = subst (λ (h : Head). length (message_octets s h (content p (read_pdu p).body)) ≤ room) e d.1;
      }

-- ---- where nothing refuses, on plain values

to_answer :
    (s : Settings) (l : Route) (p : List ℕ) (room : ℕ) (h : Header) → h ≡ read_pdu p → h.refusal.number ≡ 0 → route_test s l ≡ none_failed →
    to_message_answer s l p room ≡ back_answer s l p h room
unfolding to_message_answer
to_answer s l p room h q z e = rw (← q, e, eq-eqb h.refusal.number 0 z) refl

to_output :
    (s : Settings) (l : Route) (p out : List ℕ) (h : Header) → h ≡ read_pdu p → h.refusal.number ≡ 0 → route_test s l ≡ none_failed →
    to_message_output s l p out ≡ back_output s l p h out
unfolding to_message_output
to_output s l p out h q z e = rw (← q, e, eq-eqb h.refusal.number 0 z) refl

back_answer_lem :
    (s : Settings) (l : Route) (p : List ℕ) (h : Header) (room : ℕ) → value_test s p h ≡ none_failed →
    back_answer s l p h room ≡ made_answer s (message_head l p h) (content p h.body) h.fixed.encoding room
unfolding back_answer
back_answer_lem s l p h room e = rw e refl

back_output_lem :
    (s : Settings) (l : Route) (p : List ℕ) (h : Header) (out : List ℕ) → value_test s p h ≡ none_failed →
    back_output s l p h out ≡ made_output s (message_head l p h) (content p h.body) out
unfolding back_output
back_output_lem s l p h out e = rw e refl

made_answer_lem :
    (s : Settings) (h : Head) (body : List ℕ) (encoding room : ℕ) → size_test s h body room ≡ none_failed →
    made_answer s h body encoding room ≡ record { refusal = no_refusal; header = length (header_octets s h); body = length body; encoding = encoding }
unfolding made_answer
made_answer_lem s h body encoding room e = rw e refl

made_output_lem :
    (s : Settings) (h : Head) (body out : List ℕ) → size_test s h body (length out) ≡ none_failed →
    made_output s h body out ≡ message_octets s h body ++ drop (length (message_octets s h body)) out
unfolding made_output
made_output_lem s h body out e = rw e refl

-- ---- a PDU that crosses

module _ (s : Settings) (l : Route) {p : List ℕ} (room : ℕ) (c : Returns s l p room) where
  abbrev pub its_head : Head
  its_head = head_for l c.pdu

  read_is : ((read_pdu p).refusal.number ≡ 0) × (values_of p (read_pdu p) ≡ c.pdu)
  read_is =
      subst (λ (x : List ℕ). ((read_pdu x).refusal.number ≡ 0) × (values_of x (read_pdu x) ≡ c.pdu)) c.octets (reads_back c.pdu c.range)

  sayable : Sayable s (values_of p (read_pdu p))
  sayable =
      subst (Sayable s) (sym read_is.1) record {
        qos = c.qos;
        session = c.session;
        source = c.source;
        destination = c.destination;
        timestamp = c.timestamp;
        zone = c.zone;
      }

  pub head_is : message_head l p (read_pdu p) ≡ its_head
  head_is = given_head_lem l p (read_pdu p) ∙ ap (head_for l) read_is.1

  pub body_is : content p (read_pdu p).body ≡ c.pdu.body
  unfolding values_of
  body_is = ap (λ (v : Pdu). v.body) read_is.1

  encoding_is : (read_pdu p).fixed.encoding ≡ c.pdu.encoding
  unfolding values_of
  encoding_is = ap (λ (v : Pdu). v.encoding) read_is.1

  -- what is answered
  pub returns_answer :
      to_message_answer s l p room
      ≡ record { refusal = no_refusal; header = length (header_octets s its_head); body = length c.pdu.body; encoding = c.pdu.encoding }
  returns_answer =
      to_answer s l p room (read_pdu p) refl read_is.0 (route_fine s l c.settings c.route)
      ∙ back_answer_lem s l p (read_pdu p) room (value_fine s p (read_pdu p) sayable)
      ∙ ap (λ (h : Head). made_answer s h (content p (read_pdu p).body) (read_pdu p).fixed.encoding room) head_is
      ∙ ap₂ (λ (b : List ℕ) (n : ℕ). made_answer s its_head b n room) body_is encoding_is
      ∙ made_answer_lem s its_head c.pdu.body c.pdu.encoding room (size_fine s its_head c.pdu.body room c.limit c.fits)

-- exactly these
pub returns_exactly :
    (s : Settings) (l : Route) (p : List ℕ) (room : ℕ) → Octets p → (to_message_answer s l p room).refusal.number ≡ 0 ↔ Returns s l p room
returns_exactly s l p room o = (returns_only s l p room o, λ c. ap (λ (r : Carried). r.refusal.number) (returns_answer s l room c))

-- what is written
pub returns_output :
    (s : Settings) (l : Route) {p : List ℕ} (out : List ℕ) (c : Returns s l p (length out)) →
    to_message_output s l p out
    ≡ message_octets s (head_for l c.pdu) c.pdu.body ++ drop (length (message_octets s (head_for l c.pdu) c.pdu.body)) out
returns_output s l {p} out c =
    to_output s l p out (read_pdu p) refl (read_is s l (length out) c).0 (route_fine s l c.settings c.route)
    ∙ back_output_lem s l p (read_pdu p) out (value_fine s p (read_pdu p) (sayable s l (length out) c))
    ∙ ap₂ (λ (h : Head) (b : List ℕ). made_output s h b out) (head_is s l (length out) c) (body_is s l (length out) c)
    ∙ made_output_lem s (head_for l c.pdu) c.pdu.body out (size_fine s (head_for l c.pdu) c.pdu.body (length out) c.limit c.fits)
