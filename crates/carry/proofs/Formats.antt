-- A message's header and its PDU, by the two formats: each says the other again, and one is in range if the other is.
-- Assumes nothing.
use Prim.Native.Nat.{ℕ, ◌+◌, ◌/◌, ◌%◌, ◌≤◌, ◌<◌}
use mathlib.Core.Path.{◌≡◌, refl, ap₂, sym, ◌∙◌}
use mathlib.Core.Logic.{⊎_elim}
use mathlib.Core.Bool.{Bool, true, false}
use mathlib.Core.List.{List, [], ◌∷◌}
use native.Mathlib.Omega.{arith}
use lib.ListN.{length}
use borrow.Author.Tests.{lt-ltb}
use Rattle.octets.specs.Octets.{Octets, most8, most32}
use Rattle.octets.proofs.Lists.{below_or}
use Rattle.utf8.specs.Text.{Text}
use Rattle.utf8.specs.Test.{all_single}
use Rattle.utf8.proofs.Single.{single_text}
use Rattle.walk.specs.declared.Settings.{Settings}
use Rattle.packet.specs.Format.{Head, Opt, HeadInRange}
use Rattle.pdu.specs.Format.{Pdu, timestamp_size, rest_octets, InRange}
use Rattle.carry.specs.declared.Route.{Route}
use Rattle.carry.specs.Digits.{digits, id_text, id_value, id_fits}
use Rattle.carry.specs.Crossing.{pdu_for, head_for, route_of, RouteInRange}
use Rattle.carry.proofs.DigitLaws.{digits_one, digits_two, digits_three, value_back, id_back, id_only}

-- ---- digits are text

one_single : (a : ℕ) → a < 0x80 → all_single (a ∷ []) ≡ true
unfolding all_single
one_single a h = rw (lt-ltb a 0x80 h) refl

two_single : (a b : ℕ) → a < 0x80 → b < 0x80 → all_single (a ∷ b ∷ []) ≡ true
unfolding all_single
two_single a b h k = rw (lt-ltb a 0x80 h, lt-ltb b 0x80 k) refl

three_single : (a b c : ℕ) → a < 0x80 → b < 0x80 → c < 0x80 → all_single (a ∷ b ∷ c ∷ []) ≡ true
unfolding all_single
three_single a b c h k l = rw (lt-ltb a 0x80 h, lt-ltb b 0x80 k, lt-ltb c 0x80 l) refl

digits_single : (n : ℕ) → n < 256 → all_single (digits n) ≡ true
digits_single n h =
    ⊎_elim
    (λ (a : n < 10). rw (digits_one n a) (one_single (48 + n) (omega arith)))
    (λ (a : 10 ≤ n).
    ⊎_elim
    (λ (b : n < 100). rw (digits_two n a b) (two_single (48 + n / 10) (48 + n % 10) (omega arith) (omega arith)))
    (λ (b : 100 ≤ n). rw (digits_three n b) (three_single (48 + n / 100) (48 + n / 10 % 10) (48 + n % 10) (omega arith) (omega arith) (omega arith)))
    (below_or n 100))
    (below_or n 10)

-- ---- an id, there and back

pub id_text_lem : (b : Bool) (n : ℕ) → Opt b (λ x. x < 256) 0 n → Opt b Text [] (id_text b n)
unfolding id_text
id_text_lem true n r = single_text (digits n) (digits_single n r)
id_text_lem false n r = refl

pub id_round : (b : Bool) (n : ℕ) → Opt b (λ x. x < 256) 0 n → id_value b (id_text b n) ≡ n
unfolding id_text id_value
id_round true n r = value_back n r
id_round false n r = sym r

pub id_fits_lem : (b : Bool) (n : ℕ) → Opt b (λ x. x < 256) 0 n → id_fits b (id_text b n) ≡ true
unfolding id_text id_fits
id_fits_lem true n r = id_back n r
id_fits_lem false n r = refl

pub id_value_lem : (b : Bool) (t : List ℕ) → id_fits b t ≡ true → Opt b (λ x. x < 256) 0 (id_value b t)
unfolding id_fits id_value
id_value_lem true t h = (id_only t h).0
id_value_lem false t h = refl

pub text_round : (b : Bool) (t : List ℕ) → id_fits b t ≡ true → Opt b Text [] t → id_text b (id_value b t) ≡ t
unfolding id_fits id_value id_text
text_round true t h r = (id_only t h).1
text_round false t h r = sym r

-- ---- a header and its PDU

module _ (e : ℕ) (h : Head) (body : List ℕ) where
  -- the same header with other ids
  abbrev with_ids : ℕ → ℕ → Head
  with_ids a b =
      record {
        packet_type = h.packet_type;
        apid = h.apid;
        sdu = h.sdu;
        area = h.area;
        service = h.service;
        operation = h.operation;
        version = h.version;
        error = h.error;
        qos = h.qos;
        session = h.session;
        secondary_apid = h.secondary_apid;
        qualifier = h.qualifier;
        transaction = h.transaction;
        has_source = h.has_source;
        has_destination = h.has_destination;
        has_priority = h.has_priority;
        has_timestamp = h.has_timestamp;
        has_zone = h.has_zone;
        has_session_name = h.has_session_name;
        has_domain = h.has_domain;
        has_authentication = h.has_authentication;
        source = a;
        destination = b;
        priority = h.priority;
        timestamp = h.timestamp;
        zone = h.zone;
        session_name = h.session_name;
        domain = h.domain;
        authentication = h.authentication;
      }

  -- a PDU of the header says it again
  pub head_back :
      Opt h.has_source (λ x. x < 256) 0 h.source → Opt h.has_destination (λ x. x < 256) 0 h.destination →
      head_for (route_of h) (pdu_for e h body) ≡ h
  unfolding head_for route_of pdu_for
  head_back a b = ap₂ with_ids (id_round h.has_source h.source a) (id_round h.has_destination h.destination b)

stamped :
    (b : Bool) (n : ℕ) (x : List ℕ) → (b ≡ true → n ≡ timestamp_size) → Opt b (λ y. (length y ≡ n) × Octets y) [] x →
    Opt b (λ y. (length y ≡ timestamp_size) × Octets y) [] x
stamped true n x f r = (r.0 ∙ f refl, r.1)
stamped false n x f r = r

unstamped :
    (b : Bool) (n : ℕ) (x : List ℕ) → (b ≡ true → n ≡ timestamp_size) → Opt b (λ y. (length y ≡ timestamp_size) × Octets y) [] x →
    Opt b (λ y. (length y ≡ n) × Octets y) [] x
unstamped true n x f r = (r.0 ∙ sym (f refl), r.1)
unstamped false n x f r = r

pub range_there :
    (s : Settings) (e : ℕ) (h : Head) (body : List ℕ) → HeadInRange s h → e ≤ most8 → (h.has_timestamp ≡ true → s.t ≡ timestamp_size) →
    Octets body → length (rest_octets (pdu_for e h body)) ≤ most32 → InRange (pdu_for e h body)
unfolding pdu_for
range_there s e h body r l t o n =
    record {
      sdu = r.sdu;
      area = r.area;
      service = r.service;
      operation = r.operation;
      version = r.version;
      error = r.error;
      qos = omega (arith, r.qos);
      session = omega (arith, r.session);
      transaction = r.transaction;
      encoding = omega arith;
      source = id_text_lem h.has_source h.source r.source;
      destination = id_text_lem h.has_destination h.destination r.destination;
      priority = r.priority;
      timestamp = stamped h.has_timestamp s.t h.timestamp t r.timestamp;
      zone = r.zone;
      session_name = r.session_name;
      domain = r.domain;
      authentication = r.authentication;
      body = o;
      variable = n;
    }

module _ (l : Route) (v : Pdu) where
  -- the same PDU with other ids
  abbrev with_texts : List ℕ → List ℕ → Pdu
  with_texts a b =
      record {
        sdu = v.sdu;
        area = v.area;
        service = v.service;
        operation = v.operation;
        version = v.version;
        error = v.error;
        qos = v.qos;
        session = v.session;
        transaction = v.transaction;
        has = v.has;
        encoding = v.encoding;
        source = a;
        destination = b;
        priority = v.priority;
        timestamp = v.timestamp;
        zone = v.zone;
        session_name = v.session_name;
        domain = v.domain;
        authentication = v.authentication;
        body = v.body;
      }

  -- a header of the PDU says it again
  pub pdu_back :
      id_fits v.has.source v.source ≡ true → id_fits v.has.destination v.destination ≡ true → InRange v →
      pdu_for v.encoding (head_for l v) v.body ≡ v
  unfolding head_for pdu_for
  pdu_back a b r =
      ap₂ with_texts (text_round v.has.source v.source a r.source) (text_round v.has.destination v.destination b r.destination)

  pub range_back :
      (s : Settings) → InRange v → RouteInRange l → v.qos < 4 → v.session ≤ 2 → id_fits v.has.source v.source ≡ true →
      id_fits v.has.destination v.destination ≡ true → (v.has.timestamp ≡ true → s.t ≡ timestamp_size) → HeadInRange s (head_for l v)
  unfolding head_for
  range_back s r k q n a b t =
      record {
        packet_type = k.packet_type;
        apid = k.apid;
        sdu = r.sdu;
        area = r.area;
        service = r.service;
        operation = r.operation;
        version = r.version;
        error = r.error;
        qos = q;
        session = n;
        secondary_apid = k.secondary_apid;
        qualifier = k.qualifier;
        transaction = r.transaction;
        source = id_value_lem v.has.source v.source a;
        destination = id_value_lem v.has.destination v.destination b;
        priority = r.priority;
        timestamp = unstamped v.has.timestamp s.t v.timestamp t r.timestamp;
        zone = r.zone;
        session_name = r.session_name;
        domain = r.domain;
        authentication = r.authentication;
      }

pub route_range : (s : Settings) (h : Head) → HeadInRange s h → RouteInRange (route_of h)
unfolding route_of
route_range s h r = record { packet_type = r.packet_type; apid = r.apid; secondary_apid = r.secondary_apid; qualifier = r.qualifier }
