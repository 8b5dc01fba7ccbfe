-- There and back: with its own values lent, a message without a zone that was carried to the office returns its identification, header and
-- body unchanged; and a PDU that was carried to a message returns unchanged, with its own encoding id.
-- Assumes nothing.
use Prim.Native.Nat.{ℕ, ◌≤◌}
use mathlib.Core.Path.{◌≡◌, refl, ap, ap₂, sym, ◌∙◌, subst}
use mathlib.Core.Bool.{true, false}
use mathlib.Core.List.{List, ◌++◌}
use native.Mathlib.Omega.{arith}
use lib.ListN.{length, take, drop}
use lib.Seq.{take_at}
use Rattle.octets.specs.Octets.{Octets, most32}
use Rattle.walk.specs.declared.Settings.{Settings}
use Rattle.walk.specs.Walk.{no_refusal}
use Rattle.packet.specs.Format.{Head, header_octets, header_most}
use Rattle.pdu.specs.declared.Written.{Written}
use Rattle.pdu.specs.Format.{Pdu, timestamp_size, rest_octets, head_octets, octets_of}
use Rattle.carry.specs.declared.Route.{Route}
use Rattle.carry.specs.Digits.{id_fits}
use Rattle.carry.specs.Message.{message_octets}
use Rattle.carry.specs.There.{to_pdu_answer, to_pdu_output}
use Rattle.carry.specs.Back.{to_message_answer, to_message_output}
use Rattle.carry.specs.Crossing.{pdu_for, head_for, route_of, Crosses, Returns}
use Rattle.carry.proofs.Written.{message_plain}
use Rattle.carry.proofs.Formats.{id_fits_lem, head_back, pdu_back, range_back, route_range}
use Rattle.carry.proofs.There.{its_pdu, its_range, crosses_answer, crosses_output}
use Rattle.carry.proofs.Back.{returns_answer, returns_output}

-- the octets written, of what an output holds
front : (x out : List ℕ) (n : ℕ) → n ≡ length x → take n (x ++ drop n out) ≡ x
front x out n e = take_at x (drop n out) n (sym e)

-- ---- from a message

module _ (s : Settings) (e : ℕ) {m : List ℕ} (room : ℕ) (c : Crosses s e m room) (o : Octets m) (z : c.head.has_zone ≡ false) where
  pub same_head : head_for (route_of c.head) (its_pdu s e room c o) ≡ c.head
  same_head = head_back e c.head c.body c.range.source c.range.destination

  pub source_fits : id_fits (its_pdu s e room c o).has.source (its_pdu s e room c o).source ≡ true
  unfolding pdu_for
  source_fits = id_fits_lem c.head.has_source c.head.source c.range.source

  pub destination_fits : id_fits (its_pdu s e room c o).has.destination (its_pdu s e room c o).destination ≡ true
  unfolding pdu_for
  destination_fits = id_fits_lem c.head.has_destination c.head.destination c.range.destination

  pub body_same : (its_pdu s e room c o).body ≡ c.body
  unfolding pdu_for
  body_same = refl

  pub encoding_same : (its_pdu s e room c o).encoding ≡ e
  unfolding pdu_for
  encoding_same = refl

  pub again : message_octets s (head_for (route_of c.head) (its_pdu s e room c o)) (its_pdu s e room c o).body ≡ m
  again = ap₂ (λ (h : Head) (b : List ℕ). message_octets s h b) same_head body_same ∙ c.octets

  -- its PDU crosses back, with its own values lent
  unfoldable pub its_return : (back : ℕ) → length m ≤ back → Returns s (route_of c.head) (octets_of (its_pdu s e room c o)) back
  unfolding pdu_for
  its_return back l =
      record {
        settings = c.settings;
        route = route_range s c.head c.range;
        pdu = its_pdu s e room c o;
        octets = refl;
        range = its_range s e room c o;
        qos = c.range.qos;
        session = c.range.session;
        source = source_fits;
        destination = destination_fits;
        timestamp = c.timestamp;
        zone = z;
        limit = subst (λ (h : Head). length (header_octets s h) ≤ header_most) (sym same_head) c.limit;
        fits = let n = ap length again in omega arith;
      }

module _ (s : Settings) (e : ℕ) {m : List ℕ} (out : List ℕ) (c : Crosses s e m (length out)) (o : Octets m) where
  -- the octets that were written are the PDU
  pub written_there : take (to_pdu_answer s e m (length out)).length (to_pdu_output s e m out) ≡ octets_of (its_pdu s e (length out) c o)
  written_there =
      ap₂ take (ap (λ (r : Written). r.length) (crosses_answer s e (length out) c o)) (crosses_output s e out c o)
      ∙ front (octets_of (its_pdu s e (length out) c o)) out _ refl

  -- and so the message returns
  pub there_and_back :
      c.head.has_zone ≡ false → (back : List ℕ) → length m ≤ length back → {p : List ℕ} →
      p ≡ take (to_pdu_answer s e m (length out)).length (to_pdu_output s e m out) →
      (to_message_answer s (route_of c.head) p (length back)
      ≡ record { refusal = no_refusal; header = length (header_octets s c.head); body = length c.body; encoding = e })
      × (to_message_output s (route_of c.head) p back ≡ m ++ drop (length m) back)
  unfolding its_return
  there_and_back z back l {p} q =
      let k = its_return s e (length out) c o z (length back) l in
      let g = same_head s e (length out) c o z in
      let w = again s e (length out) c o z in
      subst
      (λ (x : List ℕ).
      (to_message_answer s (route_of c.head) x (length back)
      ≡ record { refusal = no_refusal; header = length (header_octets s c.head); body = length c.body; encoding = e })
      × (to_message_output s (route_of c.head) x back ≡ m ++ drop (length m) back))
      (sym (q ∙ written_there)) (
        returns_answer s (route_of c.head) (length back) k
            ∙ (λ i.
            record {
              refusal = no_refusal;
              header = length (header_octets s (g i));
              body = length (body_same s e (length out) c o z i);
              encoding = encoding_same s e (length out) c o z i;
            }),
        returns_output s (route_of c.head) back k ∙ ap (λ (x : List ℕ). x ++ drop (length x) back) w,
      )

-- ---- from a PDU

module _ (s : Settings) (l : Route) {p : List ℕ} (room : ℕ) (c : Returns s l p room) where
  pub same_pdu : pdu_for c.pdu.encoding (head_for l c.pdu) c.pdu.body ≡ c.pdu
  same_pdu = pdu_back l c.pdu c.source c.destination c.range

  pub stamped : (head_for l c.pdu).has_timestamp ≡ true → s.t ≡ timestamp_size
  unfolding head_for
  stamped = c.timestamp

  -- its message crosses, with its own encoding id
  unfoldable pub its_crossing :
      (there : ℕ) → length p ≤ there → Crosses s c.pdu.encoding (message_octets s (head_for l c.pdu) c.pdu.body) there
  its_crossing there n =
      let q = ap (λ (v : Pdu). length (octets_of v)) same_pdu in
      let k = ap length c.octets in
      record {
        settings = c.settings;
        encoding = omega (arith, c.range.encoding);
        head = head_for l c.pdu;
        body = c.pdu.body;
        octets = refl;
        range = range_back l c.pdu s c.range c.route c.qos c.session c.source c.destination c.timestamp;
        limit = c.limit;
        timestamp = stamped;
        variable = subst (λ (v : Pdu). length (rest_octets v) ≤ most32) (sym same_pdu) c.range.variable;
        fits = omega arith;
      }

  pub its_octets : Octets (message_octets s (head_for l c.pdu) c.pdu.body)
  its_octets =
      message_plain s (head_for l c.pdu) c.pdu.body
      (range_back l c.pdu s c.range c.route c.qos c.session c.source c.destination c.timestamp) c.limit c.range.body

  -- and so the PDU returns
  pub back_and_there :
      (out : List ℕ) → length p ≤ length out →
      (to_pdu_answer s c.pdu.encoding (message_octets s (head_for l c.pdu) c.pdu.body) (length out)
      ≡ record { refusal = no_refusal; length = length p; header = length (head_octets c.pdu) })
      × (to_pdu_output s c.pdu.encoding (message_octets s (head_for l c.pdu) c.pdu.body) out ≡ p ++ drop (length p) out)
  unfolding its_crossing
  back_and_there out n =
      let k = its_crossing (length out) n in
      let w : octets_of (its_pdu s c.pdu.encoding (length out) k its_octets) ≡ p = ap octets_of same_pdu ∙ c.octets in (
        crosses_answer s c.pdu.encoding (length out) k its_octets
            ∙ (λ i. record { refusal = no_refusal; length = length (w i); header = length (head_octets (same_pdu i)) }),
        crosses_output s c.pdu.encoding out k its_octets ∙ ap (λ (x : List ℕ). x ++ drop (length x) out) w,
      )
