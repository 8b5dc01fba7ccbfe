-- From the answers of the steps to the answer of carrying a PDU back, on plain values.
-- Assumes nothing.
use Prim.Native.Nat.{ℕ, ◌<◌}
use mathlib.Core.Path.{◌≡◌, refl, ap, sym, ◌∙◌}
use mathlib.Core.Bool.{false}
use mathlib.Core.List.{List, [], map}
use native.Mathlib.Omega.{arith}
use lib.ListN.{length, take}
use borrow.Author.Tests.{eq-eqb, ne_eqb, lt-leb}
use Rattle.octets.specs.Laying.{together}
use Rattle.walk.specs.declared.Settings.{Settings}
use Rattle.walk.specs.declared.Tested.{Tested}
use Rattle.walk.specs.Walk.{refusal, failed, unless}
use Rattle.packet.specs.Format.{Head, header_octets, header_most}
use Rattle.format.specs.Told.{content}
use Rattle.write.specs.declared.HeaderValues.{HeaderValues}
use Rattle.write.specs.Given.{lent, head_of}
use Rattle.pdu.specs.declared.Header.{Header}
use Rattle.pdu.specs.Reading.{read_pdu}
use Rattle.carry.specs.declared.Route.{Route}
use Rattle.carry.specs.declared.Carried.{Carried}
use Rattle.carry.specs.Message.{parts_of, lent_of}
use Rattle.carry.specs.Back.{route_test, value_test, message_values, message_head, size_test, not_carried, made_answer, made_output, back_answer, back_output, to_message_answer, to_message_output}
use Rattle.carry.specs.Inner.{Few, told_to}
use Rattle.carry.proofs.Joined.{split_together, domain_least}
use Rattle.carry.proofs.Parts.{pdu_few}

-- ---- a header past 256

module _ (s : Settings) (h : Head) (body : List ℕ) (n : header_most < length (header_octets s h)) where
  long_test : (room : ℕ) → size_test s h body room ≡ failed 12
  unfolding size_test unless
  long_test room = rw (lt-leb (length (header_octets s h)) header_most n) refl

  long_answer : (encoding room : ℕ) → not_carried (refusal 12) ≡ made_answer s h body encoding room
  unfolding made_answer
  long_answer encoding room = rw (long_test room) refl

  long_output : (out : List ℕ) → out ≡ made_output s h body out
  unfolding made_output
  long_output out = rw (long_test (length out)) refl

-- ---- of a PDU that was read

module _ (s : Settings) (l : Route) (p : List ℕ) (h : Header) (out : List ℕ) where
  pub refused_values :
      {r : Tested} → r ≡ value_test s p h → (r.number ≡ 0 → ⊥) →
      (not_carried (refusal r.number) ≡ back_answer s l p h (length out)) × (out ≡ back_output s l p h out)
  unfolding back_answer back_output
  refused_values {r} e n = rw (← e, ne_eqb r.number 0 n) (refl, refl)

  -- the head's domain is the parts
  head_domain : (message_head l p h).domain ≡ parts_of p h.texts
  unfolding message_head head_of lent_of
  head_domain = split_together (parts_of p h.texts)

  head_has : (message_head l p h).has_domain ≡ h.has.domain
  unfolding message_head head_of message_values
  head_has = refl

  no_parts_lem : (h.has.domain ≡ false → h.texts.count ≡ 0) → (message_head l p h).has_domain ≡ false → (message_head l p h).domain ≡ []
  no_parts_lem f e = head_domain ∙ ap (λ (n : ℕ). map (content p) (take n h.texts.parts)) (f (sym head_has ∙ e))

  too_long_lem :
      {total : ℕ} → (h.has.domain ≡ false → h.texts.count ≡ 0) → total ≡ told_to (length (together (parts_of p h.texts))) → 256 < total →
      header_most < length (header_octets s (message_head l p h))
  too_long_lem f e n =
      let a = domain_least s (message_head l p h) (no_parts_lem f) in
      let b = ap (λ (x : List (List ℕ)). length (together x)) head_domain in
      omega arith

  pub refused_long :
      {r : Tested} {total : ℕ} → r ≡ value_test s p h → r.number ≡ 0 → (h.has.domain ≡ false → h.texts.count ≡ 0) →
      total ≡ told_to (length (together (parts_of p h.texts))) → 256 < total →
      (not_carried (refusal 12) ≡ back_answer s l p h (length out)) × (out ≡ back_output s l p h out)
  unfolding back_answer back_output
  refused_long {r} {total} e z f t n =
      let k = too_long_lem f t n in
      rw (← e, eq-eqb r.number 0 z)
      (long_answer s (message_head l p h) (content p h.body) k h.fixed.encoding (length out), long_output s (message_head l p h) (content p h.body) k out)

  -- what was lent to the writer is what the PDU says
  pub made :
      {r : Tested} {v : HeaderValues} {time zone name domain lengths id body x : List ℕ} {q : Carried} → r ≡ value_test s p h → r.number ≡ 0 →
      v ≡ message_values l p h → time ≡ content p h.texts.timestamp → zone ≡ content p h.texts.zone →
      name ≡ content p h.texts.session_name → domain ≡ together (parts_of p h.texts) → lengths ≡ map length (parts_of p h.texts) →
      id ≡ content p h.texts.authentication → body ≡ content p h.body →
      (q ≡ made_answer s (head_of v (lent time zone name domain lengths id)) body h.fixed.encoding (length out))
      × (x ≡ made_output s (head_of v (lent time zone name domain lengths id)) body out) →
      (q ≡ back_answer s l p h (length out)) × (x ≡ back_output s l p h out)
  unfolding back_answer back_output message_head lent_of
  made {r} e z ev et ez en eo el ei eb k =
      let j = rw (ev, et, ez, en, eo, el, ei, eb) at k in
      rw (← e, eq-eqb r.number 0 z) j

-- ---- all of it

module _ (s : Settings) (l : Route) (p : List ℕ) (out : List ℕ) where
  pub refused_route :
      {r : Tested} → r ≡ route_test s l → (r.number ≡ 0 → ⊥) →
      (not_carried (refusal r.number) ≡ to_message_answer s l p (length out)) × (out ≡ to_message_output s l p out)
  unfolding to_message_answer to_message_output
  refused_route {r} e n = rw (← e, ne_eqb r.number 0 n) (refl, refl)

  module _ {r : Tested} {h : Header} (e : r ≡ route_test s l) (z : r.number ≡ 0) (q : h ≡ read_pdu p) where
    pub refused_pdu :
        (h.refusal.number ≡ 0 → ⊥) → (not_carried h.refusal ≡ to_message_answer s l p (length out)) × (out ≡ to_message_output s l p out)
    unfolding to_message_answer to_message_output
    refused_pdu n = rw (← e, ← q, eq-eqb r.number 0 z, ne_eqb h.refusal.number 0 n) (refl, refl)

    pub carried_back :
        {c : Carried} {x : List ℕ} → h.refusal.number ≡ 0 → (c ≡ back_answer s l p h (length out)) × (x ≡ back_output s l p h out) →
        (c ≡ to_message_answer s l p (length out)) × (x ≡ to_message_output s l p out)
    unfolding to_message_answer to_message_output
    carried_back y k = rw (← e, ← q, eq-eqb r.number 0 z, eq-eqb h.refusal.number 0 y) k

pub pdu_ready : (p : List ℕ) {h : Header} → h ≡ read_pdu p → Few h.texts × (h.has.domain ≡ false → h.texts.count ≡ 0)
pdu_ready p q = rw q (pdu_few p)
