-- Exactly which messages cross to the office, and what is then written: the octets of the PDU that says what the message says.
-- Assumes nothing.
use Prim.Native.Nat.{ℕ, ◌≤◌}
use mathlib.Core.Path.{◌≡◌, refl, ap, sym, ◌∙◌, subst}
use mathlib.Core.Logic.{◌↔◌, ◌⊎◌, inl, inr}
use mathlib.Core.Bool.{true, false}
use mathlib.Core.List.{List, [], ◌∷◌, ◌++◌, map}
use native.Mathlib.Omega.{arith}
use lib.ListN.{length, drop, length-append}
use lib.Dec.{eqb, leb}
use borrow.Author.Tests.{leb-true, eqb-true, eqb-false, eq-eqb}
use Rattle.octets.specs.Octets.{Octets, most32}
use Rattle.octets.specs.Laying.{together}
use Rattle.octets.proofs.Lists.{bool}
use Rattle.walk.specs.declared.Settings.{Settings}
use Rattle.walk.specs.Walk.{no_refusal}
use Rattle.packet.specs.Answer.{Header}
use Rattle.packet.specs.Format.{Head, Values, identification, header_octets}
use Rattle.format.specs.Told.{content, head_of, values_of}
use Rattle.write.specs.Given.{sum}
use Rattle.write.proofs.Tests.{unless_fine}
use Rattle.two_way.proofs.Lists.{octets_right}
use Rattle.pdu.specs.declared.Written.{Written}
use Rattle.pdu.specs.Format.{Pdu, rest_octets, head_octets, octets_of, InRange}
use Rattle.pdu.specs.Given.{pdu_of}
use Rattle.pdu.specs.Lending.{Writable}
use Rattle.pdu.specs.Writing.{write_refusal, size_tests, write_answer}
use Rattle.pdu.proofs.Exactly.{writable_answer, writable_output}
use Rattle.carry.specs.Message.{message_octets, accepted_message, read_message, parts_of, lent_of}
use Rattle.carry.specs.There.{office_values, source_text, destination_text, office_answer, office_output, to_pdu_answer, to_pdu_output}
use Rattle.carry.specs.Crossing.{pdu_for, Crosses}
use Rattle.carry.proofs.Joined.{split_together}
use Rattle.carry.proofs.Whole.{accepts}
use Rattle.carry.proofs.Only.{told, good, told_written, told_range, told_timestamp}
use Rattle.carry.proofs.Written.{whole_of, reads, values_back}
use Rattle.carry.proofs.Sent.{answered}
use Rattle.carry.proofs.Formats.{range_there}

-- what is given to the writer is the PDU of the message
pub given_pdu :
    (e : ℕ) (m : List ℕ) (h : Header) (body : List ℕ) →
    pdu_of (office_values h e) (source_text h) (destination_text h) (lent_of m h.texts) body ≡ pdu_for e (head_of m h) body
unfolding pdu_of office_values lent_of pdu_for head_of
given_pdu e m h body = rw (split_together (parts_of m h.texts)) refl

sum_together : (xs : List (List ℕ)) → sum (map length xs) ≡ length (together xs)
unfolding sum together
sum_together [] = refl
sum_together (x ∷ xs) = let a = sum_together xs in simp length-append (omega arith)

pub sum_lent : (m : List ℕ) (h : Header) → sum (lent_of m h.texts).lengths ≡ length (lent_of m h.texts).domain
unfolding lent_of
sum_lent m h = sum_together (parts_of m h.texts)

module _ (s : Settings) (e : ℕ) (m : List ℕ) (room : ℕ) where
  -- no refusal: neither of the reading nor of the writing
  both_fine :
      (to_pdu_answer s e m room).refusal.number ≡ 0 →
      ((read_message s e m).refusal.number ≡ 0) × ((office_answer e m (read_message s e m) room).refusal.number ≡ 0)
  unfolding to_pdu_answer
  both_fine z = go (bool (eqb (read_message s e m).refusal.number 0)) z
    where
      go :
          (eqb (read_message s e m).refusal.number 0 ≡ true) ⊎ (eqb (read_message s e m).refusal.number 0 ≡ false) →
          (to_pdu_answer s e m room).refusal.number ≡ 0 →
          ((read_message s e m).refusal.number ≡ 0) × ((office_answer e m (read_message s e m) room).refusal.number ≡ 0)
      go (inl q) k = (eqb-true _ _ q, rw q at k)
      go (inr q) k = absurd (eqb-false _ _ q (rw q at k))

  -- sizes that were not refused
  sizes :
      (h : Header) → (office_answer e m h room).refusal.number ≡ 0 →
      (length (rest_octets (pdu_for e (head_of m h) (content m h.body))) ≤ most32)
      × (length (octets_of (pdu_for e (head_of m h) (content m h.body))) ≤ room)
  unfolding office_answer write_answer write_refusal size_tests
  sizes h z =
      let p = pdu_of (office_values h e) (source_text h) (destination_text h) (lent_of m h.texts) (content m h.body) in
      let a = unless_fine (leb (length (octets_of p)) room) 20 _ (eq-eqb _ 0 z) in
      let b = unless_fine (leb (length (rest_octets p)) most32) 22 _ a.before in
      rw (← given_pdu e m h (content m h.body)) (leb-true (length (rest_octets p)) most32 b.held, leb-true (length (octets_of p)) room a.held)

  told_is : ((told s e m).head ≡ head_of m (accepted_message s e m)) × ((told s e m).body ≡ content m (accepted_message s e m).body)
  unfolding values_of
  told_is = (refl, refl)

  pub crosses_only : Octets m → (to_pdu_answer s e m room).refusal.number ≡ 0 → Crosses s e m room
  unfolding values_of
  crosses_only o z =
      let f = both_fine z in
      let g = answered s e m f.0 in
      let k = good s e m o g in
      let q = sizes (accepted_message s e m) (rw (accepts s e m g) at f.1) in
      record {
        settings = k.opens.settings;
        encoding = k.opens.encoding;
        head = (told s e m).head;
        body = (told s e m).body;
        octets = told_written s e m o k;
        range = told_range s e m k;
        limit = k.limit;
        timestamp = told_timestamp s e m k;
        variable = q.0;
        fits = q.1;
      }

-- ---- a message that crosses

body_octets : (s : Settings) (h : Head) (body : List ℕ) → Octets (message_octets s h body) → Octets body
unfolding message_octets
body_octets s h body o = octets_right (header_octets s h) body (octets_right (identification h) (header_octets s h ++ body) o)

accepted_zero : (s : Settings) (e : ℕ) (m : List ℕ) → (accepted_message s e m).refusal.number ≡ 0
unfolding accepted_message
accepted_zero s e m = refl

pub there_answer :
    (s : Settings) (e : ℕ) (m : List ℕ) (room : ℕ) (h : Header) → h ≡ read_message s e m → h.refusal.number ≡ 0 →
    to_pdu_answer s e m room ≡ office_answer e m h room
unfolding to_pdu_answer
there_answer s e m room h q z = rw (← q, eq-eqb h.refusal.number 0 z) refl

there_output :
    (s : Settings) (e : ℕ) (m out : List ℕ) (h : Header) → h ≡ read_message s e m → h.refusal.number ≡ 0 →
    to_pdu_output s e m out ≡ office_output e m h out
unfolding to_pdu_output
there_output s e m out h q z = rw (← q, eq-eqb h.refusal.number 0 z) refl

module _ (s : Settings) (e : ℕ) (room : ℕ) {m : List ℕ} (c : Crosses s e m room) (o : Octets m) where
  abbrev pub its_pdu : Pdu
  its_pdu = pdu_for e c.head c.body

  body_plain : Octets c.body
  body_plain = body_octets s c.head c.body (subst Octets (sym c.octets) o)

  read_is : (read_message s e m ≡ accepted_message s e m) × (told s e m ≡ whole_of c.head c.body)
  read_is =
      subst (λ (x : List ℕ). (read_message s e x ≡ accepted_message s e x) × (told s e x ≡ whole_of c.head c.body)) c.octets (
        reads s c.head c.body c.range c.limit e c.settings c.encoding body_plain c.timestamp,
        values_back s c.head c.body c.range c.limit e c.settings c.encoding body_plain c.timestamp,
      )

  abbrev given : Pdu
  given =
      pdu_of (office_values (accepted_message s e m) e) (source_text (accepted_message s e m)) (destination_text (accepted_message s e m))
      (lent_of m (accepted_message s e m).texts) (content m (accepted_message s e m).body)

  given_is : given ≡ its_pdu
  unfolding values_of
  given_is = given_pdu e m (accepted_message s e m) (content m (accepted_message s e m).body) ∙ ap (λ (v : Values). pdu_for e v.head v.body) told_same
    where
      told_same : told s e m ≡ whole_of c.head c.body
      told_same = read_is.1

  pub its_range : InRange its_pdu
  its_range = range_there s e c.head c.body c.range c.encoding c.timestamp body_plain c.variable

  writable :
      Writable (office_values (accepted_message s e m) e) (source_text (accepted_message s e m)) (destination_text (accepted_message s e m))
      (lent_of m (accepted_message s e m).texts) (content m (accepted_message s e m).body) room
  writable =
      record {
        range = subst InRange (sym given_is) its_range;
        adds = sum_lent m (accepted_message s e m);
        fits = subst (λ (v : Pdu). length (octets_of v) ≤ room) (sym given_is) c.fits;
      }

  -- what is answered
  pub crosses_answer :
      to_pdu_answer s e m room ≡ record { refusal = no_refusal; length = length (octets_of its_pdu); header = length (head_octets its_pdu) }
  unfolding office_answer
  crosses_answer =
      there_answer s e m room (accepted_message s e m) (sym read_is.0) (accepted_zero s e m)
      ∙ writable_answer _ _ _ _ _ room writable
      ∙ ap (λ (v : Pdu). record { refusal = no_refusal; length = length (octets_of v); header = length (head_octets v) }) given_is

-- exactly these
pub crosses_exactly :
    (s : Settings) (e : ℕ) (m : List ℕ) (room : ℕ) → Octets m → (to_pdu_answer s e m room).refusal.number ≡ 0 ↔ Crosses s e m room
crosses_exactly s e m room o = (crosses_only s e m room o, λ c. ap (λ (r : Written). r.refusal.number) (crosses_answer s e room c o))

-- what is written
pub crosses_output :
    (s : Settings) (e : ℕ) {m : List ℕ} (out : List ℕ) (c : Crosses s e m (length out)) (o : Octets m) →
    to_pdu_output s e m out ≡ octets_of (its_pdu s e (length out) c o) ++ drop (length (octets_of (its_pdu s e (length out) c o))) out
unfolding office_output
crosses_output s e {m} out c o =
    there_output s e m out (accepted_message s e m) (sym (read_is s e (length out) c o).0) (accepted_zero s e m)
    ∙ writable_output _ _ _ _ _ out (writable s e (length out) c o)
    ∙ ap (λ (v : Pdu). octets_of v ++ drop (length (octets_of v)) out) (given_is s e (length out) c o)
