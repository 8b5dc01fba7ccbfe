-- From the answers of the steps to the answer of carrying a message to the office, on plain values.
-- Assumes nothing.
use Prim.Native.Nat.{ℕ, ◌≤◌}
use mathlib.Core.Path.{◌≡◌, refl, ◌∙◌}
use mathlib.Core.Logic.{⊎_elim}
use mathlib.Core.Bool.{true}
use mathlib.Core.List.{List, map}
use lib.ListN.{length}
use borrow.Author.Tests.{eq-eqb, ne_eqb, eqb-false}
use Rattle.octets.specs.Octets.{Octets}
use Rattle.octets.specs.Laying.{together}
use Rattle.octets.proofs.Lists.{bool}
use Rattle.walk.specs.declared.Settings.{Settings}
use Rattle.walk.specs.declared.Refused.{Refused}
use Rattle.walk.specs.declared.Refusal.{Refusal}
use Rattle.walk.specs.Told.{told}
use Rattle.walk.specs.Walk.{going}
use Rattle.packet.specs.Answer.{Header}
use Rattle.packet.specs.Format.{header_most}
use Rattle.packet.specs.Reading.{refused_header}
use Rattle.format.specs.Told.{content}
use Rattle.write.specs.Given.{lent}
use Rattle.pdu.specs.declared.PduValues.{PduValues}
use Rattle.pdu.specs.declared.Written.{Written}
use Rattle.pdu.specs.Writing.{write_answer, write_output}
use Rattle.carry.specs.Message.{ended, refusal_of, read_message, parts_of, lent_of}
use Rattle.carry.specs.There.{office_values, source_text, destination_text, office_answer, office_output, to_pdu_answer, to_pdu_output}
use Rattle.carry.specs.Inner.{Few}
use Rattle.carry.proofs.Parts.{message_few}
use Rattle.carry.proofs.Whole.{accepts}
use Rattle.carry.proofs.Only.{joined_small}

-- an answer that is no refusal: the reading goes on to its end
pub answered : (s : Settings) (e : ℕ) (m : List ℕ) → (read_message s e m).refusal.number ≡ 0 → going (ended s e m) ≡ true
unfolding read_message refused_header refusal_of
answered s e m h = ⊎_elim (λ q. q) (λ q. absurd (eqb-false _ _ q (rw q at h))) (bool (going (ended s e m)))

small : (s : Settings) (e : ℕ) (m : List ℕ) → Octets m → going (ended s e m) ≡ true → length (together (parts_of m (read_message s e m).texts)) ≤ header_most
small s e m o g = rw (accepts s e m g) (joined_small s e m o g)

-- what writing asks for
pub ready :
    (s : Settings) (e : ℕ) (m : List ℕ) {h : Header} → h ≡ read_message s e m → Octets m → h.refusal.number ≡ 0 →
    Few h.texts × (length (together (parts_of m h.texts)) ≤ header_most)
ready s e m {h} q o z = rw q ((message_few s e m).0, small s e m o (answered s e m (rw q at z)))

-- what was lent to the writer is what the message says
pub office :
    (e : ℕ) (m : List ℕ) (h : Header) (out : List ℕ) {v : PduValues} {source destination time zone name domain lengths id body x : List ℕ} {r : Written} →
    v ≡ office_values h e → source ≡ source_text h → destination ≡ destination_text h → time ≡ content m h.texts.timestamp →
    zone ≡ content m h.texts.zone → name ≡ content m h.texts.session_name → domain ≡ together (parts_of m h.texts) →
    lengths ≡ map length (parts_of m h.texts) → id ≡ content m h.texts.authentication → body ≡ content m h.body →
    (r ≡ write_answer v source destination (lent time zone name domain lengths id) body (length out))
    × (x ≡ write_output v source destination (lent time zone name domain lengths id) body out) →
    (r ≡ office_answer e m h (length out)) × (x ≡ office_output e m h out)
unfolding office_answer office_output lent_of
office e m h out ev es ed et ez en eo el ei eb k = rw (ev, es, ed, et, ez, en, eo, el, ei, eb) at k

module _ (s : Settings) (e : ℕ) (m : List ℕ) (out : List ℕ) {h : Header} (q : h ≡ read_message s e m) where
  pub refused_there :
      (h.refusal.number ≡ 0 → ⊥) →
      (record { refusal = h.refusal; length = 0; header = 0 } ≡ to_pdu_answer s e m (length out)) × (out ≡ to_pdu_output s e m out)
  unfolding to_pdu_answer to_pdu_output
  refused_there n = rw (← q, ne_eqb h.refusal.number 0 n) (refl, refl)

  pub written_there :
      {r : Written} {x : List ℕ} → h.refusal.number ≡ 0 → (r ≡ office_answer e m h (length out)) × (x ≡ office_output e m h out) →
      (r ≡ to_pdu_answer s e m (length out)) × (x ≡ to_pdu_output s e m out)
  unfolding to_pdu_answer to_pdu_output
  written_there z k = rw (← q, eq-eqb h.refusal.number 0 z) k

-- the refusal of reading, laid out
pub all_told :
    (s : Settings) (e : ℕ) (m out : List ℕ) (d : Refused) {n o k : ℕ} {r : Refusal} → refused_header (told d) ≡ read_message s e m →
    ((told d).number ≡ 0 → ⊥) → n ≡ (told d).number → o ≡ (told d).octets → k ≡ (told d).place → r ≡ record { number = n; octets = o; place = k } →
    (record { refusal = r; length = 0; header = 0 } ≡ to_pdu_answer s e m (length out)) × (out ≡ to_pdu_output s e m out)
unfolding refused_header
all_told s e m out d q z en eo ek er =
    let t : _ ≡ told d = er ∙ (λ i. record { number = en i; octets = eo i; place = ek i }) in
    let k = refused_there s e m out {h = refused_header (told d)} q z in
    ((λ i. record { refusal = t i; length = 0; header = 0 }) ∙ k.0, k.1)
