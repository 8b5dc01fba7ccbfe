-- The writer accepts exactly the values in range whose domain lengths add up, if there is room; and then it writes their octets.
-- Assumes nothing.
use Prim.Native.Nat.{ℕ, ◌≤◌}
use mathlib.Core.Path.{◌≡◌, refl, ap, ◌∙◌}
use mathlib.Core.Logic.{◌↔◌}
use mathlib.Core.List.{List, ◌++◌}
use lib.ListN.{length, drop}
use lib.Dec.{leb}
use borrow.Author.Tests.{leb-true, le-leb, eq-eqb}
use Rattle.octets.specs.Octets.{most32}
use Rattle.walk.specs.declared.Tested.{Tested}
use Rattle.walk.specs.Walk.{none_failed, no_refusal}
use Rattle.fields.specs.Fields.{parts_most}
use Rattle.fields.specs.Form.{split}
use Rattle.write.specs.Given.{Lent}
use Rattle.write.proofs.Tests.{unless_fine, unless_true, unless_all_fine, unless_all_true}
use Rattle.two_way.proofs.Fits.{opt_parts}
use Rattle.pdu.specs.declared.PduValues.{PduValues}
use Rattle.pdu.specs.Format.{Pdu, rest_octets, head_octets, octets_of}
use Rattle.pdu.specs.Given.{pdu_of, value_checks, word_checks}
use Rattle.pdu.specs.Lending.{Lends, Writable}
use Rattle.pdu.specs.Writing.{value_refusal, size_tests, write_refusal, write_answer, write_output}
use Rattle.pdu.proofs.Fits.{checks_sum, checks_range, range_checks, range_words}

module _ (v : PduValues) (source destination : List ℕ) (t : Lent) (body : List ℕ) (room : ℕ) where
  abbrev whole : Pdu
  whole = pdu_of v source destination t body

  -- what is accepted can be written
  pub accepted_writable :
      Lends v source destination t body → (write_refusal v source destination t body room).number ≡ 0 → Writable v source destination t body room
  unfolding write_refusal size_tests value_refusal
  accepted_writable p z =
      let a = unless_fine (leb (length (octets_of whole)) room) 20 _ (eq-eqb (write_refusal v source destination t body room).number 0 z) in
      let b = unless_fine (leb (length (rest_octets whole)) most32) 22 _ a.before in
      let u =
      unless_all_fine (word_checks source destination t.zone t.session_name (split t.lengths t.domain)) 27 _ b.before in
      let e = unless_fine (leb (length t.lengths) parts_most) 12 _ u.0 in
      let g = unless_all_fine (value_checks v source destination t) 21 _ e.before in
      record {
        range =
            checks_range v source destination t g.1 body u.1 (leb-true (length t.lengths) parts_most e.held) p.octets
            p.transaction (leb-true (length (rest_octets whole)) most32 b.held);
        adds = checks_sum v source destination t g.1;
        fits = leb-true (length (octets_of whole)) room a.held;
      }

  -- what can be written is accepted
  module _ (k : Writable v source destination t body room) where
    parts_check : length t.lengths ≤ parts_most
    unfolding pdu_of
    parts_check = opt_parts t.lengths t.domain k.adds v.has.domain k.range.domain

    pub writable_fine : write_refusal v source destination t body room ≡ none_failed
    unfolding write_refusal size_tests value_refusal
    writable_fine =
        unless_true (leb (length (octets_of whole)) room) 21 _ (le-leb (length (octets_of whole)) room k.fits)
        ∙ unless_true (leb (length (rest_octets whole)) most32) 23 _ (le-leb (length (rest_octets whole)) most32 k.range.variable)
        ∙ unless_all_true (word_checks source destination t.zone t.session_name (split t.lengths t.domain)) 28 _
        (range_words v source destination t body k.range k.adds)
        ∙ unless_true (leb (length t.lengths) parts_most) 13 _ (le-leb (length t.lengths) parts_most parts_check)
        ∙ unless_all_true (value_checks v source destination t) 22 _ (range_checks v source destination t body k.range k.adds)

    pub writable_answer :
        write_answer v source destination t body room
        ≡ record { refusal = no_refusal; length = length (octets_of whole); header = length (head_octets whole) }
    unfolding write_answer
    writable_answer = rw writable_fine refl

  -- so, of arguments as a call has them, exactly what can be written
  pub writes_exactly :
      Lends v source destination t body →
      (write_refusal v source destination t body room).number ≡ 0 ↔ Writable v source destination t body room
  writes_exactly p = (accepted_writable p, λ k. ap (λ (r : Tested). r.number) (writable_fine k))

pub writable_output :
    (v : PduValues) (source destination : List ℕ) (t : Lent) (body out : List ℕ) → Writable v source destination t body (length out) →
    write_output v source destination t body out
    ≡ octets_of (pdu_of v source destination t body) ++ drop (length (octets_of (pdu_of v source destination t body))) out
unfolding write_output
writable_output v source destination t body out k = rw (writable_fine v source destination t body (length out) k) refl
