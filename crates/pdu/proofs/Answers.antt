-- From the sizes and tests of the code to the answer and the output of writing a PDU, on plain values.
-- Assumes nothing.
use Prim.Native.Nat.{ℕ, ◌+◌, ◌≤◌}
use mathlib.Core.Path.{◌≡◌, refl, ap, sym, ◌∙◌}
use mathlib.Core.Logic.{⊎_elim}
use mathlib.Core.Bool.{Bool, true, false}
use mathlib.Core.List.{List, ◌++◌}
use native.Mathlib.Omega.{arith}
use native.Mathlib.Nat.{zero-add}
use lib.ListN.{length, drop, length-append}
use lib.Seq.{sets, sets-eq}
use lib.Dec.{leb}
use borrow.Author.Tests.{leb-true, le-leb, lt-leb, eq-eqb, ne_eqb}
use Rattle.octets.specs.Octets.{pick, most32}
use Rattle.octets.specs.Laying.{laid, together, Lays}
use Rattle.octets.proofs.Lists.{below_or}
use Rattle.octets.proofs.Laying.{lays_all}
use Rattle.walk.specs.declared.Tested.{Tested}
use Rattle.walk.specs.Walk.{refusal, unless}
use Rattle.write.specs.Given.{Lent}
use Rattle.write.specs.Writing.{fine}
use Rattle.write.proofs.Tests.{unless_fine}
use Rattle.write.proofs.Answers.{unless_same}
use Rattle.pdu.specs.declared.PduValues.{PduValues}
use Rattle.pdu.specs.Format.{Pdu, variable_octets, rest_octets, head_octets, octets_of}
use Rattle.pdu.specs.Given.{pdu_of}
use Rattle.pdu.specs.Writing.{value_refusal, size_tests, write_refusal, write_answer, write_output}
use Rattle.pdu.specs.Inner.{pdu_pieces, small, variable_size}
use Rattle.pdu.proofs.FixedPart.{fixed_long}
use Rattle.pdu.proofs.Back.{octets_long, rest_long}
use Rattle.pdu.proofs.Pieces.{pdu_together, variable_size_lem}

below_cap : (n : ℕ) → leb (small n) most32 ≡ leb n most32
below_cap n =
    ⊎_elim
    (λ k. lt-leb (small n) most32 (omega arith) ∙ sym (lt-leb n most32 k))
    (λ k. le-leb (small n) most32 (omega arith) ∙ sym (le-leb n most32 k))
    (below_or most32 n)

cap_left : (a b : ℕ) → small (small a + b) ≡ small (a + b)
cap_left a b = omega arith

head_long : (v : Pdu) → length (head_octets v) ≡ 23 + length (variable_octets v)
unfolding head_octets
head_long v = simp (length-append, fixed_long)

module _ (v : PduValues) (source destination : List ℕ) (t : Lent) (body : List ℕ) {variable rest : ℕ}
    (ev : variable ≡ variable_size v source destination t)
    (er : rest ≡ small (variable + length body)) where
  abbrev whole : Pdu
  whole = pdu_of v source destination t body

  body_is : whole.body ≡ body
  unfolding pdu_of
  body_is = refl

  variable_is : variable ≡ small (length (variable_octets whole))
  variable_is = ev ∙ variable_size_lem v source destination t body

  rest_is : rest ≡ small (length (rest_octets whole))
  rest_is =
      er ∙ ap (λ (n : ℕ). small (n + length body)) variable_is ∙ cap_left (length (variable_octets whole)) (length body)
      ∙ ap small (ap (λ (l : List ℕ). length (variable_octets whole) + length l) (sym body_is) ∙ sym (rest_long whole))

  -- the tests on sizes are the definition's
  module _ (room : ℕ) {r q : Tested} (et : r ≡ value_refusal v source destination t)
      (eq : q ≡ unless (leb (23 + rest) room) 21 (unless (leb rest most32) 23 r)) where
    large_test : leb rest most32 ≡ leb (length (rest_octets whole)) most32
    large_test = ap (λ (n : ℕ). leb n most32) rest_is ∙ below_cap (length (rest_octets whole))

    abbrev inner : Tested
    inner = unless (leb (length (rest_octets whole)) most32) 23 r

    -- where nothing refused before 21, the sizes are told exactly
    exact : fine inner ≡ true → rest ≡ length (rest_octets whole)
    exact g =
        let a = unless_fine (leb (length (rest_octets whole)) most32) 22 r g in
        let l = leb-true (length (rest_octets whole)) most32 a.held in
        omega (arith, rest_is)

    room_test : fine inner ≡ true → leb (23 + rest) room ≡ leb (length (octets_of whole)) room
    room_test g = ap (λ (n : ℕ). leb (23 + n) room) (exact g) ∙ ap (λ (n : ℕ). leb n room) (sym (octets_long whole))

    pub refusal_is : q ≡ write_refusal v source destination t body room
    unfolding write_refusal size_tests
    refusal_is =
        eq ∙ rw large_test (unless_same 21 inner room_test)
        ∙ ap (λ (x : Tested). unless (leb (length (octets_of whole)) room) 21 (unless (leb (length (rest_octets whole)) most32) 23 x)) et

    -- where nothing refused at all
    pub record Fits : Type 0 where
      pub rest_exact : rest ≡ length (rest_octets whole)
      pub variable_exact : variable ≡ length (variable_octets whole)
      pub fits_room : length (octets_of whole) ≤ room

    pub fits : q.number ≡ 0 → Fits
    unfolding write_refusal size_tests
    fits z =
        let g : fine (write_refusal v source destination t body room) ≡ true = ap fine (sym refusal_is) ∙ eq-eqb q.number 0 z in
        let a = unless_fine (leb (length (octets_of whole)) room) 20 _ g in
        let i : fine inner ≡ true =
        ap (λ (x : Tested). fine (unless (leb (length (rest_octets whole)) most32) 23 x)) et ∙ a.before in
        let b = unless_fine (leb (length (rest_octets whole)) most32) 22 r i in
        let l = leb-true (length (rest_octets whole)) most32 b.held in
        record {
          rest_exact = exact i;
          variable_exact = omega (arith, variable_is, rest_long whole);
          fits_room = leb-true (length (octets_of whole)) room a.held;
        }

    pub refused_answer :
        (q.number ≡ 0 → ⊥) → record { refusal = refusal q.number; length = 0; header = 0 } ≡ write_answer v source destination t body room
    unfolding write_answer
    refused_answer n =
        let f : fine (write_refusal v source destination t body room) ≡ false = ap fine (sym refusal_is) ∙ ne_eqb q.number 0 n in
        λ i.
        record {
          refusal = refusal (refusal_is i).number;
          length = ap (λ (x : Bool). pick x (length (octets_of whole)) 0) (sym f) i;
          header = ap (λ (x : Bool). pick x (length (head_octets whole)) 0) (sym f) i;
        }

    pub written_answer :
        q.number ≡ 0 → record { refusal = refusal 0; length = 23 + rest; header = 23 + variable } ≡ write_answer v source destination t body room
    unfolding write_answer
    written_answer z =
        let f : fine (write_refusal v source destination t body room) ≡ true = ap fine (sym refusal_is) ∙ eq-eqb q.number 0 z in
        let n : 0 ≡ (write_refusal v source destination t body room).number = sym z ∙ ap (λ (x : Tested). x.number) refusal_is in
        let k = fits z in
        let a : 23 + rest ≡ length (octets_of whole) = ap (λ (j : ℕ). 23 + j) k.rest_exact ∙ sym (octets_long whole) in
        let b : 23 + variable ≡ length (head_octets whole) = ap (λ (j : ℕ). 23 + j) k.variable_exact ∙ sym (head_long whole) in
        λ i.
        record {
          refusal = refusal (n i);
          length = (a ∙ ap (λ (x : Bool). pick x (length (octets_of whole)) 0) (sym f)) i;
          header = (b ∙ ap (λ (x : Bool). pick x (length (head_octets whole)) 0) (sym f)) i;
        }

  module _ (out : List ℕ) {r q : Tested} (et : r ≡ value_refusal v source destination t)
      (eq : q ≡ unless (leb (23 + rest) (length out)) 21 (unless (leb rest most32) 23 r)) where
    pub refused_output : (q.number ≡ 0 → ⊥) → out ≡ write_output v source destination t body out
    unfolding write_output
    refused_output n =
        let f : fine (write_refusal v source destination t body (length out)) ≡ false =
        ap fine (sym (refusal_is (length out) et eq)) ∙ ne_eqb q.number 0 n in
        rw f

    pub written_output :
        q.number ≡ 0 → {l : List ℕ} {e : ℕ} → Lays (laid out 0) (pdu_pieces v source destination t rest body) l e →
        l ≡ write_output v source destination t body out
    unfolding write_output
    written_output z {l} {e} a =
        let f : fine (write_refusal v source destination t body (length out)) ≡ true =
        ap fine (sym (refusal_is (length out) et eq)) ∙ eq-eqb q.number 0 z in
        let k = fits (length out) et eq z in
        let p : together (pdu_pieces v source destination t rest body) ≡ octets_of whole =
        ap (λ (j : ℕ). together (pdu_pieces v source destination t j body)) k.rest_exact ∙ pdu_together v source destination t body in
        let room = k.fits_room in
        let c = (lays_all a (omega (arith, ap length p))).1 in
        rw f
        (c ∙ ap (sets out 0) p ∙ sets-eq (octets_of whole) out 0 (omega arith)
        ∙ ap (λ (j : ℕ). octets_of whole ++ drop j out) (zero-add (length (octets_of whole))))
