-- What holds of each number by which a PDU's reading or writing is refused, and of 0, holds of the number that the call answers.
-- Assumes nothing.
use Prim.Native.Nat.{ℕ}
use mathlib.Core.Bool.{Bool}
use mathlib.Core.List.{List, [], ◌∷◌}
use lib.Dec.{eqb}
use Rattle.walk.specs.declared.Tested.{Tested}
use Rattle.walk.specs.Walk.{going, uinteger, unless, failed}
use Rattle.fields.specs.Fields.{nowhere, text}
use Rattle.write.specs.Given.{Lent, unless_all}
use Rattle.format.proofs.Refusals.{picked, OfContents, check_ok, opt_ok, number_ok, text_ok, texts_ok}
use Rattle.pdu.specs.declared.Header.{Header}
use Rattle.pdu.specs.declared.PduValues.{PduValues}
use Rattle.pdu.specs.Format.{pdu_settings}
use Rattle.pdu.specs.Reading.{bound_of, fixed_tests, has_of, ids_of, ids_at, ended, refusal_of, refused_header, accepted_header, read_pdu}
use Rattle.pdu.specs.Writing.{value_refusal, size_tests, write_refusal, write_answer}

-- ---- reading: 1, 7, 8, 5, 27, 6, 10, 11, 13, 28

pub record OfReading (P : ℕ → Type 0) : Type 0 where
  pub none : P 0
  pub one : P 1
  pub seven : P 7
  pub eight : P 8
  pub five : P 5
  pub twenty_seven : P 27
  pub six : P 6
  pub ten : P 10
  pub eleven : P 11
  pub thirteen : P 13
  pub twenty_eight : P 28

module _ (P : ℕ → Type 0) (k : OfReading P) (p : List ℕ) where
  contents : OfContents pdu_settings (bound_of p) P
  contents =
      record {
        none = k.none;
        six = k.six;
        over = k.six;
        ten = λ e. k.ten;
        eleven = k.eleven;
        thirteen = k.thirteen;
        twenty_eight = k.twenty_eight;
      }

  start_has : P (fixed_tests p).refused
  unfolding fixed_tests
  start_has =
      check_ok P _ 27 _ k.twenty_seven
      (check_ok P _ 5 _ k.five (check_ok P _ 8 _ k.eight (check_ok P _ 7 _ k.seven (check_ok P _ 1 _ k.one k.none))))

  ids_has : P (ids_at p).walk.refused
  unfolding ids_of
  ids_has =
      let h = has_of p in
      let t = text_ok P pdu_settings (bound_of p) contents p in
      opt_ok P h.priority 0 (uinteger pdu_settings (bound_of p) p) (number_ok P pdu_settings (bound_of p) contents p) _
      (opt_ok P h.destination nowhere (text pdu_settings (bound_of p) p) t _
      (opt_ok P h.source nowhere (text pdu_settings (bound_of p) p) t (fixed_tests p) start_has))

  ended_has : P (ended p).refused
  ended_has = texts_ok P pdu_settings (bound_of p) contents p (has_of p) _ ids_has

  pub reading_has : P (read_pdu p).refusal.number
  unfolding read_pdu accepted_header refused_header refusal_of
  reading_has =
      picked (λ (x : Header). P x.refusal.number) (going (ended p)) (accepted_header p) (refused_header (refusal_of p (ended p))) k.none
      ended_has

-- ---- writing: 22, 13, 28, 23, 21

pub record OfWriting (P : ℕ → Type 0) : Type 0 where
  pub none : P 0
  pub twenty_two : P 22
  pub thirteen : P 13
  pub twenty_eight : P 28
  pub twenty_three : P 23
  pub twenty_one : P 21

module _ (P : ℕ → Type 0) where
  pub unless_has : (ok : Bool) (n : ℕ) (r : Tested) → P n → P r.number → P (unless ok n r).number
  unfolding unless
  unless_has ok n r f h =
      picked (λ (x : Tested). P x.number) (eqb r.number 0) _ r (picked (λ (x : Tested). P x.number) ok r (failed n) h f) h

  pub all_has : (bs : List Bool) (n : ℕ) (r : Tested) → P n → P r.number → P (unless_all bs n r).number
  unfolding unless_all
  all_has [] n r f h = h
  all_has (b ∷ bs) n r f h = all_has bs n (unless b n r) f (unless_has b n r f h)

  pub writing_has :
      OfWriting P → (v : PduValues) (source destination : List ℕ) (t : Lent) (body : List ℕ) (room : ℕ) →
      P (write_answer v source destination t body room).refusal.number
  unfolding write_answer write_refusal size_tests value_refusal
  writing_has k v source destination t body room =
      unless_has _ 21 _ k.twenty_one
      (unless_has _ 23 _ k.twenty_three
      (all_has _ 28 _ k.twenty_eight (unless_has _ 13 _ k.thirteen (all_has _ 22 _ k.twenty_two k.none))))
