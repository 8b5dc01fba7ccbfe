-- Carrying a message to the office, and a PDU back, is refused by a number of its own list.
-- Assumes nothing.
use Prim.Native.Nat.{ℕ}
use mathlib.Core.Path.{◌≡◌, refl}
use mathlib.Core.Bool.{true, false}
use mathlib.Core.List.{List, ◌∷◌}
use lib.Dec.{eqb}
use Rattle.walk.specs.declared.Settings.{Settings}
use Rattle.walk.specs.Walk.{Reading, going, none_failed, settings_of, octets, field_from, uinteger}
use Rattle.fields.specs.Fields.{block}
use Rattle.packet.specs.declared.Present.{Present}
use Rattle.packet.specs.Answer.{Header}
use Rattle.packet.specs.Format.{Head}
use Rattle.packet.specs.FixedPart.{octet_field, flags_of, after_sdu, after_area, after_service, after_operation, after_version, after_session, after_secondary}
use Rattle.packet.specs.FixedPart.{after_qualifier, after_transaction, after_presence, names_end, fixed_end}
use Rattle.packet.specs.Reading.{ids_of, texts_of, refused_header}
use Rattle.write.specs.Writing.{fine}
use Rattle.pdu.specs.declared.Header.{Header as PduHeader}
use Rattle.pdu.specs.declared.Written.{Written}
use Rattle.pdu.specs.Reading.{read_pdu}
use Rattle.carry.specs.declared.Route.{Route}
use Rattle.carry.specs.declared.Carried.{Carried}
use Rattle.carry.specs.Message.{message_bound, encoding_test, message_tests, start_at, has_at, ended, refusal_of, accepted_message, read_message}
use Rattle.carry.specs.There.{office_answer, to_pdu_answer}
use Rattle.carry.specs.Back.{route_checks, route_test, value_test, size_test, made_answer, back_answer, to_message_answer}
use Rattle.format.proofs.Refusals.{picked, OfContents, check_ok, opt_ok, number_ok, texts_ok}
use Rattle.pdu.proofs.Refusals.{writing_has}
use Rattle.numbers.specs.Lists.{Numbered, of_pdu_reading, of_to_pdu, of_to_message}
use Rattle.numbers.proofs.Among.{has, among, among_all}
use Rattle.numbers.proofs.Sending.{unless_ok, all_ok, settings_ok}
use Rattle.numbers.proofs.Pdus.{pdu_reading}

-- ---- to the office

abbrev There : ℕ → Type 0
There n = Numbered of_to_pdu n

-- a number of the list, by computation
there : (n : ℕ) → has (0 ∷ of_to_pdu) n ≡ true → There n
there n e = among (0 ∷ of_to_pdu) n e

abbrev Ok : Reading → Type 0
Ok w = There w.refused

contents : (s : Settings) → OfContents s message_bound There
contents s =
    record {
      none = there 0 refl;
      six = there 6 refl;
      over = there 12 refl;
      ten = λ e. there 10 refl;
      eleven = there 11 refl;
      thirteen = there 13 refl;
      twenty_eight = there 28 refl;
    }

module _ (m : List ℕ) where
  -- n octets, as if they were a timestamp and the only field
  some_ok : (n : ℕ) (w : Reading) → Ok w → Ok (octets message_bound m n w)
  unfolding texts_of block flags_of
  some_ok n w h = texts_ok There (settings_of n 0) message_bound (contents (settings_of n 0)) m (flags_of 16) w h

  names_ok : (w : Reading) → Ok w → Ok (names_end message_bound m w)
  unfolding after_sdu after_area after_service after_operation after_version
  names_ok w h =
      some_ok 1 _
      (some_ok 2 _ (some_ok 2 _ (some_ok 2 _ (check_ok There _ 8 _ (there 8 refl) (check_ok There _ 7 _ (there 7 refl) (some_ok 1 w h))))))

  secondary_ok : (w : Reading) → Ok w → Ok (after_secondary message_bound m w)
  unfolding after_secondary after_session field_from
  secondary_ok w h =
      let r = some_ok 1 (after_session message_bound m w) (check_ok There _ 9 _ (there 9 refl) (some_ok 1 w h)) in
      picked Ok (going (octets message_bound m 1 (after_session message_bound m w))) _ _ r r

  fixed_ok : (w : Reading) → Ok w → Ok (fixed_end message_bound m w)
  unfolding after_qualifier after_transaction after_presence
  fixed_ok w h = some_ok 1 _ (some_ok 8 _ (some_ok 2 _ (secondary_ok _ (names_ok w h))))

  -- no counter
  ids_ok : (s : Settings) (x : Present) (w : Reading) → Ok w → Ok (ids_of s message_bound false x m w).walk
  unfolding ids_of octet_field
  ids_ok s x w h =
      opt_ok There x.priority 0 (uinteger s message_bound m) (number_ok There s message_bound (contents s) m) _
      (opt_ok There x.destination 0 (octet_field message_bound m) (some_ok 1) _
      (opt_ok There x.source 0 (octet_field message_bound m) (some_ok 1) w h))

  module _ (s : Settings) (e : ℕ) where
    start_ok : Ok (start_at s e m)
    unfolding message_tests encoding_test
    start_ok =
        check_ok There _ 4 _ (there 4 refl)
        (check_ok There _ 3 _ (there 3 refl)
        (check_ok There _ 2 _ (there 2 refl)
        (check_ok There _ 1 _ (there 1 refl)
        (unless_ok (0 ∷ of_to_pdu) _ 22 _ refl (settings_ok (0 ∷ of_to_pdu) s none_failed refl (there 0 refl))))))

    ended_ok : Ok (ended s e m)
    ended_ok =
        check_ok There _ 34 _ (there 34 refl)
        (texts_ok There s message_bound (contents s) m (has_at s e m) _ (ids_ok s (has_at s e m) _ (fixed_ok (start_at s e m) start_ok)))

    message_reading : There (read_message s e m).refusal.number
    unfolding read_message accepted_message refused_header refusal_of
    message_reading =
        picked (λ (x : Header). There x.refusal.number) (going (ended s e m)) (accepted_message s e m) (refused_header (refusal_of (ended s e m)))
        (there 0 refl) ended_ok

pub to_pdu : (s : Settings) (e : ℕ) (m : List ℕ) (room : ℕ) → Numbered of_to_pdu (to_pdu_answer s e m room).refusal.number
unfolding to_pdu_answer office_answer
to_pdu s e m room =
    picked (λ (x : Written). There x.refusal.number) (eqb (read_message s e m).refusal.number 0) _ _
    (writing_has There
    (record {
      none = there 0 refl;
      twenty_two = there 22 refl;
      thirteen = there 13 refl;
      twenty_eight = there 28 refl;
      twenty_three = there 23 refl;
      twenty_one = there 21 refl;
    })
    _ _ _ _ _ _)
    (message_reading m s e)

-- ---- and back

abbrev B : List ℕ
B = 0 ∷ of_to_message

abbrev Back : Carried → Type 0
Back x = Numbered of_to_message x.refusal.number

route_ok : (s : Settings) (l : Route) → Numbered of_to_message (route_test s l).number
unfolding route_test
route_ok s l = all_ok B (route_checks l) 22 _ refl (settings_ok B s none_failed refl (among B 0 refl))

value_ok : (s : Settings) (p : List ℕ) (h : PduHeader) → Numbered of_to_message (value_test s p h).number
unfolding value_test
value_ok s p h =
    unless_ok B _ 30 _ refl
    (unless_ok B _ 34 _ refl
    (unless_ok B _ 33 _ refl (unless_ok B _ 33 _ refl (unless_ok B _ 35 _ refl (unless_ok B _ 35 none_failed refl (among B 0 refl))))))

made_ok : (s : Settings) (h : Head) (body : List ℕ) (encoding room : ℕ) → Back (made_answer s h body encoding room)
unfolding made_answer size_test
made_ok s h body encoding room =
    picked Back (fine (size_test s h body room)) _ _ (among B 0 refl)
    (unless_ok B _ 21 _ refl (unless_ok B _ 12 none_failed refl (among B 0 refl)))

back_ok : (s : Settings) (l : Route) (p : List ℕ) (h : PduHeader) (room : ℕ) → Back (back_answer s l p h room)
unfolding back_answer
back_ok s l p h room = picked Back (fine (value_test s p h)) _ _ (made_ok _ _ _ _ _) (value_ok s p h)

pub to_message : (s : Settings) (l : Route) (p : List ℕ) (room : ℕ) → Numbered of_to_message (to_message_answer s l p room).refusal.number
unfolding to_message_answer
to_message s l p room =
    picked Back (fine (route_test s l)) _ _
    (picked Back (eqb (read_pdu p).refusal.number 0) _ _ (back_ok s l p (read_pdu p) room) (among_all (0 ∷ of_pdu_reading) B refl _ (pdu_reading p)))
    (route_ok s l)
