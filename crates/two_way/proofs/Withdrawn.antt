-- A zone is withdrawn: with one the writer refuses by 30, just after 15 and 22 and whatever else is wrong, and without one it is the old
-- writer.
-- Assumes nothing.
use Prim.Native.Nat.{ℕ}
use mathlib.Core.Path.{◌≡◌, refl, ap, ◌∙◌}
use mathlib.Core.Bool.{Bool, true, false, not}
use mathlib.Core.List.{List, ◌++◌}
use lib.ListN.{length, drop}
use Rattle.octets.specs.Octets.{pick}
use Rattle.walk.specs.declared.Settings.{Settings}
use Rattle.walk.specs.declared.Tested.{Tested}
use Rattle.walk.specs.Walk.{none_failed, failed, refusal, unless}
use Rattle.packet.specs.Format.{Values, octets_of}
use Rattle.write.specs.declared.HeaderValues.{HeaderValues}
use Rattle.write.specs.declared.PacketValues.{PacketValues}
use Rattle.write.specs.Given.{Lent, header_checks, packet_checks, unless_all}
use Rattle.write.specs.Writing.{settings_test, zone_test, parts_test, text_test, given_packet, size_tests, value_refusal, write_refusal, fine, write_answer, write_output}
use Rattle.write.proofs.Answers.{shut, all_shut}

-- a test that fails leaves a refusal, its own or the one before
pub refuses : (k : ℕ) (r : Tested) → fine (failed k) ≡ false → fine (unless false k r) ≡ false
unfolding unless
refuses k r e = go (fine r) refl
  where
    go : (b : Bool) → fine r ≡ b → fine (pick b (failed k) r) ≡ false
    go true f = e
    go false f = f

-- and the tests after it change nothing
pub text_stays : (t : Lent) (r : Tested) → fine r ≡ false → text_test t (parts_test t r) ≡ r
unfolding text_test parts_test
text_stays t r e = ap (unless_all _ 28) (shut _ 13 r e) ∙ all_shut _ 28 r e

module _ (s : Settings) (v : HeaderValues) (o : PacketValues) (t : Lent) (body : List ℕ) where
  -- 15 and 22
  abbrev pub before : Tested
  before = unless_all (packet_checks o) 22 (unless_all (header_checks s v t) 22 (settings_test s none_failed))

  sizes_stay : (w : Values) (room : ℕ) (r : Tested) → fine r ≡ false → size_tests s w room r ≡ r
  unfolding size_tests
  sizes_stay w room r e = rw (shut _ 23 r e, shut _ 12 r e, shut _ 14 r e) (shut _ 21 r e)

  pub zone_refused : v.has.zone ≡ true → (room : ℕ) → write_refusal false s v o t body room ≡ unless false 30 before
  unfolding write_refusal value_refusal zone_test
  zone_refused e room =
      let f = refuses 30 before refl in
      ap (λ (b : Bool). size_tests s (given_packet v o t body) room (text_test t (parts_test t (unless (not b) 30 before)))) e
      ∙ ap (size_tests s (given_packet v o t body) room) (text_stays t (unless false 30 before) f)
      ∙ sizes_stay (given_packet v o t body) room (unless false 30 before) f

  module _ (e : v.has.zone ≡ false) where
    same_refusal : (room : ℕ) → write_refusal false s v o t body room ≡ write_refusal true s v o t body room
    unfolding write_refusal value_refusal zone_test
    same_refusal room =
        ap (λ (b : Bool). size_tests s (given_packet v o t body) room (text_test t (parts_test t (unless (not b) 30 before)))) e

    pub same_answer : (room : ℕ) → write_answer false s v o t body room ≡ write_answer true s v o t body room
    unfolding write_answer
    same_answer room =
        ap
        (λ (r : Tested). record { refusal = refusal r.number; length = pick (fine r) (length (octets_of s (given_packet v o t body))) 0 })
        (same_refusal room)

    pub same_output : (out : List ℕ) → write_output false s v o t body out ≡ write_output true s v o t body out
    unfolding write_output
    same_output out =
        ap
        (λ (r : Tested).
        pick (fine r) (octets_of s (given_packet v o t body) ++ drop (length (octets_of s (given_packet v o t body))) out) out)
        (same_refusal (length out))
