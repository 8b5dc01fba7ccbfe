-- A zone is withdrawn: with one the cutter refuses by 30, just after 15 and 22 and whatever else is wrong, and without one it is the old
-- cutter.
-- Assumes nothing.
use Prim.Native.Nat.{ℕ}
use mathlib.Core.Path.{◌≡◌, refl, ap, ◌∙◌}
use mathlib.Core.Bool.{Bool, true, false, not}
use mathlib.Core.List.{List, ◌++◌}
use lib.ListN.{length, drop}
use lib.Dec.{leb, ltb}
use Rattle.octets.specs.Octets.{pick}
use Rattle.walk.specs.declared.Settings.{Settings}
use Rattle.walk.specs.declared.Tested.{Tested}
use Rattle.walk.specs.Walk.{none_failed, refusal, unless}
use Rattle.packet.specs.Format.{octets_of}
use Rattle.sender.specs.declared.Sender.{Sender}
use Rattle.write.specs.declared.HeaderValues.{HeaderValues}
use Rattle.write.specs.Given.{Lent}
use Rattle.write.specs.Writing.{zone_test, parts_test, text_test, fine}
use Rattle.write.proofs.Answers.{shut}
use Rattle.cut.specs.Cutting.{packets, header_length, limit_test, value_tests, message_tests, count_refusal, sender_after, count_answer, given_at, packet_refusal, packet_answer, packet_output}
use Rattle.cut.proofs.Plans.{still_tests}
use Rattle.two_way.proofs.Withdrawn.{refuses, text_stays}

module _ (s : Settings) (P : ℕ) (v : HeaderValues) (t : Lent) (d : Sender) where
  -- 15 and 22
  abbrev pub before : Tested
  before = value_tests s v t d (limit_test s P none_failed)

  -- the tests after 30, by whether there is a zone
  abbrev counted : ℕ → Bool → Tested
  counted B b = message_tests P (header_length s v t) B (text_test t (parts_test t (unless (not b) 30 before)))

  abbrev cut : List ℕ → ℕ → ℕ → Bool → Tested
  cut body i room b =
      unless (leb (length (octets_of s (given_at s P v t body d i))) room) 21
      (unless (ltb i (packets P (header_length s v t) (length body))) 26 (counted (length body) b))

  module _ (e : v.has.zone ≡ true) where
    pub count_refused : (B : ℕ) → count_refusal false s P v t B d ≡ unless false 30 before
    unfolding count_refusal zone_test
    count_refused B =
        let f = refuses 30 before refl in
        ap (counted B) e
        ∙ ap (message_tests P (header_length s v t) B) (text_stays t (unless false 30 before) f)
        ∙ still_tests P (header_length s v t) B (unless false 30 before) f

    pub packet_refused : (body : List ℕ) (i room : ℕ) → packet_refusal false s P v t body d i room ≡ unless false 30 before
    unfolding packet_refusal
    packet_refused body i room =
        let f = refuses 30 before refl in
        rw (count_refused (length body), shut (ltb i (packets P (header_length s v t) (length body))) 26 (unless false 30 before) f)
        (shut (leb (length (octets_of s (given_at s P v t body d i))) room) 21 (unless false 30 before) f)

  module _ (e : v.has.zone ≡ false) where
    pub same_count : (B : ℕ) → count_answer false s P v t B d ≡ count_answer true s P v t B d
    unfolding count_answer count_refusal zone_test
    same_count B =
        ap
        (λ (b : Bool).
        record {
          refusal = refusal (counted B b).number;
          count = pick (fine (counted B b)) (packets P (header_length s v t) B) 0;
          sender = pick (fine (counted B b)) (sender_after P (header_length s v t) B d) d;
        })
        e

    pub same_packet : (body : List ℕ) (i room : ℕ) → packet_answer false s P v t body d i room ≡ packet_answer true s P v t body d i room
    unfolding packet_answer packet_refusal count_refusal zone_test
    same_packet body i room =
        ap
        (λ (b : Bool).
        record {
          refusal = refusal (cut body i room b).number;
          length = pick (fine (cut body i room b)) (length (octets_of s (given_at s P v t body d i))) 0;
          sender = d;
        })
        e

    pub same_output : (body : List ℕ) (i : ℕ) (out : List ℕ) → packet_output false s P v t body d i out ≡ packet_output true s P v t body d i out
    unfolding packet_output packet_refusal count_refusal zone_test
    same_output body i out =
        ap
        (λ (b : Bool).
        pick (fine (cut body i (length out) b))
        (octets_of s (given_at s P v t body d i) ++ drop (length (octets_of s (given_at s P v t body d i))) out) out)
        e
