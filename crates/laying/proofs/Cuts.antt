-- A message of the short way passes every test that the long way makes before its plan; and so the answers are the long way's.
-- Assumes nothing.
use Prim.Native.Nat.{ℕ, suc, ◌≤◌}
use mathlib.Core.Path.{◌≡◌, refl, ap, sym, ◌∙◌}
use mathlib.Core.Bool.{Bool, true, false}
use mathlib.Core.List.{List, [], ◌∷◌}
use native.Mathlib.Omega.{arith}
use lib.Dec.{eqb}
use borrow.Author.Tests.{le-leb}
use Rattle.octets.specs.Octets.{pick, octet_at as number_at}
use Rattle.walk.specs.declared.Settings.{Settings}
use Rattle.walk.specs.Walk.{refusal, none_failed}
use Rattle.fields.specs.Inner.{capped}
use Rattle.packet.specs.Numbers.{count_at}
use Rattle.packet.proofs.Counts.{count_mod}
use Rattle.sender.specs.declared.Sender.{Sender}
use Rattle.write.specs.declared.PacketValues.{PacketValues}
use Rattle.write.specs.Given.{Lent}
use Rattle.write.proofs.Tests.{unless_true, unless_all_true}
use Rattle.cut.specs.Cutting.{limit_test, value_tests, count_answer, packet_answer, packet_output}
use Rattle.cut.specs.Inner.{values_of}
use Rattle.cut.proofs.Plans.{before}
use Rattle.flat.specs.Given.{fits_to, sender_fits, header_of, sender_of}
use Rattle.flat.specs.Answers.{given, count_numbers, packet_numbers, packet_out}
use Rattle.flat.proofs.Choosing.{count_told, packet_told, packet_laid}
use Rattle.laying.specs.Short.{Own, CutReady}
use Rattle.laying.proofs.Limits.{header_fits_lem}
use Rattle.laying.proofs.Checks.{header_holds, settings_pass, late_pass}

-- ---- the numbers of a packet

count_most_lem : (c n : ℕ) → c ≤ 16383 → count_at c n ≤ 16383
count_most_lem c n h = omega (arith, count_mod c n h)

flags_most_lem : (a b c : Bool) → pick a 3 (pick b 1 (pick c 2 0)) ≤ 3
flags_most_lem true b c = omega arith
flags_most_lem false true c = omega arith
flags_most_lem false false true = omega arith
flags_most_lem false false false = omega arith

pub own_numbers :
    (one : Bool) (n : ℕ) (d : Sender) (i : ℕ) {o : PacketValues} → o ≡ values_of one n d i → d.sequence_count.0 ≤ 16383 →
    Own o.flags o.sequence_count.0
unfolding values_of
own_numbers one n d i e h =
    rw e
    (record { flags_top = flags_most_lem one (eqb i 0) (eqb (suc i) n); count_top = count_most_lem d.sequence_count.0 i h })

pub cap_small : {r H : ℕ} → r ≡ H → r ≤ 500 → r ≡ capped H
cap_small e h = omega arith

-- ---- the answers

module _ {s : Settings} {P : ℕ} {h : List ℕ} {t : Lent} {d : List ℕ} (c : CutReady s P h t d) where
  pub sender_fits_lem : sender_fits d ≡ true
  unfolding fits_to
  sender_fits_lem = simp (le-leb (number_at d 0) 65535 (omega (arith, c.count)), le-leb (number_at d 1) 4294967295 c.counter)

  none : none_failed ≡ before false s P (header_of h) t (sender_of d)
  unfolding value_tests limit_test
  none =
      sym
      (late_pass c.ready _
      ∙ (unless_true _ 22 _ (le-leb (number_at d 1) 4294967295 c.counter)
      ∙ (unless_true _ 22 _ (le-leb (number_at d 0) 16383 c.count)
      ∙ (unless_all_true _ 22 _ (header_holds c.ready)
      ∙ (unless_true _ 15 _ (le-leb P 65542 c.top)
      ∙ (unless_true _ 15 _ (le-leb 27 P c.low) ∙ settings_pass c.ready))))))

  module _ {a : Sender} (k : a ≡ sender_of d) where
    pub sender_count : a.sequence_count.0 ≤ 16383
    sender_count = omega (arith, ap (λ (x : Sender). x.sequence_count.0) k, c.count)

    pub none_failed_lem : none_failed ≡ before false s P (header_of h) t a
    none_failed_lem = none ∙ ap (before false s P (header_of h) t) (sym k)

    pub counted :
        (B n : ℕ) {m : Sender} → record { refusal = refusal 0; count = n; sender = m } ≡ count_answer false s P (header_of h) t B a →
        0 ∷ n ∷ m.sequence_count.0 ∷ m.counter.0 ∷ [] ≡ count_numbers s P h t B d
    counted B n {m} e = count_told s P h t d (header_fits_lem c.ready.numbers.limited) sender_fits_lem (header_of h) a refl k B _ _ e refl

    pub told :
        (body : List ℕ) (i room size : ℕ) →
        record { refusal = refusal 0; length = size; sender = a } ≡ packet_answer false s P (header_of h) t body a i room →
        0 ∷ size ∷ given d ≡ packet_numbers s P h t body d i room
    told body i room size e =
        packet_told s P h t d (header_fits_lem c.ready.numbers.limited) sender_fits_lem (header_of h) a refl k body i room _ _ e
        (ap (λ (x : Sender). 0 ∷ size ∷ x.sequence_count.0 ∷ x.counter.0 ∷ []) (sym k))

    pub laid_out :
        (body : List ℕ) (i : ℕ) (out : List ℕ) {l : List ℕ} → l ≡ packet_output false s P (header_of h) t body a i out → l ≡ packet_out s P h t body d i out
    laid_out body i out e = packet_laid s P h t d (header_fits_lem c.ready.numbers.limited) sender_fits_lem (header_of h) a refl k body i out _ e
