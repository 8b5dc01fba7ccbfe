-- Writing one packet and cutting are refused by a number of their own lists: each test keeps the number or gives one of them.
-- Assumes nothing.
use Prim.Native.Nat.{ℕ}
use mathlib.Core.Path.{◌≡◌, refl}
use mathlib.Core.Bool.{Bool, true, false}
use mathlib.Core.List.{List, ◌∷◌, Memᴰ}
use lib.ListN.{length}
use Rattle.walk.specs.declared.Settings.{Settings}
use Rattle.walk.specs.declared.Tested.{Tested}
use Rattle.walk.specs.Walk.{none_failed, unless}
use Rattle.sender.specs.declared.Sender.{Sender}
use Rattle.write.specs.declared.HeaderValues.{HeaderValues}
use Rattle.write.specs.declared.PacketValues.{PacketValues}
use Rattle.write.specs.Given.{Lent, header_checks, packet_checks, unless_all}
use Rattle.write.specs.Writing.{settings_test, zone_test, parts_test, text_test, size_tests, value_refusal, write_refusal}
use Rattle.cut.specs.Cutting.{limit_test, value_tests, message_tests, count_refusal, packet_refusal}
use Rattle.numbers.specs.Lists.{Numbered, of_writing, of_count, of_cutting}
use Rattle.pdu.proofs.Refusals.{unless_has, all_has}
use Rattle.numbers.proofs.Among.{has, among, among_all}

module _ (l : List ℕ) where
  abbrev Ok : Tested → Type 0
  Ok r = Memᴰ r.number l

  pub unless_ok : (b : Bool) (k : ℕ) (r : Tested) → has l k ≡ true → Ok r → Ok (unless b k r)
  unless_ok b k r e h = unless_has (λ (n : ℕ). Memᴰ n l) b k r (among l k e) h

  pub all_ok : (bs : List Bool) (k : ℕ) (r : Tested) → has l k ≡ true → Ok r → Ok (unless_all bs k r)
  all_ok bs k r e h = all_has (λ (n : ℕ). Memᴰ n l) bs k r (among l k e) h

  pub settings_ok : (s : Settings) (r : Tested) → has l 15 ≡ true → Ok r → Ok (settings_test s r)
  unfolding settings_test
  settings_ok s r e h = unless_ok _ 15 _ e (unless_ok _ 15 _ e (unless_ok _ 15 r e h))

  zone_ok : (old : Bool) (v : HeaderValues) (r : Tested) → has l 30 ≡ true → Ok r → Ok (zone_test old v r)
  unfolding zone_test
  zone_ok old v r e h = unless_ok _ 30 r e h

  parts_ok : (t : Lent) (r : Tested) → has l 13 ≡ true → Ok r → Ok (parts_test t r)
  unfolding parts_test
  parts_ok t r e h = unless_ok _ 13 r e h

  text_ok : (t : Lent) (r : Tested) → has l 28 ≡ true → Ok r → Ok (text_test t r)
  unfolding text_test
  text_ok t r e h = all_ok _ 28 r e h

-- ---- writing

abbrev W : List ℕ
W = 0 ∷ of_writing

pub writing :
    (old : Bool) (s : Settings) (v : HeaderValues) (o : PacketValues) (t : Lent) (body : List ℕ) (room : ℕ) →
    Numbered of_writing (write_refusal old s v o t body room).number
unfolding write_refusal size_tests value_refusal
writing old s v o t body room =
    unless_ok W _ 21 _ refl
    (unless_ok W _ 14 _ refl
    (unless_ok W _ 12 _ refl
    (unless_ok W _ 23 _ refl
    (text_ok W t _ refl
    (parts_ok W t _ refl
    (zone_ok W old v _ refl
    (all_ok W (packet_checks o) 22 _ refl
    (all_ok W (header_checks s v t) 22 _ refl (settings_ok W s none_failed refl (among W 0 refl))))))))))

-- numbers too wide, given to be written
pub write_wide : (s : Settings) → Numbered of_writing (unless false 22 (settings_test s none_failed)).number
write_wide s = unless_ok W false 22 _ refl (settings_ok W s none_failed refl (among W 0 refl))

-- ---- cutting

abbrev C : List ℕ
C = 0 ∷ of_count

pub count :
    (old : Bool) (s : Settings) (P : ℕ) (v : HeaderValues) (t : Lent) (B : ℕ) (d : Sender) →
    Numbered of_count (count_refusal old s P v t B d).number
unfolding count_refusal message_tests value_tests limit_test
count old s P v t B d =
    unless_ok C _ 29 _ refl
    (unless_ok C _ 24 _ refl
    (unless_ok C _ 12 _ refl
    (unless_ok C _ 23 _ refl
    (text_ok C t _ refl
    (parts_ok C t _ refl
    (zone_ok C old v _ refl
    (unless_ok C _ 22 _ refl
    (unless_ok C _ 22 _ refl
    (all_ok C (header_checks s v t) 22 _ refl
    (unless_ok C _ 15 _ refl (unless_ok C _ 15 _ refl (settings_ok C s none_failed refl (among C 0 refl)))))))))))))

-- numbers too wide, given to be cut
pub count_wide : (s : Settings) (P : ℕ) → Numbered of_count (unless false 22 (limit_test s P none_failed)).number
unfolding limit_test
count_wide s P =
    unless_ok C false 22 _ refl
    (unless_ok C _ 15 _ refl (unless_ok C _ 15 _ refl (settings_ok C s none_failed refl (among C 0 refl))))

abbrev D : List ℕ
D = 0 ∷ of_cutting

pub cutting :
    (old : Bool) (s : Settings) (P : ℕ) (v : HeaderValues) (t : Lent) (body : List ℕ) (d : Sender) (i room : ℕ) →
    Numbered of_cutting (packet_refusal old s P v t body d i room).number
unfolding packet_refusal
cutting old s P v t body d i room =
    unless_ok D _ 21 _ refl (unless_ok D _ 26 _ refl (among_all C D refl _ (count old s P v t (length body) d)))

pub cut_wide : (s : Settings) (P : ℕ) → Numbered of_cutting (unless false 22 (limit_test s P none_failed)).number
cut_wide s P = among_all C D refl _ (count_wide s P)
