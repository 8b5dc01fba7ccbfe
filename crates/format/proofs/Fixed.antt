-- Under the profile of four octets no packet is refused by 10. And how a domain is written under it.
-- Assumes nothing.
use Prim.Native.Nat.{ℕ}
use mathlib.Core.Path.{◌≡◌, refl}
use mathlib.Core.List.{List, [], ◌∷◌}
use native.Mathlib.Omega.{arith}
use borrow.Author.Tests.{eq-eqb}
use Rattle.octets.specs.Octets.{wide}
use Rattle.walk.specs.declared.Settings.{Settings}
use Rattle.walk.specs.Profile.{fixed_profile}
use Rattle.walk.specs.Walk.{settings_of}
use Rattle.fields.specs.Form.{uinteger_octets, blob_octets, text_octets, part_octets, joined, domain_octets}
use Rattle.packet.specs.Reading.{read_packet}
use Rattle.format.proofs.Refusals.{OfFields, OfStart, ended_has}
use Rattle.format.proofs.Lengths.{number_is}

abbrev NotTen : ℕ → Type 0
NotTen n = n ≡ 10 → ⊥

module _ (s : Settings) (p : List ℕ) (f : s.profile ≡ fixed_profile) where
  fields : OfFields s NotTen
  fields =
      record {
        none = λ e. omega (arith, e);
        six = λ e. omega (arith, e);
        seven = λ e. omega (arith, e);
        eight = λ e. omega (arith, e);
        nine = λ e. omega (arith, e);
        ten = λ d e. let z : ◌≡◌ {A = ℕ} 0 1 = cc (rw (eq-eqb s.profile fixed_profile f) at d) in omega arith;
        eleven = λ e. omega (arith, e);
        twelve = λ e. omega (arith, e);
        thirteen = λ e. omega (arith, e);
        fourteen = λ e. omega (arith, e);
        twenty_eight = λ e. omega (arith, e);
      }

  start : OfStart p NotTen
  start =
      record {
        fifteen = λ e. omega (arith, e);
        one = λ e. omega (arith, e);
        two = λ e. omega (arith, e);
        three = λ e. omega (arith, e);
        four = λ e. omega (arith, e);
        five = λ d e. omega (arith, e);
        twenty_seven = λ d e. omega (arith, e);
      }

  pub not_ten : (read_packet s p).refusal.number ≡ 10 → ⊥
  not_ten h = ended_has s NotTen fields p start (number_is s p 9 h)

-- a domain of one part, "ab"
pub domain_ab :
    domain_octets (settings_of 8 fixed_profile) ((0x61 ∷ 0x62 ∷ []) ∷ []) ≡ 0 ∷ 0 ∷ 0 ∷ 1 ∷ 1 ∷ 0 ∷ 0 ∷ 0 ∷ 2 ∷ 0x61 ∷ 0x62 ∷ []
unfolding domain_octets part_octets text_octets blob_octets joined uinteger_octets wide
domain_ab = refl
