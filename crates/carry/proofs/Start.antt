-- The tests before a message's header, by which of them fails first.
-- Assumes nothing.
use Prim.Native.Nat.{ℕ, ◌/◌, ◌%◌}
use mathlib.Core.Path.{◌≡◌, refl, ap, sym, ◌∙◌}
use mathlib.Core.Logic.{◌⊎◌, inl, inr, ⊎_elim}
use mathlib.Core.List.{List}
use mathlib.Core.Bool.{Bool, true, false, not}
use native.Mathlib.Omega.{arith}
use lib.Dec.{eqb, ltb, leb}
use lib.ListN.{length}
use Rattle.octets.specs.Octets.{octet_at, number}
use Rattle.walk.specs.declared.Settings.{Settings}
use Rattle.walk.specs.declared.Tested.{Tested}
use Rattle.walk.specs.declared.Refused.{Refused}
use Rattle.walk.specs.declared.Refused.TheVariants.{FewOctets, Version, NoSecondary, Idle, Value}
use Rattle.walk.specs.declared.Refusal.{Refusal}
use Rattle.std.specs.Prelude.{Result, Ok, Err}
use Rattle.walk.specs.Told.{told, Holds}
use Rattle.walk.specs.Walk.{Reading, goes, refused, refusal, no_refusal, none_failed, failed, check, unless, begun}
use Rattle.walk.specs.Read.{Refuses, Tests}
use Rattle.walk.proofs.Refuses.{has_number}
use Rattle.walk.proofs.Keeps.{kept, refuses_on, refused_as, check_keeps}
use Rattle.write.specs.Writing.{settings_test}
use Rattle.carry.specs.Message.{encoding_test, message_tests, start_at}

-- settings are in range, or refused by 15
settings_are :
    (s : Settings) →
    ((begun s ≡ goes 6) × (settings_test s none_failed ≡ none_failed)) ⊎ ((begun s ≡ refused 6 15) × (settings_test s none_failed ≡ failed 15))
unfolding begun check settings_test unless
settings_are s = go (leb 1 s.t) (leb s.t 16) (leb s.profile 1)
  where
    go :
        (a b c : Bool) →
        ((check c 15 (check b 15 (check a 15 (goes 6))) ≡ goes 6)
        × (unless c 15 (unless b 15 (unless a 15 none_failed)) ≡ none_failed))
        ⊎ ((check c 15 (check b 15 (check a 15 (goes 6))) ≡ refused 6 15)
        × (unless c 15 (unless b 15 (unless a 15 none_failed)) ≡ failed 15))
    go true true true = inl (refl, refl)
    go true true false = inr (refl, refl)
    go true false c = inr (refl, refl)
    go false b c = inr (refl, refl)

tests_keep : (m : List ℕ) {e : Refused} {w : Reading} → Refuses e w → Refuses e (message_tests m w)
unfolding message_tests
tests_keep m h = refuses_on (check_keeps _ 4 (check_keeps _ 3 (check_keeps _ 2 (check_keeps _ 1 (kept h))))) h

pub settings_held : (s : Settings) → no_refusal ≡ refusal (begun s).refused → settings_test s none_failed ≡ none_failed
settings_held s e =
    ⊎_elim (λ b. b.1) (λ b. absurd (omega (arith, ap (λ (x : Refusal). x.number) e, ap (λ (w : Reading). w.refused) b.0))) (settings_are s)

module _ (s : Settings) (k : ℕ) (m : List ℕ) where
  pub settings_refused : (e : Refused) → told e ≡ refusal (begun s).refused → Refuses e (start_at s k m)
  unfolding encoding_test unless
  settings_refused e t = ⊎_elim none out (settings_are s)
    where
      none : (begun s ≡ goes 6) × (settings_test s none_failed ≡ none_failed) → Refuses e (start_at s k m)
      none b = absurd (has_number e (ap (λ (x : Refusal). x.number) t ∙ ap (λ (w : Reading). w.refused) b.0))

      out : (begun s ≡ refused 6 15) × (settings_test s none_failed ≡ failed 15) → Refuses e (start_at s k m)
      out b =
          tests_keep m
          (refused_as _ (ap (λ (r : Tested). refused 2 (unless (leb k 255) 22 r).number) b.1) (t ∙ ap (λ (w : Reading). refusal w.refused) b.0) refl)

  module _ (h : settings_test s none_failed ≡ none_failed) where
    pub encoding_refused : {e : Refused} → (leb k 255 ≡ false) × (e ≡ Value) → Refuses e (start_at s k m)
    unfolding encoding_test unless
    encoding_refused f = tests_keep m (refused_as {w = refused 2 22} _ (rw (h, f.0) refl) (ap told f.1) refl)

    module _ (c : leb k 255 ≡ true) where
      pub few : {e : Refused} → (leb 2 (length m) ≡ false) × (e ≡ FewOctets) → Refuses e (start_at s k m)
      unfolding encoding_test unless message_tests check
      few f = refused_as {w = refused 2 1} _ (rw (h, c, f.0) refl) (ap told f.1) refl

      module _ (a : leb 2 (length m) ≡ true) {x : ℕ} (ex : x ≡ octet_at m 0) where
        pub version : {e : Refused} → (ltb x 32 ≡ false) × (e ≡ Version) → Refuses e (start_at s k m)
        unfolding encoding_test unless message_tests check
        version f = refused_as {w = refused 2 2} _ (rw (h, c, a, ← ex, f.0) refl) (ap told f.1) refl

        module _ (v : ltb x 32 ≡ true) where
          pub no_secondary : {e : Refused} → (eqb (x / 8 % 2) 1 ≡ false) × (e ≡ NoSecondary) → Refuses e (start_at s k m)
          unfolding encoding_test unless message_tests check
          no_secondary f = refused_as {w = refused 2 3} _ (rw (h, c, a, ← ex, v, f.0) refl) (ap told f.1) refl

          module _ (f : eqb (x / 8 % 2) 1 ≡ true) {d : ℕ} (ed : d ≡ number 2 m 0) where
            pub idle : {e : Refused} → (not (eqb (d % 2048) 2047) ≡ false) × (e ≡ Idle) → Refuses e (start_at s k m)
            unfolding encoding_test unless message_tests check
            idle g = refused_as {w = refused 2 4} _ (rw (h, c, a, ← ex, ← ed, v, f, g.0) refl) (ap told g.1) refl

            pub starts : not (eqb (d % 2048) 2047) ≡ true → start_at s k m ≡ goes 2
            unfolding encoding_test unless message_tests check
            starts g = rw (h, c, a, ← ex, ← ed, v, f, g) refl

            pub last : (x : Result (Unit {0}) Refused) → Holds (not (eqb (d % 2048) 2047)) Idle x → Tests (start_at s k m) 2 x
            last (Ok u) g = starts g
            last (Err e) g = idle g
