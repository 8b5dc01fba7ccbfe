-- The tests of the primary header, by which of them fails first.
-- Assumes nothing.
use Prim.Native.Nat.{ℕ, ◌+◌, ◌-◌, ◌/◌, ◌%◌, ◌<◌}
use mathlib.Core.Path.{◌≡◌, refl, ap, sym, ◌∙◌}
use mathlib.Core.List.{List}
use mathlib.Core.Bool.{true, false, not}
use lib.Dec.{eqb, ltb, leb}
use lib.ListN.{length}
use borrow.Author.Tests.{le-leb, lt-leb}
use native.Mathlib.Omega.{arith}
use Rattle.std.specs.Prelude.{Ok, Err}
use Rattle.octets.specs.Octets.{octet_at, number}
use Rattle.walk.specs.declared.Refused.{Refused}
use Rattle.walk.specs.declared.Refused.TheVariants.{FewOctets, Version, NoSecondary, Idle, Short, Long}
use Rattle.walk.specs.Told.{told}
use Rattle.walk.specs.Walk.{goes, refused, check}
use Rattle.walk.specs.Read.{tells}
use Rattle.walk.proofs.Keeps.{refused_as}
use Rattle.packet.specs.Reading.{primary_tests, refusal_of}
use Rattle.packet.specs.Inner.{Judges}

-- refused by k, and this refusal tells so
judged :
    (p : List ℕ) (e d : Refused) (k : ℕ) → primary_tests p (goes 6) ≡ refused 6 k → told d ≡ tells (refused 6 k) → eqb k 0 ≡ false →
    told e ≡ refusal_of p (refused 6 k) → Judges p (Err e)
judged p e d k h n z t = (t ∙ ap (refusal_of p) (sym h), (d, refused_as _ h n z))

pub few : (p : List ℕ) {e : Refused} → (leb 6 (length p) ≡ false) × (e ≡ FewOctets) → Judges p (Err e)
unfolding primary_tests check refusal_of
few p h = judged p _ FewOctets 1 (rw h.0 refl) refl refl (ap told h.1)

-- x is the first octet, d the identification, w the octets that the length field tells
module _ (p : List ℕ) {x : ℕ} (ex : x ≡ octet_at p 0) (a : leb 6 (length p) ≡ true) where
  pub version : {e : Refused} → (ltb x 32 ≡ false) × (e ≡ Version) → Judges p (Err e)
  unfolding primary_tests check refusal_of
  version h = judged p _ Version 2 (rw (a, ← ex, h.0) refl) refl refl (ap told h.1)

  module _ (v : ltb x 32 ≡ true) where
    pub no_secondary : {e : Refused} → (eqb (x / 8 % 2) 1 ≡ false) × (e ≡ NoSecondary) → Judges p (Err e)
    unfolding primary_tests check refusal_of
    no_secondary h = judged p _ NoSecondary 3 (rw (a, ← ex, v, h.0) refl) refl refl (ap told h.1)

    module _ (f : eqb (x / 8 % 2) 1 ≡ true) {d : ℕ} (ed : d ≡ number 2 p 0) where
      pub idle : {e : Refused} → (not (eqb (d % 2048) 2047) ≡ false) × (e ≡ Idle) → Judges p (Err e)
      unfolding primary_tests check refusal_of
      idle h = judged p _ Idle 4 (rw (a, ← ex, ← ed, v, f, h.0) refl) refl refl (ap told h.1)

      module _ (i : not (eqb (d % 2048) 2047) ≡ true) {w : ℕ} (ew : w ≡ number 2 p 4) where
        pub short : length p < w + 7 → Judges p (Err (Short (w + 7 - length p)))
        unfolding primary_tests check refusal_of
        short h =
            judged p (Short (w + 7 - length p)) (Short 0) 5 (rw (a, ← ex, ← ed, ← ew, v, f, i, lt-leb (w + 7) (length p) h) refl) refl refl
            (ap (λ (k : ℕ). told (Short (k + 7 - length p))) ew)

        pub long : w + 7 < length p → Judges p (Err (Long (length p - (w + 7))))
        unfolding primary_tests check refusal_of
        long h =
            judged p (Long (length p - (w + 7))) (Long 0) 27
            (rw (a, ← ex, ← ed, ← ew, v, f, i, le-leb (w + 7) (length p) (omega arith), lt-leb (length p) (w + 7) h) refl) refl refl
            (ap (λ (k : ℕ). told (Long (length p - (k + 7)))) ew)

        pub whole : w + 7 ≡ length p → Judges p (Ok tt)
        unfolding primary_tests check
        whole h = (
          rw (a, ← ex, ← ed, ← ew, v, f, i, le-leb (w + 7) (length p) (omega arith), le-leb (length p) (w + 7) (omega arith)) refl,
          ap (λ (k : ℕ). k + 7) (sym ew) ∙ h,
        )
