-- Settings in range and out of it.
-- Assumes nothing.
use Prim.Native.Nat.{◌≤◌, ◌<◌}
use mathlib.Core.Path.{◌≡◌, sym}
use mathlib.Core.Logic.{⊎_elim}
use borrow.Author.Tests.{le-leb, lt-leb}
use Rattle.octets.proofs.Lists.{below_or}
use Rattle.walk.specs.declared.Settings.{Settings}
use Rattle.walk.specs.Walk.{check, begun, timestamp_least, timestamp_most}
use Rattle.walk.specs.Profile.{fixed_profile}

module _ (s : Settings) where
  pub begun_short : s.t < timestamp_least → 15 ≡ (begun s).refused
  unfolding begun check
  begun_short h = rw (lt-leb _ _ h)

  module _ (l : timestamp_least ≤ s.t) where
    pub begun_long : timestamp_most < s.t → 15 ≡ (begun s).refused
    unfolding begun check
    begun_long h = rw (le-leb _ _ l, lt-leb _ _ h)

    module _ (m : s.t ≤ timestamp_most) where
      pub begun_unknown : fixed_profile < s.profile → 15 ≡ (begun s).refused
      unfolding begun check
      begun_unknown h = rw (le-leb _ _ l, le-leb _ _ m, lt-leb _ _ h)

      pub begun_none : s.profile ≤ fixed_profile → 0 ≡ (begun s).refused
      unfolding begun check
      begun_none h = rw (le-leb _ _ l, le-leb _ _ m, le-leb _ _ h)

  pub begun_15 : ((begun s).refused ≡ 0 → ⊥) → (begun s).refused ≡ 15
  begun_15 f =
      ⊎_elim (λ h. sym (begun_short h))
      (λ l. ⊎_elim (λ h. sym (begun_long l h))
      (λ m. ⊎_elim (λ h. sym (begun_unknown l m h)) (λ h. absurd (f (sym (begun_none l m h)))) (below_or fixed_profile s.profile))
      (below_or timestamp_most s.t))
      (below_or s.t timestamp_least)
