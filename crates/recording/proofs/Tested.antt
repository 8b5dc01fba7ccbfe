-- The tests before a recording is joined: 15, then 21; and what holds if both are passed.
-- Assumes nothing.
use Prim.Native.Nat.{ℕ, ◌≤◌, ◌<◌}
use mathlib.Core.Path.{◌≡◌, refl, ap, sym, ◌∙◌}
use mathlib.Core.Bool.{Bool, true, false}
use native.Mathlib.Omega.{arith}
use lib.Dec.{leb, eqb}
use borrow.Author.Tests.{leb-true, eqb-true, le-leb, lt-leb, eq-eqb, ne_eqb}
use Rattle.octets.specs.Octets.{pick}
use Rattle.walk.specs.declared.Settings.{Settings}
use Rattle.walk.specs.declared.Refusal.{Refusal}
use Rattle.walk.specs.Walk.{refusal, no_refusal, begun}
use Rattle.walk.proofs.Begins.{begun_15}
use Rattle.recording.specs.Ending.{refused_by}

module _ (s : Settings) (n room : ℕ) where
  pub refused_15 : {q : Refusal} → q ≡ refusal (begun s).refused → (q.number ≡ 0 → ⊥) → q ≡ refusal (refused_by s n room)
  unfolding refused_by
  refused_15 {q} e h =
      let z : (begun s).refused ≡ 0 → ⊥ = λ i. h (ap (λ (x : Refusal). x.number) e ∙ i) in
      e ∙ ap refusal (begun_15 s z ∙ rw (ne_eqb (begun s).refused 0 z))

  module _ (e : no_refusal ≡ refusal (begun s).refused) where
    none : (begun s).refused ≡ 0
    none = sym (ap (λ (x : Refusal). x.number) e)

    pub refused_21 : room < n → refusal 21 ≡ refusal (refused_by s n room)
    unfolding refused_by
    refused_21 l = rw (eq-eqb (begun s).refused 0 none, lt-leb n room l) refl

    pub refused_none : n ≤ room → no_refusal ≡ refusal (refused_by s n room)
    unfolding refused_by
    refused_none l = rw (eq-eqb (begun s).refused 0 none, le-leb n room l) refl

  pub passed : refused_by s n room ≡ 0 → ((begun s).refused ≡ 0) × (n ≤ room)
  unfolding refused_by
  passed h = go (eqb (begun s).refused 0) refl (leb n room) refl h
    where
      go : (a : Bool) → eqb (begun s).refused 0 ≡ a → (b : Bool) → leb n room ≡ b → ◌≡◌ {A = ℕ} (pick a (pick b 0 21) 15) 0 → ((begun s).refused ≡ 0) × (n ≤ room)
      go true f true g z = (eqb-true (begun s).refused 0 f, leb-true n room g)
      go true f false g z = absurd (omega arith)
      go false f b g z = absurd (omega arith)
