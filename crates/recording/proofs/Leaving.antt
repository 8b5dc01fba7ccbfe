-- Why the steps stopped, by what stands at the place.
-- Assumes nothing.
use Prim.Native.Nat.{ℕ}
use mathlib.Core.Path.{◌≡◌, refl}
use native.Mathlib.Omega.{arith}
use Rattle.recording.specs.Answer.{Ended, Unmarked, Torn}
use Rattle.steps.specs.declared.Stands.{Stands}
use Rattle.steps.specs.declared.Stands.TheVariants.{Nothing, Other, Cut, Whole}
use Rattle.steps.specs.Stepping.{Found, nothing, other, cut, whole}
use Rattle.steps.specs.Told.{stands_of}
use Rattle.recording.specs.Ending.{past, why_at}

pub why_nothing : (f : Found) {r : Stands} → r ≡ stands_of f → r ≡ Nothing → Ended ≡ why_at f
why_nothing nothing e h = refl
why_nothing other e h = let z : ◌≡◌ {A = ℕ} 0 1 = cc in absurd (omega arith)
why_nothing cut e h = let z : ◌≡◌ {A = ℕ} 0 1 = cc in absurd (omega arith)
why_nothing (whole p) e h = let z : ◌≡◌ {A = ℕ} 0 1 = cc in absurd (omega arith)

pub why_other : (f : Found) {r : Stands} → r ≡ stands_of f → r ≡ Other → Unmarked ≡ why_at f
why_other nothing e h = let z : ◌≡◌ {A = ℕ} 0 1 = cc in absurd (omega arith)
why_other other e h = refl
why_other cut e h = let z : ◌≡◌ {A = ℕ} 0 1 = cc in absurd (omega arith)
why_other (whole p) e h = let z : ◌≡◌ {A = ℕ} 0 1 = cc in absurd (omega arith)

pub why_cut : (f : Found) {r : Stands} → r ≡ stands_of f → r ≡ Cut → Torn ≡ why_at f
why_cut nothing e h = let z : ◌≡◌ {A = ℕ} 0 1 = cc in absurd (omega arith)
why_cut other e h = let z : ◌≡◌ {A = ℕ} 0 1 = cc in absurd (omega arith)
why_cut cut e h = refl
why_cut (whole p) e h = let z : ◌≡◌ {A = ℕ} 0 1 = cc in absurd (omega arith)

pub why_whole : (f : Found) {r : Stands} → r ≡ stands_of f → r ≡ Whole → past f ≡ 0 → Torn ≡ why_at f
why_whole nothing e h k = let z : ◌≡◌ {A = ℕ} 0 1 = cc in absurd (omega arith)
why_whole other e h k = let z : ◌≡◌ {A = ℕ} 0 1 = cc in absurd (omega arith)
why_whole cut e h k = let z : ◌≡◌ {A = ℕ} 0 1 = cc in absurd (omega arith)
why_whole (whole p) e h k = absurd (omega (arith, k))
