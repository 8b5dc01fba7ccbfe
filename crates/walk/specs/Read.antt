-- What a step of a reader answers, by the definition of that step.
-- Assumes nothing: these are definitions.
use Rattle.std.specs.Prelude.{ℕ, ◌≡◌, List, true, false, Result, Ok, Err, eqb}
use Rattle.octets.specs.Octets.{pick}
use Rattle.walk.specs.declared.Refusal.{Refusal}
use Rattle.walk.specs.declared.Refused.{Refused}
use Rattle.walk.specs.declared.Bound.{Bound}
use Rattle.walk.specs.declared.Reader.{Reader}
use Rattle.walk.specs.Walk.{Reading, Step, goes, going, octets}
use Rattle.walk.specs.Told.{told}

-- what a refused reading tells: its number, and beside 6 its place, counted from the first octet that is read
abbrev pub tells : Reading → Refusal
tells w = record { number = w.refused; octets = 0; place = pick (eqb w.refused 6) w.at 0 }

-- the reading was refused, and by this refusal
pub record Refuses (e : Refused) (w : Reading) : Type 0 where
  pub tells : told e ≡ tells w
  pub stops : going w ≡ false

-- the step found this, and the reader goes on after it: over the same octets, settings and bound
pub record Went {A : Type 0} (step : Step A) (r q : Reader) (x : A) : Type 0 where
  pub walk : step.walk ≡ goes q.at
  pub value : step.value ≡ x
  pub octets : q.octets ≡ r.octets
  pub settings : q.settings ≡ r.settings
  pub bound : q.bound ≡ r.bound

-- the step was refused, and the reader stands where it was: over the same octets, settings and bound
pub record Stopped (e : Refused) (w : Reading) (r q : Reader) : Type 0 where
  pub refuses : Refuses e w
  pub stands : q.at ≡ w.at
  pub octets : q.octets ≡ r.octets
  pub settings : q.settings ≡ r.settings
  pub bound : q.bound ≡ r.bound

-- a step from a reader's place on: the reader before it and after it, and its answer
abbrev pub Reads : {A : Type 0} → (Reading → Step A) → Reader → Reader → Result A Refused → Type 0
Reads step r q (Ok x) = Went (step (goes r.at)) r q x
Reads step r q (Err e) = Stopped e (step (goes r.at)).walk r q

-- a step that finds nothing: it goes past n octets
abbrev pub skipped : Bound → List ℕ → ℕ → Reading → Step (Unit {0})
skipped b p n w = record { walk = octets b p n w; value = tt }

-- a whole reading, to its end
abbrev pub Answers : {A : Type 0} → Step A → Result A Refused → Type 0
Answers step (Ok x) = (going step.walk ≡ true) × (step.value ≡ x)
Answers step (Err e) = Refuses e step.walk

-- tests that go on at a place
abbrev pub Tests : Reading → ℕ → Result (Unit {0}) Refused → Type 0
Tests w at (Ok x) = w ≡ goes at
Tests w at (Err e) = Refuses e w
