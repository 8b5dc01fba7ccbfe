-- An arrival's answer as the definitions have it: the kind, or the refusal.
-- Assumes nothing: these are definitions.
use Rattle.std.specs.Prelude.{Result, Ok, Err}
use Rattle.walk.specs.declared.Refusal.{Refusal}
use Rattle.walk.specs.declared.Refused.{Refused as Refusing}
use Rattle.walk.specs.Told.{told}
use Rattle.arrival.specs.declared.Kind.{Kind}

pub data Arrival : Type 0 where
  Answer : Kind → Arrival
  Refused : Refusal → Arrival

abbrev pub arrival_answer : Result Kind Refusing → Arrival
arrival_answer (Ok k) = Answer k
arrival_answer (Err r) = Refused (told r)
