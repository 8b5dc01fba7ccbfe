-- What every call on a store does first: settings and order are checked.
-- Assumes nothing: these are definitions.
use Rattle.std.specs.Prelude.{ℕ, List, Result, Ok, Err, eqb}
use Rattle.octets.specs.Octets.{pick}
use Rattle.walk.specs.declared.Settings.{Settings}
use Rattle.walk.specs.declared.Refusal.{Refusal}
use Rattle.walk.specs.declared.Refused.{Refused}
use Rattle.walk.specs.Walk.{refusal, no_refusal}
use Rattle.walk.specs.Told.{told}
use Rattle.cells.specs.Order.{count_in, gate}

-- a store whose settings and order were checked: 15 or 16, or how many cells it has
pub record Opened : Type 0 where
  pub refusal : Refusal
  pub cells : ℕ

-- as the code answers it
abbrev pub opened : Result ℕ Refused → Opened
opened (Ok n) = record { refusal = no_refusal; cells = n }
opened (Err r) = record { refusal = told r; cells = 0 }

-- the refusal, and how many cells there are if there is none
unfoldable pub opened_of : Settings → ℕ → List ℕ → Opened
opened_of s Z st =
    record { refusal = refusal (gate s Z st); cells = pick (eqb (gate s Z st) 0) (count_in Z st) 0 }
