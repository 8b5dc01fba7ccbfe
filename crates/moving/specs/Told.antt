-- What a move answers, as the calls have it.
-- Assumes nothing: these are definitions.
use Rattle.std.specs.Prelude.{ℕ, List}
use Rattle.walk.specs.declared.Settings.{Settings}
use Rattle.walk.specs.Walk.{refusal}
use Rattle.moving.specs.Answer.{Moved}
use Rattle.moving.specs.Moving.{moved_by, cell_by}

unfoldable pub moved_of : Settings → ℕ → ℕ → List ℕ → ℕ → Moved
moved_of s Y Z st m = record { refusal = refusal (moved_by s Y Z st m); cell = cell_by s Y Z st m }
