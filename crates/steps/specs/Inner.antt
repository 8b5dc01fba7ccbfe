-- What the code hands about: what a joining wrote, a step over a packet, and one that may want more octets.
-- Assumes nothing: these are definitions.
use Rattle.std.specs.Prelude.{ℕ, ◌+◌, Bool, List, [], eqb}
use Rattle.octets.specs.Octets.{pick}
use Rattle.walk.specs.declared.Refusal.{Refusal}
use Rattle.taking.specs.Taking.{writing}
use Rattle.walk.specs.Walk.{no_refusal}
use Rattle.join.specs.Joining.{Joining, in_packet, in_output, unjoined}
use Rattle.steps.specs.Answer.{What}
use Rattle.steps.specs.Answer.{More, Refused, Kept, Late}
use Rattle.steps.specs.Answer.{Done}
use Rattle.steps.specs.Told.{still}

-- the octets of the message that was taken
abbrev pub taken_in : Joining → List ℕ
taken_in (in_packet place long) = []
taken_in (in_output r) = writing r
taken_in (unjoined r) = []

-- a packet that neither came whole nor completed a message
unfoldable pub left_as : Refusal → Bool → ℕ → Done
left_as r l n =
    pick (eqb r.number 20)
    (pick l (record { what = Late; refusal = no_refusal; used = n; written = 0 }) (record { what = Kept; refusal = no_refusal; used = n; written = 0 }))
    (record { what = Refused; refusal = r; used = n; written = 0 })

-- if the recording ends the stop is final
unfoldable pub stop_as : Bool → Done → Done
stop_as e d = pick e d (still More)
