-- What a step answers, for what it comes to.
-- Assumes nothing: these are definitions.
use Rattle.std.specs.Prelude.{ℕ, ◌+◌, List, length}
use Rattle.walk.specs.declared.Refusal.{Refusal}
use Rattle.walk.specs.Walk.{no_refusal}
use Rattle.steps.specs.Answer.{What}
use Rattle.steps.specs.Answer.{More, Ended, Unmarked, Torn, Passed, Refused, Kept, Late, Whole, Joined}
use Rattle.steps.specs.declared.Stands.{Stands}
use Rattle.steps.specs.declared.Stands.TheVariants.{Nothing, Other, Cut, Whole as InFull}
use Rattle.steps.specs.Answer.{Done, stays}
use Rattle.steps.specs.Stepping.{Found, nothing, other, cut, whole, Came, over, refused, kept, late, wholly, message, wrote, Stepped}
use Rattle.steps.specs.Stepping.{wanting, ended, unmarked, torn, came}

abbrev pub stands_of : Found → Stands
stands_of nothing = Nothing
stands_of other = Other
stands_of cut = Cut
stands_of (whole p) = InFull

abbrev pub what_came : Came → What
what_came over = Passed
what_came (refused r) = Refused
what_came kept = Kept
what_came late = Late
what_came wholly = Whole
what_came (message r) = Joined

-- the refusal of a packet that is passed over for it
abbrev pub refusal_came : Came → Refusal
refusal_came over = no_refusal
refusal_came (refused r) = r
refusal_came kept = no_refusal
refusal_came late = no_refusal
refusal_came wholly = no_refusal
refusal_came (message r) = no_refusal

-- a step that uses up no octet and writes none
abbrev pub still : What → Done
still w = stays w

-- a step over a packet
abbrev pub done_came : List ℕ → Came → Done
done_came p c =
    record { what = what_came c; refusal = refusal_came c; used = 2 + length p; written = length (wrote p c) }

abbrev pub done_of : Stepped → Done
done_of wanting = still More
done_of ended = still Ended
done_of unmarked = still Unmarked
done_of torn = still Torn
done_of (came p c) = done_came p c
