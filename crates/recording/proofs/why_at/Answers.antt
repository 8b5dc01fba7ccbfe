-- `recording::why_at` meets its contract: by what stands there.
use Rattle.recording.proofs.Leaving.{why_nothing, why_other, why_cut, why_whole}
use Rattle.steps.specs.Stepping.{found_in}
use Rattle.recording.proofs.why_at.Goals as goal

pub returns-in-Nothing : goal.returns-in-Nothing
returns-in-Nothing c =
    why_nothing (found_in _) c.look.ensures c.in-Nothing.is

pub returns-in-Other : goal.returns-in-Other
returns-in-Other c =
    why_other (found_in _) c.look.ensures c.in-Other.is

pub returns-in-Cut : goal.returns-in-Cut
returns-in-Cut c =
    why_cut (found_in _) c.look.ensures c.in-Cut.is

pub returns-in-Whole : goal.returns-in-Whole
returns-in-Whole c =
    why_whole (found_in _) c.look.ensures c.in-Whole.is c.requires
