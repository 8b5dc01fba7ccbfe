-- `sender::Sender::after_segment` meets its contract: one segment on.
use mathlib.Core.Path.{◌∙◌}
use Rattle.sender.proofs.Moving.{moved_one}
use Rattle.sender.proofs.Sender.after_segment.Goals as goal

pub returns : goal.returns
returns c =
    c.after_segments.ensures ∙ moved_one _
