-- `sender::Sender::after_segments` meets its contract: the closed forms are the definition's steps.
use Rattle.sender.proofs.Moving.{moved_both}
use Rattle.sender.proofs.Sender.after_segments.Goals as goal

pub returns : goal.returns
returns c =
    moved_both _ _ c.sequence_count_after-sequence_count.ensures c.counter_after-counter.ensures
