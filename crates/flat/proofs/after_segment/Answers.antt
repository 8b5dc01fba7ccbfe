-- `flat::after_segment` meets its contract.
use Rattle.sender.specs.Sending.{after_segment}
use Rattle.flat.specs.Answers.{after_segment_numbers}
use Rattle.flat.proofs.Choosing.{moved_on}
use Rattle.flat.proofs.after_segment.Goals as goal

pub returns : goal.returns
unfolding after_segment_numbers
returns c =
    moved_on c.args.sender.now _ after_segment c.moved.ensures.fits c.moved.ensures.too_wide
