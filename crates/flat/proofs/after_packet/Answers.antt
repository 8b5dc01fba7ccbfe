-- `flat::after_packet` meets its contract.
use Rattle.sender.specs.Sending.{after_packet}
use Rattle.flat.specs.Answers.{after_packet_numbers}
use Rattle.flat.proofs.Choosing.{moved_on}
use Rattle.flat.proofs.after_packet.Goals as goal

pub returns : goal.returns
unfolding after_packet_numbers
returns c =
    moved_on c.args.sender.now _ after_packet c.moved.ensures.fits c.moved.ensures.too_wide
