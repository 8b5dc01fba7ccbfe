-- `sender::Sender::after_message` meets its contract, case by case.
use Rattle.sender.proofs.Moving.{message_whole, message_segments}
use Rattle.sender.proofs.Sender.after_message.Goals as goal

pub returns-in-Whole : goal.returns-in-Whole
returns-in-Whole c =
    message_whole _ c.in-Whole.is c.after_packet.ensures

pub returns-in-Segments : goal.returns-in-Segments
returns-in-Segments c =
    message_segments _ c.in-Segments.is c.after_segments.ensures
