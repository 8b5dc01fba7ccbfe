-- `carry::read_message` meets its contract: a place is counted from the secondary header on.
use Rattle.carry.proofs.Whole.{whole_refused, header_whole}
use Rattle.carry.proofs.read_message.Goals as goal

pub returns-in-Ok : goal.returns-in-Ok
returns-in-Ok c =
    header_whole c.args.s c.args.encoding _ _ c.in-Ok.ensures

pub returns-in-Err : goal.returns-in-Err
returns-in-Err c =
    whole_refused c.args.s c.args.encoding _ _ _ c.in-Err.ensures c.counted_from.ensures
