-- `salvage_recording::add_line` meets its contract: no line goes past the end.
use Rattle.entries.proofs.Room.{lays_inside}
use Rattle.salvage_recording.proofs.add_line.Goals as goal

pub overflow_sub-lines : goal.overflow_sub-lines
overflow_sub-lines c = lays_inside c.put_line-next.ensures c.requires

pub slice_bounds-flush_list-end : goal.slice_bounds-flush_list-end
slice_bounds-flush_list-end c = lays_inside c.put_line-next.ensures c.requires
