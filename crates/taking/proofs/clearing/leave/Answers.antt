-- `clearing::leave` meets its contract: a cell that is not of the message stays; zeros go over one that is, and over them the record if its
-- counter is the first's.
use Rattle.taking.proofs.Leaves.{leave_out, leave_zeros, leave_room, leave_record}
use Rattle.taking.proofs.clearing.leave.Goals as goal

pub is_within-requires : goal.is_within-requires
is_within-requires c =
    c.requires.zero_value

pub returns-then-not-is_within : goal.returns-then-not-is_within
returns-then-not-is_within c =
    let a = c.args in leave_out a.s a.store.now a.zero.now a.key.now a.first.0 a.steps a.i c.row-row.ensures
    c.is_within.ensures c.if-not-is_within.true

pub returns-then-first-c : goal.returns-then-first-c
returns-then-first-c c =
    let a = c.args in leave_zeros a.s a.store.now a.zero.now a.key.now a.first.0 a.steps a.i c.row-row.ensures
    c.is_within.ensures c.if-not-is_within.false (λ j. (c.slice_known-1.given j).fits) c.packet_in.ensures
    c.counter_in-c.ensures c.requires.zero_value c.put_row.ensures c.if-first-c.true

pub put_record-requires : goal.put_record-requires
put_record-requires c =
    let a = c.args in leave_room a.s a.store.now a.zero.now a.key.now a.first.0 a.steps a.i c.row-row.ensures
    c.is_within.ensures c.if-not-is_within.false (λ j. (c.slice_known-1.given j).fits) c.packet_in.ensures
    c.counter_in-c.ensures c.requires.zero_value c.put_row.ensures c.requires.counter_width_in_bounds

pub returns : goal.returns
returns c =
    let a = c.args in leave_record a.s a.store.now a.zero.now a.key.now a.first.0 a.steps a.i c.row-row.ensures
    c.is_within.ensures c.if-not-is_within.false (λ j. (c.slice_known-1.given j).fits) c.packet_in.ensures
    c.counter_in-c.ensures c.requires.zero_value c.put_row.ensures c.requires.counter_width_in_bounds c.if-first-c.false c.requires.last_value
    c.put_record.ensures
