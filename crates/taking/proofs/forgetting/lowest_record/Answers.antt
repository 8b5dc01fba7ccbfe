-- `forgetting::lowest_record` meets its contract. The loop's invariant: none of the cells passed has a record.
use lib.ListN.{length}
use Rattle.cells.proofs.Scans.{seeking_first, seeking_turn, seeking_found, seeking_none}
use Rattle.taking.specs.Forgetting.{lowest_record}
use Rattle.taking.proofs.Forgets.{record_here}
use Rattle.taking.proofs.forgetting.lowest_record.Goals as goal

pub loop-i-init : goal.loop-i-init
loop-i-init c =
    seeking_first _ _

pub returns-then-is_record : goal.returns-then-is_record
unfolding lowest_record
returns-then-is_record c =
    let a = c.args in seeking_found c.loop-i.invariant c.loop-i-test.true
    (record_here a.s (length a.zero.now) a.store.now c.loop-i.i c.row.ensures c.is_record.ensures c.if-is_record.true)

pub loop-i-preserved : goal.loop-i-preserved
loop-i-preserved c =
    let a = c.args in seeking_turn c.loop-i.invariant c.loop-i-test.true
    (record_here a.s (length a.zero.now) a.store.now c.loop-i.i c.row.ensures c.is_record.ensures c.if-is_record.false)

pub returns : goal.returns
unfolding lowest_record
returns c =
    seeking_none c.loop-i.invariant c.loop-i-test.false
