-- `cells::judge` meets its contract, case by case.
use Prim.Native.Nat.{◌+◌}
use lib.ListN.{length}
use mathlib.Core.Path.{ap, refl}
use native.Mathlib.Omega.{arith}
use Rattle.octets.specs.Octets.{number}
use Rattle.cells.proofs.Held.{part_room, told_free, told_held_lem, told_broken, told_refused}
use Rattle.cells.proofs.Records.{told_record, told_none, refused_number}
use Rattle.cells.proofs.judge.Goals as goal

pub returns-then-is_free : goal.returns-then-is_free
returns-then-is_free c =
    told_free _ _ _ c.requires c.is_free.ensures c.if-is_free.true

pub returns-then-octet-eq-MARK_TAKEN : goal.returns-then-octet-eq-MARK_TAKEN
returns-then-octet-eq-MARK_TAKEN c =
    told_record _ _ _ c.requires c.is_free.ensures c.if-is_free.false
    c.octet.ensures c.if-octet-eq-MARK_TAKEN.true c.judge_record.ensures

pub returns-in_default : goal.returns-in_default
returns-in_default c =
    told_refused _ _ _ c.requires c.is_free.ensures c.if-is_free.false c.packet_in-p.ensures c.in_default.ensures.answer refl refl
    (refused_number _)
    (told_none _ _ _ c.requires c.is_free.ensures c.if-is_free.false c.octet.ensures c.if-octet-eq-MARK_TAKEN.false)

pub overflow_add-p : goal.overflow_add-p
overflow_add-p c =
    record {
      fits = part_room c.args.row.now (number 2 _ 6 + 7)
          (ap length c.packet_in-p.ensures)
          (omega (arith, c.well_formed));
    }

pub returns-then-both : goal.returns-then-both
returns-then-both c =
    told_held_lem _ _ _ c.requires c.is_free.ensures c.if-is_free.false
    c.packet_in-p.ensures c.in-Ok.ensures.answer c.is_marked-marked.ensures c.both.ensures c.if-both.true

pub returns-else-both : goal.returns-else-both
returns-else-both c =
    told_broken _ _ _ c.requires c.is_free.ensures c.if-is_free.false
    c.packet_in-p.ensures c.in-Ok.ensures.answer c.is_marked-marked.ensures c.both.ensures c.if-both.false
    (told_none _ _ _ c.requires c.is_free.ensures c.if-is_free.false c.octet.ensures
    c.if-octet-eq-MARK_TAKEN.false)
