-- `salvage::finish` meets its contract: the stretch is listed at the file's end if one is open and an entry is free.
use native.Mathlib.Omega.{arith}
use Rattle.salvage.proofs.Ending.{ending_on, ending_none, ending_listed, finish_on, finish_open}
use Rattle.salvage.proofs.finish.Goals as goal

-- a pair with the names of the clauses
named : {A B : Type 0} → A × B → record { value : A; list_after : B }
named p = record { value = p.0; list_after = p.1 }

pub returns-then-stop-n : goal.returns-then-stop-n
returns-then-stop-n c =
    named (finish_on _ _ _ _ _ (ending_on _ _ _ _ c.if-stop-n.true) c.told.ensures)

pub returns-then-free-entries : goal.returns-then-free-entries
returns-then-free-entries c =
    named (finish_on _ _ _ _ _ (ending_none _ _ _ _ (omega arith) c.requires.begin_le_place) c.told-then-free-entries.ensures)

pub returns : goal.returns
returns c =
    named (finish_open _ _ _ _ _ (ending_listed _ _ _ _ c.if-stop-n.false (omega arith)) c.told-2.ensures c.put_stretch-all.ensures)
