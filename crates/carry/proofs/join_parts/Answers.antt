-- `carry::join_parts` meets its contract. The loop's invariant, `Joining`: k parts are joined.
use borrow.Author.Rules.{rules}
use native.Mathlib.Omega.{arith}
use Rattle.carry.proofs.Joined.{joining_first, joining_next, joining_done}
use Rattle.carry.proofs.join_parts.Goals as goal

-- a pair with the names of the clauses
named : {A B C D : Type 0} → A × (B × (C × D)) → record { text : A; lengths : B; total : C; room : D }
named p = record { text = p.0; lengths = p.1.0; total = p.1.1.0; room = p.1.1.1 }

pub loop-k-init : goal.loop-k-init
loop-k-init c =
    let q = c.requires in joining_first _ _ _ _ _ q.0.0 q.0.1 q.1.0 q.1.1

pub bounds-parts-k : goal.bounds-parts-k
bounds-parts-k c =
    let m = c.loop-k.invariant.most in search rules

pub bounds-lengths-k : goal.bounds-lengths-k
bounds-lengths-k c =
    let m = c.loop-k.invariant.most in search rules

pub overflow_add-k : goal.overflow_add-k
overflow_add-k c =
    let m = c.loop-k.invariant.most in search rules

pub loop-k-smaller : goal.loop-k-smaller
loop-k-smaller c =
    omega (arith, c.loop-k-test.true)

pub loop-k-preserved : goal.loop-k-preserved
loop-k-preserved c =
    joining_next c.loop-k.invariant c.loop-k-test.true c.content-part.ensures c.copy.ensures
    c.plus_to-total.ensures

pub returns : goal.returns
returns c =
    named (joining_done c.loop-k.invariant c.loop-k-test.false)
