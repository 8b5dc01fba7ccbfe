-- `varint::put` meets its contract. The loop's invariant, `Putting`: what is left to write, laid over what is there, is the whole.
use lib.ListN.{length-set}
use native.Mathlib.Omega.{arith}
use Rattle.varint.proofs.Putting.{putting_first, no_room, inside, turn, put_last}
use Rattle.varint.proofs.put.Goals as goal

-- a pair with the names of the clauses
named : {A B : Type 0} → A × B → record { answer : A; octets : B }
named p = record { answer = p.0; octets = p.1 }

pub returns-then-out-at : goal.returns-then-out-at
returns-then-out-at c =
    named (no_room _ _ _ (omega (arith, c.size-n.ensures)))

pub returns-then-out-at-2 : goal.returns-then-out-at-2
returns-then-out-at-2 c =
    named (no_room _ _ _ (omega (arith, c.size-n.ensures)))

pub loop-x-init : goal.loop-x-init
loop-x-init c =
    putting_first _ _ _ (omega (arith, c.size-n.ensures))

pub overflow_add-out : goal.overflow_add-out
overflow_add-out c =
    omega arith

pub overflow_cast-out : goal.overflow_cast-out
overflow_cast-out c =
    omega arith

pub bounds-out-i : goal.bounds-out-i
bounds-out-i c =
    inside c.loop-x.invariant

pub overflow_add-i : goal.overflow_add-i
overflow_add-i c =
    omega (arith, inside c.loop-x.invariant)

pub loop-x-smaller : goal.loop-x-smaller
loop-x-smaller c =
    omega arith

pub loop-x-preserved : goal.loop-x-preserved
loop-x-preserved c =
    turn c.loop-x.invariant c.loop-x-test.true

pub overflow_cast-out-2 : goal.overflow_cast-out-2
overflow_cast-out-2 c =
    omega arith

pub bounds-out-i-2 : goal.bounds-out-i-2
bounds-out-i-2 c =
    inside c.loop-x.invariant

pub overflow_add-result : goal.overflow_add-result
overflow_add-result c =
    omega (arith, inside c.loop-x.invariant)

pub shape_of-out : goal.shape_of-out
shape_of-out c =
    simp length-set c.loop-x.invariant.long

pub returns : goal.returns
returns c =
    named (put_last c.loop-x.invariant (omega arith))
