-- `taking::put_key` meets its contract: the octets around the counter are laid one after another.
use native.Mathlib.Omega.{arith}
use Rattle.taking.proofs.Copying.{key_places, key_put}
use Rattle.taking.proofs.put_key.Goals as goal

-- a pair with the names of the clauses
named : {A B : Type 0} → A × B → record { value : A; out_after : B }
named p = record { value = p.0; out_after = p.1 }

pub overflow_sub-c : goal.overflow_sub-c
overflow_sub-c c =
    (key_places _ _ _ c.requires.asked
    c.counter_place-c.ensures).0

pub overflow_add-c : goal.overflow_add-c
overflow_add-c c =
    omega (arith, (key_places _ _ _ c.requires.asked c.counter_place-c.ensures).1.0)

pub overflow_add-c-2 : goal.overflow_add-c-2
overflow_add-c-2 c =
    omega (arith, (key_places _ _ _ c.requires.asked c.counter_place-c.ensures).1.0)

pub overflow_sub-body_at : goal.overflow_sub-body_at
overflow_sub-body_at c =
    (key_places _ _ _ c.requires.asked c.counter_place-c.ensures).1.1

pub returns : goal.returns
returns c =
    named (key_put _ _ _ c.requires.asked c.counter_place-c.ensures
    c.requires.q_in_bounds c.span.ensures c.span-2.ensures
    c.span-3.ensures c.lay-ids.ensures c.lay-fore.ensures c.lay.ensures)
