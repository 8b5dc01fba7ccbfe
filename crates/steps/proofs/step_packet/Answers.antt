-- `steps::step_packet` meets its contract: by the packet's length.
use Rattle.steps.proofs.Steps.{passes_over, passes_joined}
use Rattle.steps.proofs.step_packet.Goals as goal

-- a pair with the names of the clauses
named : {A B C : Type 0} → A × (B × C) → record { value : A; store_after : B; out_after : C }
named p = record { value = p.0; store_after = p.1.0; out_after = p.1.1 }

pub returns-then-p-gt-LONGEST : goal.returns-then-p-gt-LONGEST
returns-then-p-gt-LONGEST c =
    named (passes_over _ _ _ _ _ c.if-p-gt-LONGEST.true)

pub join_packet-requires : goal.join_packet-requires
join_packet-requires c =
    record { zero_value = c.requires.zero_value; store_value = c.requires.store_value; n_value = c.requires.n_value; room_in_bounds = c.requires.room_in_bounds; p_len_bound = c.if-p-gt-LONGEST.false }

pub returns : goal.returns
returns c =
    named (passes_joined _ _ _ _ _ c.if-p-gt-LONGEST.false c.join_packet.ensures.value c.join_packet.ensures.store_after c.join_packet.ensures.out_after)
