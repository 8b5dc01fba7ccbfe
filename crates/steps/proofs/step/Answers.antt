-- `steps::step` meets its contract: by what stands at the place reached.
use mathlib.Core.Path.{refl, ap}
use mathlib.Core.List.{List}
use Prim.Native.Nat.{ℕ}
use native.Mathlib.Omega.{arith}
use lib.ListN.{length}
use Rattle.steps.proofs.Places.{packet_most_lem}
use Rattle.steps.proofs.Steps.{step_nothing, step_other, step_cut, step_whole}
use Rattle.steps.proofs.step.Goals as goal

-- a pair with the names of the clauses
named : {A B C D E : Type 0} → A × (B × (C × (D × E))) → record { zero_value : A; store_value : B; n_value : C; room_in_bounds : D; p_len_bound : E }
named p = record { zero_value = p.0; store_value = p.1.0; n_value = p.1.1.0; room_in_bounds = p.1.1.1.0; p_len_bound = p.1.1.1.1 }

-- a pair with the names of the clauses
named_2 : {A B C : Type 0} → A × (B × C) → record { value : A; store_after : B; out_after : C }
named_2 p = record { value = p.0; store_after = p.1.0; out_after = p.1.1 }

pub step_packet-requires : goal.step_packet-requires
step_packet-requires c =
    named ((
      c.requires.zero_value,
      (
        c.requires.store_value,
        (
          c.requires.n_value,
          (
            c.requires.room_in_bounds,
            omega (
              arith,
              packet_most_lem c.args.window.now (λ i. (c.type_inv.window i).fits),
              ap (λ (x : List ℕ). length x) c.packet_in.ensures,
            ),
          ),
        ),
      ),
    ))

pub returns-in-Nothing : goal.returns-in-Nothing
returns-in-Nothing c =
    named_2 (step_nothing _ _ _ _ _ _ c.look.ensures c.in-Nothing.is c.stop.ensures)

pub returns-in-Other : goal.returns-in-Other
returns-in-Other c =
    named_2 (step_other _ _ _ _ _ _ c.look.ensures c.in-Other.is refl)

pub returns-in-Cut : goal.returns-in-Cut
returns-in-Cut c =
    named_2 (step_cut _ _ _ _ _ _ c.look.ensures c.in-Cut.is c.stop-in-Cut.ensures)

pub returns-in-Whole : goal.returns-in-Whole
returns-in-Whole c =
    named_2 (step_whole _ _ _ _ _ _ c.look.ensures c.in-Whole.is
    c.packet_in.ensures (c.step_packet.ensures.value, (c.step_packet.ensures.store_after, c.step_packet.ensures.out_after)))
