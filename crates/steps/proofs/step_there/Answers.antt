-- `steps::step_there` meets its contract: the step has the part of the output after the place.
use Prim.Native.Nat.{◌+◌, ◌-◌}
use native.Mathlib.Omega.{arith}
use lib.ListN.{drop, length-drop}
use lib.Seq.{length-take-le}
use Rattle.steps.proofs.Spare.{there_out}
use Rattle.steps.proofs.step_there.Goals as goal

-- a pair with the names of the clauses
named : {A B C D : Type 0} → A × (B × (C × D)) → record { zero_value : A; store_value : B; n_value : C; room_in_bounds : D }
named p = record { zero_value = p.0; store_value = p.1.0; n_value = p.1.1.0; room_in_bounds = p.1.1.1 }

pub step-requires : goal.step-requires
step-requires c =
    named ((
      c.requires.zero_value,
      (
        c.requires.store_value,
        (
          c.requires.n_value,
          omega (
            arith,
            length-take-le (c.args.at + 65542 - c.args.at) (drop c.args.at c.args.out.now)
                (omega (arith, length-drop c.args.at c.args.out.now, c.requires.room_in_bounds)),
          ),
        ),
      ),
    ))

pub returns : goal.returns
returns c =
    record {
      value = c.step.ensures.value;
      store_after = c.step.ensures.store_after;
      out_after = there_out _ _ _ _ _ _ _ (c.args.at + 65542 - c.args.at) (omega (arith, c.requires.room_in_bounds)) (omega arith) c.step.ensures.out_after;
    }
