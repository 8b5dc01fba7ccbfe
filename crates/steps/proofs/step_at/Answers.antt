-- `steps::step_at` meets its contract: by the room after the place.
use native.Mathlib.Omega.{arith}
use Rattle.steps.proofs.step_at.Goals as goal

pub step_spare-requires : goal.step_spare-requires
step_spare-requires c =
    record { zero_value = c.requires.zero_value; store_value = c.requires.store_value; n_value = c.requires.n_value; room_in_bounds = c.requires.room_in_bounds }

pub returns-then-out-at-lt-SPACE : goal.returns-then-out-at-lt-SPACE
returns-then-out-at-lt-SPACE c =
    record { value = c.step_spare.ensures.value; store_after = c.step_spare.ensures.store_after; out_after = c.step_spare.ensures.out_after }

pub step_there-requires : goal.step_there-requires
step_there-requires c =
    record {
      zero_value = c.requires.zero_value;
      store_value = c.requires.store_value;
      n_value = c.requires.n_value;
      room_in_bounds = omega (arith, c.requires.at_in_bounds, c.if-out-at-lt-SPACE.false);
    }

pub returns : goal.returns
returns c =
    record { value = c.step_there.ensures.value; store_after = c.step_there.ensures.store_after; out_after = c.step_there.ensures.out_after }
