-- `sender::counter_after` meets its contract, case by case.
use mathlib.Core.Path.{refl}
use native.Mathlib.Omega.{arith}
use Rattle.sender.proofs.Moving.{after_below, after_round}
use Rattle.sender.proofs.counter_after.Goals as goal

pub overflow_add-x : goal.overflow_add-x
overflow_add-x c =
    omega arith

pub overflow_cast-result : goal.overflow_cast-result
overflow_cast-result c =
    omega (arith, c.if-x-lt-COUNTERS.true)

pub returns-then-x-lt-COUNTERS : goal.returns-then-x-lt-COUNTERS
returns-then-x-lt-COUNTERS c =
    after_below _ _ (omega arith) refl c.if-x-lt-COUNTERS.true

pub overflow_cast-result-2 : goal.overflow_cast-result-2
overflow_cast-result-2 c =
    omega arith

pub returns : goal.returns
returns c =
    after_round _ _ (omega arith) refl c.if-x-lt-COUNTERS.false
