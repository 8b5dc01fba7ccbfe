-- `carry::digits_if` meets its contract: digits if there is an id, else none.
use native.Mathlib.Omega.{arith}
use Rattle.carry.specs.Digits.{id_text}
use Rattle.carry.proofs.digits_if.Goals as goal

pub returns-then-there : goal.returns-then-there
unfolding id_text
returns-then-there c =
    record { digits = rw c.if-there.true c.digits_of.ensures.digits; few = c.digits_of.ensures.few }

pub returns : goal.returns
unfolding id_text
returns c =
    record { digits = simp c.if-there.false; few = omega arith }
