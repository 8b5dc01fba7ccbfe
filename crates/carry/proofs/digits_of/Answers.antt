-- `carry::digits_of` meets its contract, by the number of digits.
use mathlib.Core.Path.{sym}
use native.Mathlib.Omega.{arith}
use Rattle.carry.proofs.DigitLaws.{digits_one, digits_two, digits_three}
use Rattle.carry.proofs.digits_of.Goals as goal

pub returns-then-n-lt10 : goal.returns-then-n-lt10
returns-then-n-lt10 c =
    record { digits = sym (digits_one _ c.if-n-lt10.true); few = omega arith }

pub returns-then-n-lt100 : goal.returns-then-n-lt100
returns-then-n-lt100 c =
    record { digits = sym (digits_two _ c.if-n-lt10.false c.if-n-lt100.true); few = omega arith }

pub returns : goal.returns
returns c =
    record { digits = sym (digits_three _ c.if-n-lt100.false); few = omega arith }
