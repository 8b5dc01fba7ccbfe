-- `light::double` meets its contract.
use native.Mathlib.Omega.{arith}
use Rattle.light.proofs.FixedPart.{number_four}
use Rattle.light.proofs.double.Goals as goal

-- a pair with the names of the clauses
named : {A B : Type 0} → A × B → record { value : A; small : B }
named p = record { value = p.0; small = p.1 }

pub returns : goal.returns
returns c =
    named ((
      number_four c.args.p.now c.args.at c.word.ensures.value c.word-2.ensures.value,
      omega (arith, c.word.ensures.small, c.word-2.ensures.small),
    ))
