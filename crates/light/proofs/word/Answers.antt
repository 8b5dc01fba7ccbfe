-- `light::word` meets its contract.
use native.Mathlib.Omega.{arith}
use Rattle.light.proofs.FixedPart.{number_two}
use Rattle.light.proofs.word.Goals as goal

-- a pair with the names of the clauses
named : {A B : Type 0} → A × B → record { value : A; small : B }
named p = record { value = p.0; small = p.1 }

pub returns : goal.returns
returns c =
    named ((
      number_two c.args.p.now c.args.at c.octet.ensures.value c.octet-2.ensures.value,
      omega (arith, c.octet.ensures.small, c.octet-2.ensures.small),
    ))
