-- `taking::put_body` meets its contract: the body has room and is laid whole.
use Prim.Native.Nat.{ℕ}
use mathlib.Core.List.{List}
use mathlib.Core.Path.{ap, ◌∙◌}
use Rattle.octets.specs.Octets.{part}
use Rattle.taking.proofs.Copying.{laid_there}
use Rattle.taking.proofs.put_body.Goals as goal

-- a pair with the names of the clauses
named : {A B : Type 0} → A × B → record { value : A; out_after : B }
named p = record { value = p.0; out_after = p.1 }

pub returns : goal.returns
returns c =
    named (laid_there (c.span.ensures ∙ ap (λ (p : List ℕ). part p c.args.t.at c.args.t.length)
    c.packet_in-p.ensures) c.lay.ensures c.requires)
