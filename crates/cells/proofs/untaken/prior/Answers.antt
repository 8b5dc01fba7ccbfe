-- `untaken::prior` meets its contract, one way and the other.
use mathlib.Core.Path.{ap, sym}
use mathlib.Core.Bool.{Bool}
use borrow.Author.Tests.{eq-eqb, ne_eqb}
use Prim.Native.Nat.{◌-◌}
use Rattle.octets.specs.Octets.{pick}
use Rattle.cells.proofs.untaken.prior.Goals as goal

pub returns-then-x-eq0 : goal.returns-then-x-eq0
returns-then-x-eq0 c =
    let g = c.args in ap (λ (b : Bool). pick b g.top (g.x - 1)) (sym (eq-eqb g.x 0 c.if-x-eq0.true))

pub returns : goal.returns
returns c =
    let g = c.args in ap (λ (b : Bool). pick b g.top (g.x - 1)) (sym (ne_eqb g.x 0 c.if-x-eq0.false))
