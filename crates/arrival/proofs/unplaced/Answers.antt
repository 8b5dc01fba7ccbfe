-- `arrival::unplaced` meets its contract: taken, and then 17.
use mathlib.Core.Path.{ap, sym, ◌∙◌}
use mathlib.Core.Bool.{Bool}
use Rattle.arrival.specs.Told.{arrival_of}
use Rattle.arrival.specs.Inner.{unplaced_of}
use Rattle.arrival.proofs.unplaced.Goals as goal

pub returns-then-untaken : goal.returns-then-untaken
returns-then-untaken c =
    ap (λ (b : Bool). arrival_of (unplaced_of b)) (sym c.if-untaken.true)

pub returns : goal.returns
returns c =
    ap (λ (b : Bool). arrival_of (unplaced_of b)) (sym c.if-untaken.false)
