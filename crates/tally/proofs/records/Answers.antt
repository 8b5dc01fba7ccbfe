-- `tally::records` meets its contract: the count goes over the cells that the length gives.
use Prim.Native.Nat.{ℕ}
use mathlib.Core.Path.{ap, ◌∙◌}
use Rattle.tally.specs.Counting.{records_to}
use Rattle.tally.proofs.records.Goals as goal

pub returns : goal.returns
returns c =
    let a = c.args in c.records_to.ensures ∙ ap (λ (k : ℕ). records_to a.s 1024 a.store.now k) c.count-n.ensures
