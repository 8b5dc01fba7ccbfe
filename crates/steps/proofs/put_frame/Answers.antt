-- `steps::put_frame` meets its contract: the mark, and after it the length.
use Prim.Native.Nat.{ℕ}
use mathlib.Core.Path.{ap, ◌∙◌}
use mathlib.Core.List.{List}
use lib.Seq.{sets}
use Rattle.octets.specs.Octets.{wide}
use Rattle.steps.proofs.put_frame.Goals as goal

pub returns : goal.returns
unfolding wide
returns c =
    c.put_number-2.ensures ∙ ap (λ (x : List ℕ). sets x 2
    (wide 4 c.args.n))
    c.put_number.ensures
