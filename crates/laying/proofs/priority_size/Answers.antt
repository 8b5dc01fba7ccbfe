-- `laying::priority_size` meets its contract.
use Rattle.laying.proofs.Sizes.{number_size}
use Rattle.laying.proofs.priority_size.Goals as goal

pub returns-then-there-clause-small : goal.returns-then-there-clause-small
returns-then-there-clause-small c =
    rw c.uinteger_size.ensures (number_size c.args.s c.args.x c.requires.profile_value c.requires.x_bound)
