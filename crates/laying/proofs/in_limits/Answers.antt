-- `laying::in_limits` meets its contract.
use Rattle.laying.proofs.Limits.{in_limits}
use mathlib.Core.Path.{sym, ◌∙◌}
use Rattle.laying.proofs.in_limits.Goals as goal

pub returns : goal.returns
returns c =
    λ h. in_limits _ (sym c.fits.ensures ∙ h)
