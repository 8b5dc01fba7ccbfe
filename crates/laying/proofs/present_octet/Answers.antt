-- `laying::present_octet` meets its contract.
use Rattle.laying.proofs.Sizes.{present_is}
use Rattle.laying.proofs.present_octet.Goals as goal

pub returns : goal.returns
returns c =
    present_is c.requires
