-- `entries::put_decimal` meets its contract: the digits are the definition's.
use mathlib.Core.Path.{◌∙◌}
use Rattle.octets.proofs.Laying.{lays_as}
use Rattle.entries.proofs.Digits.{decimal_of}
use borrow.Author.Rules.{rules}
use Rattle.entries.proofs.put_decimal.Goals as goal

pub returns : goal.returns
returns c =
    let d = c.decimal-k.ensures in lays_as (d.digits ∙ decimal_of _ _ (search rules) d.len) c.lay.ensures
