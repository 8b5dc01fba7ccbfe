-- `packet::read_fixed` meets its contract: its steps are the definition's.
use Rattle.std.proofs.Common.{arith}
use Rattle.walk.specs.Walk.{octet_field, wide_field}
use Rattle.walk.proofs.Keeps.{octets_keeps}
use Rattle.packet.specs.FixedPart.{fixed_of, present_of, after_transaction, after_presence}
use Rattle.packet.proofs.Keeping.{qualifier_keeps}
use Rattle.packet.proofs.read_fixed.Goals as goal

pub returns-in_err-names : goal.returns-in_err-names
unfolding octet_field wide_field fixed_of present_of after_transaction after_presence
returns-in_err-names c = grind (arith, octets_keeps, qualifier_keeps)

pub returns-in_err-routing : goal.returns-in_err-routing
unfolding octet_field wide_field fixed_of present_of after_transaction after_presence
returns-in_err-routing c = grind (arith, octets_keeps, qualifier_keeps)

pub returns-in_err-transaction : goal.returns-in_err-transaction
unfolding octet_field wide_field fixed_of present_of after_transaction after_presence
returns-in_err-transaction c = grind (arith, octets_keeps, qualifier_keeps)

pub returns-in_err-octet : goal.returns-in_err-octet
unfolding octet_field wide_field fixed_of present_of after_transaction after_presence
returns-in_err-octet c = grind (arith, octets_keeps, qualifier_keeps)

pub returns : goal.returns
unfolding octet_field wide_field fixed_of present_of after_transaction after_presence
returns c = grind (arith, octets_keeps, qualifier_keeps)
