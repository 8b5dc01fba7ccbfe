-- `packet::read_names` meets its contract: its steps are the definition's.
use Rattle.std.proofs.Common.{arith}
use Rattle.walk.specs.Walk.{octet_field, wide_field}
use Rattle.packet.specs.FixedPart.{sdu_field, after_area, after_service, after_operation, after_version}
use Rattle.walk.proofs.Keeps.{octets_keeps}
use Rattle.packet.proofs.read_names.Goals as goal

pub returns-in_err-read_sdu : goal.returns-in_err-read_sdu
unfolding sdu_field octet_field wide_field after_area after_service after_operation after_version
returns-in_err-read_sdu c = grind (arith, octets_keeps)

pub returns-in_err-be16 : goal.returns-in_err-be16
unfolding sdu_field octet_field wide_field after_area after_service after_operation after_version
returns-in_err-be16 c = grind (arith, octets_keeps)

pub returns-in_err-be16-2 : goal.returns-in_err-be16-2
unfolding sdu_field octet_field wide_field after_area after_service after_operation after_version
returns-in_err-be16-2 c = grind (arith, octets_keeps)

pub returns-in_err-be16-3 : goal.returns-in_err-be16-3
unfolding sdu_field octet_field wide_field after_area after_service after_operation after_version
returns-in_err-be16-3 c = grind (arith, octets_keeps)

pub returns-in_err-octet : goal.returns-in_err-octet
unfolding sdu_field octet_field wide_field after_area after_service after_operation after_version
returns-in_err-octet c = grind (arith, octets_keeps)

pub returns : goal.returns
unfolding sdu_field octet_field wide_field after_area after_service after_operation after_version
returns c = grind (arith, octets_keeps)
