-- Every refusal has a number.
-- Assumes nothing.
use mathlib.Core.Path.{◌≡◌}
use native.Mathlib.Omega.{arith}
use Rattle.walk.specs.declared.Refused.{Refused}
use Rattle.walk.specs.declared.Refused.TheVariants.{FewOctets, Version, NoSecondary, Idle, Short, HeaderEnds, Binding, SduType, Session, Varint, DomainPart, HeaderLong}
use Rattle.walk.specs.declared.Refused.TheVariants.{ManyParts, EmptySegment, Settings, Order, Cell, Contradicts, Full, Incomplete, Output, Value, Large, NoRoom, Number}
use Rattle.walk.specs.declared.Refused.TheVariants.{Long, Text, ManySegments, Withdrawn, NoRecord, PacketLong, Id, Timestamp, Range, State}
use Rattle.walk.specs.Told.{told}

pub has_number : (r : Refused) → (told r).number ≡ 0 → ⊥
has_number FewOctets e = omega arith
has_number Version e = omega arith
has_number NoSecondary e = omega arith
has_number Idle e = omega arith
has_number (Short n) e = omega arith
has_number (HeaderEnds at) e = omega arith
has_number Binding e = omega arith
has_number SduType e = omega arith
has_number Session e = omega arith
has_number Varint e = omega arith
has_number DomainPart e = omega arith
has_number HeaderLong e = omega arith
has_number ManyParts e = omega arith
has_number EmptySegment e = omega arith
has_number Settings e = omega arith
has_number Order e = omega arith
has_number Cell e = omega arith
has_number Contradicts e = omega arith
has_number Full e = omega arith
has_number Incomplete e = omega arith
has_number Output e = omega arith
has_number Value e = omega arith
has_number Large e = omega arith
has_number NoRoom e = omega arith
has_number Number e = omega arith
has_number (Long n) e = omega arith
has_number Text e = omega arith
has_number ManySegments e = omega arith
has_number Withdrawn e = omega arith
has_number NoRecord e = omega arith
has_number PacketLong e = omega arith
has_number Id e = omega arith
has_number Timestamp e = omega arith
has_number Range e = omega arith
has_number State e = omega arith
