-- A refusal is known by what it tells: no two tell the same, and none tells 0.
-- Assumes nothing.
use mathlib.Core.Path.{◌≡◌, refl, sym, ◌∙◌, ap}
use lib.Dec.{eqb}
use native.Mathlib.Omega.{arith}
use Rattle.octets.specs.Octets.{pick}
use Rattle.walk.specs.declared.Refusal.{Refusal}
use Rattle.walk.specs.declared.Refused.{Refused}
use Rattle.walk.specs.declared.Refused.TheVariants.{FewOctets, Version, NoSecondary, Idle, Short, HeaderEnds, Binding, SduType, Session, Varint, DomainPart, HeaderLong, ManyParts, EmptySegment, Settings, Order, Cell, Contradicts, Full, Incomplete, Output, Value, Large, NoRoom, Number, Long, Text, ManySegments, Withdrawn, NoRecord, PacketLong, Id, Timestamp, Range, State}
use Rattle.walk.specs.Told.{told}

-- the refusal that tells this
back : Refusal → Refused
back t =
    pick (eqb t.number 1) FewOctets (
    pick (eqb t.number 2) Version (
    pick (eqb t.number 3) NoSecondary (
    pick (eqb t.number 4) Idle (
    pick (eqb t.number 5) (Short t.octets) (
    pick (eqb t.number 6) (HeaderEnds t.place) (
    pick (eqb t.number 7) Binding (
    pick (eqb t.number 8) SduType (
    pick (eqb t.number 9) Session (
    pick (eqb t.number 10) Varint (
    pick (eqb t.number 11) DomainPart (
    pick (eqb t.number 12) HeaderLong (
    pick (eqb t.number 13) ManyParts (
    pick (eqb t.number 14) EmptySegment (
    pick (eqb t.number 15) Settings (
    pick (eqb t.number 16) Order (
    pick (eqb t.number 17) Cell (
    pick (eqb t.number 18) Contradicts (
    pick (eqb t.number 19) Full (
    pick (eqb t.number 20) Incomplete (
    pick (eqb t.number 21) Output (
    pick (eqb t.number 22) Value (
    pick (eqb t.number 23) Large (
    pick (eqb t.number 24) NoRoom (
    pick (eqb t.number 26) Number (
    pick (eqb t.number 27) (Long t.octets) (
    pick (eqb t.number 28) Text (
    pick (eqb t.number 29) ManySegments (
    pick (eqb t.number 30) Withdrawn (
    pick (eqb t.number 31) NoRecord (
    pick (eqb t.number 32) PacketLong (
    pick (eqb t.number 33) Id (
    pick (eqb t.number 34) Timestamp (
    pick (eqb t.number 35) Range (
    pick (eqb t.number 40) State (
    State)))))))))))))))))))))))))))))))))))

back_told : (r : Refused) → back (told r) ≡ r
unfolding back
back_told FewOctets = refl
back_told Version = refl
back_told NoSecondary = refl
back_told Idle = refl
back_told (Short n) = refl
back_told (HeaderEnds at) = refl
back_told Binding = refl
back_told SduType = refl
back_told Session = refl
back_told Varint = refl
back_told DomainPart = refl
back_told HeaderLong = refl
back_told ManyParts = refl
back_told EmptySegment = refl
back_told Settings = refl
back_told Order = refl
back_told Cell = refl
back_told Contradicts = refl
back_told Full = refl
back_told Incomplete = refl
back_told Output = refl
back_told Value = refl
back_told Large = refl
back_told NoRoom = refl
back_told Number = refl
back_told (Long n) = refl
back_told Text = refl
back_told ManySegments = refl
back_told Withdrawn = refl
back_told NoRecord = refl
back_told PacketLong = refl
back_told Id = refl
back_told Timestamp = refl
back_told Range = refl
back_told State = refl

pub told_one : {r q : Refused} → told r ≡ told q → r ≡ q
told_one {r = r} {q = q} e = sym (back_told r) ∙ ap back e ∙ back_told q
