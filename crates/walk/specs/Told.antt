-- What a refusal tells: its number of SPEC's list, and beside 5, 27 and 6 the octets or the place (SPEC R-10).
-- Assumes nothing: these are definitions.
use Rattle.std.specs.Prelude.{◌≡◌, Bool, true, false, Result, Ok, Err}
use Rattle.walk.specs.declared.Refusal.{Refusal}
use Rattle.walk.specs.declared.Refused.{Refused}
use Rattle.walk.specs.declared.Refused.TheVariants.{FewOctets, Version, NoSecondary, Idle, Short, HeaderEnds, Binding, SduType, Session, Varint, DomainPart, HeaderLong, ManyParts, EmptySegment, Settings, Order, Cell, Contradicts, Full, Incomplete, Output, Value, Large, NoRoom, Number, Long, Text, ManySegments, Withdrawn, NoRecord, PacketLong, Id, Timestamp, Range, State}
use Rattle.walk.specs.Walk.{refusal, no_refusal}

abbrev pub told : Refused → Refusal
told FewOctets = refusal 1
told Version = refusal 2
told NoSecondary = refusal 3
told Idle = refusal 4
told (Short n) = record { number = 5; octets = n; place = 0 }
told (HeaderEnds at) = record { number = 6; octets = 0; place = at }
told Binding = refusal 7
told SduType = refusal 8
told Session = refusal 9
told Varint = refusal 10
told DomainPart = refusal 11
told HeaderLong = refusal 12
told ManyParts = refusal 13
told EmptySegment = refusal 14
told Settings = refusal 15
told Order = refusal 16
told Cell = refusal 17
told Contradicts = refusal 18
told Full = refusal 19
told Incomplete = refusal 20
told Output = refusal 21
told Value = refusal 22
told Large = refusal 23
told NoRoom = refusal 24
told Number = refusal 26
told (Long n) = record { number = 27; octets = n; place = 0 }
told Text = refusal 28
told ManySegments = refusal 29
told Withdrawn = refusal 30
told NoRecord = refusal 31
told PacketLong = refusal 32
told Id = refusal 33
told Timestamp = refusal 34
told Range = refusal 35
told State = refusal 40

-- of an answer: none if it is one
abbrev pub said : {A : Type 0} → Result A Refused → Refusal
said (Ok x) = no_refusal
said (Err r) = told r

-- whether a test holds, else this refusal
abbrev pub Holds : Bool → Refused → Result (Unit {0}) Refused → Type 0
Holds ok r (Ok x) = ok ≡ true
Holds ok r (Err e) = (ok ≡ false) × (e ≡ r)
