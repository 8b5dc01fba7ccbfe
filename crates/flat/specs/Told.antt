-- The answers of the calls as lists of numbers, for callers in other languages: the refusal first, then every other answer in the
-- order of SPEC's fields. A truth value is 1 or 0, a place is two numbers.
-- Assumes nothing: these are definitions.
use Rattle.std.specs.Prelude.{ℕ, zero, suc, List, [], ◌∷◌, ◌++◌, get_or}
use Rattle.walk.specs.declared.Refusal.{Refusal}
use Rattle.fields.specs.declared.Place.{Place}
use Rattle.fields.specs.Fields.{nowhere}
use Rattle.packet.specs.Format.{bit}
use Rattle.packet.specs.declared.Primary.{Primary}
use Rattle.packet.specs.declared.Fixed.{Fixed}
use Rattle.packet.specs.declared.Present.{Present}
use Rattle.packet.specs.declared.Ids.{Ids}
use Rattle.packet.specs.declared.Texts.{Texts}
use Rattle.packet.specs.Answer.{Header}
use Rattle.sender.specs.declared.Sender.{Sender}
use Rattle.write.specs.Answer.{Written}
use Rattle.cut.specs.declared.Counted.{Counted}
use Rattle.cut.specs.declared.Cut.{Cut}

-- ---- reading

-- packet type, APID, sequence flags, sequence count
abbrev pub primary_numbers : Primary → List ℕ
primary_numbers p = p.packet_type ∷ p.apid.0 ∷ p.flags ∷ p.sequence_count.0 ∷ []

-- SDU type, area, service, operation, area version
abbrev pub name_numbers : Fixed → List ℕ
name_numbers f = f.sdu ∷ f.area ∷ f.service ∷ f.operation ∷ f.version ∷ []

-- error, QoS level, session, secondary APID, its qualifier, transaction id
abbrev pub routing_numbers : Fixed → List ℕ
routing_numbers f = f.error ∷ f.qos ∷ f.session ∷ f.secondary_apid.0 ∷ f.qualifier ∷ f.transaction ∷ []

-- the eight presence flags, in their order
abbrev pub present_numbers : Present → List ℕ
present_numbers h =
    bit h.source ∷ bit h.destination ∷ bit h.priority ∷ bit h.timestamp ∷ bit h.zone ∷ bit h.session_name
    ∷ bit h.domain
    ∷ bit h.authentication
    ∷ []

-- source id, destination id, segment counter, priority
abbrev pub ids_numbers : Ids → List ℕ
ids_numbers i = i.source ∷ i.destination ∷ i.counter.0 ∷ i.priority ∷ []

abbrev pub place_numbers : Place → List ℕ
place_numbers p = p.at ∷ p.length ∷ []

-- the first k of some places
unfoldable pub places_to : ℕ → List Place → List ℕ
places_to zero l = []
places_to (suc k) l = places_to k l ++ place_numbers (get_or l k nowhere)

-- timestamp, network zone, session name, the count of domain parts, their sixteen places, authentication id
abbrev pub text_numbers : Texts → List ℕ
text_numbers t =
    place_numbers t.timestamp
    ++ (place_numbers t.zone
    ++ (place_numbers t.session_name ++ ((t.count ∷ []) ++ (places_to 16 t.parts ++ place_numbers t.authentication))))

-- what a refusal of reading tells, SPEC R-10: the octets missing or left over, and the place where the unfinished field began
abbrev pub told_beside : Refusal → List ℕ
told_beside r = r.octets ∷ r.place ∷ []

-- what reading answers: 75 numbers
unfoldable pub read_numbers : Header → List ℕ
read_numbers h =
    (h.refusal.number ∷ [])
    ++ (primary_numbers h.primary
    ++ (name_numbers h.fixed
    ++ (routing_numbers h.fixed
    ++ (present_numbers h.has
    ++ (ids_numbers h.ids
    ++ (text_numbers h.texts
    ++ ((h.h ∷ []) ++ (place_numbers h.body ++ (told_beside h.refusal ++ (bit h.withdrawn ∷ []))))))))))

-- ---- writing and cutting

-- the refusal, and the octets written
abbrev pub written_numbers : Written → List ℕ
written_numbers w = w.refusal.number ∷ w.length ∷ []

-- a sender: its sequence count and its counter
abbrev pub sender_numbers : Sender → List ℕ
sender_numbers d = d.sequence_count.0 ∷ d.counter.0 ∷ []

-- the refusal, the number of packets, the sender
abbrev pub counted_numbers : Counted → List ℕ
counted_numbers r = r.refusal.number ∷ r.count ∷ sender_numbers r.sender

-- the refusal, the octets written, the sender
abbrev pub cut_numbers : Cut → List ℕ
cut_numbers r = r.refusal.number ∷ r.length ∷ sender_numbers r.sender
