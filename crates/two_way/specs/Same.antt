-- A packet read as the values given to the writer: no refusal, every number, every text's octets at its told place, the body. And
-- a slice that the writer could have written, or the old writer if it has a zone.
-- Assumes nothing: these are definitions.
use Rattle.std.specs.Prelude.{ℕ, ◌≤◌, ◌≡◌, Bool, List, ◌++◌, map, length, take, drop}
use Rattle.walk.specs.declared.Settings.{Settings}
use Rattle.walk.specs.Walk.{no_refusal}
use Rattle.fields.specs.declared.Place.{Place}
use Rattle.fields.specs.Form.{joined, split}
use Rattle.packet.specs.Answer.{Header}
use Rattle.write.specs.declared.HeaderValues.{HeaderValues}
use Rattle.write.specs.declared.PacketValues.{PacketValues}
use Rattle.write.specs.Given.{Lent}
use Rattle.write.specs.Writing.{write_answer, write_output}
use Rattle.format.specs.Told.{content}
use Rattle.two_way.specs.Again.{part_places}
use Rattle.write.specs.Lending.{Bits64, LentOctets}

-- the octets that the writer wrote: as many as it answers, from the output's first on
abbrev pub written : Bool → Settings → HeaderValues → PacketValues → Lent → List ℕ → List ℕ → List ℕ
written old s v o t b out = take (write_answer old s v o t b (length out)).length (write_output old s v o t b out)

-- p could have been written: there are values, texts and a body, as a call of the writer has them, for which, given room, it writes
-- just p; if there is a zone, the old writer
pub record CouldWrite (s : Settings) (p : List ℕ) : Type 0 where
  pub header : HeaderValues
  pub own : PacketValues
  pub texts : Lent
  pub body : List ℕ
  pub octets : LentOctets texts body
  pub bits : Bits64 header.transaction
  pub answers :
      (out : List ℕ) → length p ≤ length out →
      write_answer header.has.zone s header own texts body (length out) ≡ record { refusal = no_refusal; length = length p }
  pub writes : (out : List ℕ) → length p ≤ length out → write_output header.has.zone s header own texts body out ≡ p ++ drop (length p) out

-- h is what reading answers of p
pub record SameRead (p : List ℕ) (h : Header) (v : HeaderValues) (o : PacketValues) (t : Lent) (b : List ℕ) : Type 0 where
  pub no_refusal_lem : h.refusal.number ≡ 0
  pub packet_type : h.primary.packet_type ≡ v.packet_type
  pub apid : h.primary.apid ≡ v.apid
  pub flags : h.primary.flags ≡ o.flags
  pub sequence_count : h.primary.sequence_count ≡ o.sequence_count
  pub sdu : h.fixed.sdu ≡ v.sdu
  pub area : h.fixed.area ≡ v.area
  pub service : h.fixed.service ≡ v.service
  pub operation : h.fixed.operation ≡ v.operation
  pub version : h.fixed.version ≡ v.version
  pub error : h.fixed.error ≡ v.error
  pub qos : h.fixed.qos ≡ v.qos
  pub session : h.fixed.session ≡ v.session
  pub secondary_apid : h.fixed.secondary_apid ≡ v.secondary_apid
  pub qualifier : h.fixed.qualifier ≡ v.qualifier
  pub transaction : h.fixed.transaction ≡ v.transaction
  pub has : h.has ≡ v.has
  pub withdrawn : h.withdrawn ≡ v.has.zone
  pub source : h.ids.source ≡ v.source
  pub destination : h.ids.destination ≡ v.destination
  pub counter : h.ids.counter ≡ o.counter
  pub priority : h.ids.priority ≡ v.priority
  pub timestamp : content p h.texts.timestamp ≡ t.timestamp
  pub zone : content p h.texts.zone ≡ t.zone
  pub session_name : content p h.texts.session_name ≡ t.session_name
  -- the domain: its parts, all of it, and their lengths
  pub parts : map (content p) (part_places h) ≡ split t.lengths t.domain
  pub domain : joined (content p) (part_places h) ≡ t.domain
  pub lengths : map (λ (a : Place). a.length) (part_places h) ≡ t.lengths
  pub authentication : content p h.texts.authentication ≡ t.authentication
  pub body : content p h.body ≡ b
