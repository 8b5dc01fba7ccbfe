-- The pieces in which a packet is written: laid one after another they are its octets.
-- Assumes nothing: these are definitions.
use Rattle.std.specs.Prelude.{ℕ, ◌+◌, ◌*◌, List, [], ◌∷◌, ◌++◌, length}
use Rattle.octets.specs.Octets.{pick, wide}
use Rattle.walk.specs.declared.Settings.{Settings}
use Rattle.fields.specs.Form.{uinteger_octets, domain_octets, split}
use Rattle.fields.specs.Inner.{blob_pieces, text_pieces, domain_pieces, capped}
use Rattle.packet.specs.declared.Present.{Present}
use Rattle.packet.specs.Format.{counter_width, segment, bit, when}
use Rattle.write.specs.declared.HeaderValues.{HeaderValues}
use Rattle.write.specs.declared.PacketValues.{PacketValues}
use Rattle.write.specs.Given.{Lent}

-- what a one of a field counts for, in two octets that fields share: packet type and the flag of the secondary header beside the APID;
-- sequence flags beside the count; error, QoS level and session beside the secondary APID
abbrev pub type_unit : ℕ
type_unit = 4096

abbrev pub secondary_flag : ℕ
secondary_flag = 2048

abbrev pub flags_unit : ℕ
flags_unit = 16384

abbrev pub error_unit : ℕ
error_unit = 32768

abbrev pub qos_unit : ℕ
qos_unit = 8192

abbrev pub session_unit : ℕ
session_unit = 2048

-- identification; sequence flags and count; length field
unfoldable pub primary_pieces : HeaderValues → PacketValues → ℕ → List (List ℕ)
primary_pieces v o n =
    wide 2 (v.packet_type * type_unit + secondary_flag + v.apid.0) ∷ wide 2 (o.flags * flags_unit + o.sequence_count.0) ∷ wide 2 n ∷ []

unfoldable pub name_pieces : HeaderValues → List (List ℕ)
name_pieces v = wide 1 v.sdu ∷ wide 2 v.area ∷ wide 2 v.service ∷ wide 2 v.operation ∷ wide 1 v.version ∷ []

-- the presence octet
unfoldable pub present_octet : Present → ℕ
present_octet has =
    128 * bit has.source + 64 * bit has.destination + 32 * bit has.priority + 16 * bit has.timestamp + 8 * bit has.zone
    + 4 * bit has.session_name
    + 2 * bit has.domain
    + bit has.authentication

unfoldable pub routing_pieces : HeaderValues → List (List ℕ)
routing_pieces v =
    wide 2 (v.error * error_unit + v.qos * qos_unit + v.session * session_unit + v.secondary_apid.0) ∷ wide 2 v.qualifier
    ∷ wide 8 v.transaction
    ∷ wide 1 (present_octet v.has)
    ∷ []

unfoldable pub front_pieces : HeaderValues → PacketValues → List (List ℕ)
front_pieces v o =
    when v.has.source (wide 1 v.source ∷ [])
    ++ (when v.has.destination (wide 1 v.destination ∷ []) ++ when (segment o.flags) (wide counter_width o.counter.0 ∷ []))

unfoldable pub middle_pieces : Settings → Present → ℕ → Lent → List (List ℕ)
middle_pieces s has priority t =
    when has.priority (uinteger_octets s priority ∷ [])
    ++ (when has.timestamp (t.timestamp ∷ []) ++ when has.zone (text_pieces s t.zone))

unfoldable pub end_pieces : Settings → Present → Lent → List (List ℕ)
end_pieces s has t =
    when has.session_name (text_pieces s t.session_name)
    ++ (when has.domain (domain_pieces s (split t.lengths t.domain)) ++ when has.authentication (blob_pieces s t.authentication))

-- the packet; n is its length field
unfoldable pub packet_pieces : Settings → HeaderValues → PacketValues → Lent → ℕ → List ℕ → List (List ℕ)
packet_pieces s v o t n body =
    primary_pieces v o n
    ++ (name_pieces v
    ++ (routing_pieces v
    ++ (front_pieces v o
    ++ (middle_pieces s v.has v.priority t
    ++ (end_pieces s v.has t ++ (body ∷ []))))))

-- ---- sizes, told up to the limit

unfoldable pub middle_size : Settings → HeaderValues → Lent → ℕ
middle_size s v t =
    capped
    (pick v.has.priority (length (uinteger_octets s v.priority)) 0
    + capped
    (pick v.has.timestamp (length t.timestamp) 0
    + pick v.has.zone (capped (length (uinteger_octets s (length t.zone)) + length t.zone)) 0))

unfoldable pub end_size : Settings → Present → Lent → ℕ
end_size s has t =
    capped
    (pick has.session_name (capped (length (uinteger_octets s (length t.session_name)) + length t.session_name)) 0
    + capped
    (pick has.domain (capped (length (domain_octets s (split t.lengths t.domain)))) 0
    + pick has.authentication (capped (length (uinteger_octets s (length t.authentication)) + length t.authentication)) 0))
