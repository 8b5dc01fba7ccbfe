-- The format (SPEC P-1 to P-13): the octets of values, field by field. No reader and no walk in it.
-- Assumes nothing: these are definitions.
use Rattle.std.specs.Prelude.{ℕ, ◌+◌, ◌-◌, ◌*◌, ◌≤◌, ◌<◌, ◌≡◌, List, [], ◌∷◌, ◌++◌, Bool, true, false, not, length, eqb}
use Rattle.octets.specs.Octets.{pick, Octets, wide}
use Rattle.utf8.specs.Text.{Text}
use Rattle.walk.specs.declared.Settings.{Settings}
use Rattle.walk.specs.Profile.{fixed_profile}
use Rattle.walk.specs.Walk.{timestamp_least, timestamp_most}
use Rattle.fields.specs.Fields.{parts_most}
use Rattle.fields.specs.Form.{uinteger_octets, blob_octets, text_octets, domain_octets}

-- what all packets of a message share. Absent fields are 0 or empty
pub record Head : Type 0 where
  pub packet_type : ℕ
  pub apid : ℕ
  pub sdu : ℕ
  pub area : ℕ
  pub service : ℕ
  pub operation : ℕ
  pub version : ℕ
  pub error : ℕ
  pub qos : ℕ
  pub session : ℕ
  pub secondary_apid : ℕ
  pub qualifier : ℕ
  pub transaction : ℕ
  pub has_source : Bool
  pub has_destination : Bool
  pub has_priority : Bool
  pub has_timestamp : Bool
  pub has_zone : Bool
  pub has_session_name : Bool
  pub has_domain : Bool
  pub has_authentication : Bool
  pub source : ℕ
  pub destination : ℕ
  pub priority : ℕ
  pub timestamp : List ℕ
  pub zone : List ℕ
  pub session_name : List ℕ
  pub domain : List (List ℕ)
  pub authentication : List ℕ

-- the values of one packet: that, its sequence flags, sequence count, segment counter and body
pub record Values : Type 0 where
  pub head : Head
  pub flags : ℕ
  pub sequence_count : ℕ
  pub counter : ℕ
  pub body : List ℕ

-- octets of the primary header, of the fixed part of the secondary one, and of a segment counter
abbrev pub primary_size : ℕ
primary_size = 6

abbrev pub fixed_size : ℕ
fixed_size = 21

abbrev pub counter_width : ℕ
counter_width = 4

-- SPEC P-4, the sequence flags: what a packet is in its message
abbrev pub flags_between : ℕ
flags_between = 0

abbrev pub flags_first : ℕ
flags_first = 1

abbrev pub flags_last : ℕ
flags_last = 2

abbrev pub flags_whole : ℕ
flags_whole = 3

-- the segment counter is present exactly if the sequence flags aren't 11
abbrev pub segment : ℕ → Bool
segment flags = not (eqb flags flags_whole)

-- what is there only if the flag says so: octets, or pieces of them
abbrev pub when : {A : Type 0} → Bool → List A → List A
when b l = pick b l []

abbrev pub bit : Bool → ℕ
bit b = pick b 1 0

-- SPEC P-3, the first two octets: bits 000, the packet type, a 1 for the secondary header, eleven bits of APID
unfoldable pub identification : Head → List ℕ
identification h = wide 2 (h.packet_type * 4096 + 2048 + h.apid)

-- eight presence flags from the high bit down
unfoldable pub presence : Head → ℕ
presence h =
    128 * bit h.has_source + 64 * bit h.has_destination + 32 * bit h.has_priority + 16 * bit h.has_timestamp
    + 8 * bit h.has_zone
    + 4 * bit h.has_session_name
    + 2 * bit h.has_domain
    + bit h.has_authentication

-- binding version 3 bits (000), SDU type 5; area; service; operation; area version; error 1, QoS level 2, session 2, secondary
-- APID 11; its qualifier; transaction id; presence flags: 21 octets
unfoldable pub fixed_octets : Head → List ℕ
fixed_octets h =
    wide 1 h.sdu
    ++ (wide 2 h.area
    ++ (wide 2 h.service
    ++ (wide 2 h.operation
    ++ (wide 1 h.version
    ++ (wide 2 (h.error * 32768 + h.qos * 8192 + h.session * 2048 + h.secondary_apid)
    ++ (wide 2 h.qualifier
    ++ (wide 8 h.transaction
    ++ wide 1 (presence h))))))))

-- the optional fields before the segment counter: source id 8 bits, destination id 8
unfoldable pub front_octets : Head → List ℕ
front_octets h = when h.has_source (wide 1 h.source) ++ when h.has_destination (wide 1 h.destination)

-- the segment counter, 32 bits
unfoldable pub counter_octets : Values → List ℕ
counter_octets v = when (segment v.flags) (wide counter_width v.counter)

-- and those after it: priority, timestamp, network zone, session name, domain, authentication id
unfoldable pub back_octets : Settings → Head → List ℕ
back_octets s h =
    when h.has_priority (uinteger_octets s h.priority)
    ++ (when h.has_timestamp h.timestamp
    ++ (when h.has_zone (text_octets s h.zone)
    ++ (when h.has_session_name (text_octets s h.session_name)
    ++ (when h.has_domain (domain_octets s h.domain) ++ when h.has_authentication (blob_octets s h.authentication)))))

-- the secondary header without its counter: H octets
unfoldable pub header_octets : Settings → Head → List ℕ
header_octets s h = fixed_octets h ++ (front_octets h ++ back_octets s h)

-- and as it stands in a packet
unfoldable pub secondary_octets : Settings → Values → List ℕ
secondary_octets s v = fixed_octets v.head ++ (front_octets v.head ++ (counter_octets v ++ back_octets s v.head))

-- the data field
unfoldable pub data_octets : Settings → Values → List ℕ
data_octets s v = secondary_octets s v ++ v.body

-- SPEC P-3: identification; sequence flags and sequence count, 2 and 14 bits; length field, one less than the data field has octets;
-- data field
unfoldable pub octets_of : Settings → Values → List ℕ
octets_of s v =
    identification v.head
    ++ (wide 2 (v.flags * 16384 + v.sequence_count) ++ (wide 2 (length (data_octets s v) - 1) ++ data_octets s v))

-- present and P, or absent and none
abbrev pub Opt : {A : Type 0} → Bool → (A → Type 0) → A → A → Type 0
Opt true P none x = P x
Opt false P none x = x ≡ none

-- lent text for one field is at most 65,535 octets
abbrev pub text_most : ℕ
text_most = 65535

unfoldable pub Each : {A : Type 0} → (A → Type 0) → List A → Type 0
Each P [] = Unit {0}
Each P (t ∷ ts) = P t × Each P ts

abbrev pub header_most : ℕ
header_most = 256

abbrev pub packet_most : ℕ
packet_most = 65542

-- T 1 to 16, and a profile that there is (15)
pub record SettingsInRange (s : Settings) : Type 0 where
  pub t_low : timestamp_least ≤ s.t
  pub t_top : s.t ≤ timestamp_most
  pub profile_top : s.profile ≤ fixed_profile

-- a header's fields within their widths and ranges, absent ones without a value (22), at most sixteen parts (13); zone, session name
-- and each part text (28)
pub record HeadInRange (s : Settings) (h : Head) : Type 0 where
  pub packet_type : h.packet_type < 2
  pub apid : h.apid < 2047
  pub sdu : h.sdu ≤ 21
  pub area : h.area < 65536
  pub service : h.service < 65536
  pub operation : h.operation < 65536
  pub version : h.version < 256
  pub error : h.error < 2
  pub qos : h.qos < 4
  pub session : h.session ≤ 2
  pub secondary_apid : h.secondary_apid < 2048
  pub qualifier : h.qualifier < 65536
  pub transaction : h.transaction < 18446744073709551616
  pub source : Opt h.has_source (λ x. x < 256) 0 h.source
  pub destination : Opt h.has_destination (λ x. x < 256) 0 h.destination
  pub priority : Opt h.has_priority (λ x. x < 4294967296) 0 h.priority
  pub timestamp : Opt h.has_timestamp (λ x. (length x ≡ s.t) × Octets x) [] h.timestamp
  pub zone : Opt h.has_zone Text [] h.zone
  pub session_name : Opt h.has_session_name Text [] h.session_name
  pub domain : Opt h.has_domain (λ x. (length x ≤ parts_most) × Each Text x) [] h.domain
  pub authentication : Opt h.has_authentication Octets [] h.authentication

-- and the values of a packet: 22, 23, 12, 14
pub record InRange (s : Settings) (v : Values) : Type 0 where
  pub settings : SettingsInRange s
  pub head : HeadInRange s v.head
  pub flags : v.flags < 4
  pub sequence_count : v.sequence_count < 16384
  pub counter : Opt (segment v.flags) (λ x. x < 4294967296) 0 v.counter
  pub body : Octets v.body
  pub packet : length (octets_of s v) ≤ packet_most
  pub header : length (secondary_octets s v) ≤ header_most
  pub some : segment v.flags ≡ true → 1 ≤ length v.body
