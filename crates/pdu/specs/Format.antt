-- The MAL TCP/IP PDU (SPEC O-1 to O-5): the octets of values, field by field. No reader and no walk in it.
-- Assumes nothing: these are definitions.
use Rattle.std.specs.Prelude.{ℕ, ◌+◌, ◌*◌, ◌≤◌, ◌<◌, ◌≡◌, List, [], ◌++◌, length}
use Rattle.octets.specs.Octets.{Octets, wide, most32}
use Rattle.utf8.specs.Text.{Text}
use Rattle.walk.specs.declared.Settings.{Settings}
use Rattle.walk.specs.Profile.{varint_profile}
use Rattle.walk.specs.Walk.{settings_of}
use Rattle.fields.specs.Fields.{parts_most}
use Rattle.fields.specs.Form.{uinteger_octets, blob_octets, text_octets, domain_octets}
use Rattle.packet.specs.declared.Present.{Present}
use Rattle.packet.specs.Format.{when, Opt, Each}
use Rattle.write.specs.Inner.{present_octet}

-- what a PDU says. Absent fields are 0 or empty
pub record Pdu : Type 0 where
  pub sdu : ℕ
  pub area : ℕ
  pub service : ℕ
  pub operation : ℕ
  pub version : ℕ
  pub error : ℕ
  pub qos : ℕ
  pub session : ℕ
  pub transaction : ℕ
  pub has : Present
  pub encoding : ℕ
  pub source : List ℕ
  pub destination : List ℕ
  pub priority : ℕ
  pub timestamp : List ℕ
  pub zone : List ℕ
  pub session_name : List ℕ
  pub domain : List (List ℕ)
  pub authentication : List ℕ
  pub body : List ℕ

-- octets of the fixed part, and of a timestamp
abbrev pub fixed_size : ℕ
fixed_size = 23

abbrev pub timestamp_size : ℕ
timestamp_size = 6

-- fields are written as a packet's under these settings: a timestamp of six octets, and every UInteger a Varint
abbrev pub pdu_settings : Settings
pdu_settings = settings_of timestamp_size varint_profile

-- version number 3 bits (001), SDU type 5; area; service; operation; area version; error 1, QoS level 3, session 4; transaction id;
-- presence flags; encoding id; the octets that follow, 32 bits
unfoldable pub fixed_octets : Pdu → ℕ → List ℕ
fixed_octets v n =
    wide 1 (32 + v.sdu)
    ++ (wide 2 v.area
    ++ (wide 2 v.service
    ++ (wide 2 v.operation
    ++ (wide 1 v.version
    ++ (wide 1 (v.error * 128 + v.qos * 16 + v.session)
    ++ (wide 8 v.transaction ++ (wide 1 (present_octet v.has) ++ (wide 1 v.encoding ++ wide 4 n))))))))

-- the fields that are there by the flags: source id and destination id, both texts; priority; timestamp; network zone; session name;
-- domain; authentication id
unfoldable pub variable_octets : Pdu → List ℕ
variable_octets v =
    when v.has.source (text_octets pdu_settings v.source)
    ++ (when v.has.destination (text_octets pdu_settings v.destination)
    ++ (when v.has.priority (uinteger_octets pdu_settings v.priority)
    ++ (when v.has.timestamp v.timestamp
    ++ (when v.has.zone (text_octets pdu_settings v.zone)
    ++ (when v.has.session_name (text_octets pdu_settings v.session_name)
    ++ (when v.has.domain (domain_octets pdu_settings v.domain)
    ++ when v.has.authentication (blob_octets pdu_settings v.authentication)))))))

-- the variable length counts the optional fields and the body together
unfoldable pub rest_octets : Pdu → List ℕ
rest_octets v = variable_octets v ++ v.body

-- the header: what stands before the body
unfoldable pub head_octets : Pdu → List ℕ
head_octets v = fixed_octets v (length (rest_octets v)) ++ variable_octets v

unfoldable pub octets_of : Pdu → List ℕ
octets_of v = fixed_octets v (length (rest_octets v)) ++ rest_octets v

-- fields within their widths and ranges, absent ones without a value (22), at most sixteen parts (13); source id, destination id,
-- zone, session name and each part text (28); the octets after the fixed part within 32 bits (23)
pub record InRange (v : Pdu) : Type 0 where
  pub sdu : v.sdu ≤ 21
  pub area : v.area < 65536
  pub service : v.service < 65536
  pub operation : v.operation < 65536
  pub version : v.version < 256
  pub error : v.error < 2
  pub qos : v.qos < 8
  pub session : v.session < 16
  pub transaction : v.transaction < 18446744073709551616
  pub encoding : v.encoding < 256
  pub source : Opt v.has.source Text [] v.source
  pub destination : Opt v.has.destination Text [] v.destination
  pub priority : Opt v.has.priority (λ x. x < 4294967296) 0 v.priority
  pub timestamp : Opt v.has.timestamp (λ x. (length x ≡ timestamp_size) × Octets x) [] v.timestamp
  pub zone : Opt v.has.zone Text [] v.zone
  pub session_name : Opt v.has.session_name Text [] v.session_name
  pub domain : Opt v.has.domain (λ x. (length x ≤ parts_most) × Each Text x) [] v.domain
  pub authentication : Opt v.has.authentication Octets [] v.authentication
  pub body : Octets v.body
  pub variable : length (rest_octets v) ≤ most32
