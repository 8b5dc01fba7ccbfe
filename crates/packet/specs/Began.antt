-- Where each field of a secondary header begins, by the format and no reader: its fields one after another, each as its octets.
-- SPEC R-10: a length and its octets are one field, a domain's count is one, and each of its parts; error, QoS level, session and
-- secondary APID have two octets together, and begin in the first.
-- Assumes nothing: these are definitions.
use Rattle.std.specs.Prelude.{ℕ, ◌+◌, ◌-◌, ◌*◌, List, [], ◌∷◌, ◌++◌, map, length, take, drop, ltb}
use Rattle.octets.specs.Octets.{pick, wide}
use Rattle.walk.specs.declared.Settings.{Settings}
use Rattle.fields.specs.Form.{uinteger_octets, blob_octets, text_octets, part_octets}
use Rattle.packet.specs.Format.{Head, Values, primary_size, counter_width, segment, when, presence}

unfoldable pub fixed_fields : Head → List (List ℕ)
fixed_fields h =
    wide 1 h.sdu
    ∷ wide 2 h.area
    ∷ wide 2 h.service
    ∷ wide 2 h.operation
    ∷ wide 1 h.version
    ∷ wide 2 (h.error * 32768 + h.qos * 8192 + h.session * 2048 + h.secondary_apid)
    ∷ wide 2 h.qualifier
    ∷ wide 8 h.transaction
    ∷ wide 1 (presence h)
    ∷ []

-- a domain's count, and its parts
unfoldable pub domain_fields : Settings → List (List ℕ) → List (List ℕ)
domain_fields s ts = uinteger_octets s (length ts) ∷ map (part_octets s) ts

-- the fields that are there by the presence flags, and the segment counter
unfoldable pub optional_fields : Settings → Values → List (List ℕ)
optional_fields s v =
    let h = v.head in
    when h.has_source (wide 1 h.source ∷ [])
    ++ (when h.has_destination (wide 1 h.destination ∷ [])
    ++ (when (segment v.flags) (wide counter_width v.counter ∷ [])
    ++ (when h.has_priority (uinteger_octets s h.priority ∷ [])
    ++ (when h.has_timestamp (h.timestamp ∷ [])
    ++ (when h.has_zone (text_octets s h.zone ∷ [])
    ++ (when h.has_session_name (text_octets s h.session_name ∷ [])
    ++ (when h.has_domain (domain_fields s h.domain) ++ when h.has_authentication (blob_octets s h.authentication ∷ []))))))))

abbrev pub secondary_fields : Settings → Values → List (List ℕ)
secondary_fields s v = fixed_fields v.head ++ optional_fields s v

-- the octets before the field to which octet number k belongs
unfoldable pub began : List (List ℕ) → ℕ → ℕ
began [] k = 0
began (f ∷ fs) k = pick (ltb k (length f)) 0 (length f + began fs (k - length f))

-- a packet cut off inside its data field: its first four octets, the length field set right, and m octets of the data field
unfoldable pub cut_off : ℕ → List ℕ → List ℕ
cut_off m p = take 4 p ++ (wide 2 (m - 1) ++ take m (drop primary_size p))
