-- How the code's structs stand for the definitions' records, and the pieces in which a PDU is written: laid one after another they are
-- its octets. And sizes, told up to a largest one.
-- Assumes nothing: these are definitions.
use Rattle.std.specs.Prelude.{ℕ, ◌≡◌, Result, Ok, Err, ◌+◌, ◌*◌, Bool, List, [], ◌∷◌, ◌++◌, length}
use Rattle.octets.specs.Octets.{pick, wide}
use Rattle.walk.specs.declared.Settings.{Settings}
use Rattle.walk.specs.declared.Bound.{Bound}
use Rattle.walk.specs.declared.Refused.{Refused}
use Rattle.walk.specs.Told.{told}
use Rattle.walk.specs.Walk.{Reading, Step, goes, uinteger}
use Rattle.walk.specs.Read.{Refuses}
use Rattle.fields.specs.Fields.{nowhere, opt, text}
use Rattle.fields.specs.Form.{uinteger_octets, domain_octets, split}
use Rattle.fields.specs.Inner.{text_pieces, capped_to}
use Rattle.packet.specs.declared.Present.{Present}
use Rattle.packet.specs.Format.{when}
use Rattle.write.specs.Given.{Lent}
use Rattle.write.specs.Inner.{present_octet, middle_pieces, end_pieces}
use Rattle.pdu.specs.declared.Ids.{Ids}
use Rattle.pdu.specs.declared.PduValues.{PduValues}
use Rattle.pdu.specs.Format.{pdu_settings}
use Rattle.pdu.specs.Reading.{wanted, fixed_tests, refusal_of}

-- source id, destination id, priority, for any settings and bound
abbrev pub ids_step : Settings → Bound → Present → List ℕ → Reading → Step Ids
ids_step s b has p w =
    let a = opt has.source nowhere (text s b p) w in
    let x = opt has.destination nowhere (text s b p) a.walk in
    let c = opt has.priority 0 (uinteger s b p) x.walk in
    record { walk = c.walk; value = record { source = a.value; destination = x.value; priority = c.value } }

-- what the tests of the fixed part answer: a PDU that is as long as it says; or the refusal, which but for its octets is one of a walk's
abbrev pub Judges : List ℕ → Result (Unit {0}) Refused → Type 0
Judges p (Ok x) = (fixed_tests p ≡ goes 23) × (wanted p ≡ length p)
Judges p (Err e) = (told e ≡ refusal_of p (fixed_tests p)) × ((d : Refused) × Refuses d (fixed_tests p))

unfoldable pub name_pieces : PduValues → List (List ℕ)
name_pieces v = wide 1 (32 + v.sdu) ∷ wide 2 v.area ∷ wide 2 v.service ∷ wide 2 v.operation ∷ wide 1 v.version ∷ []

unfoldable pub flag_pieces : PduValues → ℕ → List (List ℕ)
flag_pieces v n =
    wide 1 (v.error * 128 + v.qos * 16 + v.session) ∷ wide 8 v.transaction ∷ wide 1 (present_octet v.has) ∷ wide 1 v.encoding
    ∷ wide 4 n
    ∷ []

unfoldable pub id_pieces : Present → List ℕ → List ℕ → List (List ℕ)
id_pieces has source destination =
    when has.source (text_pieces pdu_settings source) ++ when has.destination (text_pieces pdu_settings destination)

-- the PDU; n is its variable length
unfoldable pub pdu_pieces : PduValues → List ℕ → List ℕ → Lent → ℕ → List ℕ → List (List ℕ)
pdu_pieces v source destination t n body =
    name_pieces v
    ++ (flag_pieces v n
    ++ (id_pieces v.has source destination
    ++ (middle_pieces pdu_settings v.has v.priority t
    ++ (end_pieces pdu_settings v.has t ++ (body ∷ [])))))

-- ---- sizes: one above the largest variable length stands for all that are larger

abbrev pub rest_most : ℕ
rest_most = 4294967296

abbrev pub small : ℕ → ℕ
small n = capped_to rest_most n

-- a text's, if it is there
abbrev pub text_size : Bool → ℕ → ℕ
text_size there n = pick there (small (length (uinteger_octets pdu_settings n) + n)) 0

unfoldable pub front_size : Present → ℕ → ℕ → ℕ → ℕ
front_size has source destination priority =
    small
    (text_size has.source source
    + small (text_size has.destination destination + pick has.priority (length (uinteger_octets pdu_settings priority)) 0))

unfoldable pub middle_size : Present → Lent → ℕ
middle_size has t =
    small
    (pick has.timestamp (length t.timestamp) 0
    + small (text_size has.zone (length t.zone) + text_size has.session_name (length t.session_name)))

unfoldable pub end_size : Present → Lent → ℕ
end_size has t =
    small
    (pick has.domain (small (length (domain_octets pdu_settings (split t.lengths t.domain)))) 0
    + text_size has.authentication (length t.authentication))

unfoldable pub variable_size : PduValues → List ℕ → List ℕ → Lent → ℕ
variable_size v source destination t =
    small
    (front_size v.has (length source) (length destination) v.priority
    + small (middle_size v.has t + end_size v.has t))
