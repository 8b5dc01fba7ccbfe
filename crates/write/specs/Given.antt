-- The values to write as they are given, and which of them are refused by 22 or by 28.
-- SPEC W-2: too wide or out of range, a value for a field that is absent, a timestamp of another length than T, a text that is too
-- long, lengths that do not make up the domain. SPEC W-3: a zone, session name or domain part that is not text.
-- Assumes nothing: these are definitions.
use Rattle.std.specs.Prelude.{ℕ, ◌+◌, List, [], ◌∷◌, ◌++◌, Bool, length, ltb, leb, eqb}
use Rattle.std.specs.List.{list_all}
use Rattle.octets.specs.Octets.{pick, most8, most16, most32}
use Rattle.utf8.specs.Test.{is_text}
use Rattle.walk.specs.declared.Settings.{Settings}
use Rattle.walk.specs.declared.Tested.{Tested}
use Rattle.walk.specs.Walk.{unless}
use Rattle.fields.specs.Form.{split, all_text}
use Rattle.packet.specs.Format.{Head, Values, flags_whole, segment, text_most}
use Rattle.packet.specs.Numbers.{count_most}
use Rattle.write.specs.declared.HeaderValues.{HeaderValues}
use Rattle.write.specs.declared.LentTexts.{LentTexts}
use Rattle.write.specs.declared.PacketValues.{PacketValues}

-- the lent texts: the domain is one text and the lengths of its parts
pub record Lent : Type 0 where
  pub timestamp : List ℕ
  pub zone : List ℕ
  pub session_name : List ℕ
  pub domain : List ℕ
  pub lengths : List ℕ
  pub authentication : List ℕ

abbrev pub lent : List ℕ → List ℕ → List ℕ → List ℕ → List ℕ → List ℕ → Lent
lent timestamp zone name domain lengths authentication =
    record { timestamp = timestamp; zone = zone; session_name = name; domain = domain; lengths = lengths; authentication = authentication }

-- those of a call
abbrev pub lent_of : LentTexts → Lent
lent_of t = lent t.timestamp.now t.zone.now t.session_name.now t.domain.now t.lengths.now t.authentication.now

-- the format's values for those that are given
unfoldable pub head_of : HeaderValues → Lent → Head
head_of v t =
    record {
      packet_type = v.packet_type;
      apid = v.apid.0;
      sdu = v.sdu;
      area = v.area;
      service = v.service;
      operation = v.operation;
      version = v.version;
      error = v.error;
      qos = v.qos;
      session = v.session;
      secondary_apid = v.secondary_apid.0;
      qualifier = v.qualifier;
      transaction = v.transaction;
      has_source = v.has.source;
      has_destination = v.has.destination;
      has_priority = v.has.priority;
      has_timestamp = v.has.timestamp;
      has_zone = v.has.zone;
      has_session_name = v.has.session_name;
      has_domain = v.has.domain;
      has_authentication = v.has.authentication;
      source = v.source;
      destination = v.destination;
      priority = v.priority;
      timestamp = t.timestamp;
      zone = t.zone;
      session_name = t.session_name;
      domain = split t.lengths t.domain;
      authentication = t.authentication;
    }

unfoldable pub packet_of : Head → PacketValues → List ℕ → Values
packet_of h o body = record { head = h; flags = o.flags; sequence_count = o.sequence_count.0; counter = o.counter.0; body = body }

-- ---- the checks of 22

-- the largest values of fields that SPEC P-3 to P-6 limit below their types: packet type and error are one bit, APID 2047 is idle
abbrev pub bit_most : ℕ
bit_most = 1

abbrev pub apid_idle : ℕ
apid_idle = 2047

abbrev pub sdu_most : ℕ
sdu_most = 21

abbrev pub qos_most : ℕ
qos_most = 3

abbrev pub session_most : ℕ
session_most = 2

abbrev pub secondary_apid_most : ℕ
secondary_apid_most = 2047

abbrev pub flags_most : ℕ
flags_most = flags_whole

-- a number at most so large if it is there, and 0 if it is not
abbrev pub number_fits : Bool → ℕ → ℕ → Bool
number_fits there x most = pick there (leb x most) (eqb x 0)

-- a text of at most 65,535 octets if it is there, and none if it is not
abbrev pub text_fits : Bool → ℕ → Bool
text_fits there n = pick there (leb n text_most) (eqb n 0)

-- just so many if it is there, and none if it is not
abbrev pub exact_fits : Bool → ℕ → ℕ → Bool
exact_fits there n want = pick there (eqb n want) (eqb n 0)

-- in its two cases, by which the laws go
unfoldable pub sum : List ℕ → ℕ
sum [] = 0
sum (x ∷ xs) = x + sum xs

-- domain lengths add up to the text if it is there; and there are none if it is not
abbrev pub lengths_fit : Bool → List ℕ → ℕ → Bool
lengths_fit there ns n = pick there (eqb (sum ns) n) (eqb (length ns) 0)

-- packet type, APID and SDU type to area version
unfoldable pub name_checks : HeaderValues → List Bool
name_checks v =
    leb v.packet_type bit_most ∷ ltb v.apid.0 apid_idle ∷ leb v.sdu sdu_most ∷ leb v.area most16 ∷ leb v.service most16
    ∷ leb v.operation most16
    ∷ leb v.version most8
    ∷ []

-- error to qualifier. A transaction id of 64 bits always fits
unfoldable pub routing_checks : HeaderValues → List Bool
routing_checks v =
    leb v.error bit_most ∷ leb v.qos qos_most ∷ leb v.session session_most ∷ leb v.secondary_apid.0 secondary_apid_most
    ∷ leb v.qualifier most16
    ∷ []

-- source id, destination id, priority
unfoldable pub id_checks : HeaderValues → List Bool
id_checks v =
    number_fits v.has.source v.source most8 ∷ number_fits v.has.destination v.destination most8
    ∷ number_fits v.has.priority v.priority most32
    ∷ []

-- timestamp, zone, session name, domain, authentication id
unfoldable pub text_checks : Settings → HeaderValues → Lent → List Bool
text_checks s v t =
    exact_fits v.has.timestamp (length t.timestamp) s.t ∷ text_fits v.has.zone (length t.zone)
    ∷ text_fits v.has.session_name (length t.session_name)
    ∷ text_fits v.has.domain (length t.domain)
    ∷ lengths_fit v.has.domain t.lengths (length t.domain)
    ∷ text_fits v.has.authentication (length t.authentication)
    ∷ []

-- the one list of a header's checks
unfoldable pub header_checks : Settings → HeaderValues → Lent → List Bool
header_checks s v t = name_checks v ++ (routing_checks v ++ (id_checks v ++ text_checks s v t))

-- and of a packet's own values: sequence flags, sequence count, and with flags 11 no counter
unfoldable pub packet_checks : PacketValues → List Bool
packet_checks o =
    leb o.flags flags_most ∷ leb o.sequence_count.0 count_most ∷ number_fits (segment o.flags) o.counter.0 most32 ∷ []

-- ---- the checks of 28: zone, session name, each domain part by itself

unfoldable pub utf8_checks : List ℕ → List ℕ → List (List ℕ) → List Bool
utf8_checks zone name parts = is_text zone ∷ is_text name ∷ all_text parts ∷ []

-- whether all of them hold
abbrev pub all_hold : List Bool → Bool
all_hold bs = list_all (λ b. b) bs

-- the refusal k unless all of them hold
unfoldable pub unless_all : List Bool → ℕ → Tested → Tested
unless_all [] k r = r
unless_all (b ∷ bs) k r = unless_all bs k (unless b k r)
