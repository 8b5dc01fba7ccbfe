-- What the short way of writing and cutting takes: Varints, values in SPEC's ranges, no zone, texts of single octets and of lengths that
-- one octet writes. All else is left to the long way, which makes every refusal.
-- Assumes nothing: these are definitions.
use Rattle.std.specs.Prelude.{ℕ, ◌≤◌, ◌≡◌, true, false, List, [], ◌∷◌, ◌++◌, length, eqb}
use Rattle.octets.specs.Octets.{wide, most8, most16, most32, octet_at as number_at}
use Rattle.utf8.specs.Test.{all_single}
use Rattle.walk.specs.declared.Settings.{Settings}
use Rattle.packet.specs.Format.{octets_of, counter_width, segment, when}
use Rattle.write.specs.declared.HeaderValues.{HeaderValues}
use Rattle.write.specs.declared.PacketValues.{PacketValues}
use Rattle.write.specs.Given.{Lent, number_fits, exact_fits, lengths_fit}
use Rattle.write.specs.Writing.{given_packet, write_refusal, fine}
use Rattle.write.specs.Inner.{primary_pieces, name_pieces, routing_pieces}
use Rattle.flat.specs.Given.{most64, fits_to, header_of, packet_of}
use Rattle.flat.specs.Answers.{write_fits}

-- the largest value of each of a header's 24 numbers; the fifth presence flag is the zone's
abbrev pub limits : List ℕ
limits =
    1 ∷ 2046 ∷ 21 ∷ most16 ∷ most16 ∷ most16 ∷ most8 ∷ 1 ∷ 3 ∷ 2 ∷ 2047 ∷ most16 ∷ most64
    ∷ 1 ∷ 1 ∷ 1 ∷ 1 ∷ 0 ∷ 1 ∷ 1 ∷ 1
    ∷ most8 ∷ most8 ∷ most32
    ∷ []

pub record InLimits (h : List ℕ) : Type 0 where
  pub all : fits_to 24 h limits ≡ true
  pub packet_type : number_at h 0 ≤ 1
  pub apid : number_at h 1 ≤ 2046
  pub sdu : number_at h 2 ≤ 21
  pub area : number_at h 3 ≤ 65535
  pub service : number_at h 4 ≤ 65535
  pub operation : number_at h 5 ≤ 65535
  pub version : number_at h 6 ≤ 255
  pub error : number_at h 7 ≤ 1
  pub qos : number_at h 8 ≤ 3
  pub session : number_at h 9 ≤ 2
  pub secondary_apid : number_at h 10 ≤ 2047
  pub qualifier : number_at h 11 ≤ 65535
  pub has_source : number_at h 13 ≤ 1
  pub has_destination : number_at h 14 ≤ 1
  pub has_priority : number_at h 15 ≤ 1
  pub has_timestamp : number_at h 16 ≤ 1
  pub has_zone : number_at h 17 ≤ 0
  pub has_name : number_at h 18 ≤ 1
  pub has_domain : number_at h 19 ≤ 1
  pub has_authentication : number_at h 20 ≤ 1
  pub source : number_at h 21 ≤ 255
  pub destination : number_at h 22 ≤ 255
  pub priority : number_at h 23 ≤ 4294967295

-- the settings, and the numbers: one of an absent field is 0
pub record Numbers (s : Settings) (h : List ℕ) : Type 0 where
  pub profile : s.profile ≡ 0
  pub t_low : 1 ≤ s.t
  pub t_top : s.t ≤ 16
  pub limited : InLimits h
  pub source : number_at h 13 ≡ 0 → number_at h 21 ≡ 0
  pub destination : number_at h 14 ≡ 0 → number_at h 22 ≡ 0
  pub priority : number_at h 15 ≡ 0 → number_at h 23 ≡ 0

-- a text whose length is one octet, and none if the flag is 0
pub record Brief (flag n : ℕ) : Type 0 where
  pub absent : flag ≡ 0 → n ≡ 0
  pub most : n ≤ 127

pub record Texts (s : Settings) (h : List ℕ) (t : Lent) : Type 0 where
  pub timestamp : exact_fits (eqb (number_at h 16) 1) (length t.timestamp) s.t ≡ true
  pub zone : length t.zone ≡ 0
  pub name : Brief (number_at h 18) (length t.session_name)
  pub domain : Brief (number_at h 19) (length t.domain)
  pub lengths : lengths_fit (eqb (number_at h 19) 1) t.lengths (length t.domain) ≡ true
  pub parts : length t.lengths ≤ 16
  pub authentication : Brief (number_at h 20) (length t.authentication)
  pub name_single : all_single t.session_name ≡ true
  pub domain_single : all_single t.domain ≡ true

pub record Ready (s : Settings) (h : List ℕ) (t : Lent) : Type 0 where
  pub numbers : Numbers s h
  pub texts : Texts s h t

-- the pieces of all up to the presence octet; n is the length field
abbrev pub fixed_pieces : HeaderValues → PacketValues → ℕ → List (List ℕ)
fixed_pieces v o n = primary_pieces v o n ++ (name_pieces v ++ routing_pieces v)

-- and of a packet without optional fields
abbrev pub plain_pieces : HeaderValues → PacketValues → ℕ → List ℕ → List (List ℕ)
plain_pieces v o n body = fixed_pieces v o n ++ (when (segment o.flags) (wide counter_width o.counter.0 ∷ []) ++ (body ∷ []))

-- a packet's own numbers
pub record Own (flags count : ℕ) : Type 0 where
  pub flags_top : flags ≤ 3
  pub count_top : count ≤ 16383

pub record Owned (flags count counter : ℕ) : Type 0 where
  pub own : Own flags count
  pub counter_fits : number_fits (segment flags) counter most32 ≡ true

-- a packet of so many octets that is written the short way: no number is too wide, and nothing refuses it
pub record Writes (s : Settings) (h : List ℕ) (t : Lent) (flags count counter : ℕ) (body : List ℕ) (room size : ℕ) : Type 0 where
  pub ready : Ready s h t
  pub own : Own flags count
  pub fits : write_fits h flags count counter ≡ true
  pub passes : fine (write_refusal false s (header_of h) (packet_of flags count counter) t body room) ≡ true
  pub least : 27 ≤ size
  pub size_is : size ≡ length (octets_of s (given_packet (header_of h) (packet_of flags count counter) t body))
  pub size_room : size ≤ room

-- a message that is cut the short way: P, the header, and the sender's two numbers
pub record CutReady (s : Settings) (P : ℕ) (h : List ℕ) (t : Lent) (d : List ℕ) : Type 0 where
  pub ready : Ready s h t
  pub low : 27 ≤ P
  pub top : P ≤ 65542
  pub count : number_at d 0 ≤ 16383
  pub counter : number_at d 1 ≤ 4294967295
