-- The values that plain numbers stand for, and which numbers fit. A number above what its field's type holds does not fit, and is
-- refused by 22 before anything is made narrower. T, P, i and a body's length are any numbers of 64 bits, and so is a text's length.
-- Assumes nothing: these are definitions.
use Rattle.std.specs.Prelude.{ℕ, zero, suc, ◌+◌, ◌≤◌, Bool, true, false, List, [], ◌∷◌, leb, eqb}
use Rattle.octets.specs.Octets.{pick, most8, most16, most32, octet_at as number_at}
use Rattle.packet.specs.declared.Present.{Present}
use Rattle.sender.specs.declared.Sender.{Sender}
use Rattle.write.specs.declared.HeaderValues.{HeaderValues}
use Rattle.write.specs.declared.PacketValues.{PacketValues}

-- whether each of the first k numbers is at most the one at its place among the widths
unfoldable pub fits_to : ℕ → List ℕ → List ℕ → Bool
fits_to zero l ws = true
fits_to (suc k) l ws = pick (fits_to k l ws) (leb (number_at l k) (number_at ws k)) false

-- ---- a header to write: 24 numbers, in the order of the fields

abbrev pub most64 : ℕ
most64 = 18446744073709551615

-- the largest number of each field's type: packet type, APID, SDU type, area, service, operation, area version, error, QoS level,
-- session, secondary APID, qualifier, transaction id; eight presence flags; source id, destination id, priority
abbrev pub header_widths : List ℕ
header_widths =
    most8 ∷ most16 ∷ most8 ∷ most32 ∷ most32 ∷ most32 ∷ most16 ∷ most8 ∷ most8 ∷ most8 ∷ most16 ∷ most32 ∷ most64
    ∷ 1 ∷ 1 ∷ 1 ∷ 1 ∷ 1 ∷ 1 ∷ 1 ∷ 1
    ∷ most16 ∷ most16 ∷ most64
    ∷ []

abbrev pub header_fits : List ℕ → Bool
header_fits l = fits_to 24 l header_widths

-- eight presence flags from place k on are 0 or 1
pub record FlagsFit (k : ℕ) (l : List ℕ) : Type 0 where
  pub source : number_at l k ≤ 1
  pub destination : number_at l (k + 1) ≤ 1
  pub priority : number_at l (k + 2) ≤ 1
  pub timestamp : number_at l (k + 3) ≤ 1
  pub zone : number_at l (k + 4) ≤ 1
  pub session_name : number_at l (k + 5) ≤ 1
  pub domain : number_at l (k + 6) ≤ 1
  pub authentication : number_at l (k + 7) ≤ 1

-- eight presence flags, from place k on
abbrev pub present_from : ℕ → List ℕ → Present
present_from k l =
    record {
      source = eqb (number_at l k) 1;
      destination = eqb (number_at l (k + 1)) 1;
      priority = eqb (number_at l (k + 2)) 1;
      timestamp = eqb (number_at l (k + 3)) 1;
      zone = eqb (number_at l (k + 4)) 1;
      session_name = eqb (number_at l (k + 5)) 1;
      domain = eqb (number_at l (k + 6)) 1;
      authentication = eqb (number_at l (k + 7)) 1;
    }

unfoldable pub present_of : List ℕ → Present
present_of l = present_from 13 l

unfoldable pub header_of : List ℕ → HeaderValues
header_of l =
    record {
      packet_type = number_at l 0;
      apid = record { 0 = number_at l 1 };
      sdu = number_at l 2;
      area = number_at l 3;
      service = number_at l 4;
      operation = number_at l 5;
      version = number_at l 6;
      error = number_at l 7;
      qos = number_at l 8;
      session = number_at l 9;
      secondary_apid = record { 0 = number_at l 10 };
      qualifier = number_at l 11;
      transaction = number_at l 12;
      has = present_of l;
      source = number_at l 21;
      destination = number_at l 22;
      priority = number_at l 23;
    }

-- ---- one packet's own numbers: sequence flags, sequence count, segment counter

abbrev pub packet_widths : List ℕ
packet_widths = most8 ∷ most16 ∷ most32 ∷ []

abbrev pub packet_fits : ℕ → ℕ → ℕ → Bool
packet_fits flags count counter = fits_to 3 (flags ∷ count ∷ counter ∷ []) packet_widths

abbrev pub packet_of : ℕ → ℕ → ℕ → PacketValues
packet_of flags count counter = record { flags = flags; sequence_count = record { 0 = count }; counter = record { 0 = counter } }

-- ---- a sender: sequence count and segment counter

abbrev pub sender_widths : List ℕ
sender_widths = most16 ∷ most32 ∷ []

abbrev pub sender_fits : List ℕ → Bool
sender_fits l = fits_to 2 l sender_widths

abbrev pub sender_of : List ℕ → Sender
sender_of l = record { sequence_count = record { 0 = number_at l 0 }; counter = record { 0 = number_at l 1 } }
