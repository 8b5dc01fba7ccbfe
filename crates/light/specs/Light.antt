-- What a light reading tells of a packet, and what holds if all of its fixed part is there and accepted.
-- Assumes nothing: these are definitions.
use Rattle.std.specs.Prelude.{ℕ, ◌+◌, ◌*◌, ◌/◌, ◌%◌, ◌≤◌, ◌≡◌, List, length, replicate, Result, Ok, Err}
use Rattle.octets.specs.Octets.{octet_at, number}
use Rattle.walk.specs.declared.Settings.{Settings}
use Rattle.walk.specs.Walk.{goes, header_bound, timestamp_most}
use Rattle.fields.specs.Fields.{nowhere}
use Rattle.packet.specs.FixedPart.{flags_of, fixed_end, fixed_of, present_of}
use Rattle.packet.specs.declared.Fixed.{Fixed}
use Rattle.packet.specs.declared.Texts.{Texts}
use Rattle.packet.specs.Answer.{Header}
use Rattle.packet.specs.Reading.{start_at}
use Rattle.walk.specs.declared.Refused.{Refused}
use Rattle.walk.specs.Told.{told}
use Rattle.packet.specs.declared.SegmentCounter.{SegmentCounter}
use Rattle.light.specs.declared.Light.{Light as Seen}

-- what a light reading tells; of a refused packet all but the refusal's number is 0
pub record Light : Type 0 where
  pub refusal : ℕ
  pub flags : ℕ
  pub counter : SegmentCounter
  pub body : ℕ

-- of what it answers
abbrev pub seen : Result Seen Refused → Light
seen (Ok x) = record { refusal = 0; flags = x.flags; counter = x.counter; body = x.body }
seen (Err r) = record { refusal = (told r).number; flags = 0; counter = record { 0 = 0 }; body = 0 }

-- of a whole reading's header: the refusal's number, the sequence flags, the counter, and where the body begins
unfoldable pub light_of : Header → Light
light_of h =
    record {
      refusal = h.refusal.number;
      flags = h.primary.flags;
      counter = h.ids.counter;
      body = h.body.at;
    }

-- the fixed part of a packet at its own places
abbrev pub fixed_here : List ℕ → Fixed
fixed_here p =
    record {
      sdu = octet_at p 6 % 32;
      area = number 2 p 7;
      service = number 2 p 9;
      operation = number 2 p 11;
      version = octet_at p 13;
      error = octet_at p 14 / 128;
      qos = octet_at p 14 / 32 % 4;
      session = octet_at p 14 / 8 % 4;
      secondary_apid = record { 0 = octet_at p 14 % 8 * 256 + octet_at p 15 };
      qualifier = number 2 p 16;
      transaction = number 8 p 18;
    }

-- what is told of texts if there are none
abbrev pub no_texts : Texts
no_texts =
    record {
      timestamp = nowhere;
      zone = nowhere;
      session_name = nowhere;
      count = 0;
      parts = replicate 16 nowhere;
      authentication = nowhere;
    }

-- all up to the presence octet is there and accepted
pub record Ready (s : Settings) (p : List ℕ) : Type 0 where
  pub small : s.t ≤ timestamp_most
  pub long : 27 ≤ length p
  pub start : start_at s p ≡ goes 6
  pub after : fixed_end header_bound p (goes 6) ≡ goes 27
  pub fixed : fixed_of header_bound p (goes 6) ≡ fixed_here p
  pub has : present_of header_bound p (goes 6) ≡ flags_of (octet_at p 26)
