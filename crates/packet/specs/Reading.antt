-- What reading a packet answers, with its order of refusals.
-- SPEC R-1 to R-7: T, the primary header, the secondary header field by field, the empty body.
-- Assumes nothing: these are definitions.
use Rattle.std.specs.Prelude.{ℕ, ◌+◌, ◌-◌, ◌/◌, ◌%◌, List, Bool, false, not, length, replicate, ltb, leb, eqb}
use Rattle.octets.specs.Octets.{pick, octet_at, number}
use Rattle.walk.specs.declared.Settings.{Settings}
use Rattle.walk.specs.declared.Refusal.{Refusal}
use Rattle.walk.specs.declared.Bound.{Bound}
use Rattle.walk.specs.Walk.{Reading, Step, no_refusal, going, header_bound, check, begun, uinteger}
use Rattle.fields.specs.Fields.{place, nowhere, opt, block, blob, text, domain, no_parts}
use Rattle.packet.specs.declared.Primary.{Primary}
use Rattle.packet.specs.declared.Fixed.{Fixed}
use Rattle.packet.specs.declared.Present.{Present}
use Rattle.packet.specs.declared.Ids.{Ids}
use Rattle.packet.specs.declared.Texts.{Texts}
use Rattle.packet.specs.Answer.{Header}
use Rattle.packet.specs.Format.{primary_size, counter_width, flags_whole}
use Rattle.packet.specs.FixedPart.{octet_field, wide_field, fixed_end, fixed_of, present_of}

-- ---- the primary header, at its own places

-- the octets that a packet has by its length field
abbrev pub wanted : List ℕ → ℕ
wanted p = number 2 p 4 + 7

-- SPEC R-1: 1 too short; 2 the version; 3 the secondary header flag; 4 the idle APID; 5 shorter than the length field says, 27 longer
unfoldable pub primary_tests : List ℕ → Reading → Reading
primary_tests p w =
    check (leb (length p) (wanted p)) 27
    (check (leb (wanted p) (length p)) 5
    (check (not (eqb (number 2 p 0 % 2048) 2047)) 4
    (check (eqb (octet_at p 0 / 8 % 2) 1) 3 (check (ltb (octet_at p 0) 32) 2 (check (leb primary_size (length p)) 1 w)))))

unfoldable pub primary_of : List ℕ → Primary
primary_of p =
    record {
      packet_type = octet_at p 0 / 16 % 2;
      apid = record { 0 = number 2 p 0 % 2048 };
      flags = octet_at p 2 / 64;
      sequence_count = record { 0 = number 2 p 2 % 16384 };
    }

-- the sequence flags aren't 11
abbrev pub segmented : List ℕ → Bool
segmented p = not (eqb (octet_at p 2 / 64) flags_whole)

-- ---- the optional fields

-- source id, destination id, segment counter if there is one, priority
unfoldable pub ids_of : Settings → Bound → Bool → Present → List ℕ → Reading → Step Ids
ids_of s b segment has p w =
    let a = opt has.source 0 (octet_field b p) w in
    let x = opt has.destination 0 (octet_field b p) a.walk in
    let c = opt segment 0 (wide_field counter_width b p) x.walk in
    let d = opt has.priority 0 (uinteger s b p) c.walk in
    record {
      walk = d.walk;
      value = record { source = a.value; destination = x.value; counter = record { 0 = c.value }; priority = d.value };
    }

-- timestamp, network zone, session name, domain, authentication id
unfoldable pub texts_of : Settings → Bound → Present → List ℕ → Reading → Step Texts
texts_of s b has p w =
    let a = opt has.timestamp nowhere (block s.t b p) w in
    let x = opt has.zone nowhere (text s b p) a.walk in
    let c = opt has.session_name nowhere (text s b p) x.walk in
    let d = opt has.domain (no_parts 0) (domain s b p) c.walk in
    let e = opt has.authentication nowhere (blob s b p) d.walk in
    record {
      walk = e.walk;
      value =
          record {
            timestamp = a.value;
            zone = x.value;
            session_name = c.value;
            count = d.value.count;
            parts = d.value.places;
            authentication = e.value;
          };
    }

-- 14: a segmented packet with an empty body
unfoldable pub body_test : List ℕ → Reading → Reading
body_test p w = pick (segmented p) (check (ltb w.at (length p)) 14 w) w

-- ---- the answer

-- the stages
abbrev pub start_at : Settings → List ℕ → Reading
start_at s p = primary_tests p (begun s)

abbrev pub has_at : Settings → List ℕ → Present
has_at s p = present_of header_bound p (start_at s p)

abbrev pub ids_at : Settings → List ℕ → Step Ids
ids_at s p = ids_of s header_bound (segmented p) (has_at s p) p (fixed_end header_bound p (start_at s p))

abbrev pub texts_at : Settings → List ℕ → Step Texts
texts_at s p = texts_of s header_bound (has_at s p) p (ids_at s p).walk

abbrev pub ended : Settings → List ℕ → Reading
ended s p = body_test p (texts_at s p).walk

-- SPEC R-10, what a refused reading tells: its number; beside 5 the octets that are missing, beside 27 those that are left over; beside 6 the
-- place in the secondary header where the unfinished field began
unfoldable pub refusal_of : List ℕ → Reading → Refusal
refusal_of p w =
    record {
      number = w.refused;
      octets = pick (eqb w.refused 5) (wanted p - length p) (pick (eqb w.refused 27) (length p - wanted p) 0);
      place = pick (eqb w.refused 6) (w.at - primary_size) 0;
    }

-- what a refusal answers beside it: zeros
abbrev pub no_fixed : Fixed
no_fixed =
    record {
      sdu = 0;
      area = 0;
      service = 0;
      operation = 0;
      version = 0;
      error = 0;
      qos = 0;
      session = 0;
      secondary_apid = record { 0 = 0 };
      qualifier = 0;
      transaction = 0;
    }

abbrev pub no_flags : Present
no_flags =
    record {
      source = false;
      destination = false;
      priority = false;
      timestamp = false;
      zone = false;
      session_name = false;
      domain = false;
      authentication = false;
    }

unfoldable pub refused_header : Refusal → Header
refused_header r =
    record {
      refusal = r;
      primary = record { packet_type = 0; apid = record { 0 = 0 }; flags = 0; sequence_count = record { 0 = 0 } };
      fixed = no_fixed;
      has = no_flags;
      ids = record { source = 0; destination = 0; counter = record { 0 = 0 }; priority = 0 };
      texts =
          record {
            timestamp = nowhere;
            zone = nowhere;
            session_name = nowhere;
            count = 0;
            parts = replicate 16 nowhere;
            authentication = nowhere;
          };
      h = 0;
      body = nowhere;
      withdrawn = false;
    }

-- the octets of a segment counter in the header: 4, or 0 if there is none
abbrev pub counter_size : List ℕ → ℕ
counter_size p = pick (segmented p) counter_width 0

-- the body stands from the header's end to the packet's; H never counts the counter; a zone is withdrawn (SPEC R-11)
unfoldable pub accepted_header : Settings → List ℕ → Header
accepted_header s p =
    record {
      refusal = no_refusal;
      primary = primary_of p;
      fixed = fixed_of header_bound p (start_at s p);
      has = has_at s p;
      ids = (ids_at s p).value;
      texts = (texts_at s p).value;
      h = (ended s p).at - primary_size - counter_size p;
      body = place (ended s p).at (length p - (ended s p).at);
      withdrawn = (has_at s p).zone;
    }

unfoldable pub read_packet : Settings → List ℕ → Header
read_packet s p = pick (going (ended s p)) (accepted_header s p) (refused_header (refusal_of p (ended s p)))
