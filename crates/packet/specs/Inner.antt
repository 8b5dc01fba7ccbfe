-- The definitions' steps in the code's structs, and the stages of reading from any walk on. And a sequence count made one of 14 bits.
-- Assumes nothing: these are definitions.
use Rattle.std.specs.Prelude.{ℕ, ◌≡◌, ◌+◌, ◌-◌, ◌*◌, ◌/◌, ◌%◌, List, length, Result, Ok, Err, leb}
use Rattle.octets.specs.Octets.{pick, octet_at, number}
use Rattle.walk.specs.declared.Settings.{Settings}
use Rattle.walk.specs.declared.Bound.{Bound}
use Rattle.walk.specs.declared.Refused.{Refused}
use Rattle.walk.specs.Walk.{Reading, Step, goes, header_bound}
use Rattle.walk.specs.Told.{told}
use Rattle.walk.specs.Read.{Refuses}
use Rattle.fields.specs.Fields.{place}
use Rattle.packet.specs.declared.Fixed.{Fixed}
use Rattle.packet.specs.declared.Present.{Present}
use Rattle.packet.specs.declared.Names.{Names}
use Rattle.packet.specs.declared.Routing.{Routing}
use Rattle.packet.specs.declared.Ids.{Ids}
use Rattle.packet.specs.declared.Texts.{Texts}
use Rattle.packet.specs.declared.Header.{Header as Decoded}
use Rattle.packet.specs.Format.{primary_size}
use Rattle.packet.specs.Numbers.{count_most}
use Rattle.packet.specs.FixedPart.{after_sdu, after_area, after_service, after_operation, after_version, after_session, after_secondary}
use Rattle.packet.specs.FixedPart.{after_qualifier, fixed_end, fixed_of, present_of}
use Rattle.packet.specs.Reading.{wanted, primary_tests, primary_of, segmented, ids_of, texts_of, body_test, refusal_of, counter_size}

-- the first half of the fixed part
abbrev pub names_of : Bound → List ℕ → Reading → Step Names
names_of b p w =
    record {
      walk = after_version b p w;
      value =
          record {
            sdu = octet_at p w.at % 32;
            area = number 2 p (after_sdu b p w).at;
            service = number 2 p (after_area b p w).at;
            operation = number 2 p (after_service b p w).at;
            version = octet_at p (after_operation b p w).at;
          };
    }

-- what follows it, up to the qualifier
abbrev pub routing_of : Bound → List ℕ → Reading → Step Routing
routing_of b p w =
    record {
      walk = after_qualifier b p w;
      value =
          record {
            error = octet_at p w.at / 128;
            qos = octet_at p w.at / 32 % 4;
            session = octet_at p w.at / 8 % 4;
            secondary_apid = record { 0 = octet_at p w.at % 8 * 256 + octet_at p (after_session b p w).at };
            qualifier = number 2 p (after_secondary b p w).at;
          };
    }

abbrev pub fixed_part : Bound → List ℕ → Reading → Step (Fixed × Present)
fixed_part b p w = record { walk = fixed_end b p w; value = (fixed_of b p w, present_of b p w) }

-- what the tests of the primary header answer: a packet that is as long as it says; or the refusal, which but for its octets is one of a walk's
abbrev pub Judges : List ℕ → Result (Unit {0}) Refused → Type 0
Judges p (Ok x) = (primary_tests p (goes 6) ≡ goes 6) × (wanted p ≡ length p)
Judges p (Err e) = (told e ≡ refusal_of p (primary_tests p (goes 6))) × ((d : Refused) × Refuses d (primary_tests p (goes 6)))

-- ---- the secondary header from a walk on

abbrev pub has_from : List ℕ → Reading → Present
has_from p w = present_of header_bound p w

abbrev pub ids_from : Settings → List ℕ → Reading → Step Ids
ids_from s p w = ids_of s header_bound (segmented p) (has_from p w) p (fixed_end header_bound p w)

abbrev pub texts_from : Settings → List ℕ → Reading → Step Texts
texts_from s p w = texts_of s header_bound (has_from p w) p (ids_from s p w).walk

abbrev pub ended_from : Settings → List ℕ → Reading → Reading
ended_from s p w = body_test p (texts_from s p w).walk

-- its values, and the body
abbrev pub secondary : Settings → List ℕ → Reading → Step Decoded
secondary s p w =
    record {
      walk = ended_from s p w;
      value =
          record {
            primary = primary_of p;
            fixed = fixed_of header_bound p w;
            has = has_from p w;
            ids = (ids_from s p w).value;
            texts = (texts_from s p w).value;
            h = (ended_from s p w).at - primary_size - counter_size p;
            body = place (ended_from s p w).at (length p - (ended_from s p w).at);
            withdrawn = (has_from p w).zone;
          };
    }

-- a count above the largest is followed by 0, as the largest is
abbrev pub held_count : ℕ → ℕ
held_count x = pick (leb count_most x) count_most x
