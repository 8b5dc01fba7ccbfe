-- The laws are not empty: figure 14 and a segment with every optional field are in range, so they are written, read back and have
-- all that an accepted packet has; and a reader with one constant answer does not read back.
-- Assumes nothing.
use Prim.Native.Nat.{ℕ}
use mathlib.Core.Path.{◌≡◌, refl, ap}
use mathlib.Core.List.{[], ◌∷◌}
use mathlib.Core.Bool.{true}
use native.Mathlib.Omega.{arith}
use Rattle.octets.specs.Octets.{wide}
use Rattle.octets.proofs.Has.{octets_nil, octets_one, octets_append}
use Rattle.utf8.specs.Test.{ended, begins, follows, accepts, is_text}
use Rattle.utf8.proofs.Laws.{is_text_lem}
use Rattle.varint.specs.Varint.{octets_of as varint_octets, write}
use Rattle.walk.specs.declared.Settings.{Settings}
use Rattle.walk.specs.Profile.{varint_profile}
use Rattle.packet.specs.Answer.{Header}
use Rattle.fields.specs.Form.{uinteger_octets, blob_octets, text_octets, part_octets, joined, domain_octets}
use Rattle.packet.specs.Format.{Values, Each, presence, identification, fixed_octets, front_octets, counter_octets, back_octets, secondary_octets, data_octets, octets_of, InRange}
use Rattle.packet.specs.Reading.{read_packet}
use Rattle.format.specs.Told.{head_of, values_of}
use Rattle.format.specs.Accepted.{Written}
use Rattle.format.proofs.TwoWay.{reads_back}
use Rattle.format.proofs.Accepting.{written}
use Rattle.packet.specs.Figure14.{settings, values}

pub figure_in_range : InRange settings values
unfolding octets_of identification data_octets secondary_octets fixed_octets presence front_octets counter_octets back_octets wide
figure_in_range =
    record {
      settings = record { t_low = omega arith; t_top = omega arith; profile_top = omega arith };
      head =
          record {
            packet_type = omega arith;
            apid = omega arith;
            sdu = omega arith;
            area = omega arith;
            service = omega arith;
            operation = omega arith;
            version = omega arith;
            error = omega arith;
            qos = omega arith;
            session = omega arith;
            secondary_apid = omega arith;
            qualifier = omega arith;
            transaction = omega arith;
            source = refl;
            destination = refl;
            priority = refl;
            timestamp = refl;
            zone = refl;
            session_name = refl;
            domain = refl;
            authentication = refl;
          };
      flags = omega arith;
      sequence_count = omega arith;
      counter = refl;
      body = octets_nil;
      packet = omega arith;
      header = omega arith;
      some = λ e. let z : ◌≡◌ {A = ℕ} 0 1 = cc e in absurd (omega arith);
    }

abbrev pub two : Settings
two = record { t = 2; profile = varint_profile }

-- a first segment, every field at a limit or with some content
abbrev pub full : Values
full =
    record {
      head =
          record {
            packet_type = 0;
            apid = 2046;
            sdu = 21;
            area = 65535;
            service = 0;
            operation = 258;
            version = 255;
            error = 1;
            qos = 3;
            session = 2;
            secondary_apid = 2047;
            qualifier = 1;
            transaction = 18446744073709551615;
            has_source = true;
            has_destination = true;
            has_priority = true;
            has_timestamp = true;
            has_zone = true;
            has_session_name = true;
            has_domain = true;
            has_authentication = true;
            source = 255;
            destination = 1;
            priority = 300;
            timestamp = 1 ∷ 2 ∷ [];
            zone = 65 ∷ [];
            session_name = [];
            domain = (66 ∷ []) ∷ [] ∷ [];
            authentication = 255 ∷ 0 ∷ [];
          };
      flags = 1;
      sequence_count = 16383;
      counter = 4294967295;
      body = 7 ∷ [];
    }

pub full_octets :
    octets_of two full
    ≡ 0x0F ∷ 0xFE ∷ 0x7F ∷ 0xFF ∷ 0 ∷ 43 ∷ 21 ∷ 255 ∷ 255 ∷ 0 ∷ 0 ∷ 1 ∷ 2 ∷ 255 ∷ 0xF7 ∷ 0xFF ∷ 0 ∷ 1
    ∷ 255 ∷ 255 ∷ 255 ∷ 255 ∷ 255 ∷ 255 ∷ 255 ∷ 255 ∷ 255
    ∷ 255 ∷ 1 ∷ 255 ∷ 255 ∷ 255 ∷ 255 ∷ 0xAC ∷ 2 ∷ 1 ∷ 2 ∷ 1 ∷ 65 ∷ 0 ∷ 2 ∷ 1 ∷ 1 ∷ 66 ∷ 1 ∷ 0 ∷ 2 ∷ 255 ∷ 0 ∷ 7 ∷ []
unfolding octets_of identification data_octets secondary_octets fixed_octets presence front_octets counter_octets back_octets wide uinteger_octets blob_octets
    text_octets part_octets joined domain_octets write varint_octets
full_octets = refl

pub full_in_range : InRange two full
unfolding octets_of identification data_octets secondary_octets fixed_octets presence front_octets counter_octets back_octets wide uinteger_octets blob_octets
    text_octets part_octets joined domain_octets write varint_octets Each is_text accepts ended begins follows
full_in_range =
    record {
      settings = record { t_low = omega arith; t_top = omega arith; profile_top = omega arith };
      head =
          record {
            packet_type = omega arith;
            apid = omega arith;
            sdu = omega arith;
            area = omega arith;
            service = omega arith;
            operation = omega arith;
            version = omega arith;
            error = omega arith;
            qos = omega arith;
            session = omega arith;
            secondary_apid = omega arith;
            qualifier = omega arith;
            transaction = omega arith;
            source = omega arith;
            destination = omega arith;
            priority = omega arith;
            timestamp = (refl, octets_append (1 ∷ []) (2 ∷ []) (octets_one 1 (omega arith)) (octets_one 2 (omega arith)));
            zone = (is_text_lem (65 ∷ [])).0 refl;
            session_name = (is_text_lem []).0 refl;
            domain = (omega arith, ((is_text_lem (66 ∷ [])).0 refl, ((is_text_lem []).0 refl, tt)));
            authentication = octets_append (255 ∷ []) (0 ∷ []) (octets_one 255 (omega arith)) (octets_one 0 (omega arith));
          };
      flags = omega arith;
      sequence_count = omega arith;
      counter = omega arith;
      body = octets_one 7 (omega arith);
      packet = omega arith;
      header = omega arith;
      some = λ e. omega arith;
    }

-- so it reads back, and has what a written packet has
pub full_back : values_of (octets_of two full) (read_packet two (octets_of two full)) ≡ full
full_back = (reads_back two full full_in_range).1

pub full_written : Written two full (octets_of two full) (read_packet two (octets_of two full))
full_written = written two full full_in_range

-- a reader with one constant answer
pub no_constant : (h : Header) → ((s : Settings) (v : Values) → InRange s v → values_of (octets_of s v) h ≡ v) → ⊥
unfolding values_of head_of
no_constant h f =
    let a : h.primary.packet_type ≡ 1 = ap (λ (v : Values). v.head.packet_type) (f settings values figure_in_range) in
    let b : h.primary.packet_type ≡ 0 = ap (λ (v : Values). v.head.packet_type) (f two full full_in_range) in
    omega arith
