-- Worked figures, by computation: figure 14 after its mark, between two octets; the same without its last octet; a file of one octet, with
-- room, with no grant and with no list; an empty file; states that can't be one. So the hypotheses of the laws can be met.
-- Assumes nothing.
use Prim.Native.Nat.{ℕ, suc}
use mathlib.Core.Path.{◌≡◌, refl}
use mathlib.Core.List.{List, [], ◌∷◌, ◌++◌}
use lib.ListN.{take}
use Rattle.octets.specs.Octets.{number}
use Rattle.walk.specs.Profile.{varint_profile, fixed_profile}
use Rattle.walk.specs.Walk.{settings_of, begun, check, octets, field_from}
use Rattle.packet.specs.Figure14.{settings, packet}
use Rattle.packet.specs.FixedPart.{after_sdu, after_area, after_service, after_operation, after_version, after_session, after_secondary, after_qualifier}
use Rattle.packet.specs.FixedPart.{after_transaction, after_presence, fixed_of, flags_of, present_of}
use Rattle.packet.specs.Reading.{primary_tests, primary_of, ids_of, texts_of, body_test, accepted_header, read_packet}
use Rattle.salvage.specs.Listing.{marked, kept, kept_entry, skipped_entry, stop, stretch, listed, onward, list_from, list_of}
use Rattle.salvage.specs.Calling.{ending, calling, as_told, refused_by, refusal_of, salvaged}

-- an octet, figure 14 after its mark, another octet
abbrev torn : List ℕ
torn = 0x61 ∷ 0x4d ∷ 0x50 ∷ packet ++ (0x62 ∷ [])

pub torn_list : list_of settings torn ≡ skipped_entry 0 1 ∷ kept_entry 1 29 ∷ skipped_entry 30 31 ∷ []
unfolding read_packet accepted_header primary_tests begun check octets number primary_of after_sdu after_area after_service after_operation after_version
    after_session after_secondary after_qualifier after_transaction after_presence fixed_of flags_of present_of ids_of texts_of body_test field_from marked kept
    stretch listed onward list_from
torn_list = refl

-- an octet short: nothing is kept
pub short_list : list_of settings (take 29 torn) ≡ skipped_entry 0 29 ∷ []
unfolding number marked kept stretch listed onward list_from
short_list = refl

-- one octet that is no mark
abbrev one : List ℕ
one = 0x61 ∷ []

pub one_listed : salvaged settings one (stop 0 0) 1 6 ≡ as_told 1 1 1 (stop 1 1)
unfolding begun check refusal_of salvaged calling marked kept listed onward stretch ending
one_listed = refl

-- room for one entry: its place is not tested
pub one_room : salvaged settings one (stop 0 0) 1 5 ≡ as_told 1 0 0 (stop 0 0)
unfolding begun check refusal_of salvaged calling marked kept listed onward stretch ending
one_room = refl

-- tested before, and then listed with no grant
pub one_resumed : salvaged settings one (stop 0 1) 0 3 ≡ as_told 1 0 1 (stop 1 1)
unfolding begun check refusal_of salvaged calling stretch ending
one_resumed = refl

-- an empty file is done at once; T 0 is refused first
pub empty_done : salvaged settings [] (stop 0 0) 0 0 ≡ as_told 0 0 0 (stop 0 0)
unfolding begun check refusal_of salvaged calling stretch ending
empty_done = refl

pub empty_fifteen : salvaged (settings_of 0 varint_profile) [] (stop 2 1) 0 0 ≡ refused_by 15
unfolding begun check refusal_of salvaged
empty_fifteen = refl

-- and so is a profile that there is not
pub unknown_fifteen : salvaged (settings_of 8 (suc fixed_profile)) [] (stop 2 1) 0 0 ≡ refused_by 15
unfolding begun check refusal_of salvaged
unknown_fifteen = refl

-- a place after the end, and a stretch that begins after the place
pub after_end : salvaged settings one (stop 0 2) 1 6 ≡ refused_by 40
unfolding begun check refusal_of salvaged
after_end = refl

pub after_place : salvaged settings one (stop 1 0) 1 6 ≡ refused_by 40
unfolding begun check refusal_of salvaged
after_place = refl
