-- SPEC F-14, by computation: with T 8 reading answers its values, and the octets of its values are the packet.
-- So the hypotheses of the laws can be met.
-- Assumes nothing.
use mathlib.Core.Path.{◌≡◌, refl}
use Rattle.octets.specs.Octets.{number, wide}
use Rattle.walk.specs.Walk.{begun, check, octets, field_from}
use Rattle.packet.specs.Figure14.{settings, packet, values, header}
use Rattle.packet.specs.Format.{presence, identification, fixed_octets, front_octets, counter_octets, back_octets, secondary_octets, data_octets, octets_of}
use Rattle.packet.specs.FixedPart.{after_sdu, after_area, after_service, after_operation, after_version, after_session, after_secondary, after_qualifier}
use Rattle.packet.specs.FixedPart.{after_transaction, after_presence, fixed_of, flags_of, present_of}
use Rattle.packet.specs.Reading.{primary_tests, primary_of, ids_of, texts_of, body_test, accepted_header, read_packet}
use Rattle.format.specs.Told.{head_of, values_of}

pub reads : read_packet settings packet ≡ header
unfolding read_packet accepted_header primary_tests begun check octets number primary_of after_sdu after_area after_service after_operation after_version
    after_session after_secondary after_qualifier after_transaction after_presence fixed_of flags_of present_of ids_of texts_of body_test field_from
reads = refl

pub tells : values_of packet header ≡ values
unfolding values_of head_of
tells = refl

pub writes : octets_of settings values ≡ packet
unfolding octets_of identification data_octets secondary_octets fixed_octets presence front_octets counter_octets back_octets wide
writes = refl
