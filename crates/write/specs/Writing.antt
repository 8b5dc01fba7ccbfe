-- What writing one packet answers and writes, with its order of refusals.
-- SPEC W-2, W-3: first 15, then 22, 30, 13, 28, 23, 12, 14, 21.
-- A zone is withdrawn (30). `old` is true for the old writer, which writes it and is for laws and tests alone, and false for the writer.
-- Assumes nothing: these are definitions.
use Rattle.std.specs.Prelude.{ℕ, List, ◌++◌, Bool, true, false, not, length, drop, leb, eqb}
use Rattle.octets.specs.Octets.{pick}
use Rattle.walk.specs.declared.Settings.{Settings}
use Rattle.walk.specs.declared.Tested.{Tested}
use Rattle.walk.specs.Profile.{fixed_profile}
use Rattle.walk.specs.Walk.{refusal, none_failed, unless, timestamp_least, timestamp_most}
use Rattle.fields.specs.Fields.{parts_most}
use Rattle.fields.specs.Form.{split}
use Rattle.packet.specs.declared.Present.{Present}
use Rattle.packet.specs.Format.{Values, segment, octets_of, secondary_octets, packet_most, header_most}
use Rattle.write.specs.declared.HeaderValues.{HeaderValues}
use Rattle.write.specs.declared.PacketValues.{PacketValues}
use Rattle.write.specs.declared.Writer.{Writer}
use Rattle.write.specs.declared.Writer.TheVariants.{Today, Old}
use Rattle.write.specs.Answer.{Written}
use Rattle.write.specs.Given.{Lent, head_of, packet_of, header_checks, packet_checks, utf8_checks, unless_all}

-- whether it is the old writer
abbrev pub is_old : Writer → Bool
is_old Today = false
is_old Old = true

-- 15: T outside its range, or a profile that there is not
unfoldable pub settings_test : Settings → Tested → Tested
settings_test s r =
    unless (leb s.profile fixed_profile) 15 (unless (leb s.t timestamp_most) 15 (unless (leb timestamp_least s.t) 15 r))

-- 30: a zone, but for the old writer
abbrev pub zone_fits : Bool → Present → Bool
zone_fits old has = pick old true (not has.zone)

unfoldable pub zone_test : Bool → HeaderValues → Tested → Tested
zone_test old v r = unless (zone_fits old v.has) 30 r

-- 13: more than sixteen domain parts
unfoldable pub parts_test : Lent → Tested → Tested
parts_test t r = unless (leb (length t.lengths) parts_most) 13 r

-- 28: a zone, a session name or a domain part that is not text
unfoldable pub text_test : Lent → Tested → Tested
text_test t r = unless_all (utf8_checks t.zone t.session_name (split t.lengths t.domain)) 28 r

-- 14: a segmented packet with an empty body
abbrev pub body_fits : ℕ → ℕ → Bool
body_fits flags n = pick (segment flags) (leb 1 n) true

-- the packet that is to be written
abbrev pub given_packet : HeaderValues → PacketValues → Lent → List ℕ → Values
given_packet v o t body = packet_of (head_of v t) o body

-- 23 a packet above 65,542; 12 a secondary header past 256; 14; 21 an output too short
unfoldable pub size_tests : Settings → Values → ℕ → Tested → Tested
size_tests s v room r =
    unless (leb (length (octets_of s v)) room) 21
    (unless (body_fits v.flags (length v.body)) 14
    (unless (leb (length (secondary_octets s v)) header_most) 12 (unless (leb (length (octets_of s v)) packet_most) 23 r)))

-- 15, 22, 30, 13, 28: the tests on the values alone
unfoldable pub value_refusal : Bool → Settings → HeaderValues → PacketValues → Lent → Tested
value_refusal old s v o t =
    text_test t
    (parts_test t
    (zone_test old v (unless_all (packet_checks o) 22 (unless_all (header_checks s v t) 22 (settings_test s none_failed)))))

-- all of them, in their order
unfoldable pub write_refusal : Bool → Settings → HeaderValues → PacketValues → Lent → List ℕ → ℕ → Tested
write_refusal old s v o t body room = size_tests s (given_packet v o t body) room (value_refusal old s v o t)

-- whether there is none
abbrev pub fine : Tested → Bool
fine r = eqb r.number 0

-- the octets written, or the refusal and 0
unfoldable pub write_answer : Bool → Settings → HeaderValues → PacketValues → Lent → List ℕ → ℕ → Written
write_answer old s v o t body room =
    record {
      refusal = refusal (write_refusal old s v o t body room).number;
      length = pick (fine (write_refusal old s v o t body room)) (length (octets_of s (given_packet v o t body))) 0;
    }

-- the output afterwards: the packet from the first octet on and the rest as it was; on refusal all as it was
unfoldable pub write_output : Bool → Settings → HeaderValues → PacketValues → Lent → List ℕ → List ℕ → List ℕ
write_output old s v o t body out =
    pick (fine (write_refusal old s v o t body (length out)))
    (octets_of s (given_packet v o t body) ++ drop (length (octets_of s (given_packet v o t body))) out)
    out
