-- The key of a packet, over its octets.
-- SPEC S-4: packet type, APID, and the secondary header's octets without those of the counter.
-- Assumes nothing: these are definitions.
use Rattle.std.specs.Prelude.{ℕ, ◌+◌, ◌-◌, Bool, List, ◌++◌}
use Rattle.octets.specs.Octets.{pick, part, alike}
use Rattle.packet.specs.Answer.{Header}
use Rattle.packet.specs.Format.{primary_size, fixed_size}
use Rattle.packet.specs.Reading.{counter_size}

-- the segment counter stands after the fixed part, the source id and the destination id
unfoldable pub counter_place : Header → ℕ
counter_place h = primary_size + fixed_size + (pick h.has.source 1 0 + pick h.has.destination 1 0)

-- packet identification (packet type and APID), and the secondary header around its counter
unfoldable pub key_of : List ℕ → Header → List ℕ
key_of p h =
    part p 0 2
    ++ (part p primary_size (counter_place h - primary_size)
    ++ part p (counter_place h + counter_size p) (h.body.at - (counter_place h + counter_size p)))

-- whether two packets, with what reading answered of them, have the same key
abbrev pub same_key : List ℕ → Header → List ℕ → Header → Bool
same_key p h q g = alike (key_of p h) (key_of q g)
