-- SPEC's figures, F-1 to F-14, as one table: what the calls' definitions come to, and what SPEC says; last, what it says of a
-- recording of figure 14 alone. T is 8. Figures 7 to 13 are asked of figure 14's header and of a body of so many zeros. A figure's own
-- numbers stand here as SPEC has them, and not by the names of the definitions that they are held against.
-- Assumes nothing: these are definitions.
use Rattle.std.specs.Prelude.{ℕ, ◌*◌, false, List, [], ◌∷◌, length, eqb}
use Rattle.octets.specs.Octets.{pick, number as number_at}
use Rattle.varint.specs.Varint.{write}
use Rattle.walk.specs.Walk.{Step, goes, header_bound, uinteger}
use Rattle.packet.specs.Answer.{Header}
use Rattle.packet.specs.Reading.{read_packet}
use Rattle.write.specs.Writing.{write_output}
use Rattle.cut.specs.declared.Counted.{Counted}
use Rattle.cut.specs.Cutting.{header_length, count_answer, packet_answer, packet_output}
use Rattle.cells.specs.Order.{cell_size}
use Rattle.arrival.specs.Arriving.{arrived, store_with}
use Rattle.taking.specs.Taking.{Took, message, unable, writing, took}
use Rattle.packet.specs.Figure14.{settings, zeros, packet as fourteen, header as told}
use Rattle.write.specs.Figure14.{header as values, own, texts}
use Rattle.fewest.specs.Figure14.{sender}
use Rattle.recording.specs.Recording.{recorded}

-- what is computed, and what is said: octets, a number, a refusal, or all that reading answers
pub data Said : Type 0 where
  octets : List ℕ → Said
  is : ℕ → Said
  gives : ℕ → Said
  header : Header → Said

-- a row: the figure's number, what the definitions come to, what SPEC says
pub record Row : Type 0 where
  pub figure : ℕ
  pub computed : Said
  pub said : Said

abbrev pub row : ℕ → Said → Said → Row
row f c d = record { figure = f; computed = c; said = d }

-- ---- Varints

abbrev pub varint_of : Step ℕ → Said
varint_of n = pick (eqb n.walk.refused 0) (is n.value) (gives n.walk.refused)

-- a Varint read as a field of a header
abbrev pub varint : List ℕ → Said
varint l = varint_of (uinteger settings header_bound l (goes 0))

-- ---- cutting

abbrev pub counted : Counted → Said
counted r = pick (eqb r.refusal.number 0) (is r.count) (gives r.refusal.number)

-- how many packets of P octets at most a body of B octets is cut into, from the counter c on
abbrev pub count : ℕ → ℕ → ℕ → Said
count P B c = counted (count_answer false settings P values texts B (sender c))

-- the counter that the sender has after it
abbrev pub next : ℕ → ℕ → ℕ → Said
next P B c = is (count_answer false settings P values texts B (sender c)).sender.counter.0

-- how many octets packet number i has
abbrev pub size : ℕ → ℕ → ℕ → Said
size P B i = is (packet_answer false settings P values texts (zeros B) (sender 0) i P).length

-- the packet, as it is written into so many octets
abbrev pub packet : ℕ → ℕ → ℕ → ℕ → List ℕ
packet P B i room = packet_output false settings P values texts (zeros B) (sender 0) i (zeros room)

-- the counter that reading finds in it, cut from the counter c on
abbrev pub counter : ℕ → ℕ → ℕ → ℕ → ℕ → Said
counter P B c i room =
    is (read_packet settings (packet_output false settings P values texts (zeros B) (sender c) i (zeros room))).ids.counter.0

abbrev pub length_field : List ℕ → Said
length_field p = is (number_at 2 p 4)

-- how many octets of body reading finds
abbrev pub body : List ℕ → Said
body p = is (read_packet settings p).body.length

-- ---- taking

-- the store after the arrival of a packet
abbrev pub with : List ℕ → List ℕ → List ℕ
with p st = store_with cell_size st p (arrived settings cell_size st p)

-- two cells with the message of 8
abbrev pub eight : List ℕ
eight = with (packet 64 38 1 36) (with (packet 64 38 0 64) (zeros (2 * cell_size)))

-- how many octets a taking writes
abbrev pub written : Took → Said
written (message r) = is (length (writing r))
written (unable k) = gives k

abbrev pub taken : List ℕ → ℕ → Said
taken st room = written (took settings cell_size st room)

-- ---- the table

abbrev pub table : List Row
table =
    row 1 (octets (write 127)) (octets (0x7F ∷ []))
    ∷ row 1 (varint (0x7F ∷ [])) (is 127)
    ∷ row 2 (octets (write 128)) (octets (0x80 ∷ 1 ∷ []))
    ∷ row 2 (varint (0x80 ∷ 1 ∷ [])) (is 128)
    ∷ row 3 (octets (write 300)) (octets (0xAC ∷ 2 ∷ []))
    ∷ row 3 (varint (0xAC ∷ 2 ∷ [])) (is 300)
    ∷ row 4 (octets (write 4294967295)) (octets (0xFF ∷ 0xFF ∷ 0xFF ∷ 0xFF ∷ 0x0F ∷ []))
    ∷ row 4 (varint (0xFF ∷ 0xFF ∷ 0xFF ∷ 0xFF ∷ 0x0F ∷ [])) (is 4294967295)
    ∷ row 5 (varint (0x80 ∷ 0 ∷ [])) (gives 10)
    ∷ row 6 (varint (0xFF ∷ 0xFF ∷ 0xFF ∷ 0xFF ∷ 0x1F ∷ [])) (gives 10)
    ∷ row 7 (is (header_length settings values texts)) (is 21)
    ∷ row 7 (count 64 37 0) (is 1)
    ∷ row 7 (size 64 37 0) (is 64)
    ∷ row 7 (length_field (packet 64 37 0 64)) (is 57)
    ∷ row 8 (count 64 38 0) (is 2)
    ∷ row 8 (body (packet 64 38 0 64)) (is 33)
    ∷ row 8 (body (packet 64 38 1 36)) (is 5)
    ∷ row 8 (size 64 38 0) (is 64)
    ∷ row 8 (size 64 38 1) (is 36)
    ∷ row 9 (count 64 99 0) (is 3)
    ∷ row 10 (count 64 100 0) (is 4)
    ∷ row 10 (body (packet 64 100 3 32)) (is 1)
    ∷ row 11 (count 31 4 0) (is 1)
    ∷ row 11 (count 31 5 0) (gives 24)
    ∷ row 12 (count 64 38 4294967294) (is 2)
    ∷ row 12 (count 64 38 4294967295) (is 2)
    ∷ row 12 (counter 64 38 4294967295 0 64) (is 4294967295)
    ∷ row 12 (counter 64 38 4294967295 1 36) (is 0)
    ∷ row 12 (next 64 38 4294967295) (is 1)
    ∷ row 13 (taken eight 61) (is 61)
    ∷ row 14 (header (read_packet settings fourteen)) (header told)
    ∷ row 14 (octets (write_output false settings values own texts [] (zeros 27)))
    (octets fourteen)
    ∷ row 14 (octets (recorded settings (0x4D ∷ 0x50 ∷ fourteen)))
    (octets (0x4D ∷ 0x4D ∷ 0 ∷ 0 ∷ 0 ∷ 0x17 ∷ 0x18 ∷ 0x05 ∷ 0 ∷ 0 ∷ 1 ∷ 0 ∷ 2 ∷ 0 ∷ 3 ∷ 1 ∷ 0x20 ∷ 6 ∷ 0 ∷ 7 ∷ 0 ∷ 0 ∷ 0 ∷ 0 ∷ 0 ∷ 0 ∷ 0 ∷ 9
    ∷ 0 ∷ []))
    ∷ []
