-- What writing a PDU answers and writes, with its order of refusals.
-- SPEC O-7: first 22, then 13, 28, 23, 21.
-- Assumes nothing: these are definitions.
use Rattle.std.specs.Prelude.{ℕ, List, ◌++◌, length, drop, leb}
use Rattle.octets.specs.Octets.{pick, most32}
use Rattle.walk.specs.declared.Tested.{Tested}
use Rattle.walk.specs.Walk.{refusal, none_failed, unless}
use Rattle.fields.specs.Fields.{parts_most}
use Rattle.fields.specs.Form.{split}
use Rattle.write.specs.Given.{Lent, unless_all}
use Rattle.write.specs.Writing.{fine}
use Rattle.pdu.specs.declared.PduValues.{PduValues}
use Rattle.pdu.specs.declared.Written.{Written}
use Rattle.pdu.specs.Format.{Pdu, rest_octets, head_octets, octets_of}
use Rattle.pdu.specs.Given.{pdu_of, value_checks, word_checks}

-- 22, 13, 28: the tests on the values alone
unfoldable pub value_refusal : PduValues → List ℕ → List ℕ → Lent → Tested
value_refusal v source destination t =
    unless_all (word_checks source destination t.zone t.session_name (split t.lengths t.domain)) 28
    (unless (leb (length t.lengths) parts_most) 13 (unless_all (value_checks v source destination t) 22 none_failed))

-- 23 more octets after the fixed part than 32 bits count; 21 an output too short
unfoldable pub size_tests : Pdu → ℕ → Tested → Tested
size_tests v room r = unless (leb (length (octets_of v)) room) 21 (unless (leb (length (rest_octets v)) most32) 23 r)

-- all of them, in their order
unfoldable pub write_refusal : PduValues → List ℕ → List ℕ → Lent → List ℕ → ℕ → Tested
write_refusal v source destination t body room =
    size_tests (pdu_of v source destination t body) room (value_refusal v source destination t)

-- the octets written, and those before the body; or the refusal and zeros
unfoldable pub write_answer : PduValues → List ℕ → List ℕ → Lent → List ℕ → ℕ → Written
write_answer v source destination t body room =
    let r = write_refusal v source destination t body room in
    let w = pdu_of v source destination t body in
    record {
      refusal = refusal r.number;
      length = pick (fine r) (length (octets_of w)) 0;
      header = pick (fine r) (length (head_octets w)) 0;
    }

-- the output afterwards: the PDU from the first octet on and the rest as it was; on refusal all as it was
unfoldable pub write_output : PduValues → List ℕ → List ℕ → Lent → List ℕ → List ℕ → List ℕ
write_output v source destination t body out =
    let w = pdu_of v source destination t body in
    pick (fine (write_refusal v source destination t body (length out))) (octets_of w ++ drop (length (octets_of w)) out) out
