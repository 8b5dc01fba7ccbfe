-- What reading and writing a PDU answer as lists of numbers, and the values that plain numbers stand for. A number above what its field's
-- type holds does not fit: 22, which comes first (SPEC O-7), and nothing is written.
-- Assumes nothing: these are definitions.
use Rattle.std.specs.Prelude.{ℕ, Bool, List, [], ◌∷◌, ◌++◌}
use Rattle.octets.specs.Octets.{pick, most8, most16, most32, octet_at as number_at}
use Rattle.write.specs.Given.{Lent}
use Rattle.pdu.specs.declared.Fixed.{Fixed}
use Rattle.pdu.specs.declared.Ids.{Ids}
use Rattle.pdu.specs.declared.Header.{Header}
use Rattle.pdu.specs.declared.PduValues.{PduValues}
use Rattle.pdu.specs.declared.Written.{Written}
use Rattle.pdu.specs.Writing.{write_answer, write_output}
use Rattle.flat.specs.Given.{most64, fits_to, present_from}
use Rattle.flat.specs.Told.{present_numbers, place_numbers, text_numbers, told_beside}

-- ---- reading

-- SDU type, area, service, operation, area version, error, QoS level, session, transaction id
abbrev pub fixed_numbers : Fixed → List ℕ
fixed_numbers f =
    f.sdu ∷ f.area ∷ f.service ∷ f.operation ∷ f.version ∷ f.error ∷ f.qos ∷ f.session ∷ f.transaction ∷ []

-- the places of source id and destination id; priority
abbrev pub ids_numbers : Ids → List ℕ
ids_numbers i = place_numbers i.source ++ (place_numbers i.destination ++ (i.priority ∷ []))

-- what reading answers: 70 numbers. The encoding id follows the presence flags, the variable length the texts
unfoldable pub read_numbers : Header → List ℕ
read_numbers h =
    (h.refusal.number ∷ [])
    ++ (fixed_numbers h.fixed
    ++ (present_numbers h.has
    ++ ((h.fixed.encoding ∷ [])
    ++ (ids_numbers h.ids ++ (text_numbers h.texts ++ ((h.variable ∷ []) ++ (place_numbers h.body ++ told_beside h.refusal)))))))

-- ---- writing

-- the largest number of each field's type: SDU type, area, service, operation, area version, error, QoS level, session, transaction id;
-- eight presence flags; encoding id, priority
abbrev pub pdu_widths : List ℕ
pdu_widths =
    most8 ∷ most32 ∷ most32 ∷ most32 ∷ most16 ∷ most8 ∷ most8 ∷ most8 ∷ most64
    ∷ 1 ∷ 1 ∷ 1 ∷ 1 ∷ 1 ∷ 1 ∷ 1 ∷ 1
    ∷ most16 ∷ most64
    ∷ []

abbrev pub pdu_fits : List ℕ → Bool
pdu_fits l = fits_to 19 l pdu_widths

unfoldable pub values_of : List ℕ → PduValues
values_of l =
    record {
      sdu = number_at l 0;
      area = number_at l 1;
      service = number_at l 2;
      operation = number_at l 3;
      version = number_at l 4;
      error = number_at l 5;
      qos = number_at l 6;
      session = number_at l 7;
      transaction = number_at l 8;
      has = present_from 9 l;
      encoding = number_at l 17;
      priority = number_at l 18;
    }

-- the refusal, the octets written, those before the body
abbrev pub written_numbers : Written → List ℕ
written_numbers w = w.refusal.number ∷ w.length ∷ w.header ∷ []

unfoldable pub write_numbers : List ℕ → List ℕ → List ℕ → Lent → List ℕ → ℕ → List ℕ
write_numbers l source destination x body room =
    pick (pdu_fits l) (written_numbers (write_answer (values_of l) source destination x body room)) (22 ∷ 0 ∷ 0 ∷ [])

unfoldable pub write_out : List ℕ → List ℕ → List ℕ → Lent → List ℕ → List ℕ → List ℕ
write_out l source destination x body out = pick (pdu_fits l) (write_output (values_of l) source destination x body out) out
