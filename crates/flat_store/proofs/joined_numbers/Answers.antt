-- `flat_store::joined_numbers` meets its contract, case by case.
use mathlib.Core.Path.{◌≡◌, ap, sym, ◌∙◌}
use Rattle.std.specs.Prelude.{Result, Ok}
use Rattle.walk.specs.declared.Refused.{Refused}
use Rattle.join.specs.Answer.{joined_answer}
use Rattle.join.specs.declared.Joined.{Joined}
use Rattle.join.specs.declared.Joined.TheVariants.{Packet, Message}
use Rattle.flat_store.specs.Numbers.{joined_numbers}
use Rattle.flat_store.proofs.joined_numbers.Goals as goal

abbrev told_body : Joined → Result Joined Refused
told_body b = Ok b

told_ok : {j : Result Joined Refused} {x y : Joined} → j ≡ Ok x → x ≡ y → joined_numbers (joined_answer (told_body y)) ≡ joined_numbers (joined_answer j)
told_ok e f = sym (ap (λ (r : Result Joined Refused). joined_numbers (joined_answer r)) (e ∙ ap told_body f))

pub returns-in-Ok-Packet : goal.returns-in-Ok-Packet
returns-in-Ok-Packet c =
    told_ok {y = Packet c.in-Ok-Packet.place c.in-Ok-Packet.length} c.in-Ok-Packet.is (rw c.in-Ok-Packet.is at c.in-Ok-Packet.field-0-is)

pub returns-in-Ok-Message : goal.returns-in-Ok-Message
returns-in-Ok-Message c =
    told_ok {y = Message c.in-Ok-Message.place c.in-Ok-Message.taken} c.in-Ok-Message.is (rw c.in-Ok-Message.is at c.in-Ok-Message.field-0-is)

pub returns-in-Err : goal.returns-in-Err
returns-in-Err c =
    rw (c.number.ensures, c.octets.ensures, c.place.ensures)
    (sym (ap (λ (r : Result Joined Refused). joined_numbers (joined_answer r)) c.in-Err.is))
