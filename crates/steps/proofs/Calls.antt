-- The contract of a step: two outcomes that it allows for the same arguments have the same answer, and the same octets in every lent
-- buffer.
-- Assumes nothing.
use mathlib.Core.Path.{◌≡◌, refl, sym, ap, ◌∙◌}
use contract.Lifetimes as L
use Rattle.steps.specs.declared.Done.{Done as Tells}
use Rattle.steps.specs.declared.Done.TheVariants.{More as Wants, Ended as Ends, Unmarked as Unmarks, Torn as Tears, Packet as Uses}
use Rattle.steps.specs.declared.Became.TheVariants.{Passed as Over, Refused as Denied, Kept as Stored, Late as After, Whole as Wholly, Joined as Made}
use Rattle.steps.specs.Answer.{What, More, Ended, Unmarked, Torn, Passed, Refused, Kept, Late, Whole, Joined, Done, answered}
use Rattle.steps.proofs.step.Reads as steps

-- an answer is known by its record
tells_by : What → Done → Tells
tells_by More d = Wants
tells_by Ended d = Ends
tells_by Unmarked d = Unmarks
tells_by Torn d = Tears
tells_by Passed d = Uses d.used Over
tells_by Refused d = Uses d.used (Denied d.refusal)
tells_by Kept d = Uses d.used Stored
tells_by Late d = Uses d.used After
tells_by Whole d = Uses d.used (Wholly d.written)
tells_by Joined d = Uses d.used (Made d.written)

tells_is : (t : Tells) → tells_by (answered t).what (answered t) ≡ t
unfolding tells_by
tells_is Wants = refl
tells_is Ends = refl
tells_is Unmarks = refl
tells_is Tears = refl
tells_is (Uses n Over) = refl
tells_is (Uses n (Denied r)) = refl
tells_is (Uses n Stored) = refl
tells_is (Uses n After) = refl
tells_is (Uses n (Wholly k)) = refl
tells_is (Uses n (Made k)) = refl

pub step_same_answer : (κs : L.Lfts 4) (a : _) (r q : _) (s t : _) → steps.Post κs a r s → steps.Post κs a q t → r ≡ q
step_same_answer κs a r q s t k j = sym (tells_is r) ∙ ap (λ (d : Done). tells_by d.what d) (k.0 ∙ sym j.0) ∙ tells_is q

-- the store
pub step_same_store : (κs : L.Lfts 4) (a : _) (r q : _) (s t : _) → steps.Post κs a r s → steps.Post κs a q t → s.1.0.now ≡ t.1.0.now
step_same_store κs a r q s t k j = k.1.0 ∙ sym j.1.0

-- the output
pub step_same_output :
    (κs : L.Lfts 4) (a : _) (r q : _) (s t : _) → steps.Post κs a r s → steps.Post κs a q t → s.1.1.1.1.1.1.0.now ≡ t.1.1.1.1.1.1.0.now
step_same_output κs a r q s t k j = k.1.1 ∙ sym j.1.1
