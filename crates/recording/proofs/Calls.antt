-- The contract of the call over a whole recording: two outcomes that it allows for the same arguments have the same answer, and the
-- same octets in the output.
-- Assumes nothing.
use mathlib.Core.Path.{◌≡◌, refl, sym, ap, ◌∙◌}
use contract.Lifetimes as L
use Rattle.recording.proofs.join_all.Reads as alls
use Rattle.std.specs.Prelude.{Result, Ok, Err}
use Rattle.walk.specs.declared.Refused.{Refused}
use Rattle.walk.proofs.Refuses.{has_number}
use Rattle.walk.proofs.Apart.{told_one}
use Rattle.recording.specs.declared.Why.{Why as Says}
use Rattle.recording.specs.declared.Why.TheVariants.{Ended as Ends, Unmarked as Unmarks, Torn as Tears}
use Rattle.recording.specs.declared.Recorded.{Recorded as Tells}
use Rattle.recording.specs.Answer.{Why, Unsaid, Ended, Unmarked, Torn, Recorded, why_said, answered}
use Rattle.recording.proofs.Arguments.{all_output}

-- an answer is known by its record
why_back : Why → Says
why_back Unsaid = Ends
why_back Ended = Ends
why_back Unmarked = Unmarks
why_back Torn = Tears

why_is : (w : Says) → why_back (why_said w) ≡ w
unfolding why_back
why_is Ends = refl
why_is Unmarks = refl
why_is Tears = refl

part_of : Recorded → Tells
part_of r = record { why = why_back r.why; place = r.place; written = r.written }

part_is : (r : Tells) → part_of (answered (Ok r)) ≡ r
unfolding part_of
part_is r = λ i. record { why = why_is r.why i; place = r.place; written = r.written }

answered_one : (x y : Result Tells Refused) → answered x ≡ answered y → x ≡ y
answered_one (Ok r) (Ok q) e = ap (λ (x : Tells). Ok x) (sym (part_is r) ∙ ap part_of e ∙ part_is q)
answered_one (Ok r) (Err q) e = absurd (has_number q (sym (ap (λ (x : Recorded). x.refusal.number) e)))
answered_one (Err r) (Ok q) e = absurd (has_number r (ap (λ (x : Recorded). x.refusal.number) e))
answered_one (Err r) (Err q) e = ap (λ (x : Refused). Err x) (told_one (ap (λ (x : Recorded). x.refusal) e))

pub all_same_answer : (κs : L.Lfts 2) (a : _) (r q : _) (s t : _) → alls.Post κs a r s → alls.Post κs a q t → r ≡ q
all_same_answer κs a r q s t k j = answered_one r q (k.0 ∙ sym j.0)

-- the output
pub all_same_output : (κs : L.Lfts 2) (a : _) (r q : _) (s t : _) → alls.Post κs a r s → alls.Post κs a q t → all_output κs s ≡ all_output κs t
all_same_output κs a r q s t k j = k.1 ∙ sym j.1
