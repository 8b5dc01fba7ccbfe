-- The calls' own contracts: two outcomes that one contract allows for the same arguments have the same answer, and the same octets in
-- every lent buffer. A view's answer is the octets of its part.
-- Assumes nothing.
use mathlib.Core.Path.{◌≡◌, refl, sym, ap, ◌∙◌}
use contract.Lifetimes as L
use Rattle.join.proofs.join.Reads as joins
use Rattle.join.proofs.view.Reads as views
use Rattle.std.specs.Prelude.{Result, Ok, Err}
use Rattle.walk.specs.declared.Refused.{Refused}
use Rattle.walk.proofs.Refuses.{has_number}
use Rattle.walk.proofs.Apart.{told_one}
use Rattle.join.specs.declared.Which.{Which}
use Rattle.join.specs.declared.Which.TheVariants.{Packet as InPacket, Joined as InOutput, Nothing}
use Rattle.join.specs.declared.Joined.{Joined as Body}
use Rattle.join.specs.declared.Joined.TheVariants.{Packet, Message}
use Rattle.join.specs.Answer.{Joined, joined_answer}
use Rattle.join.proofs.Arguments.{join_store, join_output}

-- an answer is known by its record
body_by : Which → Joined → Body
body_by InPacket j = Packet j.place j.length
body_by InOutput j = Message j.place (record { header = j.header; body = j.body; counter = j.counter })
body_by Nothing j = Packet 0 0

body_is : (b : Body) → body_by (joined_answer (Ok b)).which (joined_answer (Ok b)) ≡ b
unfolding body_by
body_is (Packet place long) = refl
body_is (Message place t) = refl

none_in : (b : Body) → (joined_answer (Ok b)).refusal.number ≡ 0
none_in (Packet place long) = refl
none_in (Message place t) = refl

joined_one : (x y : Result Body Refused) → joined_answer x ≡ joined_answer y → x ≡ y
joined_one (Ok b) (Ok c) e = ap (λ (x : Body). Ok x) (sym (body_is b) ∙ ap (λ (j : Joined). body_by j.which j) e ∙ body_is c)
joined_one (Ok b) (Err q) e = absurd (has_number q (sym (ap (λ (j : Joined). j.refusal.number) e) ∙ none_in b))
joined_one (Err r) (Ok c) e = absurd (has_number r (ap (λ (j : Joined). j.refusal.number) e ∙ none_in c))
joined_one (Err r) (Err q) e = ap (λ (x : Refused). Err x) (told_one (ap (λ (j : Joined). j.refusal) e))

pub view_same_answer : (κs : L.Lfts 1) (a : _) (r q : _) (s t : _) → views.Post κs a r s → views.Post κs a q t → r.now ≡ q.now
view_same_answer κs a r q s t k j = k ∙ sym j

pub join_same_answer : (κs : L.Lfts 3) (a : _) (r q : _) (s t : _) → joins.Post κs a r s → joins.Post κs a q t → r ≡ q
join_same_answer κs a r q s t k j = joined_one r q (k.0 ∙ sym j.0)

-- the store
pub join_same_store : (κs : L.Lfts 3) (a : _) (r q : _) (s t : _) → joins.Post κs a r s → joins.Post κs a q t → join_store κs s ≡ join_store κs t
join_same_store κs a r q s t k j = k.1.0 ∙ sym j.1.0

-- the output
pub join_same_output :
    (κs : L.Lfts 3) (a : _) (r q : _) (s t : _) → joins.Post κs a r s → joins.Post κs a q t → join_output κs s ≡ join_output κs t
join_same_output κs a r q s t k j = k.1.1 ∙ sym j.1.1
