-- Two outcomes that the contracts allow for the same arguments are the same: the answer, and every octet of the lent buffers.
-- Assumes nothing.
use mathlib.Core.Path.{◌≡◌, refl, sym, ap, ◌∙◌}
use contract.Lifetimes as L
use Rattle.walk.specs.Told.{said}
use Rattle.std.specs.Prelude.{Result, Ok, Err}
use Rattle.walk.specs.declared.Refusal.{Refusal}
use Rattle.walk.specs.declared.Refused.{Refused as Refusing}
use Rattle.walk.specs.Walk.{no_refusal}
use Rattle.walk.proofs.Refuses.{has_number}
use Rattle.walk.proofs.Apart.{told_one}
use Rattle.arrival.specs.declared.Kind.{Kind}
use Rattle.taking.specs.declared.Taken.{Taken as Message}
use Rattle.arrival.specs.Answer.{Arrival, Answer, Refused, arrival_answer}
use Rattle.taking.specs.Answer.{Taken, taken_answer}
use Rattle.store.proofs.arrive.Reads as arrives
use Rattle.store.proofs.take.Reads as takes
use Rattle.store.proofs.forget.Reads as forgets
use Rattle.store.proofs.Arguments.{arrive_store, take_store, take_output, forget_store}

-- ---- an answer is known by its record

kind_in : Kind → Arrival → Kind
kind_in d (Answer k) = k
kind_in d (Refused r) = d

refusal_in : Arrival → Refusal
refusal_in (Answer k) = no_refusal
refusal_in (Refused r) = r

arrival_one : (x y : Result Kind Refusing) → arrival_answer x ≡ arrival_answer y → x ≡ y
unfolding kind_in refusal_in
arrival_one (Ok k) (Ok l) e = ap (λ (x : Arrival). Ok (kind_in k x)) e
arrival_one (Ok k) (Err q) e = absurd (has_number q (sym (ap (λ (x : Arrival). (refusal_in x).number) e)))
arrival_one (Err r) (Ok l) e = absurd (has_number r (ap (λ (x : Arrival). (refusal_in x).number) e))
arrival_one (Err r) (Err q) e = ap (λ (x : Refusing). Err x) (told_one (ap refusal_in e))

message_in : Taken → Message
message_in t = record { header = t.header; body = t.body; counter = t.counter }

taken_one : (x y : Result Message Refusing) → taken_answer x ≡ taken_answer y → x ≡ y
unfolding message_in
taken_one (Ok m) (Ok l) e = ap (λ (x : Taken). Ok (message_in x)) e
taken_one (Ok m) (Err q) e = absurd (has_number q (sym (ap (λ (x : Taken). x.refusal.number) e)))
taken_one (Err r) (Ok l) e = absurd (has_number r (ap (λ (x : Taken). x.refusal.number) e))
taken_one (Err r) (Err q) e = ap (λ (x : Refusing). Err x) (told_one (ap (λ (x : Taken). x.refusal) e))

said_one : (x y : Result (Unit {0}) Refusing) → said x ≡ said y → x ≡ y
said_one (Ok u) (Ok v) e = refl
said_one (Ok u) (Err q) e = absurd (has_number q (sym (ap (λ (x : Refusal). x.number) e)))
said_one (Err r) (Ok v) e = absurd (has_number r (ap (λ (x : Refusal). x.number) e))
said_one (Err r) (Err q) e = ap (λ (x : Refusing). Err x) (told_one e)

-- ---- the calls

pub arrive_same_answer : (κs : L.Lfts 2) (a : _) (r q : _) (s t : _) → arrives.Post κs a r s → arrives.Post κs a q t → r ≡ q
arrive_same_answer κs a r q s t p o = arrival_one r q (p.0 ∙ sym o.0)

pub arrive_same_store : (κs : L.Lfts 2) (a : _) (r q : _) (s t : _) → arrives.Post κs a r s → arrives.Post κs a q t → arrive_store κs s ≡ arrive_store κs t
arrive_same_store κs a r q s t p o = p.1 ∙ sym o.1

pub take_same_answer : (κs : L.Lfts 2) (a : _) (r q : _) (s t : _) → takes.Post κs a r s → takes.Post κs a q t → r ≡ q
take_same_answer κs a r q s t p o = taken_one r q (p.0 ∙ sym o.0)

pub take_same_output : (κs : L.Lfts 2) (a : _) (r q : _) (s t : _) → takes.Post κs a r s → takes.Post κs a q t → take_output κs s ≡ take_output κs t
take_same_output κs a r q s t p o = p.1.0 ∙ sym o.1.0

pub take_same_store : (κs : L.Lfts 2) (a : _) (r q : _) (s t : _) → takes.Post κs a r s → takes.Post κs a q t → take_store κs s ≡ take_store κs t
take_same_store κs a r q s t p o = p.1.1 ∙ sym o.1.1

pub forget_same_answer : (κs : L.Lfts 1) (a : _) (r q : _) (s t : _) → forgets.Post κs a r s → forgets.Post κs a q t → r ≡ q
forget_same_answer κs a r q s t p o = said_one r q (p.0 ∙ sym o.0)

pub forget_same_store : (κs : L.Lfts 1) (a : _) (r q : _) (s t : _) → forgets.Post κs a r s → forgets.Post κs a q t → forget_store κs s ≡ forget_store κs t
forget_same_store κs a r q s t p o = p.1 ∙ sym o.1
