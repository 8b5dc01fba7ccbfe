-- The contracts of the calls, over a file and over a part of one: two outcomes that they allow for the same arguments have the same answer,
-- and the same numbers in the list. They test no more places than was granted and list no more entries than the list holds; and the call
-- over a file ends for no other reason than it may.
-- Assumes nothing.
use Prim.Native.Nat.{ℕ, ◌+◌, ◌/◌, ◌≤◌, ◌<◌}
use mathlib.Core.Path.{◌≡◌, refl, ap, sym, ◌∙◌, subst}
use mathlib.Core.Logic.{◌⊎◌, ⊎_elim}
use mathlib.Core.Bool.{Bool, true, false}
use mathlib.Core.List.{List}
use native.Mathlib.Omega.{arith}
use lib.ListN.{length}
use lib.Dec.{eqb, leb}
use borrow.Author.Tests.{eqb-true, eqb-false, leb-true}
use contract.Lifetimes as L
use Rattle.octets.specs.Octets.{pick}
use Rattle.octets.proofs.Lists.{bool}
use Rattle.walk.specs.declared.Settings.{Settings}
use Rattle.walk.specs.Walk.{going, begun}
use Rattle.format.proofs.Refusals.{picked}
use Rattle.std.specs.Prelude.{Result, Ok, Err}
use Rattle.walk.specs.declared.Refused.{Refused}
use Rattle.walk.proofs.Refuses.{has_number}
use Rattle.walk.proofs.Apart.{told_one}
use Rattle.salvage.specs.declared.Salvaged.{Salvaged as Tells}
use Rattle.salvage.specs.Answer.{Salvaged, answered}
use Rattle.salvage.specs.Listing.{Stop, stop}
use Rattle.salvage.specs.Calling.{entry_size, refusal_of, told_of, call_of, salvaged}
use Rattle.salvage.specs.Parts.{till_in, around, refusal_in, salvaged_in}
use Rattle.salvage.proofs.salvage.Reads as reads
use Rattle.salvage.proofs.salvage_part.Reads as part-reads
use Rattle.salvage.proofs.Arguments.{salvage_call, salvage_list, part_call, part_list}
use Rattle.salvage.proofs.Bounds.{call_bounded, call_ends, call_left}
use Rattle.salvage.proofs.Running.{State}

-- an answer is known by its record
part_of : Salvaged → Tells
part_of r =
    record { tested = r.tested; entries = r.entries; stop = record { begin = r.begin; place = r.place }; done = r.done }

answered_one : (x y : Result Tells Refused) → answered x ≡ answered y → x ≡ y
unfolding part_of
answered_one (Ok r) (Ok q) e = ap (λ (x : Salvaged). Ok (part_of x)) e
answered_one (Ok r) (Err q) e = absurd (has_number q (sym (ap (λ (x : Salvaged). x.refusal.number) e)))
answered_one (Err r) (Ok q) e = absurd (has_number r (ap (λ (x : Salvaged). x.refusal.number) e))
answered_one (Err r) (Err q) e = ap (λ (x : Refused). Err x) (told_one (ap (λ (x : Salvaged). x.refusal) e))

pub salvage_same_answer :
    (κs : L.Lfts 2) (a : _) (r q : _) (s t : _) → reads.Post κs a r s → reads.Post κs a q t → r ≡ q
salvage_same_answer κs a r q s t k j = answered_one r q (k.0 ∙ sym j.0)

-- the list
pub salvage_same_list :
    (κs : L.Lfts 2) (a : _) (r q : _) (s t : _) → reads.Post κs a r s → reads.Post κs a q t → salvage_list κs s ≡ salvage_list κs t
salvage_same_list κs a r q s t k j = k.1 ∙ sym j.1

pub part_same_answer :
    (κs : L.Lfts 2) (a : _) (r q : _) (s t : _) → part-reads.Post κs a r s → part-reads.Post κs a q t → r ≡ q
part_same_answer κs a r q s t k j = answered_one r q (k.0 ∙ sym j.0)

pub part_same_list :
    (κs : L.Lfts 2) (a : _) (r q : _) (s t : _) → part-reads.Post κs a r s → part-reads.Post κs a q t → part_list κs s ≡ part_list κs t
part_same_list κs a r q s t k j = k.1 ∙ sym j.1

-- ---- how much they do

module _ (s : Settings) (x : List ℕ) (w : Stop) where
  pub within :
      (grant long : ℕ) → ((salvaged s x w grant long).tested ≤ grant) × ((salvaged s x w grant long).entries ≤ long / 3)
  unfolding salvaged
  within grant long =
      let b = call_bounded s x (length x) grant (long / 3) w in
      picked (λ (r : Salvaged). (r.tested ≤ grant) × (r.entries ≤ long / 3)) (eqb (refusal_of s x w) 0) _ _ (b.granted, b.room)
      (omega arith, omega arith)

module _ (s : Settings) (y : List ℕ) (off : ℕ) (ends : Bool) (w : Stop) (grant long : ℕ) where
  part_bounded : ((salvaged_in s y off ends w grant long).tested ≤ grant) × ((salvaged_in s y off ends w grant long).entries ≤ long / 3)
  unfolding salvaged_in
  part_bounded =
      let b = call_bounded s (around off ends y) (till_in off ends (length y)) grant (long / 3) w in
      picked (λ (r : Salvaged). (r.tested ≤ grant) × (r.entries ≤ long / 3)) (eqb (refusal_in s off (length y) w) 0) _ _ (b.granted, b.room)
      (omega arith, omega arith)

pub salvage_within :
    (κs : L.Lfts 2) (a : _) (r : _) (x : _) → reads.Post κs a r x →
    ((answered r).tested ≤ (salvage_call κs a).grant) × ((answered r).entries ≤ length (salvage_call κs a).list / 3)
salvage_within κs a r x k =
    subst (λ (q : Salvaged). (q.tested ≤ (salvage_call κs a).grant) × (q.entries ≤ length (salvage_call κs a).list / 3)) (sym k.0) (within _ _ _ _ _)

pub part_within :
    (κs : L.Lfts 2) (a : _) (r : _) (x : _) → part-reads.Post κs a r x →
    ((answered r).tested ≤ (part_call κs a).grant) × ((answered r).entries ≤ length (part_call κs a).list / 3)
part_within κs a r x k =
    subst (λ (q : Salvaged). (q.tested ≤ (part_call κs a).grant) × (q.entries ≤ length (part_call κs a).list / 3)) (sym k.0)
    (part_bounded _ _ _ _ _ _ _)

-- ---- why it ends

never : (k : ℕ) → eqb k 0 ≡ false → k ≡ 0 → ⊥
never k e z = eqb-false k 0 e z

state_by : (a b c : Bool) (k : ℕ) → (a ≡ false → k ≡ 0 → ⊥) → pick a (pick b (pick c 0 40) 40) k ≡ 0 → (b ≡ true) × (c ≡ true)
state_by true true true k f e = (refl, refl)
state_by true true false k f e = absurd (omega arith)
state_by true false c k f e = absurd (omega arith)
state_by false b c k f e = absurd (f refl e)

module _ (s : Settings) (x : List ℕ) (w : Stop) where
  state_of : refusal_of s x w ≡ 0 → State x w
  unfolding refusal_of
  state_of e =
      let t = state_by (going (begun s)) (leb w.begin w.place) (leb w.place (length x)) (begun s).refused (never (begun s).refused) e in
      record { order = leb-true _ _ t.0; inside = leb-true _ _ t.1 }

  told_of_lem : (grant long : ℕ) → (salvaged s x w grant long).refusal.number ≡ 0 →
      (refusal_of s x w ≡ 0) × (salvaged s x w grant long ≡ told_of (length x) (call_of s x w grant (long / entry_size)))
  unfolding salvaged
  told_of_lem grant long e =
      ⊎_elim
      (λ h. (eqb-true _ _ h, rw h))
      (λ h. absurd (eqb-false _ _ h (rw h at e)))
      (bool (eqb (refusal_of s x w) 0))

  -- a call that is not refused: the grant is spent, or fewer than two entries are free, or the file's end is reached; and there a stretch
  -- is left open only if no entry is free
  pub record Ended (grant long : ℕ) (r : Salvaged) : Type 0 where
    pub why : (r.tested ≡ grant) ⊎ ((long / entry_size < r.entries + 2) ⊎ (r.place ≡ length x))
    pub left : r.place ≡ length x → r.begin < r.place → r.entries ≡ long / entry_size

  pub ended : (grant long : ℕ) → (salvaged s x w grant long).refusal.number ≡ 0 → Ended grant long (salvaged s x w grant long)
  ended grant long e =
      let t = told_of_lem grant long e in
      let i = state_of t.0 in
      subst (Ended grant long) (sym t.1)
      (record { why = call_ends s x grant (long / entry_size) w i; left = call_left s x grant (long / entry_size) w i })

pub salvage_ended :
    (κs : L.Lfts 2) (a : _) (r : _) (x : _) → reads.Post κs a r x → (answered r).refusal.number ≡ 0 →
    Ended (salvage_call κs a).settings (salvage_call κs a).file (stop (salvage_call κs a).begin (salvage_call κs a).place)
    (salvage_call κs a).grant (length (salvage_call κs a).list) (answered r)
salvage_ended κs a r x k e =
    subst (Ended _ _ _ _ _) (sym k.0) (ended _ _ _ _ _ (subst (λ (q : Salvaged). q.refusal.number ≡ 0) k.0 e))
