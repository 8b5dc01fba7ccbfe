-- The answer of a call and the list afterwards, refused or not: on plain values.
-- Assumes nothing.
use Prim.Native.Nat.{ℕ, ◌+◌, ◌/◌, ◌≤◌}
use mathlib.Core.Path.{◌≡◌, refl, ap, sym, ◌∙◌}
use mathlib.Core.Bool.{Bool, true, false}
use mathlib.Core.List.{List}
use native.Mathlib.Omega.{arith}
use lib.ListN.{length}
use lib.Seq.{sets}
use lib.Dec.{leb}
use borrow.Author.Tests.{eq-eqb, ne_eqb, le-leb, leb-true}
use Rattle.octets.specs.Octets.{pick}
use Rattle.octets.proofs.Lists.{bool}
use mathlib.Core.Logic.{⊎_elim}
use Rattle.walk.specs.declared.Settings.{Settings}
use Rattle.walk.specs.declared.Refusal.{Refusal}
use Rattle.walk.specs.declared.Refused.{Refused}
use Rattle.walk.specs.Walk.{refusal, no_refusal, going, begun}
use Rattle.walk.specs.Told.{told as told_refusal}
use Rattle.walk.proofs.Refuses.{has_number}
use Rattle.std.specs.Prelude.{Err}
use Rattle.salvage.specs.Answer.{Salvaged, refuses, answered}
use Rattle.salvage.specs.Listing.{Stop}
use Rattle.salvage.specs.Calling.{Called, flat, told_of, refused_by, refusal_of, answer_by, list_by, salvaged, list_after}
use Rattle.salvage.specs.Parts.{off_most, length_in, call_in, holds, refusal_in, salvaged_in, list_in}
use Rattle.salvage.specs.Inner.{Lies}
use Rattle.salvage.proofs.Around.{long_whole, call_whole}

module _ (s : Settings) (off n : ℕ) (w : Stop) where
  -- which refusal it is, of a call over a part of a file
  part_first : ((begun s).refused ≡ 0 → ⊥) → refusal_in s off n w ≡ (begun s).refused
  unfolding refusal_in
  part_first h = rw (ne_eqb (begun s).refused 0 h)

  module _ (h : (begun s).refused ≡ 0) {b : Bool} (q : b ≡ holds off n w) where
    part_not : b ≡ false → refusal_in s off n w ≡ 40
    unfolding refusal_in
    part_not k = rw (eq-eqb (begun s).refused 0 h, sym q, k)

    part_is : b ≡ true → refusal_in s off n w ≡ 0
    unfolding refusal_in
    part_is k = rw (eq-eqb (begun s).refused 0 h, sym q, k)

-- the answer and the list, if the refusal is j
module _ (j n : ℕ) (c : Called) (l : List ℕ) {r : Salvaged} where
  by_refused : {k : ℕ} → j ≡ k → (k ≡ 0 → ⊥) → r ≡ refused_by k → (r ≡ answer_by j n c) × (l ≡ list_by j l c)
  by_refused {k} e h q = (q ∙ rw (e, ne_eqb k 0 h), rw (e, ne_eqb k 0 h))

  by_none :
      {m : List ℕ} → j ≡ 0 → r ≡ told_of n c → m ≡ sets l 0 (flat c.entries) → (r ≡ answer_by j n c) × (m ≡ list_by j l c)
  by_none e p q = (p ∙ rw e, q ∙ rw e)

module _ (s : Settings) (y : List ℕ) (off : ℕ) (ends : Bool) (w : Stop) (grant : ℕ) (l : List ℕ) {r : Salvaged} where
  part_refused :
      {k : ℕ} → refusal_in s off (length y) w ≡ k → (k ≡ 0 → ⊥) → r ≡ refused_by k →
      (r ≡ salvaged_in s y off ends w grant (length l)) × (l ≡ list_in s y off ends w grant l)
  unfolding salvaged_in list_in
  part_refused e h q =
      by_refused (refusal_in s off (length y) w) (length_in off ends (length y)) (call_in s y off ends w grant (length l / 3)) l e h q

  part_done :
      {m : List ℕ} → refusal_in s off (length y) w ≡ 0 →
      r ≡ told_of (length_in off ends (length y)) (call_in s y off ends w grant (length l / 3)) →
      m ≡ sets l 0 (flat (call_in s y off ends w grant (length l / 3)).entries) →
      (r ≡ salvaged_in s y off ends w grant (length l)) × (m ≡ list_in s y off ends w grant l)
  unfolding salvaged_in list_in
  part_done e p q =
      by_none (refusal_in s off (length y) w) (length_in off ends (length y)) (call_in s y off ends w grant (length l / 3)) l e p q

-- as the code answers: the settings first, then the state
module _ (s : Settings) (y : List ℕ) (off : ℕ) (ends : Bool) (w : Stop) (grant : ℕ) (l : List ℕ) where
  pub part_settings :
      (q : Refused) → told_refusal q ≡ refusal (begun s).refused →
      (answered (Err q) ≡ salvaged_in s y off ends w grant (length l)) × (l ≡ list_in s y off ends w grant l)
  part_settings q e =
      let h : (begun s).refused ≡ 0 → ⊥ = λ z. has_number q (ap (λ (k : Refusal). k.number) e ∙ z) in
      part_refused s y off ends w grant l (part_first s off (length y) w h) h (ap refuses e)

  module _ (e : no_refusal ≡ refusal (begun s).refused) {b : Bool} (q : b ≡ holds off (length y) w) where
    none : (begun s).refused ≡ 0
    none = sym (ap (λ (k : Refusal). k.number) e)

    pub part_state :
        b ≡ false → (refused_by 40 ≡ salvaged_in s y off ends w grant (length l)) × (l ≡ list_in s y off ends w grant l)
    part_state k = part_refused s y off ends w grant l (part_not s off (length y) w none q k) (omega arith) refl

    pub part_goes :
        {r : Salvaged} {m : List ℕ} → b ≡ true → r ≡ told_of (length_in off ends (length y)) (call_in s y off ends w grant (length l / 3)) →
        m ≡ sets l 0 (flat (call_in s y off ends w grant (length l / 3)).entries) →
        (r ≡ salvaged_in s y off ends w grant (length l)) × (m ≡ list_in s y off ends w grant l)
    part_goes k = part_done s y off ends w grant l (part_is s off (length y) w none q k)

folds : (g a b : Bool) (k : ℕ) → pick g (pick (pick (pick a true false) b false) 0 40) k ≡ pick g (pick a (pick b 0 40) 40) k
folds g true b k = refl
folds g false b k = refl

-- a whole file in hand is a part of it
module _ (s : Settings) (x : List ℕ) (w : Stop) (h : length x ≤ off_most) where
  whole_refusal : refusal_in s 0 (length x) w ≡ refusal_of s x w
  unfolding refusal_in refusal_of holds
  whole_refusal =
      let z : 0 + length x ≡ length x = omega arith in
      let p : leb 0 w.place ≡ true = le-leb _ _ (omega arith) in
      rw (z, le-leb _ _ h, p) (folds (going (begun s)) (leb w.begin w.place) (leb w.place (length x)) (begun s).refused)

  pub whole_answer : (grant long : ℕ) → salvaged_in s x 0 true w grant long ≡ salvaged s x w grant long
  unfolding salvaged_in salvaged
  whole_answer grant long =
      λ i. answer_by (whole_refusal i) (long_whole (length x) i) (call_whole s x w grant (long / 3) i)

  pub whole_list : (grant : ℕ) (l : List ℕ) → list_in s x 0 true w grant l ≡ list_after s x w grant l
  unfolding list_in list_after
  whole_list grant l = λ i. list_by (whole_refusal i) l (call_whole s x w grant (length l / 3) i)

-- whether a state can be one

four : (a b c d : Bool) → pick a (pick (pick b c false) d false) false ≡ true → (a ≡ true) × ((b ≡ true) × ((c ≡ true) × (d ≡ true)))
four true true true true e = (refl, (refl, (refl, refl)))
four true true true false e = let z : ◌≡◌ {A = ℕ} 0 1 = cc in absurd (omega arith)
four true true false d e = let z : ◌≡◌ {A = ℕ} 0 1 = cc in absurd (omega arith)
four true false c d e = let z : ◌≡◌ {A = ℕ} 0 1 = cc in absurd (omega arith)
four false b c d e = let z : ◌≡◌ {A = ℕ} 0 1 = cc in absurd (omega arith)

module _ (off n : ℕ) (w : Stop) where
  pub lies : holds off n w ≡ true → Lies off n w
  unfolding holds
  lies e =
      let t = four (leb (off + n) off_most) (leb w.begin w.place) (leb off w.place) (leb w.place (off + n)) e in
      record { order = leb-true _ _ t.1.0; low = leb-true _ _ t.1.1.0; top = leb-true _ _ t.1.1.1; most = leb-true _ _ t.0 }

  pub holds_so : Lies off n w → holds off n w ≡ true
  unfolding holds
  holds_so i = rw (le-leb _ _ i.order, le-leb _ _ i.low, le-leb _ _ i.top, le-leb _ _ i.most)

  -- as the code finds it
  pub holds_is : off + n ≤ off_most → w.begin ≤ w.place → off ≤ w.place → leb w.place (off + n) ≡ holds off n w
  unfolding holds
  holds_is h p q = rw (le-leb _ _ h, le-leb _ _ p, le-leb _ _ q)

  pub lies_not : (Lies off n w → ⊥) → false ≡ holds off n w
  lies_not f = ⊎_elim (λ e. absurd (f (lies e))) (λ e. sym e) (bool (holds off n w))
