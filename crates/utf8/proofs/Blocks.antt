-- The test by places: blocks of octets, and blocks of single ones.
-- Assumes nothing.
use Prim.Native.Nat.{ℕ, zero, suc, ◌+◌, ◌-◌, ◌≤◌, ◌<◌}
use mathlib.Core.Path.{◌≡◌, ap₂, sym, ◌∙◌}
use mathlib.Core.Bool.{true, false}
use mathlib.Core.List.{List}
use mathlib.Core.Logic.{⊎_elim}
use native.Mathlib.Nat.{add-zero}
use native.Mathlib.Omega.{arith}
use borrow.Author.Tests.{ltb-true, le-leb, lt-leb}
use Rattle.octets.specs.Octets.{octet_at}
use Rattle.octets.proofs.Lists.{bool, below_or}
use Rattle.utf8.specs.Test.{both, ended, follows}
use Rattle.utf8.specs.Places.{octet_before, ended_at, follows_at, single_at, all}
use Rattle.utf8.proofs.Tests.{both_true, ended_yes, follows_single, ended_single}

-- an octet that is there
pub before_is : (o : List ℕ) (at k i : ℕ) → i + k ≡ at → octet_before o at k ≡ octet_at o i
unfolding octet_before
before_is o at k i e =
    let j : at - k ≡ i = omega arith in
    rw (le-leb k at (omega arith), j)

before_none : (o : List ℕ) (at k : ℕ) → at < k → octet_before o at k ≡ 0
unfolding octet_before
before_none o at k h = rw (lt-leb k at h)

-- three places on, three octets are before it
pub follows_later : (o : List ℕ) (i : ℕ) → follows (octet_at o i) (octet_at o (i + 1)) (octet_at o (i + 2)) (octet_at o (i + 3)) ≡ follows_at o (i + 3)
unfolding follows_at
follows_later o i =
    rw (before_is o (i + 3) 3 i (omega arith), before_is o (i + 3) 2 (i + 1) (omega arith), before_is o (i + 3) 1 (i + 2) (omega arith))

-- ---- the next place

pub before_next : (o : List ℕ) (at k : ℕ) → octet_before o (suc at) (suc k) ≡ octet_before o at k
before_next o at k = ⊎_elim none some (below_or at k)
  where
    none : at < k → octet_before o (suc at) (suc k) ≡ octet_before o at k
    none h = before_none o (suc at) (suc k) (omega arith) ∙ sym (before_none o at k h)

    some : k ≤ at → octet_before o (suc at) (suc k) ≡ octet_before o at k
    some h = before_is o (suc at) (suc k) (at - k) (omega arith) ∙ sym (before_is o at k (at - k) (omega arith))

pub before_one : (o : List ℕ) (at : ℕ) → octet_before o (suc at) 1 ≡ octet_at o at
before_one o at = before_is o (suc at) 1 at (omega arith)

-- no character is unfinished after the octet at a place
ended_next : (o : List ℕ) (at : ℕ) → ended_at o (suc at) ≡ ended (octet_before o at 2) (octet_before o at 1) (octet_at o at)
unfolding ended_at
ended_next o at = rw (before_next o at 2, before_next o at 1, before_one o at)

-- ---- blocks of single octets

ended_three :
    (o : List ℕ) (i at : ℕ) → i + 3 ≡ at → octet_at o i < 0x80 → octet_at o (i + 1) < 0x80 → octet_at o (i + 2) < 0x80 → ended_at o at ≡ true
unfolding ended_at
ended_three o i at e f g h =
    rw (before_is o at 3 i e, before_is o at 2 (i + 1) (omega arith), before_is o at 1 (i + 2) (omega arith))
    (ended_yes (record { third = omega arith; second = omega arith; first = omega arith }))

module _ (o : List ℕ) (at : ℕ) where
  single_follows : single_at o at ≡ true → follows_at o at ≡ ended_at o at
  unfolding single_at follows_at ended_at
  single_follows e = follows_single _ _ _ _ (ltb-true (octet_at o at) 0x80 e)

  single_ends : single_at o at ≡ true → ended_at o at ≡ true → ended_at o (suc at) ≡ true
  unfolding single_at ended_at
  single_ends e h = ended_next o at ∙ ended_single (octet_before o at 3) _ _ _ (ltb-true (octet_at o at) 0x80 e) h

module _ (o : List ℕ) (at : ℕ) where
  last_two : (n : ℕ) → all (single_at o) at (suc n) ≡ true → (all (single_at o) at n ≡ true) × (single_at o (at + n) ≡ true)
  unfolding all
  last_two n e = both_true (all (single_at o) at n) (single_at o (at + n)) e

  ended_on : (n : ℕ) → all (single_at o) at n ≡ true → ended_at o at ≡ true → ended_at o (at + n) ≡ true
  ended_on zero e h = rw (add-zero at) h
  ended_on (suc n) e h =
      let p = last_two n e in
      let k : at + suc n ≡ suc (at + n) = omega arith in
      rw k (single_ends o (at + n) p.1 (ended_on n p.0 h))

  -- such a block may stand exactly if no character is unfinished before it
  pub singles_follow : (n : ℕ) → all (single_at o) at (suc n) ≡ true → all (follows_at o) at (suc n) ≡ ended_at o at
  unfolding all
  singles_follow zero e = rw (add-zero at) (single_follows o at (rw (add-zero at) at e))
  singles_follow (suc n) e =
      let p = last_two (suc n) e in
      ap₂ both (singles_follow n p.0) (single_follows o (at + suc n) p.1)
      ∙ ⊎_elim
      (λ (h : ended_at o at ≡ true). rw (h, ended_on (suc n) p.0 h))
      (λ (h : ended_at o at ≡ false). rw h)
      (bool (ended_at o at))

  -- and after three such octets none is
  pub singles_end : (n : ℕ) → all (single_at o) at (suc (suc (suc n))) ≡ true → ended_at o (at + suc (suc (suc n))) ≡ true
  unfolding single_at
  singles_end n e =
      let p = last_two (suc (suc n)) e in
      let q = last_two (suc n) p.0 in
      let r = last_two n q.0 in
      let j : at + n + 2 ≡ at + suc (suc n) = omega arith in
      let k : at + n + 1 ≡ at + suc n = omega arith in
      ended_three o (at + n) (at + suc (suc (suc n))) (omega arith)
      (ltb-true (octet_at o (at + n)) 0x80 r.1)
      (rw k (ltb-true (octet_at o (at + suc n)) 0x80 q.1))
      (rw j (ltb-true (octet_at o (at + suc (suc n))) 0x80 p.1))

  -- the last octets, where there may be none
  pub singles_rest : (n : ℕ) → all (single_at o) at n ≡ true → ended_at o at ≡ both (all (follows_at o) at n) (ended_at o (at + n))
  unfolding all
  singles_rest zero e = rw (add-zero at)
  singles_rest (suc n) e =
      ⊎_elim
      (λ (h : ended_at o at ≡ true). rw (singles_follow n e, ended_on (suc n) e h, h))
      (λ (h : ended_at o at ≡ false). rw (singles_follow n e, h))
      (bool (ended_at o at))
