-- The test octet by octet is the test by places; and the invariant of the loop over blocks, on plain values.
-- Assumes nothing.
use Prim.Native.Nat.{ℕ, zero, suc, ◌+◌, ◌-◌, ◌≤◌, ◌<◌}
use mathlib.Core.Path.{◌≡◌, refl, ap, ap₂, sym, ◌∙◌}
use mathlib.Core.Bool.{Bool, true}
use mathlib.Core.List.{List, [], ◌∷◌}
use native.Mathlib.Omega.{arith}
use lib.ListN.{length, drop, drop_of_length-le}
use lib.Seq.{drop-cons}
use Rattle.octets.specs.Octets.{octet_at}
use Rattle.utf8.specs.Test.{both, ended, accepts, is_text}
use Rattle.utf8.specs.Places.{octet_before, ended_at, follows_at, single_at, all}
use Rattle.utf8.proofs.Passing.{both_assoc, all_after, all_first}
use Rattle.utf8.proofs.Blocks.{before_next, before_one, singles_follow, singles_end}

-- from a place on
abbrev accepts_at : List ℕ → ℕ → List ℕ → Bool
accepts_at o at r = accepts (octet_before o at 3) (octet_before o at 2) (octet_before o at 1) r

accepts_nil : (o : List ℕ) (at : ℕ) → accepts_at o at [] ≡ ended_at o at
unfolding accepts ended_at
accepts_nil o at = refl

accepts_cons : (o : List ℕ) (at : ℕ) (r : List ℕ) → accepts_at o at (octet_at o at ∷ r) ≡ both (follows_at o at) (accepts_at o (suc at) r)
unfolding accepts follows_at
accepts_cons o at r = rw (before_next o at 2, before_next o at 1, before_one o at)

accepts_places : (o : List ℕ) (n at : ℕ) → at + n ≡ length o → accepts_at o at (drop at o) ≡ both (all (follows_at o) at n) (ended_at o (length o))
unfolding all
accepts_places o zero at e =
    let h : length o ≤ at = omega arith in
    let k : at ≡ length o = omega arith in
    rw (drop_of_length-le o h) (accepts_nil o at ∙ ap (ended_at o) k)
accepts_places o (suc n) at e =
    let h : at < length o = omega arith in
    let k : suc at + n ≡ length o = omega arith in
    ap (accepts_at o at) (drop-cons o at 0 h)
    ∙ accepts_cons o at (drop (suc at) o)
    ∙ ap (both (follows_at o at)) (accepts_places o n (suc at) k)
    ∙ sym (both_assoc (follows_at o at) (all (follows_at o) (suc at) n) (ended_at o (length o)))
    ∙ ap (λ (b : Bool). both b (ended_at o (length o))) (sym (all_first (follows_at o) at n))

pub text_places : (o : List ℕ) → is_text o ≡ both (all (follows_at o) 0 (length o)) (ended_at o (length o))
unfolding is_text octet_before
text_places o = accepts_places o (length o) 0 (omega arith)

-- the flags tell whether each octet before a place may stand there, and whether no character is unfinished at it
pub record Judging (o : List ℕ) (flag end : Bool) (at : ℕ) : Type 0 where
  pub most : at ≤ length o
  pub told : flag ≡ all (follows_at o) 0 at
  pub ends : end ≡ ended_at o at

pub judging_first : (o : List ℕ) → Judging o true true 0
unfolding all ended_at octet_before ended
judging_first o = record { most = omega arith; told = refl; ends = refl }

module _ {o : List ℕ} {flag end : Bool} {at : ℕ} (p : Judging o flag end at) where
  -- a block of single octets
  pub judging_singles : 32 ≤ length o - at → all (single_at o) at 32 ≡ true → Judging o (both flag end) true (at + 32)
  judging_singles h e =
      record {
        most = omega (arith, p.most);
        told = ap₂ both p.told (p.ends ∙ sym (singles_follow o at 31 e)) ∙ sym (all_after (follows_at o) at 32);
        ends = sym (singles_end o at 29 e);
      }

  -- any other
  pub judging_others : 32 ≤ length o - at → Judging o (both flag (all (follows_at o) at 32)) (ended_at o (at + 32)) (at + 32)
  judging_others h =
      record {
        most = omega (arith, p.most);
        told = ap (λ (b : Bool). both b (all (follows_at o) at 32)) p.told ∙ sym (all_after (follows_at o) at 32);
        ends = refl;
      }

  -- the rest
  pub judging_done : both flag (both (all (follows_at o) at (length o - at)) (ended_at o (at + (length o - at)))) ≡ is_text o
  judging_done =
      let e : at + (length o - at) ≡ length o = omega (arith, p.most) in
      let k = sym (all_after (follows_at o) at (length o - at)) ∙ ap (all (follows_at o) 0) e in
      rw (p.told, e)
      (sym (both_assoc (all (follows_at o) 0 at) (all (follows_at o) at (length o - at)) (ended_at o (length o)))
      ∙ ap (λ (b : Bool). both b (ended_at o (length o))) k
      ∙ sym (text_places o))
