-- Tests one after another, and what it means that none of them refused.
-- Assumes nothing.
use Prim.Native.Nat.{ℕ, suc}
use mathlib.Core.Path.{◌≡◌, refl, ap, sym, ◌∙◌}
use mathlib.Core.Bool.{Bool, true, false}
use mathlib.Core.List.{List, [], ◌∷◌, ◌++◌}
use native.Mathlib.Omega.{arith}
use borrow.Author.Tests.{eqb-true}
use Rattle.std.specs.Prelude.{◌&&◌}
use Rattle.std.proofs.lemmas.List.Folds.{list_all-append}
use Rattle.octets.specs.Octets.{pick}
use Rattle.walk.specs.declared.Tested.{Tested}
use Rattle.walk.specs.Walk.{unless, failed}
use Rattle.write.specs.Given.{unless_all, all_hold}
use Rattle.write.specs.Writing.{fine}

pub unless_all_append : (cs bs : List Bool) (k : ℕ) (r : Tested) → unless_all (cs ++ bs) k r ≡ unless_all bs k (unless_all cs k r)
unfolding unless_all
unless_all_append [] bs k r = refl
unless_all_append (a ∷ cs) bs k r = unless_all_append cs bs k (unless a k r)

-- a test that did not refuse held, and there was no refusal before
pub record Held (ok : Bool) (r : Tested) : Type 0 where
  pub before : fine r ≡ true
  pub held : ok ≡ true

pub unless_fine : (ok : Bool) (k : ℕ) (r : Tested) → fine (unless ok (suc k) r) ≡ true → Held ok r
unfolding unless
unless_fine ok k r g = go (fine r) ok refl refl g
  where
    go : (b o : Bool) → fine r ≡ b → ok ≡ o → fine (pick b (pick o r (failed (suc k))) r) ≡ true → Held ok r
    go true true e f h = record { before = e; held = f }
    go true false e f h = let z : suc k ≡ 0 = eqb-true (suc k) 0 h in absurd (omega arith)
    go false o e f h = let z : ◌≡◌ {A = ℕ} 0 1 = cc in absurd (omega arith)

-- and a test that holds refuses nothing
pub unless_true : (ok : Bool) (k : ℕ) (r : Tested) → ok ≡ true → unless ok k r ≡ r
unfolding unless
unless_true ok k r h = rw h (same (fine r))
  where
    same : (b : Bool) → pick b r r ≡ r
    same true = refl
    same false = refl

-- all of a list hold
unfoldable pub AllHold : List Bool → Type 0
AllHold [] = Unit {0}
AllHold (b ∷ bs) = (b ≡ true) × AllHold bs

pub unless_all_fine : (bs : List Bool) (k : ℕ) (r : Tested) → fine (unless_all bs (suc k) r) ≡ true → (fine r ≡ true) × AllHold bs
unfolding unless_all AllHold
unless_all_fine [] k r g = (g, tt)
unless_all_fine (b ∷ bs) k r g =
    let t = unless_all_fine bs k (unless b (suc k) r) g in
    let h = unless_fine b k r t.0 in
    (h.before, (h.held, t.1))

pub unless_all_true : (bs : List Bool) (k : ℕ) (r : Tested) → AllHold bs → unless_all bs k r ≡ r
unfolding unless_all AllHold
unless_all_true [] k r h = refl
unless_all_true (b ∷ bs) k r h = ap (unless_all bs k) (unless_true b k r h.0) ∙ unless_all_true bs k r h.1

pub hold_append : (cs bs : List Bool) → AllHold cs → AllHold bs → AllHold (cs ++ bs)
unfolding AllHold
hold_append [] bs h g = g
hold_append (a ∷ cs) bs h g = (h.0, hold_append cs bs h.1 g)

pub hold_first : (cs bs : List Bool) → AllHold (cs ++ bs) → AllHold cs
unfolding AllHold
hold_first [] bs h = tt
hold_first (a ∷ cs) bs h = (h.0, hold_first cs bs h.1)

pub hold_second : (cs bs : List Bool) → AllHold (cs ++ bs) → AllHold bs
unfolding AllHold
hold_second [] bs h = h
hold_second (a ∷ cs) bs h = hold_second cs bs h.1

pub all_append : (cs bs : List Bool) → all_hold (cs ++ bs) ≡ (all_hold cs && all_hold bs)
all_append cs bs = list_all-append (λ b. b) cs bs
