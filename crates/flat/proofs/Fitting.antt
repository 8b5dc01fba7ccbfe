-- Numbers that fit: each is at most its width.
-- Assumes nothing.
use Prim.Native.Nat.{ℕ, zero, suc, ◌≤◌, ◌<◌}
use mathlib.Core.Path.{◌≡◌, refl}
use mathlib.Core.Bool.{Bool, true, false, ◌&&◌}
use mathlib.Core.List.{List}
use mathlib.Core.Logic.{⊎_elim}
use native.Mathlib.Omega.{arith}
use native.Mathlib.Numerals.{add-one}
use lib.ListN.{length, take}
use lib.Dec.{leb}
use borrow.Author.Tests.{leb-true, le-leb}
use Rattle.std.specs.List.{list_all, zip}
use Rattle.std.specs.Result.{IsErrAnd, MatchResult}
use Rattle.std.specs.Prelude.{Result}
use Rattle.std.proofs.lemmas.Bool.{false_from_ne_true}
use Rattle.std.proofs.lemmas.List.Folds.{list_all_more}
use Rattle.std.proofs.lemmas.Result.{err_from_is_err_and}
use Rattle.std.proofs.lemmas.Slice.Zip.{length-zip, get_or-zip}
use Rattle.octets.specs.Octets.{pick, octet_at as number_at}
use Rattle.octets.proofs.Lists.{below_or}
use Rattle.flat.specs.Given.{fits_to}

-- two tests, both of which hold
pub both_held : (a b : Bool) → pick a b false ≡ true → (a ≡ true) × (b ≡ true)
both_held true b e = (refl, e)
both_held false b e = let z : ◌≡◌ {A = ℕ} 0 1 = cc in absurd (omega arith)

pub fits_at :
    (n : ℕ) (l ws : List ℕ) → fits_to n l ws ≡ true → (k : ℕ) → k < n → number_at l k ≤ number_at ws k
unfolding fits_to
fits_at zero l ws e k h = absurd (omega arith)
fits_at (suc n) l ws e k h =
    let y = both_held (fits_to n l ws) (leb (number_at l n) (number_at ws n)) e in
    ⊎_elim (λ (b : k < n). fits_at n l ws y.0 k b)
    (λ (b : n ≤ k).
    let x : n ≡ k = omega arith in
    rw x at (leb-true (number_at l n) (number_at ws n) y.1))
    (below_or k n)

pub fits_none : (l ws : List ℕ) → fits_to 0 l ws ≡ true
unfolding fits_to
fits_none l ws = refl

-- one more that fits
pub fits_next : (k : ℕ) (l ws : List ℕ) → number_at l k ≤ number_at ws k → fits_to k l ws ≡ true → fits_to (suc k) l ws ≡ true
unfolding fits_to
fits_next k l ws h e = rw (e, le-leb (number_at l k) (number_at ws k) h)

-- and one that does not
pub fits_not : (n : ℕ) (l ws : List ℕ) (k : ℕ) → k < n → number_at ws k < number_at l k → fits_to n l ws ≡ false
fits_not n l ws k h w = false_from_ne_true _ (λ e. let a = fits_at n l ws e k h in absurd (omega arith))

-- the refusal of a number, passed on
pub passed_on : {A E : Type 0} (P : A → Type 0) (Q : E → Type 0) (R : Type 0) (r : Result A E) → IsErrAnd r Q → R → MatchResult r P (λ _. R)
passed_on P Q R r k h = let p = err_from_is_err_and r k in rw p.1 h

-- each number of a list beside its width
abbrev pub at_most : ℕ × ℕ → Bool
at_most p = leb p.0 p.1

and_pick : (a b : Bool) → (a && b) ≡ pick a b false
and_pick true b = refl
and_pick false b = refl

pub fits_zip : (k : ℕ) (l ws : List ℕ) → k ≤ length ws → length ws ≤ length l → list_all at_most (take k (zip l ws)) ≡ fits_to k l ws
unfolding fits_to
fits_zip zero l ws h g = refl
fits_zip (suc k) l ws h g =
    let m = length-zip l ws in
    let n : k < length (zip l ws) = omega arith in
    let a = rw add-one at (list_all_more at_most (zip l ws) k (0, 0) n) in
    let b = get_or-zip l ws k (0, 0) (omega arith) (omega arith) in
    let e = fits_zip k l ws (omega arith) g in
    rw (a, e, b) (and_pick (fits_to k l ws) (leb (number_at l k) (number_at ws k)))
