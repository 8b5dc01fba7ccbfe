-- A row over a cell, and over those of the first cells for which there is one: it stands there, the others are as they were, and the
-- length stays.
-- Assumes nothing.
use Prim.Native.Nat.{ℕ, zero, suc, ◌+◌, ◌*◌, ◌≤◌, ◌<◌, min}
use mathlib.Core.Path.{◌≡◌, refl, ap, ap₂, sym, ◌∙◌}
use mathlib.Core.Logic.{◌≢◌, ⊎_elim}
use mathlib.Core.List.{List}
use mathlib.Core.Option.{Option, none, some}
use native.Mathlib.Numerals.{add-one}
use native.Mathlib.Omega.{arith}
use native.Mathlib.Nat.{suc-mul}
use lib.ListN.{length}
use lib.Seq.{sets, length-sets}
use Rattle.octets.proofs.Lists.{below_or, sets_out}
use Rattle.cells.specs.Rows.{row_at}
use Rattle.cells.proofs.Rows.{row_written, row_other}
use Rattle.taking.specs.Cleared.{laid_at, cleared_to}

-- a place kept inside the store does as well
pub row_there : (st z : List ℕ) (i : ℕ) {at : ℕ} → at ≡ min (i * length z) (length st) → sets st at z ≡ sets st (i * length z) z
row_there st z i {at} e = ⊎_elim past inside (below_or (length st) (i * length z))
  where
    past : length st < i * length z → sets st at z ≡ sets st (i * length z) z
    past h =
        let a : length st ≤ at = omega arith in
        let b : length st ≤ i * length z = omega arith in
        sets_out st at z a ∙ sym (sets_out st (i * length z) z b)

    inside : i * length z ≤ length st → sets st at z ≡ sets st (i * length z) z
    inside h = let a : at ≡ i * length z = omega arith in ap (λ (k : ℕ). sets st k z) a

-- ---- the first i of n cells

-- the row that stands in a cell then
abbrev pub standing : Option (List ℕ) → List ℕ → List ℕ
standing none r = r
standing (some x) r = x

-- each row that is told has the size of a cell
abbrev pub Whole : (ℕ → Option (List ℕ)) → ℕ → Type 0
Whole f Z = (j : ℕ) (r : List ℕ) → f j ≡ some r → length r ≡ Z

module _ (f : ℕ → Option (List ℕ)) (Z : ℕ) (st : List ℕ) where
  pub cleared_long : (n : ℕ) → length (cleared_to f Z n st) ≡ length st
  unfolding cleared_to
  cleared_long zero = refl
  cleared_long (suc n) = go (f n) ∙ cleared_long n
    where
      go : (o : Option (List ℕ)) → length (laid_at Z n o (cleared_to f Z n st)) ≡ length (cleared_to f Z n st)
      go (some r) = length-sets (cleared_to f Z n st) (n * Z) r
      go none = refl

  -- rows other than the last one
  one_other : (o : Option (List ℕ)) → ((r : List ℕ) → o ≡ some r → length r ≡ Z) → (x : List ℕ) (n j : ℕ) → j ≢ n → row_at Z (laid_at Z n o x) j ≡ row_at Z x j
  one_other (some r) w x n j h = row_other Z n j x r (w r refl) h
  one_other none w x n j h = refl

  one_there :
      (o : Option (List ℕ)) → ((r : List ℕ) → o ≡ some r → length r ≡ Z) → (x : List ℕ) (n : ℕ) → suc n * Z ≤ length x →
      row_at Z (laid_at Z n o x) n ≡ standing o (row_at Z x n)
  one_there (some r) w x n h = row_written Z n (suc n) x r (w r refl) (omega arith) h
  one_there none w x n h = refl

  module _ (w : Whole f Z) where
    -- the rows after them are as they were
    pub cleared_past : (n j : ℕ) → n ≤ j → row_at Z (cleared_to f Z n st) j ≡ row_at Z st j
    unfolding cleared_to
    cleared_past zero j h = refl
    cleared_past (suc n) j h = one_other (f n) (w n) (cleared_to f Z n st) n j (λ e. omega arith) ∙ cleared_past n j (omega arith)

    -- of the first n, just those for which there is a row have it
    pub cleared_row : (n j : ℕ) → n * Z ≤ length st → j < n → row_at Z (cleared_to f Z n st) j ≡ standing (f j) (row_at Z st j)
    unfolding cleared_to
    cleared_row zero j l h = absurd (omega arith)
    cleared_row (suc n) j l h =
        ⊎_elim
        (λ k.
        one_other (f n) (w n) (cleared_to f Z n st) n j (λ e. omega arith)
        ∙ cleared_row n j (omega (arith, suc-mul n Z)) k)
        (λ k.
        let e : j ≡ n = omega arith in
        rw e
        (one_there (f n) (w n) (cleared_to f Z n st) n (omega (arith, cleared_long n))
        ∙ ap (standing (f n)) (cleared_past n n (omega arith))))
        (below_or j n)

-- the same rows are laid if the same are told
pub cleared_same :
    (f g : ℕ → Option (List ℕ)) (Z n : ℕ) (st : List ℕ) → ((j : ℕ) → j < n → f j ≡ g j) → cleared_to f Z n st ≡ cleared_to g Z n st
unfolding cleared_to
cleared_same f g Z zero st h = refl
cleared_same f g Z (suc n) st h =
    ap₂ (λ (o : Option (List ℕ)) (x : List ℕ). laid_at Z n o x) (h n (omega arith)) (cleared_same f g Z n st (λ j l. h j (omega arith)))

-- ---- as the code goes

pub record Clearing (f : ℕ → Option (List ℕ)) (Z n : ℕ) (st x : List ℕ) (i : ℕ) : Type 0 where
  pub most : i ≤ n
  pub same : x ≡ cleared_to f Z i st

pub clearing_first : (f : ℕ → Option (List ℕ)) (Z n : ℕ) (st : List ℕ) → Clearing f Z n st st 0
unfolding cleared_to
clearing_first f Z n st = record { most = omega arith; same = refl }

pub clearing_long : {f : ℕ → Option (List ℕ)} {Z n i : ℕ} {st x : List ℕ} → Clearing f Z n st x i → length x ≡ length st
clearing_long {f} {Z} {n} {i} {st} p = ap length p.same ∙ cleared_long f Z st i

pub clearing_done : {f : ℕ → Option (List ℕ)} {Z n i : ℕ} {st x : List ℕ} → Clearing f Z n st x i → n ≤ i → x ≡ cleared_to f Z n st
clearing_done {f} {Z} {n} {i} {st} p h = let e : i ≡ n = omega (arith, p.most) in p.same ∙ ap (λ (k : ℕ). cleared_to f Z k st) e

-- the row as it stands is as it stood
pub clearing_row :
    {f : ℕ → Option (List ℕ)} {Z n i : ℕ} {st x : List ℕ} → Whole f Z → Clearing f Z n st x i → row_at Z x i ≡ row_at Z st i
clearing_row {f} {Z} {n} {i} {st} w p =
    let l : i ≤ i = omega arith in
    ap (λ (y : List ℕ). row_at Z y i) p.same ∙ cleared_past f Z st w i i l

-- cell i is done
pub clearing_on :
    {f : ℕ → Option (List ℕ)} {Z n i : ℕ} {st x y : List ℕ} → Clearing f Z n st x i → i < n → y ≡ laid_at Z i (f i) x → Clearing f Z n st y (i + 1)
unfolding cleared_to
clearing_on {f} {Z} {n} {i} {st} p h ey =
    record { most = omega arith; same = rw (add-one i) (ey ∙ ap (laid_at Z i (f i)) p.same) }
