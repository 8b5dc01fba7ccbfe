-- The code's passes on plain values: whether a row holds a packet that is too long, a row laid over its cell, and the rows laid so far.
-- Assumes nothing.
use Prim.Native.Nat.{ℕ, suc, ◌+◌, ◌-◌, ◌*◌, ◌≤◌, ◌<◌, min}
use mathlib.Core.Path.{◌≡◌, refl, ap, ap₂, sym, ◌∙◌}
use mathlib.Core.Bool.{Bool, true, false, not}
use mathlib.Core.Option.{Option, none, some}
use mathlib.Core.List.{List, ◌++◌}
use native.Mathlib.Numerals.{add-one}
use native.Mathlib.Omega.{arith}
use native.Mathlib.Nat.{suc-mul, zero-mul, mul-le-mul_right}
use lib.ListN.{length, take, drop, length-append}
use lib.Seq.{sets, sets-eq, length-sets, length-take-le, take_all, take_at}
use lib.Dec.{leb}
use borrow.Author.Tests.{le-leb, lt-leb}
use Rattle.octets.specs.Octets.{part}
use Rattle.octets.proofs.Lists.{sets_append}
use Rattle.walk.specs.declared.Settings.{Settings}
use Rattle.cells.specs.declared.Judged.{Judged}
use Rattle.cells.specs.Segments.{Seg}
use Rattle.cells.specs.Rows.{Cell, free, held, taken, broken, segment_in, by_segment, row_at, zero_row, packet_in, cell_of}
use Rattle.cells.specs.Inner.{body_in, judged_of, told_held}
use Rattle.moving.specs.Moving.{row_as, rows_as, too_long}
use Rattle.moving.proofs.Padding.{take_zeros, as_long, as_pieces}

-- ---- a packet that is too long

never : (o : Option Seg) → by_segment false (λ t. false) o ≡ false
never none = refl
never (some t) = refl

told_by_lem : (at : ℕ) (x : Cell) → told_held (judged_of at x) ≡ by_segment false (λ t. true) (segment_in x)
told_by_lem at free = refl
told_by_lem at (held t) = refl
told_by_lem at (taken g) = refl
told_by_lem at broken = refl

module _ (s : Settings) (Y Z : ℕ) (r : List ℕ) where
  long_by : {b : Bool} → leb (2 + length (packet_in r)) Z ≡ b → too_long s Y Z r ≡ by_segment false (λ t. not b) (segment_in (cell_of s Y r))
  unfolding too_long
  long_by e = ap (λ (b : Bool). by_segment false (λ t. not b) (segment_in (cell_of s Y r))) e

  pub fits_not : 2 + length (packet_in r) ≤ Z → too_long s Y Z r ≡ false
  fits_not h = long_by (le-leb (2 + length (packet_in r)) Z h) ∙ never (segment_in (cell_of s Y r))

  module _ {p : List ℕ} (ep : p ≡ packet_in r) where
    pub short_told : 2 + length p ≤ Z → false ≡ too_long s Y Z r
    short_told h = sym (fits_not (omega (arith, ap length ep)))

    pub long_told :
        {t : Judged} {b : Bool} → Z < 2 + length p → t ≡ judged_of (body_in s r) (cell_of s Y r) → b ≡ told_held t → b ≡ too_long s Y Z r
    long_told h et eb =
        eb
        ∙ ap told_held et
        ∙ told_by_lem (body_in s r) (cell_of s Y r)
        ∙ sym (long_by (lt-leb (2 + length (packet_in r)) Z (omega (arith, ap length ep))))

-- the row of a cell
pub row_told :
    (s : Settings) (Y Z : ℕ) (st : List ℕ) (i : ℕ) {r : List ℕ} {b v : Bool} → r ≡ row_at Y st i → b ≡ too_long s Y Z r → b ≡ v → too_long s Y Z (row_at Y st i) ≡ v
row_told s Y Z st i er eb ev = ap (too_long s Y Z) (sym er) ∙ sym eb ∙ ev

-- ---- a row over its cell

module _ (st z r : List ℕ) (i : ℕ) {fore aft : List ℕ} {at n : ℕ} (ez : z ≡ zero_row (length z)) (h : i * length z ≤ length st) (ea : at ≡ min (i * length z) (length st))
    (ef : fore ≡ part r 0 (length z)) (en : n ≡ length z - length fore) (et : aft ≡ part z 0 n) where
  at_is : at ≡ i * length z
  at_is = omega arith

  aft_is : aft ≡ zero_row (length z - length fore)
  aft_is =
      et
      ∙ ap₂ take en ez
      ∙ take_zeros (length z - length fore) (length z) (omega arith)

  pub row_laid : {x y : List ℕ} → x ≡ sets st at fore → y ≡ sets x (at + length fore) aft → y ≡ sets st (i * length z) (row_as (length z) r)
  row_laid ex ey =
      ey
      ∙ ap (λ (x : List ℕ). sets x (at + length fore) aft) ex
      ∙ sets_append st at fore aft
      ∙ ap₂ (λ (k : ℕ) (w : List ℕ). sets st k (fore ++ w)) at_is aft_is
      ∙ ap (λ (w : List ℕ). sets st (i * length z) (w ++ zero_row (length z - length w))) ef
      ∙ ap (sets st (i * length z)) (as_pieces (length z) r)

-- ---- the first i of n rows

pub record Filling (Y Z : ℕ) (st : List ℕ) (n : ℕ) (t : List ℕ) (i : ℕ) : Type 0 where
  pub most : i ≤ n
  pub long : length t ≡ n * Z
  pub so_far : take (i * Z) t ≡ rows_as Y Z st i

pub filling_first : (Y Z : ℕ) (st : List ℕ) (n : ℕ) (t : List ℕ) → length t ≡ n * Z → Filling Y Z st n t 0
unfolding rows_as
filling_first Y Z st n t l = record { most = omega arith; long = l; so_far = ap (λ (k : ℕ). take k t) (zero-mul Z) }

module _ {Y Z : ℕ} {st : List ℕ} {n : ℕ} {t : List ℕ} {i : ℕ} (p : Filling Y Z st n t i) where
  -- the row lies inside
  row_end : i < n → i * Z + Z ≤ length t
  row_end h = let k : suc i ≤ n = h in omega (arith, p.long, mul-le-mul_right Z k, suc-mul i Z)

  pub row_begin : i < n → i * Z ≤ length t
  row_begin h = omega (arith, row_end h)

  pub filling_turn : {r x : List ℕ} → i < n → r ≡ row_at Y st i → x ≡ sets t (i * Z) (row_as Z r) → Filling Y Z st n x (i + 1)
  unfolding rows_as
  filling_turn {r} {x} h er ex =
      let l = as_long Z r in
      let a : length (take (i * Z) t) ≡ i * Z = length-take-le (i * Z) t (row_begin h) in
      let b : length (take (i * Z) t ++ row_as Z r) ≡ suc i * Z = omega (arith, length-append (take (i * Z) t) (row_as Z r), a, l, suc-mul i Z) in
      record {
        most = omega arith;
        long = ap length ex ∙ length-sets t (i * Z) (row_as Z r) ∙ p.long;
        so_far =
            rw (add-one i)
            (ap (take (suc i * Z)) (ex ∙ sets-eq (row_as Z r) t (i * Z) (omega (arith, l, row_end h)))
            ∙ take_at (take (i * Z) t ++ row_as Z r) (drop (i * Z + length (row_as Z r)) t) (suc i * Z) b
            ∙ ap₂ (λ (v w : List ℕ). v ++ row_as Z w) p.so_far er);
      }

  -- all of them
  pub filling_done : n ≤ i → t ≡ rows_as Y Z st n
  filling_done h =
      let e : i ≡ n = omega (arith, p.most) in
      sym (take_all (n * Z) t (omega (arith, p.long))) ∙ ap (λ (k : ℕ). take (k * Z) t) (sym e) ∙ p.so_far ∙ ap (rows_as Y Z st) e
