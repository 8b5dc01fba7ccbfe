-- The scans over the cells, on plain values: the lowest free one, the length.
-- Assumes nothing.
use Prim.Native.Nat.{ℕ, zero, suc, ◌+◌, ◌-◌, ◌*◌, ◌/◌, ◌%◌, ◌≤◌, ◌<◌}
use mathlib.Core.Path.{◌≡◌, refl, ap, sym, ◌∙◌}
use mathlib.Core.Logic.{⊎_elim}
use mathlib.Core.Bool.{Bool, true, false, cond}
use mathlib.Core.List.{List}
use native.Mathlib.Numerals.{add-one}
use native.Mathlib.Omega.{arith}
use native.Mathlib.Nat.{mul-le-mul_right, suc-mul, div-zero}
use lib.ListN.{length}
use denote.Param.Members.{Mut}
use denote.Ref.{Bor}
use Rattle.std.proofs.Common.{Option, Some, None}
use Rattle.std.proofs.iter.Yields.{nat_range_steps}
use Rattle.std.proofs.lemmas.Iterator.{YieldsList-from_range}
use Rattle.std.proofs.lemmas.Iterator.Search.{find_from_yields_List}
use Rattle.std.specs.Bool.{⊤}
use Rattle.std.specs.Fn.{CalledAt}
use Rattle.std.specs.Iterator.{YieldsThen}
use Rattle.std.specs.List.{FoldsTo, find, range_with_len}
use Rattle.std.specs.Option.{MatchOption, option_map, unwrap_or}
use Rattle.std.specs.declared.ops.Range.{Range as Numbers}
use borrow.Author.Tests.{le-leb, lt-leb, eq-eqb, ne_eqb}
use Rattle.octets.specs.Octets.{pick, alike, octet_at}
use Rattle.octets.proofs.Lists.{bool, alike_true}
use Rattle.octets.proofs.Has.{part_length}
use Rattle.walk.specs.declared.Settings.{Settings}
use Rattle.packet.specs.Reading.{read_packet}
use Rattle.cells.specs.Segments.{Seg, seg_of}
use Rattle.cells.specs.Rows.{Range, free, held, taken, broken, row_at, zero_row, packet_in, holds, records, range_of, cell_of}
use Rattle.cells.specs.Order.{is_free, lowest, length_fits, cells_most}

-- a row inside the store has its whole length
pub row_long : (Z n i : ℕ) (st : List ℕ) → i < n → n * Z ≤ length st → length (row_at Z st i) ≡ Z
row_long Z n i st h l =
    let k : suc i ≤ n = h in
    part_length st (i * Z) Z (omega (arith, mul-le-mul_right Z k, suc-mul i Z))

told : (a b c : Bool) (t : Seg) (g : Range) → is_free (pick a free (pick b (held t) (pick c (taken g) broken))) ≡ a
told true b c t g = refl
told false true c t g = refl
told false false true t g = refl
told false false false t g = refl

pub free_is : (s : Settings) (Z : ℕ) (r : List ℕ) → is_free (cell_of s Z r) ≡ alike r (zero_row Z)
unfolding cell_of
free_is s Z r = told (alike r (zero_row Z)) (holds s Z r) (records s Z r) (seg_of (packet_in r) (read_packet s (packet_in r))) (range_of s r)

-- ---- the lowest

pub record Seeking (f : ℕ → Bool) (n i : ℕ) : Type 0 where
  pub most : i ≤ n
  pub same : lowest f (n - i) i ≡ lowest f n 0

pub seeking_first : (f : ℕ → Bool) (n : ℕ) → Seeking f n 0
seeking_first f n = let e : n - 0 ≡ n = omega arith in record { most = omega arith; same = ap (λ (k : ℕ). lowest f k 0) e }

pub one_more : (f : ℕ → Bool) (n i : ℕ) → i < n → lowest f (n - i) i ≡ pick (f i) i (lowest f (n - suc i) (suc i))
unfolding lowest
one_more f n i h = let e : n - i ≡ suc (n - suc i) = omega arith in ap (λ (k : ℕ). lowest f k i) e

pub seeking_turn : {f : ℕ → Bool} {n i : ℕ} → Seeking f n i → i < n → f i ≡ false → Seeking f n (i + 1)
seeking_turn {f} {n} {i} p h e =
    record { most = omega arith; same = rw (add-one i) (sym (one_more f n i h ∙ ap (λ (b : Bool). pick b i (lowest f (n - suc i) (suc i))) e) ∙ p.same) }

pub seeking_found : {f : ℕ → Bool} {n i : ℕ} → Seeking f n i → i < n → f i ≡ true → i ≡ lowest f n 0
seeking_found {f} {n} {i} p h e = sym (one_more f n i h ∙ ap (λ (b : Bool). pick b i (lowest f (n - suc i) (suc i))) e) ∙ p.same

pub seeking_none : {f : ℕ → Bool} {n i : ℕ} → Seeking f n i → n ≤ i → n ≡ lowest f n 0
unfolding lowest
seeking_none {f} {n} {i} p h =
    let e : i ≡ n = omega (arith, p.most) in
    let z : n - i ≡ 0 = omega arith in
    sym e ∙ ap (λ (k : ℕ). lowest f k i) (sym z) ∙ p.same

-- the lowest free cell is the lowest row of zeros
pub row_free :
    (st z : List ℕ) (i : ℕ) {r : List ℕ} {b c : Bool} → r ≡ row_at (length z) st i → b ≡ alike r z → b ≡ c →
    alike (row_at (length z) st i) z ≡ c
row_free st z i er eb ec = ap (λ (x : List ℕ). alike x z) (sym er) ∙ sym eb ∙ ec

-- ---- the lowest of a range

picked : (b : Bool) (r : Option ℕ) (a n m : ℕ) → unwrap_or r n ≡ m → unwrap_or (cond b (Some a) r) n ≡ pick b a m
picked true r a n m e = refl
picked false r a n m e = e

found_from : (f : ℕ → Bool) (n a : ℕ) → unwrap_or (find f (range_with_len a n)) (a + n) ≡ lowest f n a
unfolding lowest
found_from f zero a = omega arith
found_from f (suc n) a =
    let e : (a + 1) + n ≡ a + suc n = omega arith in
    picked (f a) (find f (range_with_len (a + 1) n)) a (a + suc n) (lowest f n (suc a))
    (sym (ap (unwrap_or (find f (range_with_len (a + 1) n))) e) ∙ found_from f n (a + 1) ∙ ap (lowest f n) (add-one a))

same_option : (r : Option ℕ) → option_map (λ x. x) r ≡ r
same_option None = refl
same_option (Some x) = refl

-- what `find` answers of a range, where the closure is the test f, is the lowest number of which f holds
pub first_in_range :
    {F : Type 0} {g : Mut F (Bor ℕ × Unit {0}) Bool} {s : Numbers ℕ} (f : ℕ → Bool) (n : ℕ) (u : Numbers ℕ) (h : F) (r : Option ℕ) →
    (xs : List ℕ) × (j : F) × YieldsThen nat_range_steps s xs r u × FoldsTo (λ p x q. CalledAt g p x false q) h xs j
    × MatchOption r ⊤ (λ x. (k : F) × CalledAt g j x true k) →
    s ≡ record { start = 0; end = n } → ((x : ℕ) (b : Bool) (q : F) → CalledAt g h x b q → (q ≡ h) × (b ≡ f x)) → unwrap_or r n ≡ lowest f n 0
first_in_range f n u h r ran e k =
    let z : 0 + n ≡ n = omega arith in
    let m : n - 0 ≡ n = omega arith in
    let p = find_from_yields_List f u h r ran (YieldsList-from_range 0 n n e m) k in
    ap (λ o. unwrap_or o n) (sym (same_option r) ∙ p) ∙ sym (ap (unwrap_or (find f (range_with_len 0 n))) z) ∙ found_from f n 0

-- ---- the length

pub fits_all : (z n : ℕ) → (n % z ≡ 0) → 1 ≤ n / z → n / z ≤ cells_most → length_fits z n ≡ true
unfolding length_fits
fits_all z n a b c = rw (eq-eqb (n % z) 0 a, le-leb 1 (n / z) b, le-leb (n / z) cells_most c) refl

pub fits_ragged : (z n : ℕ) → (n % z ≡ 0 → ⊥) → length_fits z n ≡ false
unfolding length_fits
fits_ragged z n a = rw (ne_eqb (n % z) 0 a) refl

pub fits_none : (z n : ℕ) → n % z ≡ 0 → n / z < 1 → length_fits z n ≡ false
unfolding length_fits
fits_none z n a b = rw (eq-eqb (n % z) 0 a, lt-leb 1 (n / z) b) refl

pub fits_many : (z n : ℕ) → n % z ≡ 0 → 1 ≤ n / z → cells_most < n / z → length_fits z n ≡ false
unfolding length_fits
fits_many z n a b c = rw (eq-eqb (n % z) 0 a, le-leb 1 (n / z) b, lt-leb (n / z) cells_most c) refl

pub fits_nothing : (z n : ℕ) → z ≡ 0 → 0 ≡ pick (length_fits z n) (n / z) 0
fits_nothing z n e = rw (e, div-zero n) (sym (same (length_fits 0 n)))
  where
    same : (b : Bool) → ◌≡◌ {A = ℕ} (pick b 0 0) 0
    same true = refl
    same false = refl

-- two rows that differ in the first octet differ
pub first_differs : (a b : List ℕ) {x y : ℕ} → x ≡ octet_at a 0 → y ≡ octet_at b 0 → (x ≡ y → ⊥) → false ≡ alike a b
first_differs a b ex ey ne = ⊎_elim same (λ e. sym e) (bool (alike a b))
  where
    same : alike a b ≡ true → false ≡ alike a b
    same e = absurd (ne (ex ∙ ap (λ (l : List ℕ). octet_at l 0) (alike_true a b e) ∙ sym ey))
