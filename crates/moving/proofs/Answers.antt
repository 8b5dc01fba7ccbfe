-- What a move answers and leaves, test by test: 15 and 16 of the store, 16 of the target's length, 32, and 0.
-- Assumes nothing.
use Prim.Native.Nat.{ℕ, ◌*◌, ◌≤◌, ◌<◌}
use mathlib.Core.Path.{◌≡◌, refl, ap, ap₂, sym, ◌∙◌}
use mathlib.Core.Logic.{◌⊎◌, inl, inr}
use mathlib.Core.Bool.{Bool, true, false}
use mathlib.Core.List.{List}
use native.Mathlib.Omega.{arith}
use native.Mathlib.Nat.{mul-le-mul}
use lib.ListN.{length}
use lib.Dec.{leb, eqb}
use borrow.Author.Tests.{le-leb, lt-leb, leb-true, eq-eqb, ne_eqb, eqb-true, eqb-false}
use Rattle.octets.specs.Octets.{pick}
use Rattle.octets.proofs.Lists.{bool}
use Rattle.walk.specs.declared.Settings.{Settings}
use Rattle.walk.specs.declared.Refusal.{Refusal}
use Rattle.walk.specs.Walk.{begun, refusal}
use Rattle.cells.specs.Order.{count_in, in_order, gate}
use Rattle.cells.specs.Opening.{Opened, opened_of}
use Rattle.cells.proofs.Gate.{order_has, through_open, through_shut, opened_order, opened_refusal, opened_gate, opened_cells}
use Rattle.moving.specs.Answer.{Moved}
use Rattle.moving.specs.Moving.{rows_as, first_too_long, moved_in, moved_by, cell_by, target_by}
use Rattle.moving.specs.Told.{moved_of}

gate_not : (s : Settings) (Y : ℕ) (st : List ℕ) → gate s Y st ≡ 32 → ⊥
unfolding gate
gate_not s Y st e = told (eqb (begun s).refused 0) (in_order s Y st) e
  where
    told : (a b : Bool) → ◌≡◌ {A = ℕ} (pick a (pick b 0 16) 15) 32 → ⊥
    told true true e = omega arith
    told true false e = omega arith
    told false b e = omega arith

module _ (s : Settings) (Y Z : ℕ) (st : List ℕ) (m : ℕ) where
  abbrev n : ℕ
  n = count_in Y st

  pub answer_shut : (gate s Y st ≡ 0 → ⊥) → moved_by s Y Z st m ≡ gate s Y st
  unfolding moved_by
  answer_shut h = through_shut (gate s Y st) (moved_in s Y Z st m) (λ k. k) h

  answer_open : gate s Y st ≡ 0 → moved_by s Y Z st m ≡ moved_in s Y Z st m
  unfolding moved_by
  answer_open g = through_open (gate s Y st) (moved_in s Y Z st m) (λ k. k) g

  answer_by_lem : {a b : Bool} → gate s Y st ≡ 0 → eqb m (n * Z) ≡ a → leb n (first_too_long s Y Z st n) ≡ b → moved_by s Y Z st m ≡ pick a (pick b 0 32) 16
  unfolding moved_in
  answer_by_lem g e f = answer_open g ∙ ap₂ (λ (a b : Bool). pick a (pick b 0 32) 16) e f

  pub answer_16 : gate s Y st ≡ 0 → (m ≡ n * Z → ⊥) → moved_by s Y Z st m ≡ 16
  answer_16 g h = answer_by_lem g (ne_eqb m (n * Z) h) refl

  pub answer_32 : gate s Y st ≡ 0 → m ≡ n * Z → first_too_long s Y Z st n < n → moved_by s Y Z st m ≡ 32
  answer_32 g e h = answer_by_lem g (eq-eqb m (n * Z) e) (lt-leb n (first_too_long s Y Z st n) h)

  pub answer_0 : gate s Y st ≡ 0 → m ≡ n * Z → n ≤ first_too_long s Y Z st n → moved_by s Y Z st m ≡ 0
  answer_0 g e h = answer_by_lem g (eq-eqb m (n * Z) e) (le-leb n (first_too_long s Y Z st n) h)

  -- and what is known of a store that is moved
  pub record Passed : Type 0 where
    pub gated : gate s Y st ≡ 0
    pub long : m ≡ n * Z
    pub short : n ≤ first_too_long s Y Z st n

  pub passed : moved_by s Y Z st m ≡ 0 → Passed
  passed e = go (bool (eqb (gate s Y st) 0))
    where
      tests : (a b : Bool) → ◌≡◌ {A = ℕ} (pick a (pick b 0 32) 16) 0 → (a ≡ true) × (b ≡ true)
      tests true true e = (refl, refl)
      tests true false e = absurd (omega arith)
      tests false b e = absurd (omega arith)

      go : (eqb (gate s Y st) 0 ≡ true) ⊎ (eqb (gate s Y st) 0 ≡ false) → Passed
      go (inl a) =
          let g = eqb-true (gate s Y st) 0 a in
          let t = tests (eqb m (n * Z)) (leb n (first_too_long s Y Z st n)) (sym (answer_by_lem g refl refl) ∙ e) in
          record { gated = g; long = eqb-true m (n * Z) t.0; short = leb-true n (first_too_long s Y Z st n) t.1 }
      go (inr a) = absurd (shut_zero a)
        where
          shut_zero : eqb (gate s Y st) 0 ≡ false → ⊥
          shut_zero a = let g = eqb-false (gate s Y st) 0 a in g (sym (answer_shut g) ∙ e)

  -- ---- as the code answers it

  told_by_lem :
      {k : ℕ} {i : ℕ} → moved_by s Y Z st m ≡ k → pick (eqb k 32) (first_too_long s Y Z st n) 0 ≡ i →
      record { refusal = refusal k; cell = i } ≡ moved_of s Y Z st m
  unfolding moved_of cell_by
  told_by_lem {k} {i} e f =
      ap (λ (x : ℕ). record { refusal = refusal k; cell = x }) (sym f)
      ∙ ap (λ (x : ℕ). record { refusal = refusal x; cell = pick (eqb x 32) (first_too_long s Y Z st n) 0 }) (sym e)

  pub told_shut : {r : Refusal} → r ≡ refusal (gate s Y st) → (r.number ≡ 0 → ⊥) → record { refusal = r; cell = 0 } ≡ moved_of s Y Z st m
  told_shut {r} e h =
      ap (λ (x : Refusal). record { refusal = x; cell = 0 }) e
      ∙ told_by_lem (answer_shut (λ g. h (ap (λ (x : Refusal). x.number) e ∙ g)))
      (ap (λ (b : Bool). pick b (first_too_long s Y Z st n) 0) (ne_eqb (gate s Y st) 32 (gate_not s Y st)))

  pub told_16 : moved_by s Y Z st m ≡ 16 → record { refusal = refusal 16; cell = 0 } ≡ moved_of s Y Z st m
  told_16 e = told_by_lem e refl

  pub told_32 : {i : ℕ} → moved_by s Y Z st m ≡ 32 → i ≡ first_too_long s Y Z st n → record { refusal = refusal 32; cell = i } ≡ moved_of s Y Z st m
  told_32 e f = told_by_lem e (sym f)

  pub told_0 : moved_by s Y Z st m ≡ 0 → record { refusal = refusal 0; cell = 0 } ≡ moved_of s Y Z st m
  told_0 e = told_by_lem e refl

-- ---- the target

module _ (s : Settings) (Y Z : ℕ) (st t : List ℕ) where
  pub target_kept : {k : ℕ} → moved_by s Y Z st (length t) ≡ k → (k ≡ 0 → ⊥) → target_by s Y Z st t ≡ t
  unfolding target_by
  target_kept {k} e h = rw (e, ne_eqb k 0 h) refl

  pub target_made : moved_by s Y Z st (length t) ≡ 0 → target_by s Y Z st t ≡ rows_as Y Z st (count_in Y st)
  unfolding target_by
  target_made e = rw e refl

-- ---- by what the check of the store has told

-- the octets of so many cells
pub octets_top : {n z : ℕ} → n ≤ 4096 → z ≤ 2048 → n * z ≤ 8388608
octets_top a b = mul-le-mul a b

module _ (s : Settings) (Y Z : ℕ) (st : List ℕ) (m : ℕ) {o : Opened} (eo : o ≡ opened_of s Y st) where
  pub shut : (o.refusal.number ≡ 0 → ⊥) → record { refusal = o.refusal; cell = 0 } ≡ moved_of s Y Z st m
  shut h = told_shut s Y Z st m (opened_refusal s Y st eo) h

  module _ (z : o.refusal.number ≡ 0) where
    cells_are : o.cells ≡ count_in Y st
    cells_are = opened_cells s Y st eo z

    open_gate : gate s Y st ≡ 0
    open_gate = opened_gate s Y st eo z

    pub cells_most_lem : o.cells ≤ 4096
    cells_most_lem = omega (arith, cells_are, (order_has s Y st (opened_order s Y st open_gate)).most)

    pub other_length : {r : Refusal} → (m ≡ o.cells * Z → ⊥) → r ≡ refusal 16 → record { refusal = r; cell = 0 } ≡ moved_of s Y Z st m
    other_length h e =
        ap (λ (x : Refusal). record { refusal = x; cell = 0 }) e
        ∙ told_16 s Y Z st m (answer_16 s Y Z st m open_gate (λ l. h (l ∙ ap (λ (c : ℕ). c * Z) (sym cells_are))))

    module _ (l : m ≡ o.cells * Z) {i : ℕ} (ei : i ≡ first_too_long s Y Z st o.cells) where
      long_is : m ≡ count_in Y st * Z
      long_is = l ∙ ap (λ (c : ℕ). c * Z) cells_are

      first_is : i ≡ first_too_long s Y Z st (count_in Y st)
      first_is = ei ∙ ap (first_too_long s Y Z st) cells_are

      pub packet_long : {r : Refusal} → i < o.cells → r ≡ refusal 32 → record { refusal = r; cell = i } ≡ moved_of s Y Z st m
      packet_long h e =
          ap (λ (x : Refusal). record { refusal = x; cell = i }) e
          ∙ told_32 s Y Z st m (answer_32 s Y Z st m open_gate long_is (omega (arith, first_is, cells_are))) first_is

      pub all_short : {r : Refusal} → o.cells ≤ i → r ≡ refusal 0 → record { refusal = r; cell = 0 } ≡ moved_of s Y Z st m
      all_short h e =
          ap (λ (x : Refusal). record { refusal = x; cell = 0 }) e
          ∙ told_0 s Y Z st m (answer_0 s Y Z st m open_gate long_is (omega (arith, first_is, cells_are)))

-- ---- by the answer

-- the number in it
pub number_told : (s : Settings) (Y Z : ℕ) (st : List ℕ) (m : ℕ) {r : Moved} → r ≡ moved_of s Y Z st m → moved_by s Y Z st m ≡ r.refusal.number
unfolding moved_of
number_told s Y Z st m e = ap (λ (x : Moved). x.refusal.number) (sym e)

module _ (s : Settings) (Y Z : ℕ) (st t : List ℕ) {r : Moved} (er : r ≡ moved_of s Y Z st (length t)) where
  pub refused_kept : (r.refusal.number ≡ 0 → ⊥) → t ≡ target_by s Y Z st t
  refused_kept h = sym (target_kept s Y Z st t (number_told s Y Z st (length t) er) h)

  module _ (z : r.refusal.number ≡ 0) {n : ℕ} (count_is : n ≡ count_in Y st) where
    moves : moved_by s Y Z st (length t) ≡ 0
    moves = number_told s Y Z st (length t) er ∙ z

    pass : Passed s Y Z st (length t)
    pass = passed s Y Z st (length t) moves

    pub target_long : length t ≡ n * Z
    target_long = pass.long ∙ ap (λ (c : ℕ). c * Z) (sym count_is)

    pub accepted_made : {x : List ℕ} → x ≡ rows_as Y Z st n → x ≡ target_by s Y Z st t
    accepted_made ex = ex ∙ ap (rows_as Y Z st) count_is ∙ sym (target_made s Y Z st t moves)
