-- A store's cells after a taking (S-8): in the cell of its message's first segment stands the record of it, its other cells are freed, and
-- every other is as it was; so a taking keeps a store in order (S-9), and as long as it was.
-- Assumes nothing.
use Prim.Native.Nat.{ℕ, ◌*◌, ◌≤◌, ◌<◌}
use mathlib.Core.Path.{◌≡◌, refl, ap, ap₂, sym, ◌∙◌}
use mathlib.Core.Logic.{◌⊎◌, inl, inr, ⊎_elim}
use mathlib.Core.Bool.{Bool, true, false, false≢true}
use mathlib.Core.List.{List}
use mathlib.Core.Option.{Option, none, some}
use native.Mathlib.Omega.{arith}
use lib.ListN.{length, length-replicate}
use Rattle.octets.specs.Octets.{pick, Octets, alike}
use Rattle.octets.proofs.Lists.{bool, alike_true, alike_self}
use Rattle.walk.specs.declared.Settings.{Settings}
use Rattle.packet.specs.Numbers.{next_counter, steps_most}
use Rattle.cells.specs.Segments.{Seg, carries, both, reaches}
use Rattle.cells.specs.Rows.{Range, Cell, free, held, taken, segment_in, by_segment, row_at, zero_row, cell_of}
use Rattle.cells.specs.Order.{is_sound, carries_in, covers, cell_at, count_in, in_order}
use Rattle.cells.specs.Inner.{within}
use Rattle.cells.specs.Messages.{Run, segments, cells_of, picked, among, among_in}
use Rattle.cells.proofs.Held.{both_true}
use Rattle.cells.proofs.HeldRow.{zero_free}
use Rattle.cells.proofs.StoreOrder.{cells_inside, order_tells, order_same}
use Rattle.taking.specs.Taking.{Took, message, unable, took, record_of, left_by, left_in, store_less}
use Rattle.taking.proofs.Clears.{standing, Whole, cleared_long, cleared_row}
use Rattle.taking.proofs.Leaves.{record_long}
use Rattle.taking.proofs.Recorded.{range_left, known, record_reads}
use Rattle.taking.proofs.Tells.{taken_tells}

pub take_long : (Z : ℕ) (st : List ℕ) (s : Settings) (n : ℕ) (t : Took) → length (store_less s Z st n t) ≡ length st
unfolding store_less
take_long Z st s n (message r) = cleared_long (λ i. left_in Z r (cell_at s Z st i)) Z st n
take_long Z st s n (unable k) = refl

-- ---- the row that is left in a cell

module _ (Z : ℕ) (r : Run) where
  -- by the tests on the cell
  left_row : (c : Cell) (x : List ℕ) →
      standing (left_in Z r c) x ≡ pick (among_in (segments r) c) (pick (carries_in r.head.key r.head.counter c) (record_of Z r) (zero_row Z)) x
  left_row c x = go (segment_in c)
    where
      one : (b : Bool) (y : List ℕ) → standing (pick b (some y) none) x ≡ pick b y x
      one true y = refl
      one false y = refl

      go :
          (o : Option Seg) →
          standing (by_segment none (λ t. pick (among (segments r) t) (some (left_by Z r t)) none) o) x
          ≡ pick (by_segment false (among (segments r)) o)
          (pick (by_segment false (carries r.head.key r.head.counter) o) (record_of Z r) (zero_row Z)) x
      go none = refl
      go (some t) = one (among (segments r) t) (left_by Z r t)

  -- it has the size of a cell
  left_size : length (record_of Z r) ≡ Z → (f : ℕ → Cell) → Whole (λ j. left_in Z r (f j)) Z
  left_size h f j x = go (segment_in (f j))
    where
      size : (b : Bool) → length (pick b (record_of Z r) (zero_row Z)) ≡ Z
      size true = h
      size false = length-replicate Z 0

      one : (t : Seg) (b : Bool) → pick b (some (left_by Z r t)) none ≡ some x → length x ≡ Z
      one t true e = let d : left_by Z r t ≡ x = cc in ap length (sym d) ∙ size (carries r.head.key r.head.counter t)
      one t false e = let z : ◌≡◌ {A = ℕ} 0 1 = cc in absurd (omega arith)

      go : (o : Option Seg) → by_segment none (λ t. pick (among (segments r) t) (some (left_by Z r t)) none) o ≡ some x → length x ≡ Z
      go none e = let z : ◌≡◌ {A = ℕ} 0 1 = cc in absurd (omega arith)
      go (some t) e = one t (among (segments r) t) e

-- ---- the cells after a taking

module _ (s : Settings) (Z : ℕ) (st : List ℕ) (o : Octets st) (n : ℕ) (r : Run) (l : n * Z ≤ length st)
    (e : picked next_counter steps_most (cells_of s Z st n) ≡ some r) where
  record_size : length (record_of Z r) ≡ Z
  unfolding record_of
  record_size = record_long Z r.head.key r.head.counter _ (known s Z st n o r e).fits

  -- the record is laid over the first's row, zeros over each other row of the message, and no other row changes
  pub row_taken : (j : ℕ) → j < n → row_at Z (store_less s Z st n (message r)) j ≡ pick (among_in (segments r) (cell_at s Z st j))
      (pick (carries_in r.head.key r.head.counter (cell_at s Z st j)) (record_of Z r) (zero_row Z)) (row_at Z st j)
  unfolding store_less
  row_taken j h =
      cleared_row (λ i. left_in Z r (cell_at s Z st i)) Z st (left_size Z r record_size (cell_at s Z st)) n j l h
      ∙ left_row Z r (cell_at s Z st j) (row_at Z st j)

  -- the cell of the first is a record, each other cell of the message is freed, and no other cell changes
  pub cell_taken : (j : ℕ) → j < n → cell_at s Z (store_less s Z st n (message r)) j ≡ pick (among_in (segments r) (cell_at s Z st j))
      (pick (carries_in r.head.key r.head.counter (cell_at s Z st j)) (taken (range_left r)) free) (cell_at s Z st j)
  cell_taken j h =
      ap (cell_of s Z) (row_taken j h)
      ∙ go (among_in (segments r) (cell_at s Z st j)) (carries_in r.head.key r.head.counter (cell_at s Z st j))
    where
      go : (a b : Bool) → cell_of s Z (pick a (pick b (record_of Z r) (zero_row Z)) (row_at Z st j)) ≡ pick a (pick b (taken (range_left r)) free) (cell_at s Z st j)
      go true true = record_reads s Z st n o r (known s Z st n o r e)
      go true false = zero_free s Z
      go false b = refl

-- ---- the order

module _ (r : Run) where
  -- the cell afterwards, by the tests on it
  abbrev after : Bool → Bool → Cell → Cell
  after a b c = pick a (pick b (taken (range_left r)) free) c

  after_sound : (a b : Bool) (c : Cell) → is_sound c ≡ true → is_sound (after a b c) ≡ true
  after_sound true true c e = refl
  after_sound true false c e = refl
  after_sound false b c e = e

  -- one that holds a segment held it before, and is not of the message
  pub after_held : (a b : Bool) (c : Cell) (t : Seg) → after a b c ≡ held t → (c ≡ held t) × (a ≡ false)
  after_held true true c t e = let z : ◌≡◌ {A = ℕ} 0 1 = cc in absurd (omega arith)
  after_held true false c t e = let z : ◌≡◌ {A = ℕ} 0 1 = cc in absurd (omega arith)
  after_held false b c t e = (e, refl)

  -- one that is a record was it before, or is that of the message
  pub after_record : (a b : Bool) (c : Cell) (g : Range) → after a b c ≡ taken g → (c ≡ taken g) ⊎ (range_left r ≡ g)
  after_record true true c g e = inr (cc e)
  after_record true false c g e = let z : ◌≡◌ {A = ℕ} 0 1 = cc in absurd (omega arith)
  after_record false b c g e = inl e

  -- a segment that is not of the message is not in its range
  outside : (t : Seg) → ((t : Seg) → among (segments r) t ≡ within next_counter r.head.key r.head.counter (length r.rest) t) →
      among (segments r) t ≡ false → covers t.key t.counter (range_left r) ≡ false
  unfolding covers
  outside t own not_one = ⊎_elim inside (λ f. f) (bool (covers t.key t.counter (range_left r)))
    where
      inside : covers t.key t.counter (range_left r) ≡ true → covers t.key t.counter (range_left r) ≡ false
      inside f =
          let a = both_true (reaches next_counter (length r.rest) r.head.counter t.counter) (alike t.key r.head.key) f in
          let k = alike_true t.key r.head.key a.1 in
          let b : alike r.head.key t.key ≡ true = ap (alike r.head.key) k ∙ alike_self r.head.key in
          absurd (false≢true (sym not_one ∙ own t ∙ ap₂ both a.0 b))

module _ (s : Settings) (Z : ℕ) (st : List ℕ) (o : Octets st) where
  -- the message that is picked may be taken
  pub taken_keeps :
      (r : Run) → picked next_counter steps_most (cells_of s Z st (count_in Z st)) ≡ some r → in_order s Z st ≡ true →
      in_order s Z (store_less s Z st (count_in Z st) (message r)) ≡ true
  taken_keeps r e w =
      let d = order_tells s Z st w in
      order_same s Z st x (take_long Z st s (count_in Z st) (message r)) d
      (λ j l. ap is_sound (then j l) ∙ after_sound r (own j) (first j) (cell_at s Z st j) (d.sound j l))
      (λ j k t u l m a b p q. d.apart j k t u l m (before j t l a).0 (before k u m b).0 p q)
      (λ j k t g l m a b.
      ⊎_elim
      (λ c. d.clear j k t g l m (before j t l a).0 c)
      (λ c.
      ap (covers t.key t.counter) (sym c)
      ∙ outside r t (known s Z st (count_in Z st) o r e).own (sym (ap (among_in (segments r)) (before j t l a).0) ∙ (before j t l a).1))
      (after_record r (own k) (first k) (cell_at s Z st k) g (sym (then k m) ∙ b)))
    where
      x : List ℕ
      x = store_less s Z st (count_in Z st) (message r)

      own : ℕ → Bool
      own j = among_in (segments r) (cell_at s Z st j)

      first : ℕ → Bool
      first j = carries_in r.head.key r.head.counter (cell_at s Z st j)

      then : (j : ℕ) → j < count_in Z st → cell_at s Z x j ≡ after r (own j) (first j) (cell_at s Z st j)
      then j l = cell_taken s Z st o (count_in Z st) r (cells_inside Z st) e j l

      before : (j : ℕ) (t : Seg) → j < count_in Z st → cell_at s Z x j ≡ held t → (cell_at s Z st j ≡ held t) × (own j ≡ false)
      before j t l a = after_held r (own j) (first j) (cell_at s Z st j) t (sym (then j l) ∙ a)

  -- S-9: a store in order is in order after a taking
  pub take_keeps : (long : ℕ) → in_order s Z st ≡ true → in_order s Z (store_less s Z st (count_in Z st) (took s Z st long)) ≡ true
  unfolding store_less
  take_keeps long w = go (took s Z st long) refl
    where
      go : (t : Took) → took s Z st long ≡ t → in_order s Z (store_less s Z st (count_in Z st) t) ≡ true
      go (message r) e = taken_keeps r (taken_tells s Z st long r e).picked w
      go (unable k) e = w
