-- A cell by its segment: it holds one, or is told to hold none. Proofs over cells go by these two cases.
-- Assumes nothing.
use Prim.Native.Nat.{ℕ}
use mathlib.Core.Path.{◌≡◌, refl, ap, sym, ◌∙◌}
use mathlib.Core.Logic.{◌⊎◌, inl, inr}
use mathlib.Core.Bool.{Bool, true, false}
use mathlib.Core.Option.{none, some, some-ne-none, none-ne-some}
use native.Mathlib.Omega.{arith}
use Rattle.octets.specs.Octets.{pick}
use Rattle.packet.specs.declared.SegmentCounter.{SegmentCounter}
use Rattle.cells.specs.declared.Judged.{Judged}
use Rattle.cells.specs.declared.Judged.TheVariants.{Free, Held, Taken, Broken}
use Rattle.cells.specs.Segments.{Seg}
use Rattle.cells.specs.Rows.{Range, Cell, free, held, taken, broken, segment_in, range_in}
use Rattle.cells.specs.Order.{is_free}
use Rattle.cells.specs.Inner.{judged_of, told_held, told_taken, told_body}

pub segment_or : (x : Cell) → ((t : Seg) × (x ≡ held t)) ⊎ (segment_in x ≡ none)
segment_or free = inr refl
segment_or (held t) = inl (t, refl)
segment_or (taken g) = inr refl
segment_or broken = inr refl

-- the segment that is told is held
pub segment_is : (x : Cell) {t : Seg} → segment_in x ≡ some t → x ≡ held t
segment_is free {t} e = absurd (none-ne-some t e)
segment_is (held u) e = cc e
segment_is (taken g) {t} e = absurd (none-ne-some t e)
segment_is broken {t} e = absurd (none-ne-some t e)

-- a cell that holds one is not told to hold none
pub held_not : (x : Cell) {t : Seg} → x ≡ held t → segment_in x ≡ none → ⊥
held_not x {t} e n = some-ne-none t (sym (ap segment_in e) ∙ n)

-- a free cell holds none, and so does one that is freed
pub free_none : (x : Cell) → is_free x ≡ true → segment_in x ≡ none
free_none free e = refl
free_none (held t) e = let z : ◌≡◌ {A = ℕ} 0 1 = cc in absurd (omega arith)
free_none (taken g) e = refl
free_none broken e = refl

pub segment_freed : (b : Bool) (x : Cell) → segment_in (pick b free x) ≡ pick b none (segment_in x)
segment_freed true x = refl
segment_freed false x = refl

-- as the code judges a cell that holds none: not held, with no body
pub judged_none : (at : ℕ) (x : Cell) → segment_in x ≡ none → (told_held (judged_of at x) ≡ false) × (told_body (judged_of at x) ≡ 0)
judged_none at free e = (refl, refl)
judged_none at (held t) e = absurd (some-ne-none t e)
judged_none at (taken g) e = (refl, refl)
judged_none at broken e = (refl, refl)

-- ---- and by its range

pub range_or : (x : Cell) → ((g : Range) × (x ≡ taken g)) ⊎ (range_in x ≡ none)
range_or free = inr refl
range_or (held t) = inr refl
range_or (taken g) = inl (g, refl)
range_or broken = inr refl

-- a cell that is a record is not told to be none
pub taken_not : (x : Cell) {g : Range} → x ≡ taken g → range_in x ≡ none → ⊥
taken_not x {g} e n = some-ne-none g (sym (ap range_in e) ∙ n)

-- as the code judges a cell that is none
pub untaken_none : (at : ℕ) (x : Cell) → range_in x ≡ none → told_taken (judged_of at x) ≡ false
untaken_none at free e = refl
untaken_none at (held t) e = refl
untaken_none at (taken g) e = absurd (some-ne-none g e)
untaken_none at broken e = refl

-- what is told by the code's match: none that is held, and no record
pub unheld_told : (t : Judged) → ((at : ℕ) (c : SegmentCounter) → t ≡ Held at c → ⊥) → told_held t ≡ false
unheld_told Free h = refl
unheld_told (Held at c) h = absurd (h at c refl)
unheld_told (Taken x) h = refl
unheld_told Broken h = refl

pub untaken_told : (t : Judged) → ((h : ℕ) → t ≡ Taken h → ⊥) → told_taken t ≡ false
untaken_told Free h = refl
untaken_told (Held at c) h = refl
untaken_told (Taken x) h = absurd (h x refl)
untaken_told Broken h = refl
