-- A taking touches just its message's cells (S-8): the cell of its first has its record afterwards, those of its others are zeros, every
-- other row is the same, octet by octet.
-- Assumes nothing.
use Prim.Native.Nat.{ℕ, ◌<◌}
use mathlib.Core.Path.{◌≡◌, refl, ap, sym, ◌∙◌}
use mathlib.Core.Logic.{◌↔◌, ◌⊎◌, inl, inr}
use mathlib.Core.Bool.{Bool, true, false, false≢true}
use mathlib.Core.List.Memᴰ
use mathlib.Core.List.{List}
use mathlib.Core.Option.{none}
use Rattle.octets.specs.Octets.{pick, Octets}
use Rattle.octets.proofs.Lists.{bool}
use Rattle.walk.specs.declared.Settings.{Settings}
use Rattle.cells.specs.Segments.{Seg, carries}
use Rattle.cells.specs.Rows.{Cell, held, row_at, zero_row, cell_of, segment_in, by_segment}
use Rattle.cells.specs.Order.{carries_in, cell_at, count_in}
use Rattle.cells.proofs.CellSegments.{segment_or}
use Rattle.cells.specs.Messages.{Run, segments, among, among_in}
use Rattle.taking.specs.Taking.{message, took, store_less, record_of}
use Rattle.cells.proofs.StoreOrder.{cells_inside, order_tells}
use Rattle.cells.proofs.Distinct.{carries_yes, carries_true}
use Rattle.cells.proofs.Members.{In, among_yes, among_some}
use Rattle.taking.proofs.Keeps.{row_taken}
use Rattle.taking.proofs.Tells.{taken_tells, segment_held}

-- ---- the cells of some segments

among_in_lem : (us : List Seg) (x : Cell) → among_in us x ≡ true → (u : Seg) × (x ≡ held u) × (among us u ≡ true)
among_in_lem us x e = go (segment_or x)
  where
    go : ((u : Seg) × (x ≡ held u)) ⊎ (segment_in x ≡ none) → (u : Seg) × (x ≡ held u) × (among us u ≡ true)
    go (inl w) = (w.0, w.1, sym (ap (among_in us) w.1) ∙ e)
    go (inr n) = absurd (false≢true (sym (ap (by_segment false (among us)) n) ∙ e))

-- the store after the message is taken
abbrev pub after : Settings → ℕ → List ℕ → Run → List ℕ
after s Z st r = store_less s Z st (count_in Z st) (message r)

module _ (s : Settings) (Z : ℕ) (st : List ℕ) (o : Octets st) (long : ℕ) (r : Run) (e : took s Z st long ≡ message r) where
  module _ (j : ℕ) (l : j < count_in Z st) where
    -- S-8: the cells that are given up are those that hold a segment of the message
    pub message_cell : among_in (segments r) (cell_at s Z st j) ≡ true ↔ ((t : Seg) × In t (segments r) × (cell_at s Z st j ≡ held t))
    message_cell = (to, λ w. ap (among_in (segments r)) w.2 ∙ among_yes (segments r) w.0 w.0 w.1 refl refl)
      where
        to : among_in (segments r) (cell_at s Z st j) ≡ true → (t : Seg) × In t (segments r) × (cell_at s Z st j ≡ held t)
        to d =
            let a = among_in_lem (segments r) (cell_at s Z st j) d in
            let b = among_some (segments r) a.0 a.2 in
            let c = segment_held s Z st long r e b.0 b.1 in
            let w = order_tells s Z st (taken_tells s Z st long r e).order in
            let k : c.0 ≡ j = w.apart c.0 j b.0 a.0 c.1 l c.2 a.1 b.2 b.3 in
            (b.0, b.1, ap (cell_at s Z st) (sym k) ∙ c.2)

    among_row : (t : Seg) → In t (segments r) → cell_at s Z st j ≡ held t →
        row_at Z (after s Z st r) j ≡ pick (carries r.head.key r.head.counter t) (record_of Z r) (zero_row Z)
    among_row t m d =
        row_taken s Z st o (count_in Z st) r (cells_inside Z st) (taken_tells s Z st long r e).picked j l
        ∙ ap (λ (b : Bool). pick b (pick (carries_in r.head.key r.head.counter (cell_at s Z st j)) (record_of Z r) (zero_row Z)) (row_at Z st j))
        (message_cell.1 (t, m, d))
        ∙ ap (λ (x : Cell). pick (carries_in r.head.key r.head.counter x) (record_of Z r) (zero_row Z)) d

    -- the cell of its first has its record
    pub recorded_row : cell_at s Z st j ≡ held r.head → row_at Z (after s Z st r) j ≡ record_of Z r
    recorded_row d =
        among_row r.head (Memᴰ.head refl) d
        ∙ ap (λ (b : Bool). pick b (record_of Z r) (zero_row Z)) (carries_yes r.head.key r.head.counter r.head refl refl)

    -- any other one of its cells is zeros
    pub zeroed_row : (t : Seg) → In t (segments r) → (t.counter ≡ r.head.counter → ⊥) → cell_at s Z st j ≡ held t →
        row_at Z (after s Z st r) j ≡ zero_row Z
    zeroed_row t m q d = among_row t m d ∙ go (bool (carries r.head.key r.head.counter t))
      where
        go : (carries r.head.key r.head.counter t ≡ true) ⊎ (carries r.head.key r.head.counter t ≡ false) →
            pick (carries r.head.key r.head.counter t) (record_of Z r) (zero_row Z) ≡ zero_row Z
        go (inl h) = absurd (q (sym (carries_true r.head.key r.head.counter t h).1))
        go (inr h) = ap (λ (b : Bool). pick b (record_of Z r) (zero_row Z)) h

    -- any other is as it was, octet by octet
    pub other_row : ((t : Seg) → In t (segments r) → cell_at s Z st j ≡ held t → ⊥) → row_at Z (after s Z st r) j ≡ row_at Z st j
    other_row h = row_taken s Z st o (count_in Z st) r (cells_inside Z st) (taken_tells s Z st long r e).picked j l ∙ go (among_in (segments r) (cell_at s Z st j)) refl
      where
        go : (b : Bool) → among_in (segments r) (cell_at s Z st j) ≡ b →
            pick b (pick (carries_in r.head.key r.head.counter (cell_at s Z st j)) (record_of Z r) (zero_row Z)) (row_at Z st j) ≡ row_at Z st j
        go true d = let w = message_cell.0 d in absurd (h w.0 w.1 w.2)
        go false d = refl

    pub other_cell : ((t : Seg) → In t (segments r) → cell_at s Z st j ≡ held t → ⊥) → cell_at s Z (after s Z st r) j ≡ cell_at s Z st j
    other_cell h = ap (cell_of s Z) (other_row h)
