-- A store that is moved keeps its cells, so it stays in order under the other size; and nothing in it is too long for the way back.
-- From cells to cells at least as large no packet is too long. All of this is over any two sizes that have room for a record.
-- Assumes nothing.
use Prim.Native.Nat.{ℕ, ◌+◌, ◌*◌, ◌/◌, ◌%◌, ◌≤◌, ◌<◌}
use mathlib.Core.Path.{◌≡◌, refl, ap, sym, ◌∙◌}
use mathlib.Core.Logic.{◌⊎◌, inl, inr, ⊎_elim}
use mathlib.Core.Bool.{Bool, true, false, not}
use mathlib.Core.Option.{none}
use mathlib.Core.List.{List}
use native.Mathlib.Omega.{arith}
use native.Mathlib.Nat.{mul-div_cancel, mul-mod_left}
use lib.ListN.{length}
use lib.Dec.{leb}
use borrow.Author.Tests.{leb-true}
use Rattle.octets.specs.Octets.{Octets, alike}
use Rattle.octets.proofs.Lists.{bool, below_or}
use Rattle.octets.proofs.Has.{octets_part}
use Rattle.walk.specs.declared.Settings.{Settings}
use Rattle.cells.specs.Rows.{Cell, segment_in, by_segment, row_at, zero_row, packet_in, cell_of}
use Rattle.cells.specs.Order.{is_sound, count_in, length_fits, cell_at, in_order, gate}
use Rattle.cells.specs.Messages.{cells_of}
use Rattle.cells.proofs.Scans.{fits_all}
use Rattle.cells.proofs.Carries.{Holding, kinds, free_cell}
use Rattle.cells.proofs.Records.{Recording, record_is}
use Rattle.cells.proofs.Listed.{among_below, lowest_is, lowest_some}
use Rattle.cells.proofs.StoreOrder.{order_tells}
use Rattle.cells.proofs.Gate.{order_has, gate_by, open_true}
use Rattle.moving.specs.Moving.{row_as, rows_as, too_long, first_too_long, moved_by, target_by}
use Rattle.moving.proofs.Padding.{Padded}
use Rattle.moving.proofs.Stores.{rows_long, row_as_lem}
use Rattle.moving.proofs.SameCells.{record_most, sound_or, zero_padded, zero_same, held_padded, held_same, held_packet, record_padded, record_same}
use Rattle.moving.proofs.Passing.{fits_not}
use Rattle.moving.proofs.Answers.{Passed, passed, target_made}
use Rattle.moving.proofs.KeptOrder.{cells_same, order_kept}

-- ---- one that is too long

module _ (s : Settings) (Y Z : ℕ) (r : List ℕ) where
  -- a row that holds nothing holds no such packet
  none_not : segment_in (cell_of s Y r) ≡ none → too_long s Y Z r ≡ false
  unfolding too_long
  none_not e = ap (by_segment false (λ t. not (leb (2 + length (packet_in r)) Z))) e

  -- and one that is not too long fits
  not_fits : Holding s Y r → too_long s Y Z r ≡ false → 2 + length (packet_in r) ≤ Z
  unfolding too_long
  not_fits h e =
      leb-true (2 + length (packet_in r)) Z
      (told (leb (2 + length (packet_in r)) Z)
      (sym (ap (λ (x : Cell). by_segment false (λ t. not (leb (2 + length (packet_in r)) Z)) (segment_in x)) h.cell) ∙ e))
    where
      told : (b : Bool) → not b ≡ false → b ≡ true
      told true e = refl
      told false e = sym e

  -- from smaller cells every packet fits
  pub wider_not : Y ≤ Z → too_long s Y Z r ≡ false
  wider_not l = ⊎_elim (λ h. fits_not s Y Z r (omega (arith, h.fits))) none_not (kinds s Y r)

-- ---- none of the first n

module _ (s : Settings) (Y Z : ℕ) (st : List ℕ) (n : ℕ) where
  abbrev long : ℕ → Bool
  long i = too_long s Y Z (row_at Y st i)

  pub short_each : n ≤ first_too_long s Y Z st n → (i : ℕ) → i < n → too_long s Y Z (row_at Y st i) ≡ false
  unfolding first_too_long
  short_each h i l =
      ⊎_elim (λ e. absurd (omega (arith, lowest_some long n 0 i (among_below l) e))) (λ e. e) (bool (long i))

  pub each_short : ((i : ℕ) → i < n → too_long s Y Z (row_at Y st i) ≡ false) → n ≤ first_too_long s Y Z st n
  unfolding first_too_long
  each_short h = ⊎_elim hit (λ l. l) (below_or (first_too_long s Y Z st n) n)
    where
      hit : first_too_long s Y Z st n < n → n ≤ first_too_long s Y Z st n
      hit l =
          let w = lowest_is long n 0 (omega arith) in
          let z : true ≡ false = sym w.holds ∙ h _ l in
          absurd (let y : ◌≡◌ {A = ℕ} 0 1 = cc in omega arith)

-- ---- a row of a store in order

-- a row that is moved: it ends in zeros, its cell is the same, and it may go back
pub record Goes (s : Settings) (Y Z : ℕ) (r : List ℕ) : Type 0 where
  pub padded : Padded Y Z r
  pub same : cell_of s Z (row_as Z r) ≡ cell_of s Y r
  pub returns : too_long s Z Y (row_as Z r) ≡ false

module _ (s : Settings) (Y Z : ℕ) (y : record_most ≤ Y) (z : record_most ≤ Z) where
  pub row_goes : (r : List ℕ) → Octets r → is_sound (cell_of s Y r) ≡ true → too_long s Y Z r ≡ false → Goes s Y Z r
  row_goes r o c e = go (sound_or s Y r c)
    where
      go : (alike r (zero_row Y) ≡ true) ⊎ (Holding s Y r ⊎ Recording s Y r) → Goes s Y Z r
      go (inl a) =
          let k = zero_same s Y Z r a in
          record { padded = zero_padded s Y Z r a; same = k; returns = none_not s Z Y (row_as Z r) (ap segment_in (k ∙ free_cell s Y r a)) }
      go (inr (inl h)) =
          let l = not_fits s Y Z r h e in
          let m = ap length (held_packet s Y Z r h l) in
          record { padded = held_padded s Y Z r h l; same = held_same s Y Z r h l; returns = fits_not s Z Y (row_as Z r) (omega (arith, m, h.fits)) }
      go (inr (inr w)) =
          let k = record_same s Y Z r w o y z in
          record {
            padded = record_padded s Y Z r w o y z;
            same = k;
            returns = none_not s Z Y (row_as Z r) (ap segment_in (k ∙ record_is s Y r w));
          }

  -- ---- the store

  module _ (st : List ℕ) (o : Octets st) (t : List ℕ) (e : moved_by s Y Z st (length t) ≡ 0) where
    abbrev n : ℕ
    n = count_in Y st

    abbrev x : List ℕ
    x = target_by s Y Z st t

    p : Passed s Y Z st (length t)
    p = passed s Y Z st (length t) e

    ordered : in_order s Y st ≡ true
    ordered = (open_true s Y st p.gated).1

    made : x ≡ rows_as Y Z st n
    made = target_made s Y Z st t e

    pub moved_long : length x ≡ n * Z
    moved_long = ap length made ∙ rows_long Y Z st n

    pub moved_count : count_in Z x ≡ n
    moved_count = ap (λ (k : ℕ). k / Z) moved_long ∙ mul-div_cancel n (omega arith)

    pub moved_row : (i : ℕ) → i < n → row_at Z x i ≡ row_as Z (row_at Y st i)
    moved_row i h = ap (λ (w : List ℕ). row_at Z w i) made ∙ row_as_lem Y Z st n i h

    pub each_goes : (i : ℕ) → i < n → Goes s Y Z (row_at Y st i)
    each_goes i h =
        row_goes (row_at Y st i) (octets_part st (i * Y) Y o) ((order_tells s Y st ordered).sound i h) (short_each s Y Z st n p.short i h)

    -- each cell keeps its content
    pub moved_cell : (i : ℕ) → i < n → cell_at s Z x i ≡ cell_at s Y st i
    moved_cell i h = ap (cell_of s Z) (moved_row i h) ∙ (each_goes i h).same

    pub moved_cells : cells_of s Z x n ≡ cells_of s Y st n
    moved_cells = cells_same s Y Z st x n moved_cell

    length_fits_lem : length_fits Z (length x) ≡ true
    length_fits_lem =
        let h = order_has s Y st ordered in
        fits_all Z (length x) (ap (λ (k : ℕ). k % Z) moved_long ∙ mul-mod_left n Z) (omega (arith, moved_count, h.least)) (omega (arith, moved_count, h.most))

    -- and the store its order
    pub moved_order : in_order s Z x ≡ true
    moved_order = order_kept s Y Z st x n moved_cell refl moved_count (length_fits_lem ∙ sym (order_tells s Y st ordered).fits) ∙ ordered

    pub moved_gate : gate s Z x ≡ 0
    moved_gate = gate_by s Z x (open_true s Y st p.gated).0 moved_order
