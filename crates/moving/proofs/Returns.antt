-- There and back gives the same octets: a store that was moved may always go back, and then it is what it was, octet by octet. From cells to
-- cells at least as large a move is never refused by 32. And octets stay octets.
-- Assumes nothing.
use Prim.Native.Nat.{ℕ, zero, suc, ◌*◌, ◌/◌, ◌%◌, ◌≤◌, ◌<◌}
use mathlib.Core.Path.{◌≡◌, refl, ap, sym, ◌∙◌, subst}
use mathlib.Core.Logic.{◌⊎◌, inl, inr, ⊎_elim}
use mathlib.Core.Bool.{true, false}
use mathlib.Core.List.{List, ◌++◌}
use native.Mathlib.Omega.{arith}
use native.Mathlib.Nat.{mod-eq-sub-div-mul, div-mul-le_self}
use lib.ListN.{length}
use lib.Seq.{take_all}
use lib.Dec.{leb, eqb}
use borrow.Author.Tests.{eqb-true, eqb-false}
use Rattle.octets.specs.Octets.{Octets}
use Rattle.octets.proofs.Lists.{bool}
use Rattle.octets.proofs.Has.{octets_nil, octets_append, octets_take, octets_part}
use Rattle.walk.specs.declared.Settings.{Settings}
use Rattle.cells.specs.Segments.{both}
use Rattle.cells.specs.Rows.{row_at, zero_row}
use Rattle.cells.specs.Order.{cells_most, count_in, length_fits, gate}
use Rattle.cells.proofs.Held.{both_true}
use Rattle.cells.proofs.ReadsBack.{octets_zeros}
use Rattle.cells.proofs.StoreOrder.{order_tells}
use Rattle.cells.proofs.Gate.{opened_order}
use Rattle.moving.specs.Moving.{row_as, rows_as, too_long, first_too_long, moved_by, target_by}
use Rattle.moving.proofs.Stores.{rows_back}
use Rattle.moving.proofs.SameCells.{record_most}
use Rattle.moving.proofs.Answers.{passed, answer_0, answer_16, target_made, target_kept}
use Rattle.moving.proofs.Kept.{wider_not, each_short, each_goes, moved_row, moved_count, moved_gate}

-- a store in order is as long as its cells
whole : (z k : ℕ) → length_fits z k ≡ true → k ≡ k / z * z
unfolding length_fits
whole z k e =
    let a = eqb-true (k % z) 0 (both_true (eqb (k % z) 0) (both (leb 1 (k / z)) (leb (k / z) cells_most)) e).0 in
    omega (arith, a, mod-eq-sub-div-mul k z, div-mul-le_self k z)

pub order_long : (s : Settings) (Y : ℕ) (st : List ℕ) → gate s Y st ≡ 0 → length st ≡ count_in Y st * Y
order_long s Y st g = whole Y (length st) (order_tells s Y st (opened_order s Y st g)).fits

-- ---- to cells at least as large

module _ (s : Settings) (Y Z : ℕ) (st : List ℕ) (m : ℕ) (l : Y ≤ Z) where
  wider_short : count_in Y st ≤ first_too_long s Y Z st (count_in Y st)
  wider_short = each_short s Y Z st (count_in Y st) (λ i h. wider_not s Y Z (row_at Y st i) l)

  -- a store in order moves
  pub wider_moves : gate s Y st ≡ 0 → m ≡ count_in Y st * Z → moved_by s Y Z st m ≡ 0
  wider_moves g e = answer_0 s Y Z st m g e wider_short

  -- so the answer is 15 or 16 of the store, 16 of the target's length, or 0
  pub wider_answers : (gate s Y st ≡ 0 → ⊥) ⊎ ((moved_by s Y Z st m ≡ 16) ⊎ (moved_by s Y Z st m ≡ 0))
  wider_answers =
      ⊎_elim
      (λ a.
      let g = eqb-true (gate s Y st) 0 a in
      inr
      (⊎_elim
      (λ b. inr (wider_moves g (eqb-true m (count_in Y st * Z) b)))
      (λ b. inl (answer_16 s Y Z st m g (eqb-false m (count_in Y st * Z) b)))
      (bool (eqb m (count_in Y st * Z)))))
      (λ a. inl (eqb-false (gate s Y st) 0 a))
      (bool (eqb (gate s Y st) 0))

-- ---- and back

module _ (s : Settings) (Y Z : ℕ) (y : record_most ≤ Y) (z : record_most ≤ Z) (st : List ℕ) (o : Octets st) (t : List ℕ)
    (e : moved_by s Y Z st (length t) ≡ 0) where
  abbrev n : ℕ
  n = count_in Y st

  abbrev x : List ℕ
  x = target_by s Y Z st t

  store_long : length st ≡ n * Y
  store_long = order_long s Y st (passed s Y Z st (length t) e).gated

  none_long : (i : ℕ) → i < count_in Z x → too_long s Z Y (row_at Z x i) ≡ false
  none_long i h =
      let k : i < n = omega (arith, moved_count s Y Z y z st o t e) in
      ap (too_long s Z Y) (moved_row s Y Z y z st o t e i k) ∙ (each_goes s Y Z y z st o t e i k).returns

  module _ (u : List ℕ) (l : length u ≡ length st) where
    -- it may go back into any store as long as it was
    pub back_moves : moved_by s Z Y x (length u) ≡ 0
    back_moves =
        answer_0 s Z Y x (length u) (moved_gate s Y Z y z st o t e)
        (l ∙ store_long ∙ ap (λ (k : ℕ). k * Y) (sym (moved_count s Y Z y z st o t e)))
        (each_short s Z Y x (count_in Z x) none_long)

    -- and is what it was
    pub back_same : target_by s Z Y x u ≡ st
    back_same =
        target_made s Z Y x u back_moves
        ∙ ap (rows_as Z Y x) (moved_count s Y Z y z st o t e)
        ∙ ap (λ (w : List ℕ). rows_as Z Y w n) (target_made s Y Z st t e)
        ∙ rows_back Y Z st n (λ i h. (each_goes s Y Z y z st o t e i h).padded) n (omega arith)
        ∙ take_all (n * Y) st (omega (arith, store_long))

-- ---- octets stay octets

row_octets : (Z : ℕ) (r : List ℕ) → Octets r → Octets (row_as Z r)
unfolding row_as
row_octets Z r o = octets_take Z (r ++ zero_row Z) (octets_append r (zero_row Z) o (octets_zeros Z))

rows_octets : (Y Z : ℕ) (st : List ℕ) (n : ℕ) → Octets st → Octets (rows_as Y Z st n)
unfolding rows_as
rows_octets Y Z st zero o = octets_nil
rows_octets Y Z st (suc n) o =
    octets_append (rows_as Y Z st n) (row_as Z (row_at Y st n)) (rows_octets Y Z st n o) (row_octets Z (row_at Y st n) (octets_part st (n * Y) Y o))

pub moved_octets : (s : Settings) (Y Z : ℕ) (st t : List ℕ) → Octets st → Octets t → Octets (target_by s Y Z st t)
moved_octets s Y Z st t o p =
    ⊎_elim
    (λ e. subst Octets (sym (target_made s Y Z st t (eqb-true (moved_by s Y Z st (length t)) 0 e))) (rows_octets Y Z st (count_in Y st) o))
    (λ e. subst Octets (sym (target_kept s Y Z st t refl (eqb-false (moved_by s Y Z st (length t)) 0 e))) p)
    (bool (eqb (moved_by s Y Z st (length t)) 0))
