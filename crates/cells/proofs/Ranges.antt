-- A cell put on the chain of its block if it is a record, as the code does it; and a pass over the cells.
-- Assumes nothing.
use Prim.Native.Nat.{ℕ, ◌+◌, ◌≤◌, ◌<◌}
use mathlib.Core.Path.{◌≡◌, ap, ap₂, sym, ◌∙◌}
use mathlib.Core.Logic.{⊎_elim}
use mathlib.Core.Bool.{Bool, true, false, not}
use mathlib.Core.Option.{none}
use mathlib.Core.List.{List}
use native.Mathlib.Omega.{arith}
use lib.Dec.{eqb}
use borrow.Author.Tests.{eq-eqb, not-true}
use Rattle.octets.specs.Octets.{Octets, octet_at, part, number}
use Rattle.walk.specs.declared.Settings.{Settings}
use Rattle.cells.specs.declared.Judged.{Judged}
use Rattle.cells.specs.Rows.{Cell, range_in, by_range, row_at, cell_of, key_long, steps_between, range_of}
use Rattle.cells.specs.Order.{cells_most, cell_at, untaken}
use Rattle.cells.specs.Inner.{body_in, judged_of, told_taken, told_header}
use Rattle.cells.specs.declared.Chains.{Chains}
use Rattle.cells.specs.Chains.{chains_all, pushed, Chained}
use Rattle.cells.specs.Blocks.{block_of, block_chain, chain_by, range_chain, taken_at, no_marks}
use Rattle.cells.proofs.Apart.{all_at}
use Rattle.cells.proofs.Covered.{Clear, clear_untaken}
use Rattle.cells.proofs.Chaining.{chained_skip, chained_push}
use Rattle.cells.proofs.Bodies.{row_plain}
use Rattle.cells.proofs.Carries.{not_held}
use Rattle.cells.proofs.CellSegments.{taken_not}
use Rattle.cells.proofs.Records.{Recording, record_mark, record_is, record_or}
use Rattle.cells.proofs.Covering.{judged_taken, judged_header}

pub chain_low : (m j x : ℕ) → block_chain m j x < chains_all
unfolding block_chain
chain_low m j x = omega arith

module _ (s : Settings) (st : List ℕ) (Z i : ℕ) {r : List ℕ} (er : r ≡ row_at Z st i) where
  -- no record: it is on no chain
  module _ (e : range_in (cell_at s Z st i) ≡ none) where
    pub none_chained : {T : Chains} → Chained (taken_at s Z st) T i → i < cells_most → Chained (taken_at s Z st) T (i + 1)
    unfolding taken_at
    none_chained c l =
        let w : taken_at s Z st i ≡ chains_all = ap (by_range chains_all (λ g. chain_by g.key (block_of g.first g.steps))) e in
        chained_skip c l (omega arith)

  pub mark_none : {m : ℕ} → m ≡ octet_at r 1 → (m ≡ 0x54 → ⊥) → range_in (cell_at s Z st i) ≡ none
  mark_none em h =
      ⊎_elim
      (λ w. absurd (h (em ∙ ap (λ (x : List ℕ). octet_at x 1) er ∙ record_mark s Z (row_at Z st i) w)))
      (λ w. w)
      (record_or s Z (row_at Z st i))

  module _ (o : Octets st) {t : Judged} (et : t ≡ judged_of (body_in s r) (cell_of s Z r)) where
    pub row_octets : Octets r
    row_octets = rw er (row_plain s Z st i o)

    pub judged_none : told_taken t ≡ false → range_in (cell_at s Z st i) ≡ none
    judged_none h =
        ⊎_elim
        (λ w. absurd (not_held (judged_header s Z r row_octets et w).0 h))
        (λ w. ap (λ (x : List ℕ). range_in (cell_of s Z x)) (sym er) ∙ w)
        (record_or s Z r)

    module _ (one : told_taken t ≡ true) where
      there : Recording s Z r
      there = judged_taken s Z r row_octets et one

      cell_is : {A : Type 0} (f : Cell → A) → f (cell_at s Z st i) ≡ f (cell_of s Z r)
      cell_is f = ap (λ (x : List ℕ). f (cell_of s Z x)) (sym er)

      module _ {b : ℕ}
          (eb : b ≡ chain_by (part r 2 (2 + told_header t)) (block_of (number 4 r (4 + told_header t)) (steps_between (number 4 r (4 + told_header t)) (number 4 r (4 + told_header t + 4))))) where
        chain_is : b ≡ taken_at s Z st i
        unfolding taken_at range_of
        chain_is =
            let l = (judged_header s Z r row_octets et there).1 in
            let n : 4 + told_header t ≡ 2 + key_long s r = omega (arith, l) in
            eb
            ∙ ap₂ (λ (x y : ℕ). chain_by (part r 2 x) (block_of (number 4 r y) (steps_between (number 4 r y) (number 4 r (y + 4))))) l n
            ∙ sym (cell_is range_chain ∙ ap range_chain (record_is s Z r there))

        pub some_low : b < chains_all
        some_low = rw eb (chain_low _ _ _)

        pub some_chained :
            {T T' : Chains} → Chained (taken_at s Z st) T i → i < cells_most → T' ≡ pushed i b T →
            Chained (taken_at s Z st) T' (i + 1)
        some_chained d l et = rw (et, chain_is) (chained_push d l (rw chain_is at some_low))

-- ---- the pass

pub record Linking (s : Settings) (Z : ℕ) (st : List ℕ) (n : ℕ) (T : Chains) (i : ℕ) : Type 0 where
  pub most : i ≤ n
  pub chained : Chained (taken_at s Z st) T i

module _ {s : Settings} {Z : ℕ} {st : List ℕ} {n : ℕ} {T : Chains} where
  pub linking_first : Chained (taken_at s Z st) T 0 → Linking s Z st n T 0
  linking_first c = record { most = omega arith; chained = c }

  pub linking_done : {i : ℕ} → Linking s Z st n T i → n ≤ i → Chained (taken_at s Z st) T n
  linking_done {i} p h = let e : i ≡ n = omega (arith, p.most) in rw e at p.chained

-- ---- without records no segment lies in a range

pub markless_untaken : (s : Settings) (Z : ℕ) (st : List ℕ) (n : ℕ) {b : Bool} → b ≡ no_marks Z st n → b ≡ true → true ≡ untaken s Z st n
unfolding no_marks
markless_untaken s Z st n e f = sym (clear_untaken s Z st n clear)
  where
    unmarked : (j : ℕ) → j < n → Recording s Z (row_at Z st j) → ⊥
    unmarked j l w =
        not_held
        (eq-eqb (octet_at (row_at Z st j) 1) 0x54 (record_mark s Z (row_at Z st j) w))
        (not-true (eqb (octet_at (row_at Z st j) 1) 0x54) (all_at (λ m. not (eqb (octet_at (row_at Z st m) 1) 0x54)) n j (sym e ∙ f) l))

    clear : Clear s Z st n
    clear i j t g h l a b =
        absurd (⊎_elim (λ w. unmarked j l w) (λ w. taken_not (cell_at s Z st j) b w) (record_or s Z (row_at Z st j)))
