-- The complete message with its first in the lowest cell, sought cell by cell.
-- Assumes nothing.
use Prim.Native.Nat.{ℕ, suc, ◌+◌, ◌-◌, ◌≤◌, ◌<◌}
use mathlib.Core.Path.{◌≡◌, refl, ap, ap₂, sym, ◌∙◌}
use mathlib.Core.Bool.{true}
use mathlib.Core.List.{List}
use mathlib.Core.Option.{Option, none, some}
use native.Mathlib.Omega.{arith}
use native.Mathlib.Numerals.{add-one}
use lib.ListN.{length}
use Rattle.walk.specs.declared.Settings.{Settings}
use Rattle.cells.specs.Rows.{Cell}
use Rattle.cells.specs.Order.{cell_at}
use Rattle.cells.proofs.Scans.{Seeking, seeking_first, seeking_turn, seeking_found, seeking_none}
use Rattle.cells.specs.Messages.{Run, body_of, listed, or_else, cells_of, run_in, pick_in, picked}
use Rattle.std.specs.Prelude.{Option as CodeOption}
use Rattle.std.specs.Prelude.{Some, None}
use Rattle.taking.specs.Follow.{answer, message_at, chosen, is_some, opens_at, picked_of}

-- ---- an answer that is not complete is no run

answer_none : (o : Option Run) → answer o ≡ None → o ≡ none
answer_none none e = refl
answer_none (some r) e = let z : ◌≡◌ {A = ℕ} 0 1 = cc in absurd (omega arith)

answer_some : (o : Option Run) {b : ℕ} → answer o ≡ Some b → is_some o ≡ true
answer_some none e = let z : ◌≡◌ {A = ℕ} 0 1 = cc in absurd (omega arith)
answer_some (some r) e = refl

answer_chosen : (i : ℕ) (o : Option Run) {b : ℕ} → answer o ≡ Some b → message_at i b ≡ chosen i o
answer_chosen i none e = let z : ◌≡◌ {A = ℕ} 0 1 = cc in absurd (omega arith)
answer_chosen i (some r) {b} e = let d : b ≡ length (body_of r) = cc in ap (message_at i) d

some_first : (o p : Option Run) → is_some o ≡ true → or_else o p ≡ o
some_first none p e = let z : ◌≡◌ {A = ℕ} 0 1 = cc in absurd (omega arith)
some_first (some r) p e = refl

module _ (next : ℕ → ℕ) (span : ℕ) (s : Settings) (Z : ℕ) (st : List ℕ) (n : ℕ) where
  abbrev cs : List Cell
  cs = cells_of s Z st n

  abbrev at : ℕ → Option Run
  at i = run_in next span cs (cell_at s Z st i)

  -- the cells below i open no complete message
  pub record Picking (i : ℕ) : Type 0 where
    pub cell : Seeking (opens_at next span s Z st n) n i
    pub run : pick_in next span cs (listed (cell_at s Z st) (n - i) i) ≡ picked next span cs

  pub picking_first : Picking 0
  picking_first =
      let e : n - 0 ≡ n = omega arith in
      record { cell = seeking_first (opens_at next span s Z st n) n; run = ap (λ (k : ℕ). pick_in next span cs (listed (cell_at s Z st) k 0)) e }

  -- one cell more
  one_more : (i : ℕ) → i < n → pick_in next span cs (listed (cell_at s Z st) (n - i) i) ≡ or_else (at i) (pick_in next span cs (listed (cell_at s Z st) (n - suc i) (suc i)))
  unfolding pick_in listed
  one_more i h = let e : n - i ≡ suc (n - suc i) = omega arith in ap (λ (k : ℕ). pick_in next span cs (listed (cell_at s Z st) k i)) e

  module _ {i : ℕ} (p : Picking i) (h : i < n) {b : CodeOption ℕ} (eb : b ≡ answer (at i)) where
    pub picking_turn : b ≡ None → Picking (i + 1)
    picking_turn z =
        let o : at i ≡ none = answer_none (at i) (sym eb ∙ z) in
        record {
          cell = seeking_turn p.cell h (ap is_some o);
          run =
              rw (add-one i)
              (sym (one_more i h ∙ ap (λ (x : Option Run). or_else x (pick_in next span cs (listed (cell_at s Z st) (n - suc i) (suc i)))) o) ∙ p.run);
        }

    pub picking_found : {long : ℕ} → b ≡ Some long → message_at i long ≡ picked_of next span s Z st n
    unfolding picked_of
    picking_found z =
        let e = sym eb ∙ z in
        let o : is_some (at i) ≡ true = answer_some (at i) e in
        answer_chosen i (at i) e
        ∙ ap₂ chosen (seeking_found p.cell h o) (sym (sym p.run ∙ one_more i h ∙ some_first (at i) _ o))

  pub picking_none : {i : ℕ} → Picking i → n ≤ i → None ≡ picked_of next span s Z st n
  unfolding picked_of pick_in listed
  picking_none {i} p h =
      let z : n - i ≡ 0 = omega arith in
      ap₂ chosen (seeking_none p.cell h) (ap (λ (k : ℕ). pick_in next span cs (listed (cell_at s Z st) k i)) (sym z) ∙ p.run)
