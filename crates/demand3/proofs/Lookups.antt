-- Where no two cells have equal key and counter, `look` finds each segment that is held.
-- Assumes nothing.
use Prim.Native.Nat.{ℕ, ◌<◌}
use mathlib.Core.Path.{◌≡◌, refl, ap, sym, ◌∙◌}
use mathlib.Core.Bool.{true, false}
use mathlib.Core.List.{List}
use mathlib.Core.Option.{Option, none, some}
use native.Mathlib.Omega.{arith}
use Rattle.walk.specs.declared.Settings.{Settings}
use Rattle.cells.specs.Segments.{Seg, carries}
use Rattle.cells.specs.Rows.{held}
use Rattle.cells.specs.Order.{carries_in, cell_at}
use Rattle.cells.specs.Messages.{cells_of, look}
use Rattle.cells.proofs.Listed.{among_below}
use Rattle.cells.proofs.Looking.{look_none, look_some}
use Rattle.cells.proofs.Distinct.{Apart, carries_true, carries_yes}

module _ (s : Settings) (Z : ℕ) (st : List ℕ) where
  -- what is held is found
  pub look_finds : (n : ℕ) → Apart s Z st n → (i : ℕ) (t : Seg) → i < n → cell_at s Z st i ≡ held t → look (cells_of s Z st n) t.key t.counter ≡ some t
  look_finds n h i t l e = go (look (cells_of s Z st n) t.key t.counter) refl
    where
      clash : carries_in t.key t.counter (cell_at s Z st i) ≡ false → none ≡ some t
      clash a =
          let b : carries t.key t.counter t ≡ true = carries_yes t.key t.counter t refl refl in
          let d : carries t.key t.counter t ≡ false = sym (ap (carries_in t.key t.counter) e) ∙ a in
          let z : ◌≡◌ {A = ℕ} 0 1 = cc in absurd (omega arith)

      go : (o : Option Seg) → look (cells_of s Z st n) t.key t.counter ≡ o → o ≡ some t
      go none d = clash (look_none (cell_at s Z st) t.key t.counter n 0 d i (among_below l))
      go (some u) d =
          let a = look_some (cell_at s Z st) t.key t.counter n 0 u d in
          let c = carries_true t.key t.counter u a.3 in
          let k : i ≡ a.0 = h i a.0 t u l (omega (arith, a.1.top)) e a.2 c.0 c.1 in
          let f : held t ≡ held u = sym e ∙ ap (cell_at s Z st) k ∙ a.2 in
          let g : u ≡ t = cc f in
          ap some g
