-- What a taking leaves in a cell of its message, as the code lays it: zeros, and over them the record if the cell holds the first segment.
-- Assumes nothing.
use Prim.Native.Nat.{ℕ, zero, suc, ◌+◌, ◌-◌, ◌*◌, ◌≤◌, ◌<◌, min}
use mathlib.Core.Path.{◌≡◌, refl, ap, ap₂, sym, ◌∙◌}
use mathlib.Core.Logic.{⊎_elim}
use mathlib.Core.Bool.{Bool, true, false, false≢true}
use mathlib.Core.List.{List, [], ◌∷◌, ◌++◌, append-nil, append_assoc}
use mathlib.Core.Option.{Option, none, some}
use native.Mathlib.Omega.{arith}
use lib.ListN.{length, set, drop, length-append, length-replicate, length-take, length-drop}
use lib.Seq.{sets, set-set, set_comm, length-sets}
use lib.Dec.{eqb}
use borrow.Author.Tests.{eq-eqb, ne_eqb}
use Rattle.octets.specs.Octets.{pick, Octets, wide}
use Rattle.octets.specs.Laying.{laid, together, Lays}
use Rattle.octets.proofs.Laying.{lays_both, lays_all}
use Rattle.octets.proofs.Has.{octets_part}
use Rattle.octets.proofs.Numbers.{wide_length}
use Rattle.walk.specs.declared.Settings.{Settings}
use Rattle.packet.specs.Numbers.{next_counter}
use Rattle.sender.specs.Sending.{steps_of}
use Rattle.cells.specs.Segments.{Seg, seg_of}
use Rattle.cells.specs.Rows.{Cell, segment_in, by_segment, row_at, zero_row, packet_in, cell_of, record_row}
use Rattle.cells.specs.Order.{cell_at}
use Rattle.cells.specs.Inner.{counter_in, within, within_in}
use Rattle.cells.specs.Pieces.{seg_in}
use Rattle.cells.proofs.Carries.{Holding, kinds, held_counter}
use Rattle.cells.proofs.HeldRow.{held_long}
use Rattle.taking.specs.Cleared.{laid_at, left_of, left_within}
use Rattle.taking.proofs.Clears.{Whole}

-- ---- a list over a longer one that was laid at the same place

set_sets : (l : List ℕ) (at v : ℕ) (x : List ℕ) (to : ℕ) → at < to → set (sets l to x) at v ≡ sets (set l at v) to x
set_sets l at v [] to h = refl
set_sets l at v (w ∷ x) to h =
    set_sets (set l to w) at v x (suc to) (omega arith)
    ∙ ap (λ (y : List ℕ). sets y (suc to) x) (set_comm l to at w v (λ e. omega arith))

sets_over : (l : List ℕ) (at : ℕ) (z x : List ℕ) → length x ≤ length z → sets (sets l at z) at x ≡ sets l at (x ++ drop (length x) z)
sets_over l at z [] h = refl
sets_over l at [] (v ∷ x) h = absurd (omega arith)
sets_over l at (w ∷ z) (v ∷ x) h =
    ap (λ (y : List ℕ). sets y (suc at) x)
    (set_sets (set l at w) at v z (suc at) (omega arith) ∙ ap (λ (y : List ℕ). sets y (suc at) z) (set-set l at w v))
    ∙ sets_over (set l at v) (suc at) z x (omega arith)

drop_zeros : (n k : ℕ) → drop k (zero_row n) ≡ zero_row (n - k)
drop_zeros n zero = ap zero_row (let e : n ≡ n - 0 = omega arith in e)
drop_zeros zero (suc k) = ap zero_row (let e : 0 ≡ 0 - suc k = omega arith in e)
drop_zeros (suc n) (suc k) = drop_zeros n k ∙ ap zero_row (let e : n - k ≡ suc n - suc k = omega arith in e)

-- ---- a record

-- its octets before the zeros
abbrev pub fore : List ℕ → ℕ → ℕ → List ℕ
fore k c d = 0x4d ∷ 0x54 ∷ k ++ wide 4 c ++ wide 4 d

fore_long : (k : List ℕ) (c d : ℕ) → length (fore k c d) ≡ 2 + length k + 8
fore_long k c d =
    omega (arith, length-append (k ++ wide 4 c) (wide 4 d), length-append k (wide 4 c), wide_length 4 c, wide_length 4 d)

pub record_over :
    (Z at : ℕ) (st k : List ℕ) (c d : ℕ) → 2 + length k + 8 ≤ Z → sets (sets st at (zero_row Z)) at (fore k c d) ≡ sets st at (record_row Z k c d)
record_over Z at st k c d h =
    sets_over st at (zero_row Z) (fore k c d) (omega (arith, fore_long k c d, length-replicate {A = ℕ} Z 0))
    ∙ ap (λ (y : List ℕ). sets st at (fore k c d ++ y))
    (drop_zeros Z (length (fore k c d)) ∙ ap (λ (n : ℕ). zero_row (Z - n)) (fore_long k c d))

pub record_long : (Z : ℕ) (k : List ℕ) (c d : ℕ) → 2 + length k + 8 ≤ Z → length (record_row Z k c d) ≡ Z
record_long Z k c d h =
    omega
    (arith, length-append (fore k c d) (zero_row (Z - (2 + length k + 8))), fore_long k c d, length-replicate {A = ℕ} (Z - (2 + length k + 8)) 0)

pieces : (k : List ℕ) (c d : ℕ) → together (wide 2 0x4d54 ∷ k ∷ wide 4 c ∷ wide 4 d ∷ []) ≡ fore k c d
unfolding together wide
pieces k c d =
    ap (λ (x : List ℕ). 0x4d ∷ 0x54 ∷ x)
    (ap (λ (x : List ℕ). k ++ (wide 4 c ++ x)) (append-nil (wide 4 d)) ∙ sym (append_assoc k (wide 4 c) (wide 4 d)))

pub record_there :
    (st k : List ℕ) (c d z i : ℕ) {at : ℕ} → at ≡ min (i * z) (length st) → i * z + (2 + length k + 8) ≤ length st →
    {l m n o : List ℕ} {r q t u : ℕ} → Lays (laid st at) (wide 2 0x4d54 ∷ []) l r → Lays (laid l r) (k ∷ []) m q →
    Lays (laid m q) (wide 4 c ∷ []) n t → Lays (laid n t) (wide 4 d ∷ []) o u → o ≡ sets st (i * z) (fore k c d)
record_there st k c d z i {at} e h x y v w =
    let f : at ≡ i * z = omega arith in
    let p = lays_both (lays_both (lays_both x y) v) w in
    let n : at + length (together (wide 2 0x4d54 ∷ k ∷ wide 4 c ∷ wide 4 d ∷ [])) ≤ length st = omega (arith, ap length (pieces k c d), fore_long k c d) in
    (lays_all p n).1 ∙ ap₂ (λ (a : ℕ) (b : List ℕ). sets st a b) f (pieces k c d)

-- ---- the row that is left in a cell

module _ (Z : ℕ) (k : List ℕ) (c m : ℕ) where
  left_none : (x : Cell) → within_in next_counter k c m x ≡ false → left_within Z k c m x ≡ none
  left_none x = go (segment_in x)
    where
      go :
          (o : Option Seg) → by_segment false (within next_counter k c m) o ≡ false →
          by_segment none (λ t. pick (within next_counter k c m t) (some (left_of Z k c m t)) none) o ≡ none
      go none e = refl
      go (some t) e = ap (λ (b : Bool). pick b (some (left_of Z k c m t)) none) e

  -- it has the size of a cell
  left_whole : (b : Bool) → 2 + length k + 8 ≤ Z → length (pick b (record_row Z k c (steps_of next_counter m c)) (zero_row Z)) ≡ Z
  left_whole true h = record_long Z k c (steps_of next_counter m c) h
  left_whole false h = length-replicate Z 0

  pub left_long : 2 + length k + 8 ≤ Z → (f : ℕ → Cell) → Whole (λ j. left_within Z k c m (f j)) Z
  left_long h f j r = go (segment_in (f j))
    where
      by : (t : Seg) (b : Bool) → pick b (some (left_of Z k c m t)) none ≡ some r → length r ≡ Z
      by t true e = let d : left_of Z k c m t ≡ r = cc in ap length (sym d) ∙ left_whole (eqb c t.counter) h
      by t false e = let z : ◌≡◌ {A = ℕ} 0 1 = cc in absurd (omega arith)

      go : (o : Option Seg) → by_segment none (λ t. pick (within next_counter k c m t) (some (left_of Z k c m t)) none) o ≡ some r → length r ≡ Z
      go none e = let z : ◌≡◌ {A = ℕ} 0 1 = cc in absurd (omega arith)
      go (some t) e = by t (within next_counter k c m t) e

-- ---- as the code lays it

module _ (s : Settings) (st z k : List ℕ) (c m i : ℕ) where
  abbrev Z : ℕ
  Z = length z

  abbrev here : Cell
  here = cell_at s Z st i

  module _ {r : List ℕ} {b : Bool} (er : r ≡ row_at Z st i) (eb : b ≡ within_in next_counter k c m (cell_of s Z r)) where
    told : b ≡ within_in next_counter k c m here
    told = eb ∙ ap (λ (x : List ℕ). within_in next_counter k c m (cell_of s Z x)) er

    pub leave_out : b ≡ false → st ≡ laid_at Z i (left_within Z k c m here) st
    leave_out e = ap (λ (o : Option (List ℕ)). laid_at Z i o st) (sym (left_none Z k c m here (sym told ∙ e)))

    module _ (y : b ≡ true) where
      there : Holding s Z (row_at Z st i)
      there =
          ⊎_elim (λ h. h) (λ n. absurd (false≢true (sym (ap (by_segment false (within next_counter k c m)) n) ∙ sym told ∙ y)))
          (kinds s Z (row_at Z st i))

      pub leave_inside : i * Z + Z ≤ length st
      leave_inside =
          let p = packet_in (row_at Z st i) in
          let l : length (row_at Z st i) ≡ Z = ap length there.row ∙ held_long Z p there.fits in
          let e : 2 ≤ Z = omega (arith, there.fits) in
          omega (arith, length-take Z (drop (i * Z) st), length-drop (i * Z) st)

      module _ (o : Octets st) {q : List ℕ} {d : ℕ} (eq : q ≡ packet_in r) (ed : d ≡ counter_in q) where
        counter_is : d ≡ (seg_in s (row_at Z st i)).counter
        unfolding seg_of
        counter_is =
            ed
            ∙ ap counter_in (eq ∙ ap (λ (x : List ℕ). packet_in x) er)
            ∙ held_counter s Z (row_at Z st i) (octets_part st (i * Z) Z o) there

        left_here : left_within Z k c m here ≡ some (pick (eqb c d) (record_row Z k c (steps_of next_counter m c)) (zero_row Z))
        left_here =
            let w : within next_counter k c m (seg_in s (row_at Z st i)) ≡ true = sym (ap (within_in next_counter k c m) there.cell) ∙ sym told ∙ y in
            ap (left_within Z k c m) there.cell
            ∙ ap (λ (x : Bool). pick x (some (left_of Z k c m (seg_in s (row_at Z st i)))) none) w
            ∙ ap (λ (n : ℕ). some (pick (eqb c n) (record_row Z k c (steps_of next_counter m c)) (zero_row Z))) (sym counter_is)

        laid_here : (x : Bool) → eqb c d ≡ x →
            sets st (i * Z) (pick x (record_row Z k c (steps_of next_counter m c)) (zero_row Z)) ≡ laid_at Z i (left_within Z k c m here) st
        laid_here x e =
            sym
            (ap (λ (p : Option (List ℕ)). laid_at Z i p st) left_here
            ∙ ap (λ (w : Bool). sets st (i * Z) (pick w (record_row Z k c (steps_of next_counter m c)) (zero_row Z))) e)

        module _ (ez : z ≡ zero_row Z) {x : List ℕ} (ex : x ≡ sets st (i * Z) z) where
          zeros : x ≡ sets st (i * Z) (zero_row Z)
          zeros = ex ∙ ap (sets st (i * Z)) ez

          pub leave_zeros : (c ≡ d → ⊥) → x ≡ laid_at Z i (left_within Z k c m here) st
          leave_zeros h = zeros ∙ laid_here false (ne_eqb c d h)

          pub leave_room : 2 + length k + 8 ≤ Z → i * Z + (2 + length k + 8) ≤ length x
          leave_room h = omega (arith, leave_inside, ap length ex, length-sets st (i * Z) z)

          pub leave_record :
              2 + length k + 8 ≤ Z → c ≡ d → {l : ℕ} → l ≡ steps_of next_counter m c → {w : List ℕ} → w ≡ sets x (i * Z) (fore k c l) →
              w ≡ laid_at Z i (left_within Z k c m here) st
          leave_record h e el ew =
              ew
              ∙ ap₂ (λ (a : List ℕ) (n : ℕ). sets a (i * Z) (fore k c n)) zeros el
              ∙ record_over Z (i * Z) st k c (steps_of next_counter m c) h
              ∙ laid_here true (eq-eqb c d e)
