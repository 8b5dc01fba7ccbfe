-- What holds from one step to the next: the store is in order and has its cells, the octets in hand lie in the window, the output has
-- room after what is gathered.
-- Assumes nothing.
use Prim.Native.Nat.{ℕ, ◌+◌, ◌-◌, ◌*◌, ◌≤◌}
use mathlib.Core.Path.{◌≡◌, refl, ap, ap₂, sym, ◌∙◌}
use mathlib.Core.Bool.{Bool}
use mathlib.Core.List.{List}
use native.Mathlib.Omega.{arith}
use borrow.Author.Tests.{eq-eqb}
use lib.ListN.{length, take, drop, replicate, length-take, length-replicate, replicate-append-replicate}
use lib.Seq.{take_at}
use Rattle.octets.specs.Octets.{Octets}
use Rattle.octets.proofs.Has.{octets_part}
use Rattle.walk.specs.declared.Settings.{Settings}
use Rattle.walk.specs.Walk.{begun}
use Rattle.cells.specs.Rows.{zero_row}
use Rattle.cells.specs.Order.{cell_size, cells_most, count_in, gate}
use Rattle.cells.proofs.Empty.{zeros, empty_order, empty_count}
use Rattle.steps.specs.Answer.{Done}
use Rattle.steps.specs.Stepping.{room, stepped, store_behind}
use Rattle.steps.specs.Told.{done_of}
use Rattle.steps.proofs.Kept.{step_gate, step_count}
use Rattle.steps.proofs.Steps.{step_within}

module _ (s : Settings) (Z n : ℕ) (st w : List ℕ) (e : Bool) where
  pub next_gate : Octets st → Octets w → {x : List ℕ} → x ≡ store_behind s Z st (stepped s Z st w e) → gate s Z st ≡ 0 → gate s Z x ≡ 0
  next_gate o q h g = ap (gate s Z) h ∙ step_gate s Z st o w e q g

  pub next_count_lem :
      {x : List ℕ} → x ≡ store_behind s Z st (stepped s Z st w e) → n ≡ count_in Z st → n ≡ count_in Z x
  next_count_lem h g = step_count s Z st (stepped s Z st w e) g ∙ ap (count_in Z) (sym h)

-- the octets used up lie in hand, and those to be written in the output
pub window_within :
    (s : Settings) (Z : ℕ) (st buf : List ℕ) (e : Bool) (from till : ℕ) {d : Done} → d ≡ done_of (stepped s Z st (take (till - from) (drop from buf)) e) →
    (d.used ≤ till - from) × (d.written ≤ 6 + room)
window_within s Z st buf e from till h =
    let k = step_within s Z st _ e h in
    (omega (arith, k.0, length-take (till - from) (drop from buf)), k.1)

-- all that a step over the octets in hand leaves
pub record After (s : Settings) (Z n : ℕ) (st : List ℕ) (long used written : ℕ) : Type 0 where
  pub order : gate s Z st ≡ 0
  pub cells : n ≡ count_in Z st
  pub used_few : used ≤ long
  pub written_few : written ≤ 6 + room

pub step_after :
    (s : Settings) (Z n : ℕ) (st buf : List ℕ) → Octets st → Octets buf → (e : Bool) (from till : ℕ) {d : Done} {x : List ℕ} →
    d ≡ done_of (stepped s Z st (take (till - from) (drop from buf)) e) →
    x ≡ store_behind s Z st (stepped s Z st (take (till - from) (drop from buf)) e) → gate s Z st ≡ 0 →
    n ≡ count_in Z st → After s Z n x (till - from) d.used d.written
step_after s Z n st buf o q e from till h k g c =
    let w = window_within s Z st buf e from till h in
    record {
      order = next_gate s Z n st _ e o (octets_part buf from (till - from) q) k g;
      cells = next_count_lem s Z n st _ e k c;
      used_few = w.0;
      written_few = w.1;
    }

pub record Going (s : Settings) (n : ℕ) (zero st₀ buf₀ out₀ st buf out : List ℕ) (from till at : ℕ) : Type 0 where
  pub order : gate s (length zero) st ≡ 0
  pub cells : n ≡ count_in (length zero) st
  pub spare : at + (6 + room) ≤ length out
  pub inside : from ≤ till
  pub window : till ≤ length buf
  pub store_long : length st ≡ length st₀
  pub window_long : length buf ≡ length buf₀
  pub output_long : length out ≡ length out₀

pub going_next :
    {s : Settings} {n : ℕ} {zero st₀ buf₀ out₀ st buf out st' buf' out' : List ℕ} {from till at from' till' at' : ℕ} →
    Going s n zero st₀ buf₀ out₀ st buf out from till at →
    gate s (length zero) st' ≡ 0 → n ≡ count_in (length zero) st' → from' ≤ till' → till' ≤ length buf →
    at' + (6 + room) ≤ length out → length st' ≡ length st → length buf' ≡ length buf → length out' ≡ length out →
    Going s n zero st₀ buf₀ out₀ st' buf' out' from' till' at'
going_next g o c i w r ls lb lo =
    record {
      order = o;
      cells = c;
      spare = omega arith;
      inside = i;
      window = omega arith;
      store_long = ls ∙ g.store_long;
      window_long = lb ∙ g.window_long;
      output_long = lo ∙ g.output_long;
    }

-- a program begins with n cells of zeros, the front of a larger array
cell_long : {zero : List ℕ} → zero ≡ replicate 1024 0 → length zero ≡ cell_size
cell_long ez = ap length ez ∙ length-replicate {A = ℕ} 1024 0

module _ (s : Settings) (n : ℕ) (least : 1 ≤ n) (most : n ≤ cells_most) {zero st : List ℕ} (ez : zero ≡ replicate 1024 0) where
  pub begins_order : (begun s).refused ≡ 0 → st ≡ zeros cell_size n → gate s (length zero) st ≡ 0
  unfolding gate
  begins_order h es =
      ap₂ (λ (z : ℕ) (x : List ℕ). gate s z x) (cell_long ez) es
      ∙ rw (eq-eqb (begun s).refused 0 h, empty_order s cell_size n (omega arith) least most) refl

  pub begins_cells : st ≡ zeros cell_size n → n ≡ count_in (length zero) st
  begins_cells es = sym (ap₂ (λ (z : ℕ) (x : List ℕ). count_in z x) (cell_long ez) es ∙ empty_count s cell_size n (omega arith))

-- that front
zeros_long : (m : ℕ) {l : List ℕ} → l ≡ replicate m 0 → length l ≡ m
zeros_long m e = ap length e ∙ length-replicate {A = ℕ} m 0

pub front_fits : (n : ℕ) → n ≤ cells_most → {l : List ℕ} → l ≡ replicate 4194304 0 → n * 1024 ≤ length l
front_fits n h e = omega (arith, zeros_long 4194304 e)

pub front_zeros : (n : ℕ) → n ≤ cells_most → {l : List ℕ} → l ≡ replicate 4194304 0 → take (n * 1024 - 0) (drop 0 l) ≡ zeros cell_size n
front_zeros n h {l} e =
    let k : ℕ = 4194304 - n * 1024 in
    let m : 4194304 ≡ n * 1024 + k = omega arith in
    let f : n * 1024 - 0 ≡ n * 1024 = omega arith in
    ap (λ (j : ℕ). take j l) f
    ∙ ap (take (n * 1024)) (e ∙ ap (λ (j : ℕ). replicate j 0) m ∙ sym (replicate-append-replicate (n * 1024) k 0))
    ∙ take_at (replicate (n * 1024) 0) (replicate k 0) (n * 1024) (length-replicate (n * 1024) 0)

pub begins_zero : {zero : List ℕ} → zero ≡ replicate 1024 0 → zero ≡ zero_row (length zero)
begins_zero ez = ez ∙ sym (ap (λ (n : ℕ). replicate n 0) (ap length ez ∙ length-replicate {A = ℕ} 1024 0))

-- and with an output that has room for the longest message
pub begins_spare : {l : List ℕ} → l ≡ replicate 262144 0 → 6 + room ≤ length l
begins_spare e = omega (arith, ap length e, length-replicate {A = ℕ} 262144 0)
