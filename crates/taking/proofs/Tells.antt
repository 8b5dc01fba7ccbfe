-- What a message that is taken tells: settings and order passed, it is the one that is picked and fits the output, and each of its
-- segments is held in a cell.
-- Assumes nothing.
use Prim.Native.Nat.{ℕ, ◌≤◌, ◌<◌}
use mathlib.Core.Path.{◌≡◌, ap}
use mathlib.Core.Bool.{true}
use mathlib.Core.List.{List}
use mathlib.Core.Option.{Option, none, some}
use native.Mathlib.Omega.{arith}
use lib.ListN.{length}
use lib.Dec.{leb, eqb}
use borrow.Author.Tests.{leb-true}
use Rattle.walk.specs.declared.Settings.{Settings}
use Rattle.packet.specs.Numbers.{next_counter, steps_most}
use Rattle.walk.specs.Walk.{begun}
use Rattle.cells.specs.Segments.{Seg}
use Rattle.cells.specs.Rows.{held}
use Rattle.cells.specs.Order.{cell_at, count_in, in_order, gate}
use Rattle.cells.proofs.Gate.{through_tells, open_true}
use Rattle.cells.specs.Messages.{cells_of, Run, segments, picked}
use Rattle.cells.proofs.Picking.{pick_tells}
use Rattle.cells.proofs.Members.{In, picked_held}
use Rattle.taking.specs.Taking.{message, unable, writing, drawn, took_in, took}

not_unable : (k : ℕ) (r : Run) → unable k ≡ message r → ⊥
not_unable k r e = let z : ◌≡◌ {A = ℕ} 0 1 = cc in omega arith

drawn_tells : (o : Option Run) (long : ℕ) (r : Run) → drawn o long ≡ message r → (o ≡ some r) × (length (writing r) ≤ long)
drawn_tells none long r e = absurd (not_unable 20 r e)
drawn_tells (some m) long r e =
    let a = pick_tells (leb (length (writing m)) long) (message m) (unable 21) (message r) (not_unable 21 r) e in
    let b : m ≡ r = cc a.1 in
    (ap some b, rw b at (leb-true (length (writing m)) long a.0))

-- the settings are in range, the store is in order, the message is the one that is picked, and it fits the output
pub record Taken (s : Settings) (Z : ℕ) (st : List ℕ) (long : ℕ) (r : Run) : Type 0 where
  pub settings : eqb (begun s).refused 0 ≡ true
  pub order : in_order s Z st ≡ true
  pub picked : picked next_counter steps_most (cells_of s Z st (count_in Z st)) ≡ some r
  pub fits : length (writing r) ≤ long

pub taken_tells : (s : Settings) (Z : ℕ) (st : List ℕ) (long : ℕ) (r : Run) → took s Z st long ≡ message r → Taken s Z st long r
unfolding took took_in
taken_tells s Z st long r e =
    let a = through_tells (gate s Z st) (took_in s Z st (count_in Z st) long) unable (message r) (λ k. not_unable k r) e in
    let b = open_true s Z st a.0 in
    let c = drawn_tells (picked next_counter steps_most (cells_of s Z st (count_in Z st))) long r a.1 in
    record { settings = b.0; order = b.1; picked = c.0; fits = c.1 }

-- each segment of the message is held in a cell before
pub segment_held :
    (s : Settings) (Z : ℕ) (st : List ℕ) (long : ℕ) (r : Run) → took s Z st long ≡ message r → (t : Seg) → In t (segments r) →
    (j : ℕ) × (j < count_in Z st) × (cell_at s Z st j ≡ held t)
segment_held s Z st long r e t m =
    let a = picked_held next_counter steps_most (cell_at s Z st) (count_in Z st) r (taken_tells s Z st long r e).picked t m in
    (a.0, omega (arith, a.1.top), a.2)
