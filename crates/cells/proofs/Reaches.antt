-- Counters that go round: x is c or one of m steps after it just if x is not more than m above c, or, below it, not more than m on from c
-- round the end.
-- Assumes nothing.
use Prim.Native.Nat.{ℕ, zero, suc, ◌+◌, ◌-◌, ◌≤◌, ◌<◌}
use mathlib.Core.Path.{◌≡◌, ap, sym, ◌∙◌}
use mathlib.Core.Logic.{⊎_elim}
use mathlib.Core.Bool.{Bool, true, false}
use native.Mathlib.Omega.{arith}
use lib.Dec.{leb, ltb}
use borrow.Author.Tests.{le-leb, lt-leb, eq-eqb, ne_eqb, lt-ltb, le-ltb}
use Rattle.octets.specs.Octets.{pick, most32}
use Rattle.octets.proofs.Lists.{below_or}
use Rattle.packet.specs.Numbers.{next_counter}
use Rattle.packet.proofs.Rounds.{next_round, next_on}
use Rattle.cells.specs.Segments.{reaches}
use Rattle.cells.proofs.Lowest.{same_or}

-- there already, and one step less to go
reaches_here : (m c x : ℕ) → c ≡ x → reaches next_counter m c x ≡ true
unfolding reaches
reaches_here zero c x e = eq-eqb c x e
reaches_here (suc m) c x e = ap (λ (b : Bool). pick b true (reaches next_counter m (next_counter c) x)) (eq-eqb c x e)

module _ (m c x : ℕ) (h : c ≡ x → ⊥) where
  reaches_less : reaches next_counter (suc m) c x ≡ reaches next_counter m (next_counter c) x
  unfolding reaches
  reaches_less = ap (λ (b : Bool). pick b true (reaches next_counter m (next_counter c) x)) (ne_eqb c x h)

  reaches_on : (c ≡ most32 → ⊥) → reaches next_counter (suc m) c x ≡ reaches next_counter m (suc c) x
  reaches_on k = reaches_less ∙ ap (λ (n : ℕ). reaches next_counter m n x) (next_on c k)

  reaches_round : c ≡ most32 → reaches next_counter (suc m) c x ≡ reaches next_counter m 0 x
  reaches_round k = reaches_less ∙ ap (λ (n : ℕ). reaches next_counter m n x) (next_round c k)

-- not lower: by the difference
up_out : (m c x : ℕ) → x ≤ most32 → c + m < x → reaches next_counter m c x ≡ false
unfolding reaches
up_out zero c x l h = ne_eqb c x (λ e. omega arith)
up_out (suc m) c x l h = reaches_on m c x (λ e. omega arith) (λ e. omega arith) ∙ up_out m (suc c) x l (omega arith)

up_in : (m c x : ℕ) → x ≤ most32 → c ≤ x → x ≤ c + m → reaches next_counter m c x ≡ true
up_in zero c x l h k = reaches_here zero c x (omega arith)
up_in (suc m) c x l h k =
    ⊎_elim
    (λ (e : c ≡ x). reaches_here (suc m) c x e)
    (λ (e : c ≡ x → ⊥). reaches_on m c x e (λ t. e (omega arith)) ∙ up_in m (suc c) x l (omega (arith, e)) (omega arith))
    (same_or c x)

pub reaches_up : (m c x : ℕ) → x ≤ most32 → c ≤ x → leb (x - c) m ≡ reaches next_counter m c x
reaches_up m c x l h = ⊎_elim past inside (below_or m (x - c))
  where
    past : m < x - c → leb (x - c) m ≡ reaches next_counter m c x
    past k = lt-leb (x - c) m k ∙ sym (up_out m c x l (omega arith))

    inside : x - c ≤ m → leb (x - c) m ≡ reaches next_counter m c x
    inside k = le-leb (x - c) m k ∙ sym (up_in m c x l h (omega arith))

-- lower: up to the largest, one step to 0, and on from there
round_out : (m c x : ℕ) → c ≤ most32 → x < c → m ≤ most32 - c + x → reaches next_counter m c x ≡ false
unfolding reaches
round_out zero c x l h k = ne_eqb c x (λ e. omega arith)
round_out (suc m) c x l h k =
    ⊎_elim
    (λ (e : c ≡ most32). reaches_round m c x (λ t. omega arith) e ∙ up_out m 0 x (omega arith) (omega arith))
    (λ (e : c ≡ most32 → ⊥).
    reaches_on m c x (λ t. omega arith) e ∙ round_out m (suc c) x (omega (arith, e)) (omega arith) (omega (arith, e)))
    (same_or c most32)

round_in : (m c x : ℕ) → c ≤ most32 → x < c → most32 - c + x < m → reaches next_counter m c x ≡ true
round_in zero c x l h k = absurd (omega arith)
round_in (suc m) c x l h k =
    ⊎_elim
    (λ (e : c ≡ most32). reaches_round m c x (λ t. omega arith) e ∙ up_in m 0 x (omega arith) (omega arith) (omega arith))
    (λ (e : c ≡ most32 → ⊥).
    reaches_on m c x (λ t. omega arith) e ∙ round_in m (suc c) x (omega (arith, e)) (omega arith) (omega (arith, e)))
    (same_or c most32)

pub reaches_down : (m c x : ℕ) → c ≤ most32 → x < c → ltb (most32 - c + x) m ≡ reaches next_counter m c x
reaches_down m c x l h = ⊎_elim inside past (below_or (most32 - c + x) m)
  where
    inside : most32 - c + x < m → ltb (most32 - c + x) m ≡ reaches next_counter m c x
    inside k = lt-ltb (most32 - c + x) m k ∙ sym (round_in m c x l h k)

    past : m ≤ most32 - c + x → ltb (most32 - c + x) m ≡ reaches next_counter m c x
    past k = le-ltb (most32 - c + x) m k ∙ sym (round_out m c x l h k)

-- no counter is reached again from the one after it, in fewer steps than lead all the way round
past_out : (m c x : ℕ) → most32 < c → x < c → reaches next_counter m c x ≡ false
unfolding reaches
past_out zero c x l h = ne_eqb c x (λ e. omega arith)
past_out (suc m) c x l h = reaches_on m c x (λ e. omega arith) (λ e. omega arith) ∙ past_out m (suc c) x (omega arith) (omega arith)

pub reaches_back : (m c : ℕ) → m < most32 → reaches next_counter m (next_counter c) c ≡ false
reaches_back m c l = ⊎_elim at_top (λ h. ⊎_elim (below h) (above h) (below_or c most32)) (same_or c most32)
  where
    from : {d : ℕ} → next_counter c ≡ d → reaches next_counter m d c ≡ false → reaches next_counter m (next_counter c) c ≡ false
    from e h = ap (λ (d : ℕ). reaches next_counter m d c) e ∙ h

    at_top : c ≡ most32 → reaches next_counter m (next_counter c) c ≡ false
    at_top e = from (next_round c e) (up_out m 0 c (omega arith) (omega arith))

    below : (c ≡ most32 → ⊥) → c < most32 → reaches next_counter m (next_counter c) c ≡ false
    below h k = from (next_on c h) (round_out m (suc c) c (omega arith) (omega arith) (omega arith))

    above : (c ≡ most32 → ⊥) → most32 ≤ c → reaches next_counter m (next_counter c) c ≡ false
    above h k = from (next_on c h) (past_out m (suc c) c (omega arith) (omega arith))
