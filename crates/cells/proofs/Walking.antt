-- The walk along a chain: it meets every cell that can pass a test, the lowest one last.
-- Assumes nothing.
use Prim.Native.Nat.{ℕ, zero, suc, ◌-◌, ◌≤◌, ◌<◌}
use mathlib.Core.Path.{◌≡◌, refl, ap, sym, ◌∙◌}
use mathlib.Core.Logic.{◌⊎◌, inl, inr, ⊎_elim}
use mathlib.Core.Bool.{Bool, true, false, false≢true}
use mathlib.Core.Option.{Option as Maybe, none, some}
use Rattle.std.specs.Prelude.{Option, None, Some}
use mathlib.Core.List.{List}
use native.Mathlib.Omega.{arith}
use lib.ListN.{get_or}
use lib.Dec.{eqb}
use borrow.Author.Tests.{eqb-true}
use Rattle.octets.specs.Octets.{alike}
use Rattle.octets.proofs.Lists.{bool, alike_true}
use Rattle.walk.specs.declared.Settings.{Settings}
use Rattle.cells.specs.Segments.{Seg, carries}
use Rattle.cells.specs.Rows.{Cell, segment_in, by_segment}
use Rattle.cells.specs.Order.{lowest, carries_in, cell_at}
use Rattle.cells.specs.declared.Chains.{Chains}
use Rattle.cells.specs.Chains.{chains_all, bucket_of, bucket_in, bucket_at, cell_below, Chained}
use Rattle.cells.proofs.Held.{both_true}
use Rattle.cells.proofs.Lowest.{lowest_hit, lowest_miss, lowest_skip, lowest_none}

-- the walk stands before cell cur - 1, and `best` is the lowest from cur on
pub record Walked (b : ℕ → ℕ) (g : ℕ → Bool) (n x cur best : ℕ) : Type 0 where
  pub low : cur ≤ n
  pub home : (k : ℕ) → cur ≡ suc k → b k ≡ x
  pub found : best ≡ lowest g (n - cur) cur

-- only cells of chain x pass the test g
module _ {b : ℕ → ℕ} {T : Chains} {n : ℕ} (c : Chained b T n) (g : ℕ → Bool) (x : ℕ) (fx : x < chains_all) (only : (k : ℕ) → g k ≡ true → b k ≡ x) where
  fails : (k : ℕ) → (b k ≡ x → ⊥) → g k ≡ false
  fails k never = ⊎_elim (λ t. absurd (never (only k t))) (λ t. t) (bool (g k))

  -- no cell of the chain is above its head
  pub walk_first : Walked b g n x (get_or T.heads x 0) n
  walk_first =
      record {
        low = c.low x fx;
        home = λ k e. c.home x k fx e;
        found = sym (lowest_none g n (get_or T.heads x 0) (c.low x fx) (λ k p q. fails k (out k p q)));
      }
    where
      out : (k : ℕ) → get_or T.heads x 0 ≤ k → k < n → b k ≡ x → ⊥
      out k p q e =
          let v : k < get_or T.heads (b k) 0 = c.all k q (omega arith) in
          let w : k < get_or T.heads x 0 = rw e at v in
          omega arith

  module _ {cur best : ℕ} (w : Walked b g n x cur best) where
    -- the cell at which it looks
    module _ (j : ℕ) (e : cur ≡ suc j) where
      chain_j : b j ≡ x
      chain_j = w.home j e

      below_n : j < n
      below_n = omega (arith, w.low)

      some_chain : b j < chains_all
      some_chain = rw chain_j fx

      pub walk_down : get_or T.links j 0 ≤ j
      walk_down = c.down j below_n some_chain

      pub walk_turn : {new : ℕ} → ((g j ≡ true) × (new ≡ j)) ⊎ ((g j ≡ false) × (new ≡ best)) → Walked b g n x (get_or T.links j 0) new
      walk_turn {new} t =
          record {
            low = omega (arith, walk_down, below_n);
            home = λ k q. c.back j k below_n some_chain q ∙ chain_j;
            found = hit t ∙ sym (lowest_skip g n (get_or T.links j 0) j walk_down (omega (arith, below_n)) (λ k p q. fails k (out k p q)));
          }
        where
          out : (k : ℕ) → get_or T.links j 0 ≤ k → k < j → b k ≡ x → ⊥
          out k p q h = let v = c.between j k below_n q some_chain (h ∙ sym chain_j) in omega arith

          hit : ((g j ≡ true) × (new ≡ j)) ⊎ ((g j ≡ false) × (new ≡ best)) → new ≡ lowest g (n - j) j
          hit (inl p) = p.1 ∙ sym (lowest_hit g n j below_n p.0)
          hit (inr p) =
              p.1
              ∙ w.found
              ∙ ap (λ (y : ℕ). lowest g (n - y) y) e
              ∙ sym (lowest_miss g n j below_n p.0)

    pub walk_done : cur ≡ 0 → best ≡ lowest g n 0
    walk_done e = let z : n - 0 ≡ n = omega arith in w.found ∙ ap (λ (y : ℕ). lowest g (n - y) y) e ∙ ap (λ (y : ℕ). lowest g y 0) z

-- ---- what the code reads: a cell, or none

abbrev pub above : Option ℕ → ℕ
above None = 0
above (Some j) = suc j

pub above_below : (n : ℕ) → above (cell_below n) ≡ n
above_below zero = refl
above_below (suc k) = refl

-- ---- a key and a counter are on one chain

carries_chain : (k : List ℕ) (c : ℕ) (d : Cell) → carries_in k c d ≡ true → bucket_in d ≡ bucket_of k c
unfolding carries
carries_chain k c d e = go (segment_in d) e
  where
    go : (o : Maybe Seg) → by_segment false (carries k c) o ≡ true → by_segment chains_all (λ t. bucket_of t.key t.counter) o ≡ bucket_of k c
    go none f = absurd (false≢true f)
    go (some t) f =
        let w = both_true (eqb c t.counter) (alike k t.key) f in
        let p : c ≡ t.counter = eqb-true c t.counter w.0 in
        let q : k ≡ t.key = alike_true k t.key w.1 in
        ap (λ (y : List ℕ). bucket_of y t.counter) (sym q) ∙ ap (bucket_of k) (sym p)

pub cell_chain : (s : Settings) (Z : ℕ) (st k : List ℕ) (c j : ℕ) {x : ℕ} → x ≡ bucket_of k c → carries_in k c (cell_at s Z st j) ≡ true → bucket_at s Z st j ≡ x
unfolding bucket_at
cell_chain s Z st k c j ex e = carries_chain k c (cell_at s Z st j) e ∙ sym ex
