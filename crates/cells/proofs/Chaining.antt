-- Chains of cells: none at first, a cell on no chain, a cell put on its chain.
-- Assumes nothing.
use Prim.Native.Nat.{ℕ, suc, ◌+◌, ◌≤◌, ◌<◌}
use mathlib.Core.Path.{◌≡◌, ap, sym, ◌∙◌}
use mathlib.Core.Logic.{◌⊎◌, inl, inr, ⊎_elim, ◌≢◌}
use mathlib.Core.List.{List}
use native.Mathlib.Omega.{arith}
use lib.ListN.{get_or, replicate, get_or-replicate, length-replicate, length-set}
use lib.Seq.{get_or-set_same, get_or-set_other}
use Rattle.octets.proofs.Lists.{below_or}
use Rattle.cells.specs.Order.{cells_most}
use Rattle.cells.specs.declared.Chains.{Chains}
use Rattle.cells.specs.Chains.{chains_all, pushed, Chained}
use Rattle.cells.proofs.Lowest.{same_or}

-- heads of zeros lead nowhere
pub chained_none : (b : ℕ → ℕ) → Chained b (record { heads = replicate chains_all 0; links = replicate cells_most 0 }) 0
chained_none b =
    record {
      most = omega arith;
      heads_long = length-replicate {A = ℕ} chains_all 0;
      links_long = length-replicate {A = ℕ} cells_most 0;
      low = λ x h. rw (get_or-replicate {A = ℕ} chains_all x 0 0 h) (omega arith);
      home = λ x k h e. let z : 0 ≡ suc k = sym (get_or-replicate {A = ℕ} chains_all x 0 0 h) ∙ e in absurd (omega arith);
      all = λ k h m. absurd (omega arith);
      down = λ j h m. absurd (omega arith);
      back = λ j k h m e. absurd (omega arith);
      between = λ j k h m n e. absurd (omega arith);
    }

-- below the next number, and not this one
below : (i k : ℕ) → k < i + 1 → k ≢ i → k < i
below i k l d = ⊎_elim (λ q. q) (λ q. absurd (d (omega arith))) (below_or k i)

module _ {b : ℕ → ℕ} {T : Chains} {i : ℕ} (c : Chained b T i) (room : i < cells_most) where
  -- a cell on no chain changes nothing
  pub chained_skip : chains_all ≤ b i → Chained b T (i + 1)
  chained_skip none =
      record {
        most = omega arith;
        heads_long = c.heads_long;
        links_long = c.links_long;
        low = λ x l. let w = c.low x l in omega arith;
        home = c.home;
        all = λ k l h. c.all k (lower k l h) h;
        down = λ j l h. c.down j (lower j l h) h;
        back = λ j k l h e. c.back j k (lower j l h) h e;
        between = λ j k l m h e. c.between j k (lower j l h) m h e;
      }
    where
      lower : (k : ℕ) → k < i + 1 → b k < chains_all → k < i
      lower k l h = below i k l (λ e. let w : b k ≡ b i = ap b e in omega arith)

  -- a cell becomes the head of its chain, and the head that was its link
  module _ (f : b i < chains_all) where
    abbrev H' : List ℕ
    H' = (pushed i (b i) T).heads

    abbrev L' : List ℕ
    L' = (pushed i (b i) T).links

    head_new : get_or H' (b i) 0 ≡ i + 1
    head_new = get_or-set_same T.heads (b i) (i + 1) 0 (omega (arith, c.heads_long))

    head_old : (x : ℕ) → x ≢ b i → get_or H' x 0 ≡ get_or T.heads x 0
    head_old x d = get_or-set_other T.heads (b i) x (i + 1) 0 d

    link_new : get_or L' i 0 ≡ get_or T.heads (b i) 0
    link_new = get_or-set_same T.links i (get_or T.heads (b i) 0) 0 (omega (arith, c.links_long))

    link_old : (j : ℕ) → j ≢ i → get_or L' j 0 ≡ get_or T.links j 0
    link_old j d = get_or-set_other T.links i j (get_or T.heads (b i) 0) 0 d

    low' : (x : ℕ) → x < chains_all → (x ≡ b i) ⊎ (x ≢ b i) → get_or H' x 0 ≤ i + 1
    low' x l (inl e) = rw (e, head_new) (omega arith)
    low' x l (inr d) = rw (head_old x d) (let w = c.low x l in omega arith)

    home' : (x k : ℕ) → x < chains_all → get_or H' x 0 ≡ suc k → (x ≡ b i) ⊎ (x ≢ b i) → b k ≡ x
    home' x k l e (inl s) =
        let w : i + 1 ≡ suc k = sym head_new ∙ ap (λ (y : ℕ). get_or H' y 0) (sym s) ∙ e in
        let v : k ≡ i = omega arith in
        ap b v ∙ sym s
    home' x k l e (inr d) = c.home x k l (sym (head_old x d) ∙ e)

    all' : (k : ℕ) → k < i + 1 → b k < chains_all → (k ≡ i) ⊎ (k ≢ i) → (b k ≡ b i) ⊎ (b k ≢ b i) → k < get_or H' (b k) 0
    all' k l h s (inl e) = rw (e, head_new) l
    all' k l h (inl s) (inr d) = absurd (d (ap b s))
    all' k l h (inr s) (inr d) = rw (head_old (b k) d) (c.all k (below i k l s) h)

    down' : (j : ℕ) → j < i + 1 → b j < chains_all → (j ≡ i) ⊎ (j ≢ i) → get_or L' j 0 ≤ j
    down' j l h (inl s) = rw (s, link_new) (c.low (b i) f)
    down' j l h (inr d) = rw (link_old j d) (c.down j (below i j l d) h)

    back' : (j k : ℕ) → j < i + 1 → b j < chains_all → get_or L' j 0 ≡ suc k → (j ≡ i) ⊎ (j ≢ i) → b k ≡ b j
    back' j k l h e (inl s) = c.home (b i) k f (sym link_new ∙ ap (λ (y : ℕ). get_or L' y 0) (sym s) ∙ e) ∙ ap b (sym s)
    back' j k l h e (inr d) = c.back j k (below i j l d) h (sym (link_old j d) ∙ e)

    between' : (j k : ℕ) → j < i + 1 → k < j → b j < chains_all → b k ≡ b j → (j ≡ i) ⊎ (j ≢ i) → k < get_or L' j 0
    between' j k l m h e (inl s) =
        let w : b k ≡ b i = e ∙ ap b s in
        let v : k < get_or T.heads (b k) 0 = c.all k (omega arith) (omega arith) in
        rw (s, link_new) (rw w at v)
    between' j k l m h e (inr d) = rw (link_old j d) (c.between j k (below i j l d) m h e)

    pub chained_push : Chained b (pushed i (b i) T) (i + 1)
    chained_push =
        record {
          most = omega arith;
          heads_long = length-set T.heads (b i) (i + 1) ∙ c.heads_long;
          links_long = length-set T.links i (get_or T.heads (b i) 0) ∙ c.links_long;
          low = λ x l. low' x l (same_or x (b i));
          home = λ x k l e. home' x k l e (same_or x (b i));
          all = λ k l h. all' k l h (same_or k i) (same_or (b k) (b i));
          down = λ j l h. down' j l h (same_or j i);
          back = λ j k l h e. back' j k l h e (same_or j i);
          between = λ j k l m h e. between' j k l m h e (same_or j i);
        }
