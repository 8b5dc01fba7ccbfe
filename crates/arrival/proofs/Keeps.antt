-- An arrival keeps a store in order (S-9), and as long as it was.
-- Assumes nothing.
use Prim.Native.Nat.{ℕ, ◌*◌, ◌<◌}
use mathlib.Core.Path.{◌≡◌, refl, ap, sym, ◌∙◌}
use mathlib.Core.Logic.{◌≢◌, ◌⊎◌, inl, inr}
use mathlib.Core.Bool.{true, false}
use mathlib.Core.List.{List}
use native.Mathlib.Omega.{arith}
use lib.ListN.{length}
use lib.Dec.{eqb}
use lib.Seq.{length-sets}
use Rattle.walk.specs.declared.Settings.{Settings}
use Rattle.walk.specs.Walk.{begun, refusal}
use Rattle.cells.specs.Segments.{Seg, carries}
use Rattle.cells.specs.Rows.{held, taken, held_row}
use Rattle.cells.specs.Order.{is_sound, carries_in, covers, cell_at, count_in, in_order, gate}
use Rattle.cells.proofs.Gate.{through_tells, open_true}
use Rattle.cells.proofs.Lowest.{same_or}
use Rattle.cells.proofs.Listed.{among_below}
use Rattle.cells.proofs.Looking.{look_none}
use Rattle.cells.proofs.Distinct.{Apart, carries_yes}
use Rattle.cells.proofs.Covered.{Missed, Clear, untaken_missed}
use Rattle.cells.proofs.StoreOrder.{cells_inside, Ordered, order_tells, order_same}
use Rattle.arrival.specs.Arriving.{Arrived, whole, stored, again, late, refused, arrived_in, arrived, store_with}
use Rattle.arrival.proofs.After.{segment, Stored, not_refused, stored_tells, cell_kept, cell_stored}

pub arrive_long : (Z : ℕ) (st p : List ℕ) (a : Arrived) → length (store_with Z st p a) ≡ length st
unfolding store_with
arrive_long Z st p whole = refl
arrive_long Z st p (stored i) = length-sets st (i * Z) (held_row Z p)
arrive_long Z st p again = refl
arrive_long Z st p late = refl
arrive_long Z st p (refused k) = refl

module _ (s : Settings) (Z : ℕ) (st p : List ℕ) where
  -- one that is stored: the store was in order
  pub arrived_tells : (i : ℕ) → arrived s Z st p ≡ stored i → (eqb (begun s).refused 0 ≡ true) × ((in_order s Z st ≡ true) × (arrived_in s Z st (count_in Z st) p ≡ stored i))
  unfolding arrived
  arrived_tells i e =
      let a = through_tells (gate s Z st) (arrived_in s Z st (count_in Z st) p) (λ k. refused (refusal k)) (stored i) (λ k. not_refused (refusal k) i) e in
      let b = open_true s Z st a.0 in
      (b.0, (b.1, a.1))

  module _ (o : Ordered s Z st) (i : ℕ) (e : arrived_in s Z st (count_in Z st) p ≡ stored i) where
    abbrev x : List ℕ
    x = store_with Z st p (stored i)

    h : Stored s Z st (count_in Z st) p i
    h = stored_tells s Z st (count_in Z st) p i e

    there : cell_at s Z x i ≡ held (segment s p)
    there = cell_stored s Z st (count_in Z st) p i e (cells_inside Z st)

    kept : (j : ℕ) → j ≢ i → cell_at s Z x j ≡ cell_at s Z st j
    kept = cell_kept s Z st (count_in Z st) p i e

    stored_sound : (j : ℕ) → j < count_in Z st → is_sound (cell_at s Z x j) ≡ true
    stored_sound j l = go (same_or j i)
      where
        go : (j ≡ i) ⊎ (j ≢ i) → is_sound (cell_at s Z x j) ≡ true
        go (inl d) = ap (λ (m : ℕ). is_sound (cell_at s Z x m)) d ∙ ap is_sound there
        go (inr d) = ap is_sound (kept j d) ∙ o.sound j l

    -- what was held has another key or counter
    other : (j : ℕ) (u : Seg) → j < count_in Z st → cell_at s Z st j ≡ held u → (segment s p).key ≡ u.key → (segment s p).counter ≡ u.counter → ⊥
    other j u l a p' q =
        let b = look_none (cell_at s Z st) (segment s p).key (segment s p).counter (count_in Z st) 0 h.new j (among_below l) in
        let c : carries (segment s p).key (segment s p).counter u ≡ false = sym (ap (carries_in (segment s p).key (segment s p).counter) a) ∙ b in
        let d : carries (segment s p).key (segment s p).counter u ≡ true = carries_yes (segment s p).key (segment s p).counter u p' q in
        let z : ◌≡◌ {A = ℕ} 0 1 = cc in omega arith

    stored_apart : Apart s Z x (count_in Z st)
    stored_apart j k t u l m a b p' q = go (same_or j i) (same_or k i)
      where
        new : (y : ℕ) (v : Seg) → y ≡ i → cell_at s Z x y ≡ held v → segment s p ≡ v
        new y v d f = let g : held (segment s p) ≡ held v = sym there ∙ ap (cell_at s Z x) (sym d) ∙ f in cc g

        go : (j ≡ i) ⊎ (j ≢ i) → (k ≡ i) ⊎ (k ≢ i) → j ≡ k
        go (inl c) (inl d) = c ∙ sym d
        go (inl c) (inr d) =
            let v = new j t c a in
            absurd (other k u m (sym (kept k d) ∙ b) (ap (λ (y : Seg). y.key) v ∙ p') (ap (λ (y : Seg). y.counter) v ∙ q))
        go (inr c) (inl d) =
            let v = new k u d b in
            absurd (other j t l (sym (kept j c) ∙ a) (ap (λ (y : Seg). y.key) v ∙ sym p') (ap (λ (y : Seg). y.counter) v ∙ sym q))
        go (inr c) (inr d) = o.apart j k t u l m (sym (kept j c) ∙ a) (sym (kept k d) ∙ b) p' q

    -- no record covers the new one
    stored_clear : Clear s Z x (count_in Z st)
    stored_clear j k t g l m a b = go (same_or j i) (same_or k i)
      where
        missed : Missed s Z st (count_in Z st) (segment s p).key (segment s p).counter
        missed = untaken_missed s Z st (count_in Z st) (segment s p).key (segment s p).counter h.untaken

        go : (j ≡ i) ⊎ (j ≢ i) → (k ≡ i) ⊎ (k ≢ i) → covers t.key t.counter g ≡ false
        go y (inl d) =
            let e : held (segment s p) ≡ taken g = sym there ∙ ap (cell_at s Z x) (sym d) ∙ b in
            let z : ◌≡◌ {A = ℕ} 0 1 = cc in absurd (omega arith)
        go (inl c) (inr d) =
            let e : held (segment s p) ≡ held t = sym there ∙ ap (cell_at s Z x) (sym c) ∙ a in
            let v : segment s p ≡ t = cc e in
            ap (λ (y : Seg). covers y.key y.counter g) (sym v) ∙ missed k g m (sym (kept k d) ∙ b)
        go (inr c) (inr d) = o.clear j k t g l m (sym (kept j c) ∙ a) (sym (kept k d) ∙ b)

  -- S-9: a store in order is in order after an arrival
  pub arrive_keeps : in_order s Z st ≡ true → in_order s Z (store_with Z st p (arrived s Z st p)) ≡ true
  unfolding store_with
  arrive_keeps w = go (arrived s Z st p) refl
    where
      go : (a : Arrived) → arrived s Z st p ≡ a → in_order s Z (store_with Z st p a) ≡ true
      go whole e = w
      go (stored i) e =
          let o = order_tells s Z st w in
          let d = (arrived_tells i e).1.1 in
          order_same s Z st (store_with Z st p (stored i)) (arrive_long Z st p (stored i)) o (stored_sound o i d) (stored_apart o i d)
          (stored_clear o i d)
      go again e = w
      go late e = w
      go (refused k) e = w
