-- Blocks of counters: a range lies in the block in which it begins and the one after it, round the end too; so a counter that it reaches has
-- that block as its own, or as the one before its own.
-- Assumes nothing.
use Prim.Native.Nat.{ℕ, zero, suc, ◌+◌, ◌-◌, ◌/◌, ◌%◌, ◌≤◌, ◌<◌}
use mathlib.Core.Path.{◌≡◌, refl, ap, sym, ◌∙◌}
use mathlib.Core.Logic.{◌⊎◌, inl, inr, ⊎_elim}
use mathlib.Core.Bool.{Bool, true}
use native.Mathlib.Numerals.{add-one}
use native.Mathlib.Omega.{arith}
use borrow.Author.Tests.{leb-true, eq-eqb, ne_eqb, ltb-true}
use Rattle.octets.specs.Octets.{pick, most32}
use Rattle.octets.proofs.Lists.{below_or}
use Rattle.packet.specs.Numbers.{next_counter}
use Rattle.cells.specs.Segments.{reaches}
use Rattle.cells.specs.declared.untaken.Block.{Block}
use Rattle.cells.specs.Blocks.{levels_most, twos, halved, prior, climbed, block_of}
use Rattle.cells.proofs.Lowest.{same_or}
use Rattle.cells.proofs.Reaches.{reaches_up, reaches_down}

-- ---- halving

pub halved_more : (j c : ℕ) → halved (suc j) c ≡ halved j c / 2
unfolding halved
halved_more zero c = refl
halved_more (suc j) c = halved_more j (c / 2)

halved_up : (j a b : ℕ) → a ≤ b → halved j a ≤ halved j b
unfolding halved
halved_up zero a b h = h
halved_up (suc j) a b h = halved_up j (a / 2) (b / 2) (omega arith)

halved_near : (j a b : ℕ) → b ≤ a + twos j → halved j b ≤ halved j a + 1
unfolding halved twos
halved_near zero a b h = h
halved_near (suc j) a b h = halved_near j (a / 2) (b / 2) (omega arith)

halved_low : (j c : ℕ) → c < twos j → halved j c ≡ 0
unfolding halved twos
halved_low zero c h = omega arith
halved_low (suc j) c h = halved_low j (c / 2) (omega arith)

-- a number whose lowest j bits are ones ends a block
unfoldable Ends : ℕ → ℕ → Type 0
Ends zero m = Unit {0}
Ends (suc j) m = (m % 2 ≡ 1) × Ends j (m / 2)

halved_top : (j m x : ℕ) → Ends j m → x ≤ m → m < x + twos j → halved j x ≡ halved j m
unfolding halved twos Ends
halved_top zero m x e h l = omega arith
halved_top (suc j) m x e h l = halved_top j (m / 2) (x / 2) e.1 (omega arith) (omega (arith, e.0))

ends_less : (j n m : ℕ) → j ≤ n → Ends n m → Ends j m
unfolding Ends
ends_less zero n m h e = tt
ends_less (suc j) zero m h e = absurd (omega arith)
ends_less (suc j) (suc n) m h e = (e.0, ends_less j n (m / 2) (omega arith) e.1)

ends_most : Ends 12 most32
unfolding Ends
ends_most = (refl, (refl, (refl, (refl, (refl, (refl, (refl, (refl, (refl, (refl, (refl, (refl, tt))))))))))))

-- ---- a counter that a range reaches

pub near :
    (j first steps c : ℕ) → j ≤ levels_most → first ≤ most32 → c ≤ most32 → steps < twos j → reaches next_counter steps first c ≡ true →
    (halved j first ≡ halved j c) ⊎ (halved j first ≡ prior (halved j most32) (halved j c))
near j first steps c top lf lc room e = go (below_or c first)
  where
    -- one block lower
    lower : {x y : ℕ} → x ≡ y + 1 → y ≡ prior (halved j most32) x
    lower {x} {y} k = let d : y ≡ x - 1 = omega arith in rw (ne_eqb x 0 (λ z. omega arith)) d

    go : (c < first) ⊎ (first ≤ c) → (halved j first ≡ halved j c) ⊎ (halved j first ≡ prior (halved j most32) (halved j c))
    go (inr h) =
        let l : c - first ≤ steps = leb-true (c - first) steps (reaches_up steps first c lc h ∙ e) in
        let u = halved_up j first c h in
        let n = halved_near j first c (omega arith) in
        ⊎_elim
        (λ (k : halved j first ≡ halved j c). inl k)
        (λ (k : halved j first ≡ halved j c → ⊥). inr (lower {x = halved j c} {y = halved j first} (omega (arith, k))))
        (same_or (halved j first) (halved j c))
    go (inl h) =
        let l : most32 - first + c < steps = ltb-true (most32 - first + c) steps (reaches_down steps first c lf h ∙ e) in
        let z : halved j c ≡ 0 = halved_low j c (omega arith) in
        let t : halved j first ≡ halved j most32 = halved_top j most32 first (ends_less j 12 most32 top ends_most) lf (omega arith) in
        inr (t ∙ sym (ap (λ (b : Bool). pick b (halved j most32) (halved j c - 1)) (eq-eqb (halved j c) 0 z)))

-- ---- the block where a range begins

-- l levels up
pub record Climb (f j left x : ℕ) : Type 0 where
  pub levels : ℕ
  pub most : levels ≤ f
  pub level : (climbed f j left x).level ≡ j + levels
  pub number : (climbed f j left x).number ≡ halved levels x
  pub room : left < twos levels

climb_here : (f j left x : ℕ) → left ≡ 0 → climbed f j left x ≡ record { level = j; number = x }
unfolding climbed
climb_here zero j left x e = refl
climb_here (suc f) j left x e = ap (λ (b : Bool). pick b (record { level = j; number = x }) (climbed f (suc j) (left / 2) (x / 2))) (eq-eqb left 0 e)

pub climb_on : (f j left x : ℕ) → (left ≡ 0 → ⊥) → climbed (suc f) j left x ≡ climbed f (suc j) (left / 2) (x / 2)
unfolding climbed
climb_on f j left x e = ap (λ (b : Bool). pick b (record { level = j; number = x }) (climbed f (suc j) (left / 2) (x / 2))) (ne_eqb left 0 e)

climb_none : (f j left x : ℕ) → left ≡ 0 → Climb f j left x
unfolding halved twos
climb_none f j left x e =
    let k = climb_here f j left x e in
    record {
      levels = 0;
      most = omega arith;
      level = ap (λ (b : Block). b.level) k ∙ add_none j;
      number = ap (λ (b : Block). b.number) k;
      room = omega arith;
    }
  where
    add_none : (n : ℕ) → n ≡ n + 0
    add_none n = omega arith

climb_all : (f j left x : ℕ) → left < twos f → Climb f j left x
unfolding twos halved
climb_all zero j left x h = climb_none zero j left x (omega arith)
climb_all (suc f) j left x h = go (climb_all f (suc j) (left / 2) (x / 2) (omega arith)) (same_or left 0)
  where
    go : Climb f (suc j) (left / 2) (x / 2) → (left ≡ 0) ⊎ (left ≡ 0 → ⊥) → Climb (suc f) j left x
    go w (inl e) = climb_none (suc f) j left x e
    go w (inr e) =
        let k = climb_on f j left x e in
        let l = w.levels in
        record {
          levels = suc l;
          most = omega (arith, w.most);
          level = ap (λ (b : Block). b.level) k ∙ omega (arith, w.level);
          number = ap (λ (b : Block). b.number) k ∙ w.number;
          room = omega (arith, w.room);
        }

pub block_room :
    (first steps : ℕ) → steps ≤ 4095 →
    ((block_of first steps).level ≤ levels_most)
    × (steps < twos (block_of first steps).level) × ((block_of first steps).number ≡ halved (block_of first steps).level first)
unfolding twos
block_room first steps h =
    let w = climb_all 12 0 steps first (omega arith) in
    let e : w.levels ≡ (block_of first steps).level = omega (arith, w.level) in
    (omega (arith, w.level, w.most), rw e at w.room, w.number ∙ ap (λ (j : ℕ). halved j first) e)

-- ---- the code's climb, level by level

pub record Climbing (steps first level left x : ℕ) : Type 0 where
  pub most : level ≤ levels_most
  pub same : climbed (levels_most - level) level left x ≡ block_of first steps

pub climbing_first : (steps first : ℕ) → Climbing steps first 0 steps first
climbing_first steps first = record { most = omega arith; same = refl }

module _ {steps first level left x : ℕ} (p : Climbing steps first level left x) where
  pub climbing_here : left ≡ 0 → record { level = level; number = x } ≡ block_of first steps
  climbing_here e = sym (climb_here (levels_most - level) level left x e) ∙ p.same

  pub climbing_turn : level < levels_most → (left ≡ 0 → ⊥) → Climbing steps first (level + 1) (left / 2) (x / 2)
  climbing_turn h e =
      let n : levels_most - level ≡ suc (levels_most - suc level) = omega arith in
      record {
        most = omega arith;
        same =
            rw (add-one level)
            (sym (ap (λ (f : ℕ). climbed f level left x) n ∙ climb_on (levels_most - suc level) level left x e) ∙ p.same);
      }

  pub climbing_top : levels_most ≤ level → record { level = levels_most; number = x } ≡ block_of first steps
  unfolding climbed
  climbing_top h =
      let e : level ≡ levels_most = omega (arith, p.most) in
      let z : levels_most - level ≡ 0 = omega arith in
      sym (ap (λ (l : ℕ). record { level = l; number = x }) e) ∙ sym (ap (λ (f : ℕ). climbed f level left x) z) ∙ p.same
