-- Searches: what the lowest of some numbers is, and what is looked for in the cells is what the lowest cell that carries it holds.
-- Assumes nothing.
use Prim.Native.Nat.{ℕ, zero, suc, ◌+◌, ◌≤◌, ◌<◌}
use mathlib.Core.Path.{◌≡◌, refl, ap, sym, ◌∙◌}
use mathlib.Core.Logic.{⊎_elim}
use mathlib.Core.Bool.{Bool, true, false}
use mathlib.Core.List.{List}
use mathlib.Core.Option.{Option, none, some}
use native.Mathlib.Omega.{arith}
use Rattle.octets.proofs.Lists.{bool}
use Rattle.cells.specs.Segments.{Seg, carries}
use Rattle.cells.specs.Rows.{Cell, held}
use Rattle.cells.specs.Order.{carries_in, lowest}
use Rattle.cells.specs.Messages.{listed, or_else, held_as, look}
use Rattle.cells.proofs.Listed.{lowest_hit, lowest_miss}
use Rattle.cells.proofs.Looking.{held_yes, held_none}

-- ---- the lowest

pub lowest_holds : (f : ℕ → Bool) (n i : ℕ) → lowest f n i < i + n → f (lowest f n i) ≡ true
unfolding lowest
lowest_holds f zero i h = absurd (omega arith)
lowest_holds f (suc n) i h = ⊎_elim here (on (lowest_holds f n (suc i))) (bool (f i))
  where
    here : f i ≡ true → f (lowest f (suc n) i) ≡ true
    here e = ap f (lowest_hit f n i e) ∙ e

    on : (lowest f n (suc i) < suc i + n → f (lowest f n (suc i)) ≡ true) → f i ≡ false → f (lowest f (suc n) i) ≡ true
    on rest e =
        let k : lowest f n (suc i) < suc i + n = omega (arith, lowest_miss f n i e) in
        ap f (lowest_miss f n i e) ∙ rest k

pub lowest_same : (f g : ℕ → Bool) (n i : ℕ) → ((j : ℕ) → f j ≡ g j) → lowest f n i ≡ lowest g n i
unfolding lowest
lowest_same f g zero i h = refl
lowest_same f g (suc n) i h = rw (h i, lowest_same f g n (suc i) h) refl

-- ---- what is held

held_some : (k : List ℕ) (c : ℕ) (x : Cell) (t : Seg) → x ≡ held t → carries_in k c x ≡ true → held_as k c x ≡ some t
held_some k c x t e g =
    let b : carries k c t ≡ true = ap (carries_in k c) (sym e) ∙ g in
    held_yes k c x t e b

-- the lowest of n cells that carries a key and a counter
abbrev at : (ℕ → Cell) → List ℕ → ℕ → ℕ → ℕ → ℕ
at f k c n i = lowest (λ j. carries_in k c (f j)) n i

pub look_found : (f : ℕ → Cell) (k : List ℕ) (c n i : ℕ) (t : Seg) → at f k c n i < i + n → f (at f k c n i) ≡ held t → look (listed f n i) k c ≡ some t
unfolding look listed lowest
look_found f k c zero i t h e = absurd (omega arith)
look_found f k c (suc n) i t h e = ⊎_elim here (on (look_found f k c n (suc i) t)) (bool (carries_in k c (f i)))
  where
    g : ℕ → Bool
    g j = carries_in k c (f j)

    here : carries_in k c (f i) ≡ true → or_else (held_as k c (f i)) (look (listed f n (suc i)) k c) ≡ some t
    here b =
        let x : f i ≡ held t = ap f (sym (lowest_hit g n i b)) ∙ e in
        ap (λ (o : Option Seg). or_else o (look (listed f n (suc i)) k c)) (held_some k c (f i) t x b)

    on :
        (at f k c n (suc i) < suc i + n → f (at f k c n (suc i)) ≡ held t → look (listed f n (suc i)) k c ≡ some t) → carries_in k c (f i) ≡ false →
        or_else (held_as k c (f i)) (look (listed f n (suc i)) k c) ≡ some t
    on rest b =
        let m : at f k c n (suc i) < suc i + n = omega (arith, lowest_miss g n i b) in
        ap (λ (o : Option Seg). or_else o (look (listed f n (suc i)) k c)) (held_none k c (f i) b)
        ∙ rest m (ap f (sym (lowest_miss g n i b)) ∙ e)

pub look_none : (f : ℕ → Cell) (k : List ℕ) (c n i : ℕ) → i + n ≤ at f k c n i → look (listed f n i) k c ≡ none
unfolding look listed lowest
look_none f k c zero i h = refl
look_none f k c (suc n) i h = ⊎_elim here (on (look_none f k c n (suc i))) (bool (carries_in k c (f i)))
  where
    g : ℕ → Bool
    g j = carries_in k c (f j)

    here : carries_in k c (f i) ≡ true → or_else (held_as k c (f i)) (look (listed f n (suc i)) k c) ≡ none
    here b = absurd (omega (arith, lowest_hit g n i b))

    on :
        (suc i + n ≤ at f k c n (suc i) → look (listed f n (suc i)) k c ≡ none) → carries_in k c (f i) ≡ false →
        or_else (held_as k c (f i)) (look (listed f n (suc i)) k c) ≡ none
    on rest b =
        let m : suc i + n ≤ at f k c n (suc i) = omega (arith, lowest_miss g n i b) in
        ap (λ (o : Option Seg). or_else o (look (listed f n (suc i)) k c)) (held_none k c (f i) b) ∙ rest m
