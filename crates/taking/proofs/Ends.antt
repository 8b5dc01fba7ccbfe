-- A store without a last segment has no complete message; and the sequence flags of a held cell stand in the fifth octet of its row.
-- Assumes nothing.
use Prim.Native.Nat.{ℕ, zero, suc, ◌+◌, ◌/◌, ◌≤◌, ◌<◌}
use mathlib.Core.Path.{◌≡◌, refl, ap, sym, ◌∙◌}
use mathlib.Core.Logic.{⊎_elim}
use mathlib.Core.Bool.{Bool, true, false}
use mathlib.Core.List.{List, [], ◌∷◌}
use mathlib.Core.Option.{Option, none, some, map}
use native.Mathlib.Omega.{arith}
use lib.Dec.{eqb}
use borrow.Author.Tests.{eqb-true, eq-eqb, ne_eqb}
use Rattle.octets.specs.Octets.{pick, octet_at, number}
use Rattle.octets.proofs.Lists.{bool}
use Rattle.walk.specs.declared.Settings.{Settings}
use Rattle.cells.specs.Segments.{Seg, seg_of}
use Rattle.cells.specs.Rows.{Cell, held, row_at, zero_row, packet_in, segment_in, by_segment}
use Rattle.cells.specs.Order.{cell_at, lowest}
use Rattle.cells.proofs.Held.{flags_same}
use Rattle.cells.proofs.Transactions.{part_octet}
use Rattle.cells.proofs.Carries.{Holding, held_is}
use Rattle.cells.proofs.Lowest.{same_or}
use Rattle.cells.specs.Messages.{Role, first, middle, last, role_of, Run, or_else, listed, look, cells_of, link_by, link, opens_by, rest_from, run_from, run_in, pick_in, picked}
use Rattle.cells.proofs.Listed.{lowest_hit, lowest_miss}
use Rattle.cells.proofs.Looking.{look_some}
use Rattle.taking.specs.Follow.{seg_at, ends_at}

-- ---- the flags in a row

pub zeros_at : (n k : ℕ) → octet_at (zero_row n) k ≡ 0
zeros_at zero k = refl
zeros_at (suc n) zero = refl
zeros_at (suc n) (suc k) = zeros_at n k

module _ (s : Settings) (Z : ℕ) (st : List ℕ) (i : ℕ) (h : Holding s Z (row_at Z st i)) where
  pub flags_told : (seg_at s Z st i).flags ≡ octet_at (row_at Z st i) 4 / 64
  unfolding seg_of
  flags_told =
      let r = row_at Z st i in
      let l : 2 < number 2 (row_at Z st i) 6 + 7 = omega arith in
      flags_same s (packet_in (row_at Z st i)) h.accepted
      ∙ ap (λ (x : ℕ). x / 64) (part_octet (row_at Z st i) 2 (number 2 (row_at Z st i) 6 + 7) 2 l)

-- ---- what is looked for is held

module _ (P : Seg → Type 0) (f : ℕ → Cell) (k : List ℕ) (c : ℕ) where
  pub look_any : (n i : ℕ) → ((j : ℕ) → j < i + n → (t : Seg) → f j ≡ held t → P t) → (t : Seg) → look (listed f n i) k c ≡ some t → P t
  look_any n i h t e = let a = look_some f k c n i t e in h a.0 a.1.top t a.2

-- ---- no last, no message

role_of_last : (f : ℕ) → role_of f ≡ last → f ≡ 2
unfolding role_of
role_of_last f e = go (eqb f 1) (eqb f 2) (λ x. eqb-true f 2 x) e
  where
    go : (a b : Bool) → (b ≡ true → f ≡ 2) → pick a first (pick b last middle) ≡ last → f ≡ 2
    go true b h d = let z : ◌≡◌ {A = ℕ} 0 1 = cc in absurd (omega arith)
    go false true h d = h refl
    go false false h d = let z : ◌≡◌ {A = ℕ} 0 1 = cc in absurd (omega arith)

module _ (next : ℕ → ℕ) (span : ℕ) (cs : List Cell) (no : (k : List ℕ) (c : ℕ) (t : Seg) → look cs k c ≡ some t → t.flags ≡ 2 → ⊥) where
  link_none : (o : Option Seg) → ((t : Seg) → o ≡ some t → t.flags ≡ 2 → ⊥) → (r : Option (List Seg)) → r ≡ none → link o r ≡ none
  link_none none h r e = refl
  link_none (some t) h r e = go (role_of t.flags) refl
    where
      go : (x : Role) → role_of t.flags ≡ x → link_by x t r ≡ none
      go first d = refl
      go middle d = ap (map (λ (ts : List Seg). t ∷ ts)) e
      go last d = absurd (h t refl (role_of_last t.flags d))

  rest_none : (m : ℕ) (k : List ℕ) (c : ℕ) → rest_from next span m cs k c ≡ none
  unfolding rest_from
  rest_none zero k c = refl
  rest_none (suc m) k c = link_none (look cs k c) (no k c) (rest_from next span m cs k (next c)) (rest_none m k (next c))

  opens_nothing : (x : Role) (t : Seg) (r : Option (List Seg)) → r ≡ none → opens_by x t r ≡ none
  opens_nothing first t r e = ap (map (λ (ts : List Seg). record { head = t; rest = ts })) e
  opens_nothing middle t r e = refl
  opens_nothing last t r e = refl

  run_nothing : (x : Cell) → run_in next span cs x ≡ none
  unfolding run_from
  run_nothing x = go (segment_in x)
    where
      go : (o : Option Seg) → by_segment none (run_from next span cs) o ≡ none
      go none = refl
      go (some t) = opens_nothing (role_of t.flags) t (rest_from next span span cs t.key (next t.counter)) (rest_none span t.key (next t.counter))

  pub pick_nothing : (xs : List Cell) → pick_in next span cs xs ≡ none
  unfolding pick_in
  pick_nothing [] = refl
  pick_nothing (x ∷ xs) = ap (λ (o : Option Run). or_else o (pick_in next span cs xs)) (run_nothing x) ∙ pick_nothing xs

-- ---- over the store

-- none was found: the test holds of none
lowest_misses : (f : ℕ → Bool) (n i : ℕ) → i + n ≤ lowest f n i → (j : ℕ) → i ≤ j → j < i + n → f j ≡ false
lowest_misses f zero i h j a b = absurd (omega arith)
lowest_misses f (suc n) i h j a b = ⊎_elim here (on (lowest_misses f n (suc i))) (bool (f i))
  where
    here : f i ≡ true → f j ≡ false
    here e = absurd (omega (arith, lowest_hit f n i e))

    on : (suc i + n ≤ lowest f n (suc i) → (m : ℕ) → suc i ≤ m → m < suc i + n → f m ≡ false) → f i ≡ false → f j ≡ false
    on rest e = ⊎_elim (λ (d : j ≡ i). ap f d ∙ e) (λ (d : j ≡ i → ⊥). rest (omega (arith, lowest_miss f n i e)) j (omega (arith, d)) (omega arith)) (same_or j i)

module _ (next : ℕ → ℕ) (span : ℕ) (s : Settings) (Z : ℕ) (st : List ℕ) (n : ℕ) where
  no_last : n ≤ lowest (ends_at Z st) n 0 → (j : ℕ) → j < 0 + n → (t : Seg) → cell_at s Z st j ≡ held t → t.flags ≡ 2 → ⊥
  no_last h j l t e d =
      let there = held_is s Z (row_at Z st j) t e in
      let same : seg_at s Z st j ≡ t = seg_same (sym there.cell ∙ e) in
      let two : octet_at (row_at Z st j) 4 / 64 ≡ 2 = sym (flags_told s Z st j there) ∙ ap (λ (u : Seg). u.flags) same ∙ d in
      let f : ends_at Z st j ≡ false = lowest_misses (ends_at Z st) n 0 (omega arith) j (omega arith) l in
      let z : ◌≡◌ {A = Bool} true false = sym (ap (λ (x : ℕ). eqb x 2) two) ∙ f in
      let y : ◌≡◌ {A = ℕ} 0 1 = cc in
      absurd (omega arith)
    where
      seg_same : {a b : Seg} → held a ≡ held b → a ≡ b
      seg_same x = cc

  pub nothing_complete : {r : ℕ} → r ≡ lowest (ends_at Z st) n 0 → n ≤ r → picked next span (cells_of s Z st n) ≡ none
  nothing_complete e h =
      pick_nothing next span (cells_of s Z st n)
      (λ k c. look_any (λ t. t.flags ≡ 2 → ⊥) (cell_at s Z st) k c n 0 (no_last (omega (arith, e))))
      (cells_of s Z st n)

-- ---- as the scan tests it

module _ (Z : ℕ) (st : List ℕ) (i : ℕ) {r : List ℕ} (er : r ≡ row_at Z st i) {f : ℕ} (ef : f ≡ octet_at r 4 / 64) where
  flags_row : octet_at (row_at Z st i) 4 / 64 ≡ f
  flags_row = sym (ef ∙ ap (λ (y : List ℕ). octet_at y 4 / 64) er)

  pub ends_yes : f ≡ 2 → ends_at Z st i ≡ true
  ends_yes e = eq-eqb (octet_at (row_at Z st i) 4 / 64) 2 (flags_row ∙ e)

  pub ends_other : (f ≡ 2 → ⊥) → ends_at Z st i ≡ false
  ends_other e = ne_eqb (octet_at (row_at Z st i) 4 / 64) 2 (λ d. e (sym flags_row ∙ d))
