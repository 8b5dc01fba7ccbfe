-- A run followed by the places of its segments, and that it is what the cells hold from a counter on.
-- Assumes nothing.
use Prim.Native.Nat.{ℕ, zero, suc, ◌+◌, ◌≤◌, ◌<◌}
use mathlib.Core.Path.{◌≡◌, refl, ap, sym, ◌∙◌}
use mathlib.Core.Logic.{⊎_elim}
use mathlib.Core.Bool.{Bool}
use mathlib.Core.List.{List, [], ◌∷◌, ◌++◌, map}
use mathlib.Core.Option
use mathlib.Core.Option.{Option, none, some}
use native.Mathlib.Omega.{arith}
use lib.ListN.{length, length-append}
use borrow.Author.Tests.{le-leb, lt-leb, eq-eqb, ne_eqb}
use Rattle.octets.specs.Octets.{pick}
use Rattle.octets.proofs.Lists.{below_or}
use Rattle.walk.specs.declared.Settings.{Settings}
use Rattle.cells.specs.Segments.{Seg}
use Rattle.cells.specs.Rows.{held}
use Rattle.cells.specs.Order.{cell_at, found_in}
use Rattle.cells.specs.Messages.{Role, first, middle, last, role_of, bodies, cells_of, look, link, link_by, rest_from}
use Rattle.std.specs.Prelude.{Some}
use Rattle.taking.specs.Follow.{seg_at, on_at, follow, bodies_at, total}
use Rattle.cells.proofs.Looks.{look_found, look_none}
use Rattle.cells.proofs.Found.{found_held}

-- ---- roles

pub role_first : {f : ℕ} → f ≡ 1 → role_of f ≡ first
unfolding role_of
role_first {f} e = rw (eq-eqb f 1 e) refl

pub role_last : {f : ℕ} → f ≡ 2 → role_of f ≡ last
unfolding role_of
role_last {f} e =
    let k : f ≡ 1 → ⊥ = λ x. omega arith in
    rw (ne_eqb f 1 k, eq-eqb f 2 e) refl

pub role_middle : {f : ℕ} → (f ≡ 1 → ⊥) → (f ≡ 2 → ⊥) → role_of f ≡ middle
unfolding role_of
role_middle {f} a b = rw (ne_eqb f 1 a, ne_eqb f 2 b) refl

-- ---- what is looked for, by the place where it is found

found_look :
    (s : Settings) (Z : ℕ) (st : List ℕ) (n : ℕ) (k : List ℕ) (c : ℕ) {t : Seg} → found_in s Z st n k c < n →
    cell_at s Z st (found_in s Z st n k c) ≡ held t → look (cells_of s Z st n) k c ≡ some t
unfolding found_in
found_look s Z st n k c {t} h e = look_found (cell_at s Z st) k c n 0 t (omega arith) e

there_look :
    (s : Settings) (Z : ℕ) (st : List ℕ) (n : ℕ) (k : List ℕ) (c : ℕ) → found_in s Z st n k c < n →
    look (cells_of s Z st n) k c ≡ some (seg_at s Z st (found_in s Z st n k c))
there_look s Z st n k c h = found_look s Z st n k c h (found_held s Z st n k c refl h).cell

nowhere_look : (s : Settings) (Z : ℕ) (st : List ℕ) (n : ℕ) (k : List ℕ) (c : ℕ) → n ≤ found_in s Z st n k c → look (cells_of s Z st n) k c ≡ none
unfolding found_in
nowhere_look s Z st n k c h = look_none (cell_at s Z st) k c n 0 (omega arith)

module _ (next : ℕ → ℕ) (span : ℕ) (s : Settings) (Z : ℕ) (st : List ℕ) (n : ℕ) (k : List ℕ) where
  -- ---- one step

  module _ (f c : ℕ) {j : ℕ} (e : j ≡ found_in s Z st n k c) where
    on_none : n ≤ j → (r : Option (List ℕ)) → on_at s Z st n (found_in s Z st n k c) r ≡ none
    on_none h r =
        let m : n < suc (found_in s Z st n k c) = omega arith in
        ap (λ (b : Bool). pick b (link_by (role_of (seg_at s Z st (found_in s Z st n k c)).flags) (found_in s Z st n k c) r) none) (lt-leb (suc (found_in s Z st n k c)) n m)

    on_by : {x : Role} → j < n → role_of (seg_at s Z st j).flags ≡ x → (r : Option (List ℕ)) → on_at s Z st n (found_in s Z st n k c) r ≡ link_by x j r
    on_by {x} h w r =
        let m : suc j ≤ n = h in
        ap (λ (i : ℕ). on_at s Z st n i r) (sym e)
        ∙ ap (λ (b : Bool). pick b (link_by (role_of (seg_at s Z st j).flags) j r) none) (le-leb (suc j) n m)
        ∙ ap (λ (y : Role). link_by y j r) w

    pub follow_none : n ≤ j → follow next span s Z st n k (suc f) c ≡ none
    unfolding follow
    follow_none h = on_none h (follow next span s Z st n k f (next c))

    pub follow_by : {x : Role} → j < n → role_of (seg_at s Z st j).flags ≡ x → follow next span s Z st n k (suc f) c ≡ link_by x j (follow next span s Z st n k f (next c))
    unfolding follow
    follow_by h w = on_by h w (follow next span s Z st n k f (next c))

  -- ---- as what the cells hold from a counter on

  abbrev at : ℕ → Seg
  at j = seg_at s Z st j

  abbrev segs : Option (List ℕ) → Option (List Seg)
  segs r = Option.map (map at) r

  link_by_lem : (x : Role) (j : ℕ) (r : Option (List ℕ)) → link_by x (at j) (segs r) ≡ segs (link_by x j r)
  link_by_lem first j r = refl
  link_by_lem middle j none = refl
  link_by_lem middle j (some js) = refl
  link_by_lem last j r = refl

  rest_step : (c : ℕ) (r : Option (List ℕ)) → link (look (cells_of s Z st n) k c) (segs r) ≡ segs (on_at s Z st n (found_in s Z st n k c) r)
  rest_step c r = ⊎_elim there nowhere (below_or (found_in s Z st n k c) n)
    where
      there : found_in s Z st n k c < n → link (look (cells_of s Z st n) k c) (segs r) ≡ segs (on_at s Z st n (found_in s Z st n k c) r)
      there h =
          ap (λ (o : Option Seg). link o (segs r)) (there_look s Z st n k c h)
          ∙ link_by_lem (role_of (at (found_in s Z st n k c)).flags) (found_in s Z st n k c) r
          ∙ ap segs (sym (on_by 0 c refl h refl r))

      nowhere : n ≤ found_in s Z st n k c → link (look (cells_of s Z st n) k c) (segs r) ≡ segs (on_at s Z st n (found_in s Z st n k c) r)
      nowhere h = ap (λ (o : Option Seg). link o (segs r)) (nowhere_look s Z st n k c h) ∙ ap segs (sym (on_none 0 c refl h r))

  pub rest_places : (f c : ℕ) → rest_from next span f (cells_of s Z st n) k c ≡ segs (follow next span s Z st n k f c)
  unfolding rest_from follow
  rest_places zero c = refl
  rest_places (suc f) c = ap (link (look (cells_of s Z st n) k c)) (rest_places f (next c)) ∙ rest_step c (follow next span s Z st n k f (next c))

  -- ---- the octets of a run

  pub bodies_places : (js : List ℕ) → bodies (map at js) ≡ bodies_at s Z st js
  unfolding bodies bodies_at
  bodies_places [] = refl
  bodies_places (j ∷ js) = ap (λ (b : List ℕ). (at j).body ++ b) (bodies_places js)

  pub total_on : (b j : ℕ) (r : Option (List ℕ)) → total s Z st b (link_by middle j r) ≡ total s Z st (b + length (at j).body) r
  unfolding bodies_at
  total_on b j none = refl
  total_on b j (some js) =
      let e : b + length ((at j).body ++ bodies_at s Z st js) ≡ b + length (at j).body + length (bodies_at s Z st js) =
      omega (arith, length-append (at j).body (bodies_at s Z st js)) in
      ap (λ (x : ℕ). Some x) e

  pub total_last : (b j : ℕ) (r : Option (List ℕ)) → total s Z st b (link_by last j r) ≡ Some (b + length (at j).body)
  unfolding bodies_at
  total_last b j r =
      let e : b + length ((at j).body ++ []) ≡ b + length (at j).body = omega (arith, length-append (at j).body []) in
      ap (λ (x : ℕ). Some x) e
