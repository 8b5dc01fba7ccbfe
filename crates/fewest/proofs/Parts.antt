-- The formula's parts of a body: all but the last have C octets, the last 1 to C, and joined they are the body. Where cutting is
-- needed there are at least two.
-- Assumes nothing.
use Prim.Native.Nat.{ℕ, zero, suc, ◌+◌, ◌-◌, ◌*◌, ◌/◌, ◌≤◌, ◌<◌, min}
use mathlib.Core.Path.{◌≡◌, ap, sym, ◌∙◌}
use mathlib.Core.Logic.{⊎_elim}
use mathlib.Core.Bool.{Bool, true, false}
use mathlib.Core.List.{List, ◌++◌}
use native.Mathlib.Omega.{arith}
use native.Mathlib.Nat.{zero-mul, le-div_iff_mul-le}
use lib.ListN.{length, take, drop, length-take, length-drop}
use lib.Seq.{take-add, take_all}
use lib.Dec.{leb}
use borrow.Author.Tests.{leb-true, leb-false}
use Rattle.octets.specs.Octets.{pick, part}
use Rattle.octets.proofs.Lists.{below_or}
use Rattle.fields.specs.Form.{joined}
use Rattle.cut.specs.Cutting.{single, chunk, rounded, packets, body_start}
use Rattle.fewest.specs.Carrying.{first_of}
use Rattle.fewest.proofs.Lists.{joined_suc, joined_one}

-- ---- rounding up

module _ (B C : ℕ) (h : 1 ≤ C) where
  -- part i begins inside the body exactly if i is below the count
  pub inside : (i : ℕ) → i < rounded B C → i * C < B
  unfolding rounded
  inside i l =
      let p : 0 < C = omega arith in
      let k : suc i ≤ (B + (C - 1)) / C = omega arith in
      let m = (le-div_iff_mul-le {k = C} {x = suc i} {y = B + (C - 1)} p).0 k in
      let e : suc i * C ≡ i * C + C = omega arith in
      omega arith

  pub below : (i : ℕ) → i * C < B → i < rounded B C
  unfolding rounded
  below i l =
      let p : 0 < C = omega arith in
      let e : suc i * C ≡ i * C + C = omega arith in
      let m : suc i * C ≤ B + (C - 1) = omega arith in
      let k = (le-div_iff_mul-le {k = C} {x = suc i} {y = B + (C - 1)} p).1 m in
      omega arith

  -- the parts reach the body's end
  pub reach : B ≤ rounded B C * C
  reach =
      ⊎_elim (λ l. let k = below (rounded B C) l in absurd (omega arith)) (λ l. l) (below_or (rounded B C * C) B)

-- ---- where one packet is enough

pub packets_one : (P H B : ℕ) → single P H B ≡ true → packets P H B ≡ 1
unfolding packets
packets_one P H B e = rw e

-- ---- where cutting is needed

module _ (P H B : ℕ) (e : single P H B ≡ false) where
  pub packets_cut : packets P H B ≡ rounded B (chunk P H)
  unfolding packets
  packets_cut = rw e

  pub longer : P < 6 + H + B
  longer = leb-false (6 + H + B) P e

  pub two_at_least : 1 ≤ chunk P H → 2 ≤ packets P H B
  two_at_least h =
      let l = longer in
      let k = below B (chunk P H) h 1 (omega arith) in
      omega (arith, packets_cut)

  module _ (h : 1 ≤ chunk P H) (i : ℕ) (body : List ℕ) (n : length body ≡ B) where
    abbrev piece : List ℕ
    piece = part body (i * chunk P H) (chunk P H)

    piece_long : length piece ≡ min (chunk P H) (B - i * chunk P H)
    piece_long = length-take (chunk P H) (drop (i * chunk P H) body) ∙ ap (min (chunk P H)) (length-drop (i * chunk P H) body ∙ ap (λ (k : ℕ). k - i * chunk P H) n)

    -- each part but the last is full
    pub piece_full : suc i < packets P H B → length piece ≡ chunk P H
    piece_full l =
        let k = inside B (chunk P H) h (suc i) (omega (arith, packets_cut)) in
        let m : suc i * chunk P H ≡ i * chunk P H + chunk P H = omega arith in
        piece_long ∙ omega arith

    -- and each has some
    pub piece_some : i < packets P H B → 1 ≤ length piece
    piece_some l =
        let k = inside B (chunk P H) h i (omega (arith, packets_cut)) in
        let z = piece_long in
        omega arith

    pub piece_most : length piece ≤ chunk P H
    piece_most = let z = piece_long in omega arith

-- ---- joined

module _ (C : ℕ) (body : List ℕ) where
  abbrev piece_at : ℕ → List ℕ
  piece_at i = part body (i * C) C

  taken : (n : ℕ) → joined (λ (x : List ℕ). x) (first_of piece_at n) ≡ take (n * C) body
  unfolding first_of joined
  taken zero = ap (λ (k : ℕ). take k body) (sym (zero-mul C))
  taken (suc n) =
      let e : n * C + C ≡ suc n * C = omega arith in
      joined_suc (λ (x : List ℕ). x) piece_at n
      ∙ ap (λ (y : List ℕ). y ++ piece_at n) (taken n)
      ∙ sym (take-add (n * C) C body)
      ∙ ap (λ (k : ℕ). take k body) e

  pub all_taken : 1 ≤ C → joined (λ (x : List ℕ). x) (first_of piece_at (rounded (length body) C)) ≡ body
  all_taken h = taken (rounded (length body) C) ∙ take_all (rounded (length body) C * C) body (reach (length body) C h)

-- the parts of a message, one or more, joined
pub parts_joined :
    (P H : ℕ) (body : List ℕ) → pick (single P H (length body)) true (leb 1 (chunk P H)) ≡ true →
    joined (λ (x : List ℕ). x) (first_of (body_start P H body) (packets P H (length body))) ≡ body
unfolding body_start packets first_of joined
parts_joined P H body g = go (single P H (length body)) g
  where
    go :
        (b : Bool) → pick b true (leb 1 (chunk P H)) ≡ true →
        joined (λ (x : List ℕ). x) (first_of (λ (i : ℕ). pick b body (part body (i * chunk P H) (chunk P H))) (pick b 1 (rounded (length body) (chunk P H)))) ≡ body
    go true g = joined_one (λ (x : List ℕ). x) body
    go false g = all_taken (chunk P H) body (leb-true 1 (chunk P H) g)
