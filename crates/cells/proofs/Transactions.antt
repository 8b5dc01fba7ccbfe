-- Segments with different transaction ids have different keys: the id stands before the counter, at octets 18 to 25 of the packet and at
-- octets 14 to 21 of the key. The key of a held segment is never too short for it: reading has accepted the packet, whose fixed part of
-- the secondary header, 21 octets, is all in the key after the two of the identification. For other octets, of any length, packet and key
-- end together before the id or inside it, and what is missing is 0 in both numbers; so no length has to be tested.
-- Assumes nothing.
use Prim.Native.Nat.{ℕ, zero, suc, ◌+◌, ◌-◌, ◌*◌, ◌≤◌, ◌<◌}
use mathlib.Core.Path.{◌≡◌, refl, ap, ap₂, sym, ◌∙◌}
use mathlib.Core.Logic.{⊎_elim}
use mathlib.Core.Bool.{true, false}
use mathlib.Core.List.{List, [], ◌∷◌, ◌++◌}
use native.Mathlib.Omega.{arith}
use lib.ListN.{length, drop, length-append, length-take, length-drop, get_or-eq_default}
use lib.Seq.{get_or-take, get_or-drop, get_or-append-add}
use lib.Dec.{eqb}
use borrow.Author.Tests.{eqb-true}
use Rattle.octets.specs.Octets.{octet_at, part, number, alike}
use Rattle.octets.proofs.Has.{part_length}
use Rattle.octets.proofs.Lists.{bool, below_or, alike_true}
use Rattle.cells.specs.Segments.{both}
use Rattle.cells.specs.Inner.{place_in, spans_alike}
use Rattle.cells.specs.Chains.{key_in}
use Rattle.cells.proofs.Held.{both_true, place_least}

-- the same octets, the same number
pub numbers_same : (n : ℕ) (p q : List ℕ) (at from : ℕ) → ((k : ℕ) → k < n → octet_at p (at + k) ≡ octet_at q (from + k)) → number n p at ≡ number n q from
unfolding number
numbers_same zero p q at from h = refl
numbers_same (suc n) p q at from h =
    ap₂ (λ (x y : ℕ). x * 256 + y) (numbers_same n p q at from (λ k l. h k (omega arith))) (h n (omega arith))

-- an octet of a part
pub part_octet : (p : List ℕ) (at n k : ℕ) → k < n → octet_at (part p at n) k ≡ octet_at p (at + k)
part_octet p at n k l = get_or-take n (drop at p) k 0 l ∙ get_or-drop at p k 0

-- equal parts from octet 6 to the counter have the id in them
parts_transaction : (p q : List ℕ) (n : ℕ) → 20 ≤ n → part p 6 n ≡ part q 6 n → number 8 p 18 ≡ number 8 q 18
parts_transaction p q n l e = numbers_same 8 p q 18 18 octet
  where
    octet : (k : ℕ) → k < 8 → octet_at p (18 + k) ≡ octet_at q (18 + k)
    octet k h =
        let m : 12 + k < n = omega arith in
        let x : 18 + k ≡ 6 + (12 + k) = omega arith in
        ap (octet_at p) x
        ∙ sym (part_octet p 6 n (12 + k) m)
        ∙ ap (λ (y : List ℕ). octet_at y (12 + k)) e
        ∙ part_octet q 6 n (12 + k) m
        ∙ ap (octet_at q) (sym x)

pub spans_transaction : (p q : List ℕ) (end body_at : ℕ) → spans_alike p end q body_at ≡ true → number 8 p 18 ≡ number 8 q 18
unfolding spans_alike
spans_transaction p q end body_at e =
    let a = both_true (both (eqb (place_in p) (place_in q)) (eqb end body_at)) _ e in
    let b = both_true (eqb (place_in p) (place_in q)) (eqb end body_at) a.0 in
    let c = both_true (alike (part p 0 2) (part q 0 2)) _ a.1 in
    let d = both_true (alike (part p 6 (place_in p - 6)) (part q 6 (place_in q - 6))) _ c.1 in
    let f : place_in p ≡ place_in q = eqb-true (place_in p) (place_in q) b.0 in
    let g = alike_true (part p 6 (place_in p - 6)) (part q 6 (place_in q - 6)) d.0 in
    parts_transaction p q (place_in p - 6) (omega (arith, place_least p)) (g ∙ ap (λ (n : ℕ). part q 6 (n - 6)) (sym f))

pub spans_apart : (p q : List ℕ) (end body_at : ℕ) {m n : ℕ} → m ≡ number 8 p 18 → n ≡ number 8 q 18 → (m ≡ n → ⊥) → false ≡ spans_alike p end q body_at
spans_apart p q end body_at em en h =
    ⊎_elim (λ e. absurd (h (em ∙ spans_transaction p q end body_at e ∙ sym en))) (λ e. sym e) (bool (spans_alike p end q body_at))

-- ---- in a key

in_first : (a b : List ℕ) (i : ℕ) → i < length a → octet_at (a ++ b) i ≡ octet_at a i
in_first [] b i l = absurd (omega arith)
in_first (x ∷ a) b zero l = refl
in_first (x ∷ a) b (suc i) l = in_first a b i (omega arith)

inside : (p a : List ℕ) (n k : ℕ) → 20 ≤ n → k < 8 → 18 + k < length p → octet_at (part p 0 2 ++ (part p 6 n ++ a)) (14 + k) ≡ octet_at p (18 + k)
inside p a n k m h l =
    let two : length (part p 0 2) ≡ 2 = part_length p 0 2 (omega arith) in
    let x : 14 + k ≡ length (part p 0 2) + (12 + k) = omega arith in
    let y : 6 + (12 + k) ≡ 18 + k = omega arith in
    ap (octet_at (part p 0 2 ++ (part p 6 n ++ a))) x
    ∙ get_or-append-add (part p 0 2) (part p 6 n ++ a) (12 + k) 0
    ∙ in_first (part p 6 n) a (12 + k) (omega (arith, length-take n (drop 6 p), length-drop 6 p))
    ∙ part_octet p 6 n (12 + k) (omega arith)
    ∙ ap (octet_at p) y

past : (p : List ℕ) (n c m k : ℕ) → 27 ≤ c → k < 8 → length p ≤ 18 + k →
    octet_at (part p 0 2 ++ (part p 6 n ++ part p (c + 4) m)) (14 + k) ≡ octet_at p (18 + k)
past p n c m k least h l =
    let none_after : length (part p (c + 4) m) ≡ 0 = omega (arith, length-take m (drop (c + 4) p), length-drop (c + 4) p) in
    let fore : length (part p 6 n) ≤ length p - 6 = omega (arith, length-take n (drop 6 p), length-drop 6 p) in
    let two : (length (part p 0 2) ≤ 2) × (length (part p 0 2) ≤ length p) = (omega (arith, length-take 2 p), omega (arith, length-take 2 p)) in
    let after = length-append (part p 6 n) (part p (c + 4) m) in
    let whole = length-append (part p 0 2) (part p 6 n ++ part p (c + 4) m) in
    get_or-eq_default (part p 0 2 ++ (part p 6 n ++ part p (c + 4) m)) 0 (omega (arith, whole, after, none_after, fore, two.0, two.1))
    ∙ sym (get_or-eq_default p 0 l)

key_octet : (p : List ℕ) (end k : ℕ) → k < 8 → octet_at (key_in p end) (14 + k) ≡ octet_at p (18 + k)
unfolding key_in
key_octet p end k h =
    let c = place_in p in
    let n : 20 ≤ c - 6 = omega (arith, place_least p) in
    let m = end - (c + 4) in
    ⊎_elim (inside p (part p (c + 4) m) (c - 6) k n h) (past p (c - 6) c m k (place_least p).0 h) (below_or (18 + k) (length p))

-- the id of a key is that of its packet, for any octets
pub key_transaction : (p : List ℕ) (end : ℕ) → number 8 (key_in p end) 14 ≡ number 8 p 18
key_transaction p end = numbers_same 8 (key_in p end) p 14 18 (key_octet p end)

-- octets with another id are no key of this packet
pub key_apart : (k p : List ℕ) (end : ℕ) {m n : ℕ} → m ≡ number 8 k 14 → n ≡ number 8 p 18 → (m ≡ n → ⊥) → false ≡ alike k (key_in p end)
key_apart k p end em en h = ⊎_elim same (λ e. sym e) (bool (alike k (key_in p end)))
  where
    same : alike k (key_in p end) ≡ true → false ≡ alike k (key_in p end)
    same e = absurd (h (em ∙ ap (λ (x : List ℕ). number 8 x 14) (alike_true k (key_in p end) e) ∙ key_transaction p end ∙ sym en))
