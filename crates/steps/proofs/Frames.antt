-- What a step lays over the output: a message after the room for its mark and length, and then these.
-- Assumes nothing.
use Prim.Native.Nat.{ℕ, suc, ◌+◌, ◌≤◌, ◌<◌}
use mathlib.Core.Path.{◌≡◌, refl, ap, ap₂, sym, ◌∙◌}
use mathlib.Core.List.{List, [], ◌∷◌, ◌++◌, append-nil}
use native.Mathlib.Omega.{arith}
use lib.ListN.{length, take, drop, set, length-set, length-take, length-drop, take-append-drop, length-append}
use lib.Seq.{sets, set_comm, set-append_left, length-take-le, take_all}
use Rattle.octets.specs.Octets.{wide, part}
use Rattle.octets.specs.Laying.{laid, together, Lays}
use Rattle.octets.proofs.Lists.{sets_append}
use Rattle.octets.proofs.Laying.{lays_both, lays_all, lays_as}
use Rattle.steps.specs.Stepping.{framed, without}

-- ---- a list laid over one of two parts

sets_cons : (x : ℕ) (l : List ℕ) (j : ℕ) (m : List ℕ) → sets (x ∷ l) (suc j) m ≡ x ∷ sets l j m
sets_cons x l j [] = refl
sets_cons x l j (v ∷ m) = sets_cons x (set l j v) (suc j) m

sets_right : (a b m : List ℕ) → sets (a ++ b) (length a) m ≡ a ++ sets b 0 m
sets_right [] b m = refl
sets_right (x ∷ a) b m = sets_cons x (a ++ b) (length a) m ∙ ap (λ (l : List ℕ). x ∷ l) (sets_right a b m)

sets_left : (a b : List ℕ) (i : ℕ) (m : List ℕ) → i + length m ≤ length a → sets (a ++ b) i m ≡ sets a i m ++ b
sets_left a b i [] h = refl
sets_left a b i (v ∷ m) h =
    ap (λ (l : List ℕ). sets l (suc i) m) (set-append_left a b i v (omega arith))
    ∙ sets_left (set a i v) b (suc i) m (omega (arith, length-set a i v))

-- what was laid over a part that was lent is laid over the whole
pub sets_part :
    (out m : List ℕ) (a k : ℕ) → a + k ≤ length out → length m ≤ k →
    take a out ++ (sets (take k (drop a out)) 0 m ++ drop k (drop a out)) ≡ sets out a m
sets_part out m a k h l =
    let e : length (take a out) ≡ a = length-take-le a out (omega arith) in
    let f : length (take k (drop a out)) ≡ k = length-take-le k (drop a out) (omega (arith, length-drop a out)) in
    ap (λ (x : List ℕ). take a out ++ x)
    (sym (sets_left (take k (drop a out)) (drop k (drop a out)) 0 m (omega arith)) ∙ ap (λ (x : List ℕ). sets x 0 m) (take-append-drop k (drop a out)))
    ∙ sym (sets_right (take a out) (drop a out) m)
    ∙ ap₂ (λ (x : List ℕ) (n : ℕ). sets x n m) (take-append-drop a out) e

-- ---- one list before another

set_before : (l : List ℕ) (a b v : ℕ) (y : List ℕ) → a < b → set (sets l b y) a v ≡ sets (set l a v) b y
set_before l a b v [] h = refl
set_before l a b v (w ∷ y) h =
    set_before (set l b w) a (suc b) v y (omega arith)
    ∙ ap (λ (x : List ℕ). sets x (suc b) y) (set_comm l b a w v (λ e. omega arith))

sets_before : (l : List ℕ) (a b : ℕ) (x y : List ℕ) → a + length x ≤ b → sets (sets l b y) a x ≡ sets (sets l a x) b y
sets_before l a b [] y h = refl
sets_before l a b (v ∷ x) y h =
    ap (λ (z : List ℕ). sets z (suc a) x) (set_before l a b v y (omega arith)) ∙ sets_before (set l a v) (suc a) b x y (omega arith)

-- ---- mark and length

-- put before a message that stands after them
pub frame_before :
    (out m : List ℕ) {x y : List ℕ} {n : ℕ} → x ≡ sets out 6 m → n ≡ length m → y ≡ sets x 0 (0x4d ∷ 0x4d ∷ wide 4 n) →
    y ≡ sets out 0 (framed m)
unfolding framed wide
frame_before out m {x} {y} {n} ex en ey =
    ey
    ∙ ap₂ (λ (k : ℕ) (z : List ℕ). sets z 0 (0x4d ∷ 0x4d ∷ wide 4 k)) en ex
    ∙ sets_before out 0 6 (0x4d ∷ 0x4d ∷ wide 4 (length m)) m (omega arith)
    ∙ sets_append out 0 (0x4d ∷ 0x4d ∷ wide 4 (length m)) m

pub framed_long : (m : List ℕ) → length (framed m) ≡ 6 + length m
unfolding framed wide
framed_long m = omega arith

-- ---- a whole packet

pub without_long : (p : List ℕ) → length (without p) ≤ length p
without_long p =
    omega (arith, length-append (take 2 p) (drop 6 p), length-take 2 p, length-drop 6 p)

two : (p : List ℕ) → together (take 2 p ∷ drop 6 p ∷ []) ≡ without p
unfolding together
two p = ap (λ (x : List ℕ). take 2 p ++ x) (append-nil (drop 6 p))

-- its two parts, one after the other
pub whole_laid :
    (p out : List ℕ) {x y l k : List ℕ} {at end : ℕ} → 6 + length p ≤ length out → x ≡ part p 0 2 → y ≡ part p 6 (length p) →
    Lays (laid out 6) (x ∷ []) l at → Lays (laid l at) (y ∷ []) k end → (end ≡ 6 + length (without p)) × (k ≡ sets out 6 (without p))
whole_laid p out h ex ey a b =
    let r : part p 6 (length p) ≡ drop 6 p = take_all (length p) (drop 6 p) (omega (arith, length-drop 6 p)) in
    let e = two p in
    let l = lays_all (lays_both (lays_as ex a) (lays_as (ey ∙ r) b)) (omega (arith, without_long p, ap length e)) in
    (l.0 ∙ ap (λ (x : List ℕ). 6 + length x) e, l.1 ∙ ap (sets out 6) e)
