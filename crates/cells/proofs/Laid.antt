-- A packet laid over a free cell makes a held one: the zeros after it are there.
-- Assumes nothing.
use Prim.Native.Nat.{ℕ, suc, ◌+◌, ◌-◌, ◌*◌, ◌≤◌, ◌<◌}
use mathlib.Core.Path.{◌≡◌, refl, ap, sym, ◌∙◌}
use mathlib.Core.List.{List, [], ◌∷◌}
use native.Mathlib.Omega.{arith}
use lib.ListN.{length, get_or, drop, set, replicate, length-replicate, get_or-replicate}
use lib.Seq.{sets, set-get_or, get_or-set_other, get_or-drop, get_or-take}
use Rattle.octets.proofs.Lists.{sets_append}
use Rattle.cells.specs.Rows.{row_at, zero_row, held_row}

-- what stands there already changes nothing
sets_there : (l : List ℕ) (at : ℕ) (x : List ℕ) → ((k : ℕ) → k < length x → get_or l (at + k) 0 ≡ get_or x k 0) → sets l at x ≡ l
sets_there l at [] h = refl
sets_there l at (v ∷ x) h =
    let e : get_or l at 0 ≡ v = ap (λ (n : ℕ). get_or l n 0) (omega_zero at) ∙ h 0 (omega arith) in
    let s : set l at v ≡ l = ap (set l at) (sym e) ∙ set-get_or l at 0 in
    rw s (sets_there l (suc at) x (λ k b. ap (λ (n : ℕ). get_or l n 0) (shift at k) ∙ h (suc k) (omega arith)))
  where
    omega_zero : (n : ℕ) → n ≡ n + 0
    omega_zero n = omega arith

    shift : (a k : ℕ) → suc a + k ≡ a + suc k
    shift a k = omega arith

-- what lies after is not touched
behind : (l : List ℕ) (at : ℕ) (x : List ℕ) (n : ℕ) → at + length x ≤ n → get_or (sets l at x) n 0 ≡ get_or l n 0
behind l at [] n h = refl
behind l at (v ∷ x) n h =
    behind (set l at v) (suc at) x n (omega arith) ∙ get_or-set_other l at n v 0 (λ e. omega arith)

pub held_laid :
    (Z i : ℕ) (st p : List ℕ) → row_at Z st i ≡ zero_row Z → 2 + length p ≤ Z →
    sets st (i * Z) (0x4d ∷ 0x53 ∷ p) ≡ sets st (i * Z) (held_row Z p)
held_laid Z i st p e h =
    sym
    (sym (sets_append st (i * Z) (0x4d ∷ 0x53 ∷ p) (replicate (Z - (2 + length p)) 0))
    ∙ sets_there (sets st (i * Z) (0x4d ∷ 0x53 ∷ p)) (i * Z + length (0x4d ∷ 0x53 ∷ p)) (replicate (Z - (2 + length p)) 0) zeros)
  where
    assoc : (a b c : ℕ) → a + b + c ≡ a + (b + c)
    assoc a b c = omega arith

    there : (k : ℕ) → k < Z → get_or st (i * Z + k) 0 ≡ 0
    there k b = sym (get_or-drop (i * Z) st k 0) ∙ sym (get_or-take Z (drop (i * Z) st) k 0 b) ∙ ap (λ (x : List ℕ). get_or x k 0) e ∙ get_or-replicate Z k 0 0 b

    zeros : (k : ℕ) → k < length {A = ℕ} (replicate (Z - (2 + length p)) 0) → get_or (sets st (i * Z) (0x4d ∷ 0x53 ∷ p))
        (i * Z + length (0x4d ∷ 0x53 ∷ p) + k) 0 ≡ get_or {A = ℕ} (replicate (Z - (2 + length p)) 0) k 0
    zeros k b =
        let n : k < Z - (2 + length p) = omega (arith, length-replicate {A = ℕ} (Z - (2 + length p)) 0) in
        let m : suc (suc (length p)) + k < Z = omega arith in
        behind st (i * Z) (0x4d ∷ 0x53 ∷ p) (i * Z + length (0x4d ∷ 0x53 ∷ p) + k) (omega arith)
        ∙ ap (λ (x : ℕ). get_or st x 0) (assoc (i * Z) (suc (suc (length p))) k)
        ∙ there (suc (suc (length p)) + k) m
        ∙ sym (get_or-replicate (Z - (2 + length p)) k 0 0 n)
