-- A packet put into a cell.
-- Assumes nothing.
use Prim.Native.Nat.{ℕ, ◌+◌, ◌*◌, ◌≤◌, min}
use mathlib.Core.Path.{◌≡◌, ap, ◌∙◌}
use mathlib.Core.List.{List, [], ◌∷◌, append-nil}
use native.Mathlib.Omega.{arith}
use lib.ListN.{length}
use lib.Seq.{sets}
use Rattle.octets.specs.Octets.{wide}
use Rattle.octets.specs.Laying.{laid, together, Lays}
use Rattle.octets.proofs.Laying.{lays_both, lays_all}

mark_then : (p : List ℕ) → together (wide 2 0x4d53 ∷ p ∷ []) ≡ 0x4d ∷ 0x53 ∷ p
unfolding together wide
mark_then p = ap (λ (x : List ℕ). 0x4d ∷ 0x53 ∷ x) (append-nil p)

pub put_there :
    (st p : List ℕ) (z i : ℕ) {at : ℕ} → at ≡ min (i * z) (length st) → i * z + (2 + length p) ≤ length st →
    {l m : List ℕ} {r q : ℕ} → Lays (laid st at) (wide 2 0x4d53 ∷ []) l r → Lays (laid l r) (p ∷ []) m q →
    m ≡ sets st (i * z) (0x4d ∷ 0x53 ∷ p)
put_there st p z i {at} e h {l} {m} {r} {q} a b =
    let f : at ≡ i * z = omega arith in
    let c = lays_both a b in
    let n : at + length (together (wide 2 0x4d53 ∷ p ∷ [])) ≤ length st = omega (arith, ap length (mark_then p)) in
    (lays_all c n).1 ∙ ap (sets st at) (mark_then p) ∙ ap (λ (k : ℕ). sets st k (0x4d ∷ 0x53 ∷ p)) f
