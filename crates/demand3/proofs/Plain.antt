-- The packets of calls one after the other, which are octets: of some of the calls, of one, of an arrival, a joining, of takings.
-- Assumes nothing.
use Prim.Native.Nat.{ℕ}
use mathlib.Core.Path.{◌≡◌, refl, sym, ◌∙◌, subst}
use mathlib.Core.Logic.{◌⊎◌, inl, inr}
use mathlib.Core.List.Memᴰ
use mathlib.Core.List.{List, [], ◌∷◌, ◌++◌, map, Memᴰ}
use native.Mathlib.Omega.{arith}
use Rattle.octets.specs.Octets.{Octets}
use Rattle.demand3.specs.Calls.{Call, arrival, taking, joining, Brings, Plain}

-- the packet of a call, if it has one
abbrev pub Pure : Call → Type 0
Pure c = (p : List ℕ) → Brings p c → Octets p

pub plain_left : (x y : List Call) → Plain (x ++ y) → Plain x
plain_left x y o p h = o p (h.0, Memᴰ.append_left y h.1, h.2)

pub plain_right : (x y : List Call) → Plain (x ++ y) → Plain y
plain_right x y o p h = o p (h.0, Memᴰ.append_right x h.1, h.2)

pub plain_both : (x y : List Call) → Plain x → Plain y → Plain (x ++ y)
plain_both x y o q p h = go (Memᴰ.append_cases x h.1)
  where
    go : Memᴰ h.0 x ⊎ Memᴰ h.0 y → Octets p
    go (inl k) = o p (h.0, k, h.2)
    go (inr k) = q p (h.0, k, h.2)

pub plain_first : (c : Call) (l : List Call) → Plain (c ∷ l) → Pure c
plain_first c l o p b = o p (c, Memᴰ.head refl, b)

pub plain_rest : (c : Call) (l : List Call) → Plain (c ∷ l) → Plain l
plain_rest c l o p h = o p (h.0, Memᴰ.tail h.1, h.2)

pub plain_one : (c : Call) → Pure c → Plain (c ∷ [])
plain_one c o p h = go (Memᴰ.cases_cons h.1)
  where
    go : (h.0 ≡ c) ⊎ Memᴰ h.0 [] → Octets p
    go (inl e) = o p (subst (Brings p) e h.2)
    go (inr k) = absurd (Memᴰ.not-nil k)

-- a call among others, and those before it
pub plain_at : (cs x y : List Call) (c : Call) → cs ≡ x ++ c ∷ y → Plain cs → Plain x × Pure c
plain_at cs x y c e o =
    let q = subst Plain e o in
    (plain_left x (c ∷ y) q, plain_first c y (plain_right x (c ∷ y) q))

pub plain_none : Plain []
plain_none p h = absurd (Memᴰ.not-nil h.1)

-- a joining's packet
pub joining_pure : (p out : List ℕ) → Octets p → Pure (joining p out)
joining_pure p out o q (inl e) = let z : ◌≡◌ {A = ℕ} 0 1 = cc in absurd (omega arith)
joining_pure p out o q (inr e) = let f : joining p out ≡ joining q e.0 = e.1 in let g : p ≡ q = cc f in subst Octets g o

-- an arrival alone, and takings
pub plain_arrival : (p : List ℕ) → Octets p → Plain (arrival p ∷ [])
plain_arrival p o q h = go (Memᴰ.cases_cons h.1)
  where
    by : arrival p ≡ h.0 → Brings q h.0 → Octets q
    by e (inl d) = let f : arrival p ≡ arrival q = e ∙ d in let g : p ≡ q = cc f in subst Octets g o
    by e (inr d) = let f = e ∙ d.1 in let z : ◌≡◌ {A = ℕ} 0 1 = cc f in absurd (omega arith)

    go : (h.0 ≡ arrival p) ⊎ Memᴰ h.0 [] → Octets q
    go (inl e) = by (sym e) h.2
    go (inr k) = absurd (Memᴰ.not-nil k)

pub plain_takings : (outs : List (List ℕ)) → Plain (map taking outs)
plain_takings [] p h = plain_none p h
plain_takings (out ∷ outs) p h = go (plain_takings outs) (Memᴰ.cases_cons h.1)
  where
    by : taking out ≡ h.0 → Brings p h.0 → Octets p
    by e (inl d) = let f = e ∙ d in let z : ◌≡◌ {A = ℕ} 0 1 = cc f in absurd (omega arith)
    by e (inr d) = let f = e ∙ d.1 in let z : ◌≡◌ {A = ℕ} 0 1 = cc f in absurd (omega arith)

    go : Plain (map taking outs) → (h.0 ≡ taking out) ⊎ Memᴰ h.0 (map taking outs) → Octets p
    go ih (inl e) = by (sym e) h.2
    go ih (inr k) = ih p (h.0, k, h.2)
