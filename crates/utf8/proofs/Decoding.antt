-- What passes the test is written by characters.
-- Assumes nothing.
use Prim.Native.Nat.{ℕ, zero, suc, ◌+◌, ◌-◌, ◌*◌, ◌≤◌, ◌<◌}
use mathlib.Core.Path.{◌≡◌, refl, ap, ap₂, sym, ◌∙◌}
use mathlib.Core.Logic.{inl, inr, ⊎_elim}
use mathlib.Core.List.{List, [], ◌∷◌, ◌++◌}
use native.Mathlib.Omega.{arith}
use lib.ListN.{length}
use Rattle.octets.proofs.Lists.{below_or}
use Rattle.utf8.specs.Text.{Scalar, none, one, utf8, encoded, Text}
use Rattle.utf8.proofs.Tests.{same_or, Ended, Continues}
use Rattle.utf8.proofs.Forms.{utf8_one, from_two, from_three, from_four}
use Rattle.utf8.proofs.Encoding.{Passes, nil_pass, first_pass, next_pass, now_ended}

text_nil : Text []
unfolding encoded
text_nil = record { characters = []; scalars = none; octets = refl }

-- one character more in front
text_more : {o : List ℕ} (c : ℕ) (u r : List ℕ) → Scalar c → utf8 c ≡ u → o ≡ u ++ r → Text r → Text o
unfolding encoded
text_more c u r v e w t =
    record { characters = c ∷ t.characters; scalars = one v t.scalars; octets = w ∙ ap₂ ◌++◌ (sym e) t.octets }

-- the octet that an unfinished character goes on with
record Next (a b c : ℕ) (o : List ℕ) : Type 0 where
  pub octet : ℕ
  pub rest : List ℕ
  pub whole : o ≡ octet ∷ rest
  pub goes : Continues c octet
  pub passes : Passes b c octet rest

next : {a b c : ℕ} (o : List ℕ) → (Ended a b c → ⊥) → Passes a b c o → Next a b c o
next [] h p = absurd (h (nil_pass p))
next (d ∷ o) h p =
    let q = next_pass h p in
    record { octet = d; rest = o; whole = refl; goes = q.0; passes = q.1 }

longer : {o r s : List ℕ} {d : ℕ} → o ≡ d ∷ r → r ≡ s → o ≡ d ∷ s
longer {d} p q = p ∙ ap (λ (l : List ℕ). d ∷ l) q

shorter : {o r : List ℕ} {d n : ℕ} → o ≡ d ∷ r → length o ≤ n → length r ≤ n
shorter e h = omega (arith, ap length e)

-- ---- the numbers of three and of four octets

three_least : (d e f : ℕ) → 0xE0 ≤ d → Continues d e → 0x800 ≤ (d - 0xE0) * 4096 + (e - 0x80) * 64 + (f - 0x80)
three_least d e f l t = ⊎_elim (λ k. omega (arith, t.after_e0 k)) (λ k. omega arith) (same_or d 0xE0)

three_scalar : (d e f : ℕ) → d < 0xF0 → Continues d e → Continues e f → Scalar ((d - 0xE0) * 4096 + (e - 0x80) * 64 + (f - 0x80))
three_scalar d e f h t u =
    ⊎_elim
    (λ k. inl (omega (arith, t.most, u.most)))
    (λ k.
    ⊎_elim
    (λ m. inl (omega (arith, t.after_ed m, u.most)))
    (λ m. inr (omega arith, omega (arith, t.most, u.most)))
    (same_or d 0xED))
    (below_or d 0xED)

four_least :
    (d e f g : ℕ) → 0xF0 ≤ d → Continues d e → 0x10000 ≤ (d - 0xF0) * 262144 + (e - 0x80) * 4096 + (f - 0x80) * 64 + (g - 0x80)
four_least d e f g l t = ⊎_elim (λ k. omega (arith, t.after_f0 k)) (λ k. omega arith) (same_or d 0xF0)

four_most :
    (d e f g : ℕ) → d ≤ 0xF4 → Continues d e → Continues e f → Continues f g →
    (d - 0xF0) * 262144 + (e - 0x80) * 4096 + (f - 0x80) * 64 + (g - 0x80) ≤ 0x10FFFF
four_most d e f g h t u v =
    ⊎_elim
    (λ k. omega (arith, t.after_f4 k, u.most, v.most))
    (λ k. omega (arith, t.most, u.most, v.most))
    (same_or d 0xF4)

-- ---- a character of each length, where shorter lists are done

module _ (n : ℕ) (done : (o : List ℕ) (a b c : ℕ) → length o ≤ n → Ended a b c → Passes a b c o → Text o) where
  module _ (b c d : ℕ) (o : List ℕ) (hb : b < 0xE0) (hc : c < 0xC0) (short : length o ≤ n) (p : Passes b c d o) where
    of_one : d < 0x80 → Text (d ∷ o)
    of_one h =
        text_more d (d ∷ []) o (inl (omega arith)) (utf8_one d h) refl
        (done o b c d short (now_ended (omega arith) (omega arith) (omega arith)) p)

    of_two : 0xC2 ≤ d → d < 0xE0 → Text (d ∷ o)
    of_two l h =
        let x = next o (λ k. omega (arith, k.first)) p in
        let e = x.octet in
        let t = x.goes in
        let s = (d - 0xC0) * 64 + (e - 0x80) in
        text_more s (d ∷ e ∷ []) x.rest (inl (omega (arith, t.most)))
        (from_two s d e refl l h (t.least, t.most))
        (longer refl x.whole)
        (done x.rest c d e (shorter x.whole short) (now_ended (omega arith) (omega arith) (omega (arith, t.most))) x.passes)

    of_three : 0xE0 ≤ d → d < 0xF0 → Text (d ∷ o)
    of_three l h =
        let x = next o (λ k. omega (arith, k.first)) p in
        let y = next x.rest (λ k. omega (arith, k.second)) x.passes in
        let e = x.octet in
        let f = y.octet in
        let t = x.goes in
        let u = y.goes in
        let s = (d - 0xE0) * 4096 + (e - 0x80) * 64 + (f - 0x80) in
        text_more s (d ∷ e ∷ f ∷ []) y.rest (three_scalar d e f h t u)
        (from_three s d e f refl l h (t.least, t.most) (u.least, u.most) (three_least d e f l t))
        (longer refl (longer x.whole y.whole))
        (done y.rest d e f (shorter y.whole (shorter x.whole short))
        (now_ended (omega arith) (omega (arith, t.most)) (omega (arith, u.most))) y.passes)

    of_four : 0xF0 ≤ d → d ≤ 0xF4 → Text (d ∷ o)
    of_four l h =
        let x = next o (λ k. omega (arith, k.first)) p in
        let y = next x.rest (λ k. omega (arith, k.second)) x.passes in
        let z = next y.rest (λ k. omega (arith, k.third)) y.passes in
        let e = x.octet in
        let f = y.octet in
        let g = z.octet in
        let t = x.goes in
        let u = y.goes in
        let v = z.goes in
        let s = (d - 0xF0) * 262144 + (e - 0x80) * 4096 + (f - 0x80) * 64 + (g - 0x80) in
        let m = four_least d e f g l t in
        text_more s (d ∷ e ∷ f ∷ g ∷ []) z.rest (inr (omega arith, four_most d e f g h t u v))
        (from_four s d e f g refl l (t.least, t.most) (u.least, u.most) (v.least, v.most) m)
        (longer refl (longer x.whole (longer y.whole z.whole)))
        (done z.rest e f g (shorter z.whole (shorter y.whole (shorter x.whole short)))
        (now_ended (omega (arith, t.most)) (omega (arith, u.most)) (omega (arith, v.most))) z.passes)

-- by the first octet
passed : (n : ℕ) (o : List ℕ) (a b c : ℕ) → length o ≤ n → Ended a b c → Passes a b c o → Text o
passed zero [] a b c l h p = text_nil
passed zero (d ∷ o) a b c l h p = absurd (omega arith)
passed (suc n) [] a b c l h p = text_nil
passed (suc n) (d ∷ o) a b c l h p =
    let q = first_pass h p in
    let r = q.1 in
    let k = passed n in
    let m : length o ≤ n = omega arith in
    let i = h.second in
    let j = h.first in
    ⊎_elim
    (λ x. of_one n k b c d o i j m r x)
    (λ x.
    ⊎_elim
    (λ y. of_two n k b c d o i j m r x.0 y)
    (λ y. ⊎_elim (λ z. of_three n k b c d o i j m r y z) (λ z. of_four n k b c d o i j m r z x.1) (below_or d 0xF0))
    (below_or d 0xE0))
    q.0

pub text_passed : (o : List ℕ) (a b c : ℕ) → Ended a b c → Passes a b c o → Text o
text_passed o a b c h p = passed (length o) o a b c (omega arith) h p
