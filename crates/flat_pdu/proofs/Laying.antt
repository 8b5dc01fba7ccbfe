-- The pieces of reading's answer, laid one after the other, are its numbers from the first to the last.
-- Assumes nothing.
use Prim.Native.Nat.{ℕ, ◌+◌}
use mathlib.Core.Path.{◌≡◌, refl, ◌∙◌}
use mathlib.Core.List.{List, [], ◌∷◌, ◌++◌, append_assoc}
use native.Mathlib.Omega.{arith}
use lib.ListN.{length, length-append, set}
use lib.Seq.{sets}
use Rattle.pdu.specs.declared.Header.{Header}
use Rattle.flat.specs.Told.{present_numbers, place_numbers, text_numbers, told_beside}
use Rattle.flat.proofs.Answers.{sets_all, then_laid, texts_length}
use Rattle.flat_pdu.specs.Numbers.{fixed_numbers, ids_numbers, read_numbers}

-- the numbers before the texts
abbrev front : Header → List ℕ
front h =
    (h.refusal.number ∷ [])
    ++ (fixed_numbers h.fixed ++ (present_numbers h.has ++ ((h.fixed.encoding ∷ []) ++ ids_numbers h.ids)))

module _ (h : Header) (l m1 m2 m3 m4 m5 m6 : List ℕ) where
  pub header_laid :
      length l ≡ 70 → m1 ≡ sets (set l 0 h.refusal.number) 1 (fixed_numbers h.fixed) →
      m2 ≡ sets m1 10 (present_numbers h.has) → m3 ≡ sets (set m2 18 h.fixed.encoding) 19 (ids_numbers h.ids) →
      m4 ≡ sets m3 24 (text_numbers h.texts) → m5 ≡ sets (set m4 65 h.variable) 66 (place_numbers h.body) →
      m6 ≡ sets m5 68 (told_beside h.refusal) → m6 ≡ read_numbers h
  unfolding read_numbers
  header_laid n e1 e2 e3 e4 e5 e6 =
      let x = front h in
      let y = text_numbers h.texts in
      let z = (h.variable ∷ []) ++ (place_numbers h.body ++ told_beside h.refusal) in
      let a : m3 ≡ sets l 0 x = rw (e3, e2, e1) in
      let b = then_laid l 0 24 x y m3 m4 a refl e4 in
      let k : length (x ++ y) ≡ 65 = length-append x y ∙ rw (texts_length h.texts) in
      let j : 65 ≡ 0 + length (x ++ y) = omega (arith, k) in
      let d : m6 ≡ sets m4 65 z = e6 ∙ rw e5 in
      let f : length ((x ++ y) ++ z) ≡ length l = length-append (x ++ y) z ∙ rw (k, n) in
      then_laid l 0 65 (x ++ y) z m4 m6 b j d ∙ sets_all l ((x ++ y) ++ z) f ∙ append_assoc x y z
