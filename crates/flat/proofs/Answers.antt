-- The pieces of reading's answer, laid one after the other, are its numbers from the first to the last.
-- Assumes nothing.
use Prim.Native.Nat.{ℕ, ◌+◌}
use mathlib.Core.Path.{◌≡◌, refl, ap, sym, ◌∙◌}
use mathlib.Core.Bool.{Bool, true, false}
use mir.Val.{bool_byte}
use mathlib.Core.List.{List, [], ◌∷◌, ◌++◌, append_assoc, append-nil}
use native.Mathlib.Omega.{arith}
use lib.ListN.{length, length-append, set}
use lib.Seq.{sets, sets-eq, drop-length}
use Rattle.octets.proofs.Lists.{sets_append}
use Rattle.packet.specs.Format.{bit}
use Rattle.packet.specs.Answer.{Header}
use Rattle.packet.specs.declared.Texts.{Texts}
use Rattle.flat.specs.Told.{primary_numbers, name_numbers, routing_numbers, present_numbers, ids_numbers, place_numbers, places_to, text_numbers, told_beside, read_numbers}
use Rattle.flat.proofs.Placing.{places_length}

-- a list laid over another of its length is what is left
pub sets_all : (l x : List ℕ) → length x ≡ length l → sets l 0 x ≡ x
sets_all l x e =
    let k : 0 + length x ≡ length l = omega (arith, e) in
    sets-eq x l 0 (omega (arith, e)) ∙ rw (k, drop-length l, append-nil x)

-- a truth value as a number
pub bit_is : (b : Bool) → bool_byte b ≡ bit b
bit_is true = refl
bit_is false = refl

-- one list laid behind another
pub then_laid :
    (l : List ℕ) (at k : ℕ) (x y m n : List ℕ) → m ≡ sets l at x → k ≡ at + length x → n ≡ sets m k y → n ≡ sets l at (x ++ y)
then_laid l at k x y m n e f g = g ∙ rw (e, f) (sets_append l at x y)

module _ (t : Texts) (l : List ℕ) (at : ℕ) (m1 m2 m3 m4 m5 : List ℕ) where
  pub texts_laid :
      m1 ≡ sets l at (place_numbers t.timestamp) → m2 ≡ sets m1 (at + 2) (place_numbers t.zone) →
      m3 ≡ sets m2 (at + 4) (place_numbers t.session_name) → m4 ≡ sets (set m3 (at + 6) t.count) (at + 7) (places_to 16 t.parts) →
      m5 ≡ sets m4 (at + 39) (place_numbers t.authentication) → m5 ≡ sets l at (text_numbers t)
  texts_laid e1 e2 e3 e4 e5 =
      let a = place_numbers t.timestamp in
      let b = place_numbers t.zone in
      let c = place_numbers t.session_name in
      let d = places_to 16 t.parts in
      let n : List ℕ = t.count ∷ [] in
      let s2 = then_laid l at (at + 2) a b m1 m2 e1 refl e2 in
      let s3 = then_laid l at (at + 4) (a ++ b) c m2 m3 s2 refl e3 in
      let s4 = then_laid l at (at + 6) (a ++ b ++ c) n m3 (set m3 (at + 6) t.count) s3 refl refl in
      let s5 = then_laid l at (at + 7) (a ++ b ++ c ++ n) d (set m3 (at + 6) t.count) m4 s4 refl e4 in
      let h = length-append (a ++ b ++ c ++ n) d in
      let j = places_length 16 t.parts in
      let k : at + 39 ≡ at + length (a ++ b ++ c ++ n ++ d) = omega (arith, h, j) in
      then_laid l at (at + 39) (a ++ b ++ c ++ n ++ d) (place_numbers t.authentication) m4 m5 s5 k e5

-- the numbers before the texts
abbrev front : Header → List ℕ
front h =
    (h.refusal.number ∷ [])
    ++ (primary_numbers h.primary
    ++ (name_numbers h.fixed ++ (routing_numbers h.fixed ++ (present_numbers h.has ++ ids_numbers h.ids))))

pub texts_length : (t : Texts) → length (text_numbers t) ≡ 41
texts_length t =
    let a = length-append (places_to 16 t.parts) (place_numbers t.authentication) in
    let b = places_length 16 t.parts in
    omega (arith, a, b)

module _ (h : Header) (l m1 m2 m3 m4 m5 m6 m7 m8 : List ℕ) where
  pub header_laid :
      length l ≡ 75 → m1 ≡ sets (set l 0 h.refusal.number) 1 (primary_numbers h.primary) →
      m2 ≡ sets m1 5 (name_numbers h.fixed) → m3 ≡ sets m2 10 (routing_numbers h.fixed) →
      m4 ≡ sets m3 16 (present_numbers h.has) → m5 ≡ sets m4 24 (ids_numbers h.ids) →
      m6 ≡ sets m5 28 (text_numbers h.texts) → m7 ≡ sets (set m6 69 h.h) 70 (place_numbers h.body) →
      m8 ≡ sets m7 72 (told_beside h.refusal ++ (bit h.withdrawn ∷ [])) → m8 ≡ read_numbers h
  unfolding read_numbers
  header_laid n e1 e2 e3 e4 e5 e6 e7 e8 =
      let x = front h in
      let y = text_numbers h.texts in
      let z = (h.h ∷ []) ++ (place_numbers h.body ++ (told_beside h.refusal ++ (bit h.withdrawn ∷ []))) in
      let a : m5 ≡ sets l 0 x = rw (e5, e4, e3, e2, e1) in
      let b : m6 ≡ sets l 0 (x ++ y) = e6 ∙ ap (λ (m : List ℕ). sets m 28 y) a ∙ sets_append l 0 x y in
      let k : length (x ++ y) ≡ 69 = length-append x y ∙ rw (texts_length h.texts) in
      let j : 69 ≡ 0 + length (x ++ y) = omega (arith, k) in
      let d : m8 ≡ sets (sets l 0 (x ++ y)) (0 + length (x ++ y)) z = e8 ∙ rw (e7, b, sym j) in
      let f : length ((x ++ y) ++ z) ≡ length l = length-append (x ++ y) z ∙ rw (k, n) in
      d ∙ sets_append l 0 (x ++ y) z ∙ sets_all l ((x ++ y) ++ z) f ∙ append_assoc x y z
