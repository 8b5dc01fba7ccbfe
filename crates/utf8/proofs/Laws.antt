-- What is promised of text and of its test.
-- Assumes nothing.
use Prim.Native.Nat.{ℕ, zero, suc, ◌+◌, ◌-◌, ◌*◌, ◌/◌, ◌<◌}
use mathlib.Core.Path.{◌≡◌, refl, ap, ap₂, sym, ◌∙◌}
use mathlib.Core.Logic.{◌↔◌}
use mathlib.Core.Bool.{true}
use mathlib.Core.List.{List, [], ◌∷◌, ◌++◌, append_assoc, map}
use contract.Lifetimes as L
use native.Mathlib.Omega.{arith}
use lib.ListN.{length, drop}
use lib.Dec.{ltb}
use borrow.Author.Tests.{lt-ltb, le-ltb}
use Rattle.octets.specs.Octets.{Octets, pick, octet_at}
use Rattle.octets.proofs.Has.{octets_nil}
use Rattle.utf8.specs.Text.{Scalar, Scalars, none, one, low6, utf8, encoded, Text}
use Rattle.utf8.specs.Test.{ended, begins, lowest, highest, continues, follows, accepts, is_text}
use Rattle.utf8.specs.Samples.{Sample, samples}
use Rattle.utf8.proofs.Tests.{Ended}
use Rattle.utf8.proofs.Forms.{scalar_top, by_range_lem}
use Rattle.utf8.proofs.Encoding.{now_ended, pass_all}
use Rattle.utf8.proofs.Decoding.{text_passed}
use Rattle.utf8.proofs.is_text.Reads as call

-- ---- the test holds exactly of text

begun : Ended 0 0 0
begun = now_ended (omega arith) (omega arith) (omega arith)

passes_text : (o : List ℕ) → is_text o ≡ true → Text o
unfolding is_text
passes_text o e = text_passed o 0 0 0 begun (record { passes = e })

text_passes : (o : List ℕ) → Text o → is_text o ≡ true
unfolding is_text
text_passes o t = rw t.octets (pass_all t.scalars 0 0 0 begun).passes

pub is_text_lem : (o : List ℕ) → is_text o ≡ true ↔ Text o
is_text_lem o = (passes_text o, text_passes o)

-- ---- no two lists of characters have the same octets

-- the character that the first octets write, and how many they are
value : List ℕ → ℕ
value u =
    let d = octet_at u 0 in
    pick (ltb d 0x80) d
    (pick (ltb d 0xE0) ((d - 0xC0) * 64 + (octet_at u 1 - 0x80))
    (pick (ltb d 0xF0) ((d - 0xE0) * 4096 + (octet_at u 1 - 0x80) * 64 + (octet_at u 2 - 0x80))
    ((d - 0xF0) * 262144 + (octet_at u 1 - 0x80) * 4096 + (octet_at u 2 - 0x80) * 64 + (octet_at u 3 - 0x80))))

size : List ℕ → ℕ
size u = let d = octet_at u 0 in pick (ltb d 0x80) 1 (pick (ltb d 0xE0) 2 (pick (ltb d 0xF0) 3 4))

-- both of what one character writes, with anything after it
module _ (c : ℕ) (r : List ℕ) (v : Scalar c) where
  value_back : value (utf8 c ++ r) ≡ c
  unfolding value
  value_back =
      let m = scalar_top c v in
      let p : c / 64 / 64 ≡ c / 4096 = omega arith in
      let q : c / 4096 / 64 ≡ c / 262144 = omega arith in
      by_range_lem c (λ u. value (u ++ r) ≡ c)
      (λ h. simp (lt-ltb c 0x80 h))
      (λ h k. simp (le-ltb (0xC0 + c / 64) 0x80 (omega arith), lt-ltb (0xC0 + c / 64) 0xE0 (omega arith)) (omega arith))
      (λ h k.
      simp (
        le-ltb (0xE0 + c / 4096) 0x80 (omega arith),
        le-ltb (0xE0 + c / 4096) 0xE0 (omega arith),
        lt-ltb (0xE0 + c / 4096) 0xF0 (omega arith),
      )
      (omega arith))
      (λ h.
      simp (
        le-ltb (0xF0 + c / 262144) 0x80 (omega arith),
        le-ltb (0xF0 + c / 262144) 0xE0 (omega arith),
        le-ltb (0xF0 + c / 262144) 0xF0 (omega arith),
      )
      (omega arith))

  rest_back : drop (size (utf8 c ++ r)) (utf8 c ++ r) ≡ r
  unfolding size
  rest_back =
      by_range_lem c (λ u. drop (size (u ++ r)) (u ++ r) ≡ r)
      (λ h. simp (lt-ltb c 0x80 h))
      (λ h k. simp (le-ltb (0xC0 + c / 64) 0x80 (omega arith), lt-ltb (0xC0 + c / 64) 0xE0 (omega arith)))
      (λ h k.
      simp (
        le-ltb (0xE0 + c / 4096) 0x80 (omega arith),
        le-ltb (0xE0 + c / 4096) 0xE0 (omega arith),
        lt-ltb (0xE0 + c / 4096) 0xF0 (omega arith),
      ))
      (λ h.
      simp (
        le-ltb (0xF0 + c / 262144) 0x80 (omega arith),
        le-ltb (0xF0 + c / 262144) 0xE0 (omega arith),
        le-ltb (0xF0 + c / 262144) 0xF0 (omega arith),
      ))

-- the first character and the rest
same_first :
    (c d : ℕ) (r s : List ℕ) → Scalar c → Scalar d → utf8 c ++ r ≡ utf8 d ++ s → (c ≡ d) × (r ≡ s)
same_first c d r s v w e = (
  sym (value_back c r v) ∙ ap value e ∙ value_back d s w,
  sym (rest_back c r v) ∙ ap (λ (o : List ℕ). drop (size o) o) e ∙ rest_back d s w,
)

some_octets : (c : ℕ) (r : List ℕ) → 0 < length (utf8 c ++ r)
some_octets c r =
    by_range_lem c (λ u. 0 < length (u ++ r)) (λ h. omega arith) (λ h k. omega arith) (λ h k. omega arith) (λ h. omega arith)

pub one_list : {cs ds : List ℕ} → Scalars cs → Scalars ds → encoded cs ≡ encoded ds → cs ≡ ds
unfolding encoded
one_list none none e = refl
one_list none (one {c} {cs} v vs) e = absurd (omega (arith, some_octets c (encoded cs), ap length e))
one_list (one {c} {cs} v vs) none e = absurd (omega (arith, some_octets c (encoded cs), ap length e))
one_list (one {c} {cs} v vs) (one {c = d} {cs = ds} w ws) e =
    let p = same_first c d (encoded cs) (encoded ds) v w e in
    ap₂ ◌∷◌ p.0 (one_list vs ws p.1)

-- so a text has one list of characters
pub one_reading : {o : List ℕ} (t u : Text o) → t.characters ≡ u.characters
one_reading t u = one_list t.scalars u.scalars (sym t.octets ∙ u.octets)

-- ---- two texts are one

encoded_append : (cs ds : List ℕ) → encoded (cs ++ ds) ≡ encoded cs ++ encoded ds
unfolding encoded
encoded_append [] ds = refl
encoded_append (c ∷ cs) ds = rw (encoded_append cs ds) (sym (append_assoc (utf8 c) (encoded cs) (encoded ds)))

scalars_append : {cs ds : List ℕ} → Scalars cs → Scalars ds → Scalars (cs ++ ds)
scalars_append none w = w
scalars_append (one v vs) w = one v (scalars_append vs w)

pub text_append : {a b : List ℕ} → Text a → Text b → Text (a ++ b)
text_append t u =
    record {
      characters = t.characters ++ u.characters;
      scalars = scalars_append t.scalars u.scalars;
      octets = ap₂ ◌++◌ t.octets u.octets ∙ sym (encoded_append t.characters u.characters);
    }

-- ---- the octets of a text are octets

octets_more : (x : ℕ) (o : List ℕ) → x < 256 → Octets o → Octets (x ∷ o)
octets_more x o h f zero = h
octets_more x o h f (suc i) = f i

utf8_octets : (c : ℕ) (r : List ℕ) → Scalar c → Octets r → Octets (utf8 c ++ r)
utf8_octets c r v f =
    let m = scalar_top c v in
    let x = octets_more (low6 c) r (omega arith) f in
    let y = octets_more (low6 (c / 64)) (low6 c ∷ r) (omega arith) x in
    let z = octets_more (low6 (c / 4096)) (low6 (c / 64) ∷ low6 c ∷ r) (omega arith) y in
    by_range_lem c (λ u. Octets (u ++ r))
    (λ h. octets_more c r (omega arith) f)
    (λ h k. octets_more (0xC0 + c / 64) (low6 c ∷ r) (omega arith) x)
    (λ h k. octets_more (0xE0 + c / 4096) (low6 (c / 64) ∷ low6 c ∷ r) (omega arith) y)
    (λ h. octets_more (0xF0 + c / 262144) (low6 (c / 4096) ∷ low6 (c / 64) ∷ low6 c ∷ r) (omega arith) z)

encoded_octets : {cs : List ℕ} → Scalars cs → Octets (encoded cs)
unfolding encoded
encoded_octets none = octets_nil
encoded_octets (one {c} {cs} v vs) = utf8_octets c (encoded cs) v (encoded_octets vs)

pub text_octets_lem : {o : List ℕ} → Text o → Octets o
text_octets_lem t = rw t.octets (encoded_octets t.scalars)

-- ---- the worked examples hold, by computation

pub worked : map (λ (s : Sample). is_text s.octets) samples ≡ map (λ (s : Sample). s.said) samples
unfolding ended begins lowest highest continues follows accepts is_text
worked = refl

-- ---- the call answers true exactly if it is lent text

pub answers_exactly : (κs : L.Lfts 1) (a : _) (r : _) (t : _) → call.Post κs a r t → r ≡ true ↔ Text a.0.now
answers_exactly κs a r t e = (λ h. (is_text_lem a.0.now).0 (sym e ∙ h), λ h. e ∙ (is_text_lem a.0.now).1 h)
