-- Lists: parts joined and split again by their lengths; lengths that add up; and lists of octets.
-- Assumes nothing.
use Prim.Native.Nat.{ℕ, zero, suc, ◌+◌, ◌≤◌, ◌<◌}
use mathlib.Core.Path.{◌≡◌, refl, ap, ap₂, sym, ◌∙◌}
use mathlib.Core.List.{List, [], ◌∷◌, ◌++◌, map}
use native.Mathlib.Omega.{arith}
use lib.ListN.{length, get_or, take, drop, length-append, length-drop, take-append-drop}
use lib.Seq.{take_at, drop_at, length-take-le}
use Rattle.octets.specs.Octets.{Octets}
use Rattle.octets.proofs.Has.{octets_nil, octets_append, octets_part, part_length}
use Rattle.octets.proofs.Laying.{empty}
use Rattle.walk.specs.declared.Settings.{Settings}
use Rattle.fields.specs.declared.Place.{Place}
use Rattle.fields.specs.Fields.{nowhere}
use Rattle.fields.specs.Form.{blob_octets, text_octets, part_octets, joined, split}
use Rattle.write.specs.Given.{sum}
use Rattle.format.specs.Told.{content}

-- ---- octets of what two lists make, and of each

pub octets_left : (a b : List ℕ) → Octets (a ++ b) → Octets a
octets_left [] b o i = omega arith
octets_left (x ∷ a) b o zero = o 0
octets_left (x ∷ a) b o (suc i) = octets_left a b (λ j. o (suc j)) i

pub octets_right : (a b : List ℕ) → Octets (a ++ b) → Octets b
octets_right [] b o i = o i
octets_right (x ∷ a) b o i = octets_right a b (λ j. o (suc j)) i

-- ---- parts joined, and their lengths

-- places inside a packet: their contents are as long as they tell
unfoldable pub Inside : List ℕ → List Place → Type 0
Inside p l = (k : ℕ) → k < length l → (get_or l k nowhere).at + (get_or l k nowhere).length ≤ length p

module _ (p : List ℕ) where
  first_long : (a : Place) (l : List Place) → Inside p (a ∷ l) → length (content p a) ≡ a.length
  unfolding Inside
  first_long a l h = part_length p a.at a.length (h 0 (omega arith))

  rest_inside : (a : Place) (l : List Place) → Inside p (a ∷ l) → Inside p l
  unfolding Inside
  rest_inside a l h k b = h (suc k) (omega arith)

  -- cut by their lengths, the joined parts are the parts
  pub split_joined : (l : List Place) → Inside p l → split (map (λ (a : Place). a.length) l) (joined (content p) l) ≡ map (content p) l
  unfolding split joined
  split_joined [] h = refl
  split_joined (a ∷ l) h =
      let n = first_long a l h in
      ap₂ ◌∷◌ (take_at (content p a) (joined (content p) l) a.length n)
      (ap (split (map (λ (b : Place). b.length) l)) (drop_at (content p a) (joined (content p) l) a.length n)
      ∙ split_joined l (rest_inside a l h))

  -- the lengths add up
  pub sum_joined : (l : List Place) → Inside p l → sum (map (λ (a : Place). a.length) l) ≡ length (joined (content p) l)
  unfolding sum joined
  sum_joined [] h = refl
  sum_joined (a ∷ l) h =
      ap₂ ◌+◌ (sym (first_long a l h)) (sum_joined l (rest_inside a l h))
      ∙ sym (length-append (content p a) (joined (content p) l))

  -- the lengths told are those of the contents
  pub lengths_told : (l : List Place) → Inside p l → map (λ (a : Place). a.length) l ≡ map length (map (content p) l)
  lengths_told [] h = refl
  lengths_told (a ∷ l) h = ap₂ ◌∷◌ (sym (first_long a l h)) (lengths_told l (rest_inside a l h))

  pub joined_contents : (l : List Place) → joined (content p) l ≡ joined (λ (x : List ℕ). x) (map (content p) l)
  unfolding joined
  joined_contents [] = refl
  joined_contents (a ∷ l) = ap (λ (x : List ℕ). content p a ++ x) (joined_contents l)

  pub joined_octets : (l : List Place) → Octets p → Octets (joined (content p) l)
  unfolding joined
  joined_octets [] o = octets_nil
  joined_octets (a ∷ l) o =
      octets_append (content p a) (joined (content p) l) (octets_part p a.at a.length o) (joined_octets l o)

-- a text cut by lengths that add up: its parts have these lengths, and joined they are the text
pub lengths_split : (ns x : List ℕ) → sum ns ≡ length x → map length (split ns x) ≡ ns
unfolding sum split
lengths_split [] x h = refl
lengths_split (n ∷ ns) x h =
    ap₂ ◌∷◌ (length-take-le n x (omega arith)) (lengths_split ns (drop n x) (omega (arith, length-drop n x)))

pub joined_split : (ns x : List ℕ) → sum ns ≡ length x → joined (λ (y : List ℕ). y) (split ns x) ≡ x
unfolding sum split joined
joined_split [] x h = sym (empty x (sym h))
joined_split (n ∷ ns) x h =
    ap (λ (y : List ℕ). take n x ++ y) (joined_split ns (drop n x) (omega (arith, length-drop n x))) ∙ take-append-drop n x

-- ---- lengths

pub sum_none : (ns : List ℕ) → length ns ≡ 0 → sum ns ≡ 0
unfolding sum
sum_none [] h = refl
sum_none (n ∷ ns) h = absurd (omega arith)

part_least : (s : Settings) (x : List ℕ) → length x ≤ length (part_octets s x)
unfolding part_octets text_octets blob_octets
part_least s x = simp length-append (omega arith)

-- a text whose parts' lengths add up is no longer than its writing
pub joined_least : (s : Settings) (ns x : List ℕ) → sum ns ≡ length x → length x ≤ length (joined (part_octets s) (split ns x))
unfolding sum split joined
joined_least s [] x h = omega arith
joined_least s (n ∷ ns) x h =
    let d = length-drop n x in
    let t : length (take n x) ≡ n = length-take-le n x (omega arith) in
    let a = part_least s (take n x) in
    let b = joined_least s ns (drop n x) (omega arith) in
    simp length-append (omega arith)
