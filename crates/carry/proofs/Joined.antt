-- The parts of a domain joined in a buffer, one after the other, and their lengths: the loop's step, what stands in the buffers after it,
-- that cut by their lengths they are the parts again, and that a header is no shorter than the parts of its domain.
-- Assumes nothing.
use Prim.Native.Nat.{ℕ, suc, ◌+◌, ◌-◌, ◌≤◌, ◌<◌}
use mathlib.Core.Path.{◌≡◌, refl, ap, ap₂, sym, ◌∙◌}
use mathlib.Core.Logic.{⊎_elim}
use mathlib.Core.Bool.{Bool, true, false}
use mathlib.Core.List.{List, [], ◌∷◌, ◌++◌, map}
use native.Mathlib.Omega.{arith}
use native.Mathlib.Nat.{zero-add}
use native.Mathlib.Numerals.{add-one}
use lib.ListN.{length, get_or, set, take, drop, length-append}
use lib.Seq.{sets, sets-eq, length-sets, take_at, drop_at, take-suc, length-take-le}
use Rattle.octets.specs.Laying.{together}
use Rattle.octets.proofs.Lists.{below_or, sets_out, sets_append}
use Rattle.octets.proofs.Laying.{together_append, one_together}
use Rattle.walk.specs.declared.Settings.{Settings}
use Rattle.fields.specs.declared.Place.{Place}
use Rattle.fields.specs.Fields.{nowhere}
use Rattle.fields.specs.Form.{blob_octets, text_octets, part_octets, joined, domain_octets, split}
use Rattle.packet.specs.Format.{Head, when, header_octets, back_octets}
use Rattle.format.specs.Told.{content}
use Rattle.packet.specs.declared.Texts.{Texts}
use Rattle.carry.specs.Message.{parts_of}
use Rattle.carry.specs.Inner.{told_to, Few}

-- ---- cut by their lengths

pub split_together : (xs : List (List ℕ)) → split (map length xs) (together xs) ≡ xs
unfolding split together
split_together [] = refl
split_together (x ∷ xs) =
    ap₂ ◌∷◌ (take_at x (together xs) (length x) refl)
    (ap (split (map length xs)) (drop_at x (together xs) (length x) refl) ∙ split_together xs)

-- ---- the loop

map_append : {A B : Type 0} (f : A → B) (x y : List A) → map f (x ++ y) ≡ map f x ++ map f y
map_append f [] y = refl
map_append f (a ∷ x) y = ap (λ l. f a ∷ l) (map_append f x y)

map_length : {A B : Type 0} (f : A → B) (x : List A) → length (map f x) ≡ length x
map_length f [] = refl
map_length f (a ∷ x) = ap suc (map_length f x)

together_last : (xs : List (List ℕ)) (x : List ℕ) → together (xs ++ (x ∷ [])) ≡ together xs ++ x
together_last xs x = together_append xs (x ∷ []) ∙ ap (λ (y : List ℕ). together xs ++ y) (one_together x)

-- one list after another, from the beginning on
after : (b x y : List ℕ) → sets (sets b 0 x) (length x) y ≡ sets b 0 (x ++ y)
after b x y = ap (λ (i : ℕ). sets (sets b 0 x) i y) (sym (zero-add (length x))) ∙ sets_append b 0 x y

-- a place past the end, told or as it is, changes nothing
past_same : (l : List ℕ) (n : ℕ) (x : List ℕ) → length l ≤ 256 → sets l (told_to n) x ≡ sets l n x
past_same l n x h =
    ⊎_elim
    (λ (k : 256 < n). sets_out l (told_to n) x (omega arith) ∙ sym (sets_out l n x (omega arith)))
    (λ (k : n ≤ 256). let e : told_to n ≡ n = omega arith in ap (λ (i : ℕ). sets l i x) e)
    (below_or 256 n)

module _ (p : List ℕ) (l : List Place) where
  -- the first k parts
  abbrev pub parts_to : ℕ → List (List ℕ)
  parts_to k = map (content p) (take k l)

  one_more : (k : ℕ) → k < length l → parts_to (suc k) ≡ parts_to k ++ (content p (get_or l k nowhere) ∷ [])
  one_more k h =
      ap (map (content p)) (take-suc l k nowhere h) ∙ map_append (content p) (take k l) (get_or l k nowhere ∷ [])

  pub text_more :
      (k : ℕ) (b text : List ℕ) (total : ℕ) (x : List ℕ) → k < length l → length b ≤ 256 → text ≡ sets b 0 (together (parts_to k)) →
      total ≡ told_to (length (together (parts_to k))) → x ≡ content p (get_or l k nowhere) →
      sets text total x ≡ sets b 0 (together (parts_to (suc k)))
  text_more k b text total x h n e t d =
      let f = length-sets b 0 (together (parts_to k)) in
      ap₂ (λ (y : List ℕ) (i : ℕ). sets y i x) e t
      ∙ past_same (sets b 0 (together (parts_to k))) (length (together (parts_to k))) x (omega arith)
      ∙ after b (together (parts_to k)) x
      ∙ ap (λ (y : List ℕ). sets b 0 (together (parts_to k) ++ y)) d
      ∙ ap (sets b 0) (sym (together_last (parts_to k) (content p (get_or l k nowhere))) ∙ ap together (sym (one_more k h)))

  pub total_more :
      (k total : ℕ) (x : List ℕ) → k < length l → total ≡ told_to (length (together (parts_to k))) → x ≡ content p (get_or l k nowhere) →
      told_to (total + length x) ≡ told_to (length (together (parts_to (suc k))))
  total_more k total x h t d =
      let e : length (together (parts_to (suc k))) ≡ length (together (parts_to k)) + length x =
      ap (λ (y : List (List ℕ)). length (together y)) (one_more k h)
      ∙ ap length (together_last (parts_to k) (content p (get_or l k nowhere)))
      ∙ length-append (together (parts_to k)) (content p (get_or l k nowhere))
      ∙ ap (λ (y : List ℕ). length (together (parts_to k)) + length y) (sym d) in
      omega arith

  pub lengths_more :
      (k : ℕ) (b lengths : List ℕ) (x : List ℕ) → k < length l → lengths ≡ sets b 0 (map length (parts_to k)) →
      x ≡ content p (get_or l k nowhere) → set lengths k (length x) ≡ sets b 0 (map length (parts_to (suc k)))
  lengths_more k b lengths x h e d =
      let n : length (map length (parts_to k)) ≡ k = map_length length (parts_to k) ∙ map_length (content p) (take k l) ∙ taken in
      ap₂ (λ (y : List ℕ) (i : ℕ). set y i (length x)) e (sym n)
      ∙ after b (map length (parts_to k)) (length x ∷ [])
      ∙ ap (λ (y : List ℕ). sets b 0 (map length (parts_to k) ++ (length y ∷ []))) d
      ∙ ap (sets b 0) (sym (map_append length (parts_to k) (content p (get_or l k nowhere) ∷ [])) ∙ ap (map length) (sym (one_more k h)))
    where
      taken : length (take k l) ≡ k
      taken = length-take-le k l (omega arith)

-- ---- after it

-- what was laid over a buffer's beginning, if it fits
pub front_is : (b x : List ℕ) (n : ℕ) → n ≡ length x → n ≤ length b → take n (sets b 0 x) ≡ x
front_is b x n e h =
    ap (take n) (sets-eq x b 0 (omega arith)) ∙ take_at x (drop (0 + length x) b) n (sym e)

-- ---- in a header

part_least : (s : Settings) (x : List ℕ) → length x ≤ length (part_octets s x)
unfolding part_octets text_octets blob_octets
part_least s x = simp length-append (omega arith)

pub parts_least : (s : Settings) (xs : List (List ℕ)) → length (together xs) ≤ length (joined (part_octets s) xs)
unfolding together joined
parts_least s [] = omega arith
parts_least s (x ∷ xs) =
    let a = part_least s x in
    let b = parts_least s xs in
    simp length-append (omega arith)

pub when_least : (b : Bool) (x l : List ℕ) → length x ≤ length l → (b ≡ false → length x ≡ 0) → length x ≤ length (when b l)
when_least true x l h z = h
when_least false x l h z = let e = z refl in omega arith

pub domain_least :
    (s : Settings) (h : Head) → (h.has_domain ≡ false → h.domain ≡ []) → length (together h.domain) ≤ length (header_octets s h)
unfolding header_octets back_octets domain_octets together
domain_least s h z =
    let a = parts_least s h.domain in
    let c : length (together h.domain) ≤ length (domain_octets s h.domain) = simp length-append (omega arith) in
    let b =
    when_least h.has_domain (together h.domain) (domain_octets s h.domain) c
    (λ e. ap (λ (y : List (List ℕ)). length (together y)) (z e)) in
    simp length-append (omega arith)

-- ---- the loop's invariant: k parts are joined

pub record Joining (p : List ℕ) (l : List Place) (n : ℕ) (b c text lengths : List ℕ) (total k : ℕ) : Type 0 where
  pub within : k ≤ n
  pub most : n ≤ 16
  pub places : length l ≡ 16
  pub room : length b ≡ 256
  pub cells : length c ≡ 16
  pub text_is : text ≡ sets b 0 (together (parts_to p l k))
  pub lengths_are : lengths ≡ sets c 0 (map length (parts_to p l k))
  pub total_is : total ≡ told_to (length (together (parts_to p l k)))

pub joining_first :
    (p : List ℕ) (l : List Place) (n : ℕ) (b c : List ℕ) → n ≤ 16 → length l ≡ 16 → length b ≡ 256 → length c ≡ 16 → Joining p l n b c b c 0 0
unfolding together
joining_first p l n b c m h r q =
    record { within = omega arith; most = m; places = h; room = r; cells = q; text_is = refl; lengths_are = refl; total_is = refl }

pub joining_next :
    {p : List ℕ} {l : List Place} {n : ℕ} {b c text lengths : List ℕ} {total k : ℕ} {x after_text : List ℕ} {after-total : ℕ} →
    Joining p l n b c text lengths total k → k < n → x ≡ content p (get_or l k nowhere) → after_text ≡ sets text total x →
    after-total ≡ told_to (total + length x) → Joining p l n b c after_text (set lengths k (length x)) after-total (k + 1)
joining_next {p} {l} {n} {b} {c} {text} {lengths} {total} {k} {x} i h d e t =
    let w = i.within in
    let m = i.most in
    let a = i.places in
    let r = i.room in
    let s : k < length l = omega arith in
    record {
      within = omega arith;
      most = m;
      places = a;
      room = r;
      cells = i.cells;
      text_is = rw add-one (e ∙ text_more p l k b text total x s (omega arith) i.text_is i.total_is d);
      lengths_are = rw add-one (lengths_more p l k c lengths x s i.lengths_are d);
      total_is = rw add-one (t ∙ total_more p l k total x s i.total_is d);
    }

pub joining_done :
    {p : List ℕ} {l : List Place} {n : ℕ} {b c text lengths : List ℕ} {total k : ℕ} → Joining p l n b c text lengths total k → n ≤ k →
    (text ≡ sets b 0 (together (parts_to p l n)))
    × ((lengths ≡ sets c 0 (map length (parts_to p l n)))
    × ((total ≡ told_to (length (together (parts_to p l n)))) × ((length text ≡ 256) × (length lengths ≡ 16))))
joining_done {p} {l} {n} {b} {c} {text} {lengths} {total} {k} i h =
    let w = i.within in
    let e : k ≡ n = omega arith in (
      i.text_is ∙ ap (λ (j : ℕ). sets b 0 (together (parts_to p l j))) e,
      (
        i.lengths_are ∙ ap (λ (j : ℕ). sets c 0 (map length (parts_to p l j))) e,
        (
          i.total_is ∙ ap (λ (j : ℕ). told_to (length (together (parts_to p l j)))) e,
          (
            ap length i.text_is ∙ length-sets b 0 (together (parts_to p l k)) ∙ i.room,
            ap length i.lengths_are ∙ length-sets c 0 (map length (parts_to p l k)) ∙ i.cells,
          ),
        ),
      ),
    )

-- ---- what is lent after it

-- the octets from the first on, as a slice has them
pub cut : {A : Type 0} (n : ℕ) (o : List A) {x : List A} → take n o ≡ x → take (n - 0) o ≡ x
cut n o d = let e : n - 0 ≡ n = omega arith in ap (λ (k : ℕ). take k o) e ∙ d

-- told below 257, they are as many
pub told_small : {total n : ℕ} → total ≡ told_to n → total ≤ 256 → n ≤ 256
told_small e k = omega arith

pub total_fits : {n total room : ℕ} → total ≡ told_to n → n ≤ 256 → room ≡ 256 → total ≤ room
total_fits e h l = omega arith

pub count_fits : {n room : ℕ} → n ≤ 16 → room ≡ 16 → n ≤ room
count_fits h l = omega arith

module _ (p : List ℕ) (x : Texts) where
  pub text_is :
      (b t : List ℕ) {total : ℕ} → t ≡ sets b 0 (together (parts_of p x)) → total ≡ told_to (length (together (parts_of p x))) →
      length (together (parts_of p x)) ≤ 256 → length t ≡ 256 → take (total - 0) t ≡ together (parts_of p x)
  text_is b t {total} e q h l =
      let n = length-sets b 0 (together (parts_of p x)) in
      let k = ap length e in
      cut total t (ap (take total) e ∙ front_is b (together (parts_of p x)) total (omega arith) (omega arith))

  count_is : Few x → length (map length (parts_of p x)) ≡ x.count
  count_is f =
      let a = f.0 in
      let b = f.1 in
      map_length length (parts_of p x) ∙ map_length (content p) (take x.count x.parts) ∙ length-take-le x.count x.parts (omega arith)

  pub lengths_are :
      (b t : List ℕ) → Few x → t ≡ sets b 0 (map length (parts_of p x)) → length t ≡ 16 → take (x.count - 0) t ≡ map length (parts_of p x)
  lengths_are b t f e l =
      let n = length-sets b 0 (map length (parts_of p x)) in
      let k = ap length e in
      let a = f.0 in
      cut x.count t (ap (take x.count) e ∙ front_is b (map length (parts_of p x)) x.count (sym (count_is f)) (omega arith))
