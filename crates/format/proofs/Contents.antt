-- The authentication id, a text and a domain part as fields: a length decides a block; an octet of 1 stands before a part.
-- Assumes nothing.
use Prim.Native.Nat.{ℕ, ◌<◌}
use mathlib.Core.Path.{◌≡◌, refl, ap, sym}
use mathlib.Core.List.{List, [], ◌∷◌}
use native.Mathlib.Omega.{arith}
use lib.ListN.{length, length-append}
use lib.Dec.{eqb}
use borrow.Author.Tests.{eqb-true}
use Rattle.octets.specs.Octets.{Octets, wide}
use Rattle.utf8.specs.Text.{Text}
use Rattle.utf8.specs.Test.{is_text}
use Rattle.utf8.proofs.Laws.{is_text_lem, text_octets_lem}
use Rattle.walk.specs.declared.Settings.{Settings}
use Rattle.walk.specs.declared.Bound.{Bound}
use Rattle.walk.specs.Walk.{Reading}
use Rattle.fields.specs.Fields.{blob, text, marked_text, part}
use Rattle.fields.specs.Form.{blob_octets, text_octets, part_octets}
use Rattle.format.specs.Told.{content}
use Rattle.format.proofs.Field.{Field, seq, told}
use Rattle.format.proofs.Combine.{tested, whole, via, dep, formed}
use Rattle.format.proofs.Numbers.{octet_f, block_f}
use Rattle.format.proofs.Encoding.{number_f}

module _ (s : Settings) (bound : Bound) (p : List ℕ) where
  -- ---- a length and as many octets

  -- the field that the length decides
  abbrev pub sized : Field bound p (List ℕ)
  sized = whole bound p (dep bound p (number_f bound p s) (block_f bound p) length (λ n x f. f.0))

  pub blob_form : (x : List ℕ) → blob_octets s x ≡ sized.form x
  unfolding blob_octets
  blob_form x = refl

  pub blob_fit : (x : List ℕ) → Octets x → length (blob_octets s x) < 4294967296 → sized.Fit x
  unfolding blob_octets
  blob_fit x f l = let e = simp length-append at l in ((omega arith, (refl, f)), refl)

  pub blob_step : (w : Reading) → (blob s bound p w).walk ≡ sized.step w
  unfolding blob
  blob_step w = refl

  pub blob_value : (w : Reading) → content p (blob s bound p w).value ≡ sized.value w
  unfolding blob
  blob_value w = refl

  pub blob_spots : (w : Reading) → (blob s bound p w).value ∷ [] ≡ sized.spots w
  unfolding blob
  blob_spots w = refl

  abbrev pub blob_f : Field bound p (List ℕ)
  blob_f =
      told bound p (formed bound p sized (blob_octets s) Octets blob_form blob_fit (λ x f. f.0.1.1)) (λ w. (blob s bound p w).walk)
      (λ w. content p (blob s bound p w).value) (λ w. (blob s bound p w).value ∷ []) blob_step blob_value blob_spots

  -- ---- a text: the same, and its content is tested, else 28

  abbrev pub tested_blob : Field bound p (List ℕ)
  tested_blob = tested bound p is_text 27 blob_f

  pub text_form : (x : List ℕ) → text_octets s x ≡ tested_blob.form x
  unfolding text_octets
  text_form x = refl

  pub text_fit : (x : List ℕ) → Text x → length (text_octets s x) < 4294967296 → tested_blob.Fit x
  text_fit x f l = (text_octets_lem f, (is_text_lem x).1 f)

  pub text_step : (w : Reading) → (text s bound p w).walk ≡ tested_blob.step w
  unfolding text
  text_step w = refl

  pub text_value : (w : Reading) → content p (text s bound p w).value ≡ tested_blob.value w
  unfolding text
  text_value w = refl

  pub text_spots : (w : Reading) → (text s bound p w).value ∷ [] ≡ tested_blob.spots w
  unfolding text
  text_spots w = refl

  abbrev pub text_f : Field bound p (List ℕ)
  text_f =
      told bound p
      (formed bound p tested_blob (text_octets s) Text text_form text_fit (λ x f. (is_text_lem x).0 f.1))
      (λ w. (text s bound p w).walk) (λ w. content p (text s bound p w).value) (λ w. (text s bound p w).value ∷ []) text_step text_value text_spots

  -- ---- a domain part

  -- an octet of 1, else 11
  abbrev pub mark : Field bound p ℕ
  mark = tested bound p (λ x. eqb x 1) 10 (octet_f bound p)

  pub marked : (x : ℕ × List ℕ) → mark.Fit x.0 → (1, x.1) ≡ x
  marked x f = let e : x.0 ≡ 1 = eqb-true x.0 1 f.1 in ap (λ (n : ℕ). (n, x.1)) (sym e)

  abbrev pub marked_f : Field bound p (List ℕ)
  marked_f = whole bound p (via bound p (seq bound p mark text_f) (λ (x : ℕ × List ℕ). x.1) (λ (x : List ℕ). (1, x)) (λ a f. marked a f.0))

  pub part_form : (x : List ℕ) → part_octets s x ≡ marked_f.form x
  unfolding part_octets wide
  part_form x = refl

  pub part_fit : (x : List ℕ) → Text x → length (part_octets s x) < 4294967296 → marked_f.Fit x
  part_fit x f l = (((omega arith, refl), f), refl)

  pub part_step : (w : Reading) → (part s bound p w).walk ≡ marked_f.step w
  unfolding part marked_text
  part_step w = refl

  pub part_value : (w : Reading) → content p (part s bound p w).value ≡ marked_f.value w
  unfolding part marked_text
  part_value w = refl

  pub part_spots : (w : Reading) → (part s bound p w).value ∷ [] ≡ marked_f.spots w
  unfolding part marked_text
  part_spots w = refl

  abbrev pub part_f : Field bound p (List ℕ)
  part_f =
      told bound p
      (formed bound p marked_f (part_octets s) Text part_form part_fit (λ x f. f.0.1))
      (λ w. (part s bound p w).walk) (λ w. content p (part s bound p w).value) (λ w. (part s bound p w).value ∷ []) part_step part_value part_spots
