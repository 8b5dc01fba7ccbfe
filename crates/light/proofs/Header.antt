-- From a fixed part that is accepted to the answer of reading, by where the optional fields lead.
-- Assumes nothing.
use Prim.Native.Nat.{ℕ, ◌-◌, ◌<◌}
use mathlib.Core.Path.{◌≡◌, refl, ap, ap₂, sym, ◌∙◌}
use mathlib.Core.Bool.{Bool, true, false}
use mathlib.Core.List.{List}
use lib.Dec.{ltb}
use lib.ListN.{length}
use borrow.Author.Tests.{lt-ltb}
use Rattle.octets.specs.Octets.{pick, octet_at}
use Rattle.walk.specs.declared.Settings.{Settings}
use Rattle.walk.specs.Walk.{Reading, Step, goes, going, header_bound, check, no_refusal}
use Rattle.walk.proofs.Steps.{check_ok}
use Rattle.fields.specs.Fields.{place}
use Rattle.packet.specs.declared.Present.{Present}
use Rattle.packet.specs.declared.Ids.{Ids}
use Rattle.packet.specs.declared.Texts.{Texts}
use Rattle.packet.specs.Answer.{Header}
use Rattle.packet.specs.FixedPart.{flags_of, fixed_end, fixed_of, present_of}
use Rattle.packet.specs.Reading.{primary_of, ids_of, texts_of, body_test, segmented, counter_size, has_at, ids_at, texts_at, ended}
use Rattle.packet.specs.Reading.{accepted_header, read_packet}
use Rattle.packet.proofs.Whole.{accepts}
use Rattle.light.specs.Light.{Ready, fixed_here}

-- ---- the answer of a packet whose fixed part is accepted, and whose optional fields are a given step each

module _ (s : Settings) (p : List ℕ) (r : Ready s p) {has : Present} (eh : has ≡ flags_of (octet_at p 26))
    {d j : ℕ}
    (ei : (ids_of s header_bound (segmented p) has p (goes 27)).walk ≡ goes d)
    (et : (texts_of s header_bound has p (goes d)).walk ≡ goes j)
    (eb : body_test p (goes j) ≡ goes j) where
  has_is : has_at s p ≡ has
  has_is = ap (present_of header_bound p) r.start ∙ (r.has ∙ sym eh)

  ids_is : ids_at s p ≡ ids_of s header_bound (segmented p) has p (goes 27)
  ids_is =
      ap₂ (λ (h : Present) (v : Reading). ids_of s header_bound (segmented p) h p v) has_is
      (ap (fixed_end header_bound p) r.start ∙ r.after)

  texts_are : texts_at s p ≡ texts_of s header_bound has p (goes d)
  texts_are =
      ap₂ (λ (h : Present) (v : Reading). texts_of s header_bound h p v) has_is (ap (λ (x : Step Ids). x.walk) ids_is ∙ ei)

  ended_is : ended s p ≡ goes j
  ended_is = ap (body_test p) (ap (λ (x : Step Texts). x.walk) texts_are ∙ et) ∙ eb

  abbrev pub the_header : Header
  the_header =
      record {
        refusal = no_refusal;
        primary = primary_of p;
        fixed = fixed_here p;
        has = has;
        ids = (ids_of s header_bound (segmented p) has p (goes 27)).value;
        texts = (texts_of s header_bound has p (goes d)).value;
        h = j - 6 - counter_size p;
        body = place j (length p - j);
        withdrawn = has.zone;
      }

  pub header_is : the_header ≡ read_packet s p
  unfolding accepted_header
  header_is =
      let at_is : j ≡ (ended s p).at = ap (λ (v : Reading). v.at) (sym ended_is) in
      let same : the_header ≡ accepted_header s p =
      λ k.
      record {
        refusal = no_refusal;
        primary = primary_of p;
        fixed = sym (ap (fixed_of header_bound p) r.start ∙ r.fixed) k;
        has = sym has_is k;
        ids = ap (λ (x : Step Ids). x.value) (sym ids_is) k;
        texts = ap (λ (x : Step Texts). x.value) (sym texts_are) k;
        h = at_is k - 6 - counter_size p;
        body = record { at = at_is k; length = length p - at_is k };
        withdrawn = (sym has_is k).zone;
      } in
      same ∙ sym (accepts s p (ap going ended_is))

-- ---- the end of the header

pub body_there : (p : List ℕ) (at : ℕ) → (segmented p ≡ true → at < length p) → body_test p (goes at) ≡ goes at
unfolding body_test
body_there p at h = go (segmented p) h
  where
    go : (b : Bool) → (b ≡ true → at < length p) → pick b (check (ltb at (length p)) 14 (goes at)) (goes at) ≡ goes at
    go true q = check_ok _ 14 _ (lt-ltb at (length p) (q refl))
    go false q = refl
