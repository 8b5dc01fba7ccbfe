-- From the steps to the whole answer: if every step goes on, what was laid is what reading answers.
-- Assumes nothing.
use Prim.Native.Nat.{ℕ, ◌-◌}
use mathlib.Core.Path.{◌≡◌, refl, ap, sym, ◌∙◌}
use mathlib.Core.Bool.{Bool}
use mathlib.Core.List.{List, [], ◌∷◌, ◌++◌}
use lib.ListN.{length, set}
use lib.Seq.{sets}
use Rattle.octets.specs.Octets.{octet_at}
use Rattle.walk.specs.declared.Settings.{Settings}
use Rattle.walk.specs.Walk.{Reading, Step, goes, header_bound, uinteger}
use Rattle.fields.specs.Fields.{nowhere, opt, block, blob, text, domain, no_parts}
use Rattle.packet.specs.Format.{bit}
use Rattle.packet.specs.declared.Present.{Present}
use Rattle.packet.specs.declared.Texts.{Texts}
use Rattle.packet.specs.FixedPart.{octet_field, wide_field, flags_of}
use Rattle.packet.specs.Reading.{primary_of, ids_of, texts_of, body_test, segmented, counter_size}
use Rattle.packet.specs.Reading.{read_packet}
use Rattle.flat.specs.Told.{primary_numbers, name_numbers, routing_numbers, present_numbers, ids_numbers, text_numbers, place_numbers}
use Rattle.flat.specs.Told.{read_numbers}
use Rattle.flat.proofs.Answers.{header_laid, texts_laid}
use Rattle.light.specs.Light.{Ready, fixed_here, no_texts}
use Rattle.light.proofs.Header.{the_header, header_is}
use Rattle.light.proofs.Plain.{no_texts_there}
use Rattle.filling.specs.Filling.{Within, Into, Ended, one, parts_numbers, front_numbers}
use Rattle.filling.proofs.Fields.{absent, into_by}

-- ---- the optional fields, step by step

module _ (s : Settings) (seg : Bool) (has : Present) (p : List ℕ) (v : Reading) {lim : ℕ} {l m1 m2 m3 m : List ℕ} {a b c r : ℕ}
    (ia : Into p (opt has.source 0 (octet_field header_bound p) v) one 24 lim l m1 a)
    (ib : Into p (opt has.destination 0 (octet_field header_bound p) (goes a)) one 25 lim m1 m2 b)
    (ic : Into p (opt seg 0 (wide_field 4 header_bound p) (goes b)) one 26 lim m2 m3 c)
    (id : Into p (opt has.priority 0 (uinteger s header_bound p) (goes c)) one 27 lim m3 m r) where
  pub ids_laid : Into p (ids_of s header_bound seg has p v) ids_numbers 24 lim l m r
  unfolding ids_of
  ids_laid =
      record {
        within = id.within;
        walk = rw (ia.walk, ib.walk, ic.walk) id.walk;
        same = rw (ia.walk, ib.walk, ic.walk) (rw (sym ia.same, sym ib.same, sym ic.same) id.same);
      }

module _ (s : Settings) (has : Present) (p : List ℕ) (v : Reading) {lim : ℕ} {l m1 m2 m3 m4 m : List ℕ} {a b c d r : ℕ}
    (ia : Into p (opt has.timestamp nowhere (block s.t header_bound p) v) place_numbers 28 lim l m1 a)
    (ib : Into p (opt has.zone nowhere (text s header_bound p) (goes a)) place_numbers 30 lim m1 m2 b)
    (ic : Into p (opt has.session_name nowhere (text s header_bound p) (goes b)) place_numbers 32 lim m2 m3 c)
    (id : Into p (opt has.domain (no_parts 0) (domain s header_bound p) (goes c)) parts_numbers 34 lim m3 m4 d)
    (ie : Into p (opt has.authentication nowhere (blob s header_bound p) (goes d)) place_numbers 67 lim m4 m r) where
  texts_is :
      texts_of s header_bound has p v
      ≡ record {
        walk = (opt has.authentication nowhere (blob s header_bound p) (goes d)).walk;
        value =
            record {
              timestamp = (opt has.timestamp nowhere (block s.t header_bound p) v).value;
              zone = (opt has.zone nowhere (text s header_bound p) (goes a)).value;
              session_name = (opt has.session_name nowhere (text s header_bound p) (goes b)).value;
              count = (opt has.domain (no_parts 0) (domain s header_bound p) (goes c)).value.count;
              parts = (opt has.domain (no_parts 0) (domain s header_bound p) (goes c)).value.places;
              authentication = (opt has.authentication nowhere (blob s header_bound p) (goes d)).value;
            };
      }
  unfolding texts_of
  texts_is = rw (ia.walk, ib.walk, ic.walk, id.walk)

  pub all_texts_laid : Into p (texts_of s header_bound has p v) text_numbers 28 lim l m r
  all_texts_laid =
      record {
        within = ie.within;
        walk = ap (λ (x : Step Texts). x.walk) texts_is ∙ ie.walk;
        same =
            texts_laid _ l 28 m1 m2 m3 m4 m ia.same ib.same ic.same id.same ie.same
            ∙ ap (λ (x : Step Texts). sets l 28 (text_numbers x.value)) (sym texts_is);
      }

-- ---- the answer of a packet whose fixed part is accepted, and whose optional fields are a given step each

module _ (s : Settings) (p : List ℕ) (r : Ready s p) {has : Present} (eh : has ≡ flags_of (octet_at p 26))
    {d j : ℕ}
    (ei : (ids_of s header_bound (segmented p) has p (goes 27)).walk ≡ goes d)
    (et : (texts_of s header_bound has p (goes d)).walk ≡ goes j)
    (eb : body_test p (goes j) ≡ goes j) where
  -- laid piece by piece
  pub whole_laid :
      (l : List ℕ) {m1 m2 m3 o : List ℕ} → length l ≡ 75 →
      m1
      ≡ sets l 0 ((0 ∷ primary_numbers (primary_of p)) ++ (name_numbers (fixed_here p) ++ (routing_numbers (fixed_here p) ++ present_numbers has))) →
      m2 ≡ sets m1 24 (ids_numbers (ids_of s header_bound (segmented p) has p (goes 27)).value) →
      m3 ≡ sets m2 28 (text_numbers (texts_of s header_bound has p (goes d)).value) →
      o ≡ sets m3 69 ((j - 6 - counter_size p) ∷ j ∷ (length p - j) ∷ 0 ∷ 0 ∷ bit has.zone ∷ []) → o ≡ read_numbers (read_packet s p)
  whole_laid l {m1} {m2} {m3} {o} n e1 e2 e3 e4 =
      header_laid (the_header s p r eh ei et eb) l _ _ _ m1 m2 m3 _ o n refl refl refl e1 e2 e3 refl e4 ∙ ap read_numbers (header_is s p r eh ei et eb)

-- by the answers of the calls
pub all_laid :
    (s : Settings) (p : List ℕ) → Ready s p → {seg : Bool} → seg ≡ segmented p → {f : ℕ} → f ≡ octet_at p 26 → {lim d j : ℕ} (l : List ℕ) {m1 m2 m3 o : List ℕ} →
    length l ≡ 75 → m1 ≡ sets l 0 (front_numbers f p) →
    Into p (ids_of s header_bound seg (flags_of f) p (goes 27)) ids_numbers 24 lim m1 m2 d →
    Into p (texts_of s header_bound (flags_of f) p (goes d)) text_numbers 28 lim m2 m3 j → Ended p f j m3 o → o ≡ read_numbers (read_packet s p)
all_laid s p r es ef l n e1 ii it eb =
    let jd = rw es at ii in
    whole_laid s p r (ap flags_of ef) jd.walk it.walk eb.walk l n e1 jd.same it.same eb.same

-- ---- a packet with no flag set

module _ (s : Settings) (p : List ℕ) (r : Ready s p) {seg : Bool} (es : seg ≡ segmented p) (e0 : octet_at p 26 ≡ 0) {lim c : ℕ}
    (l : List ℕ) {m1 m2 m3 o : List ℕ} (w : Within p lim 27) (n : length l ≡ 75) (e1 : m1 ≡ sets l 0 (front_numbers 0 p))
    (ic : Into p (opt seg 0 (wide_field 4 header_bound p) (goes 27)) one 26 lim (set (set m1 24 0) 25 0) m2 c)
    (e3 : m3 ≡ sets (set m2 27 0) 28 (text_numbers no_texts))
    (eb : Ended p 0 c m3 o) where
  no_source : Into p (opt (flags_of 0).source 0 (octet_field header_bound p) (goes 27)) one 24 lim m1 (set m1 24 0) 27
  unfolding flags_of
  no_source = absent w 0 (octet_field header_bound p) refl refl

  no_destination :
      Into p (opt (flags_of 0).destination 0 (octet_field header_bound p) (goes 27)) one 25 lim (set m1 24 0) (set (set m1 24 0) 25 0) 27
  unfolding flags_of
  no_destination = absent w 0 (octet_field header_bound p) refl refl

  no_priority : Into p (opt (flags_of 0).priority 0 (uinteger s header_bound p) (goes c)) one 27 lim m2 (set m2 27 0) c
  unfolding flags_of
  no_priority = absent ic.within 0 (uinteger s header_bound p) refl refl

  pub plain_laid : o ≡ read_numbers (read_packet s p)
  plain_laid =
      let ii = ids_laid s seg (flags_of 0) p (goes 27) no_source no_destination ic no_priority in
      let it = into_by ic.within (no_texts_there s p (goes c)) e3 in
      all_laid s p r es (sym e0) l n e1 ii it eb
