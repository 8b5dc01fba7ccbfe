-- A field's step after one that was refused keeps it; and the domain, part by part.
-- Assumes nothing.
use Prim.Native.Nat.{ℕ, zero, suc, ◌+◌, ◌≤◌, ◌<◌}
use mathlib.Core.Path.{◌≡◌, refl, ap, sym, ◌∙◌, subst}
use mathlib.Core.List.{List}
use mathlib.Core.Bool.{Bool, true, false, false≢true}
use mathlib.Core.Logic.{⊎_elim}
use native.Mathlib.Omega.{arith}
use native.Mathlib.Numerals.{add-one}
use lib.Dec.{leb, eqb}
use lib.ListN.{length, take, set, length-set, replicate}
use Rattle.octets.specs.Octets.{pick, octet_at}
use Rattle.octets.proofs.Lists.{below_or}
use Rattle.varint.specs.Varint.{Got, value, ends, bad, read_at}
use Rattle.utf8.specs.Test.{is_text}
use Rattle.walk.specs.declared.Settings.{Settings}
use Rattle.walk.specs.declared.Bound.{Bound}
use Rattle.walk.specs.declared.Reader.{Reader}
use Rattle.walk.specs.declared.Refused.{Refused}
use Rattle.walk.specs.declared.Refused.TheVariants.{ManyParts, Text, DomainPart}
use Rattle.walk.specs.Told.{told}
use Rattle.walk.specs.Walk.{Reading, Step, goes, going, octets, wide_field, varint_step, varint_field, check, octet_field, uinteger}
use Rattle.walk.specs.Read.{Went, Stopped, skipped}
use Rattle.walk.proofs.Steps.{octets_there}
use Rattle.walk.proofs.Keeps.{Kept, kept, stopped_as, stopped_on, octets_keeps, octets_stand, check_keeps, uinteger_keeps, field_stops, field_kept_at, field_kept, then_stops, test_stops}
use Rattle.fields.specs.declared.Place.{Place}
use Rattle.fields.specs.Inner.{domain_step}
use Rattle.fields.specs.Fields.{Parts, nowhere, content_at, block, blob, text, marked_text, part, part_at, parts_most, no_parts, parts_to, domain}

-- ---- refused before

module _ (s : Settings) (b : Bound) (p : List ℕ) {u w : Reading} where
  pub block_keeps : (n : ℕ) → Kept u w → Kept u (block n b p w).walk
  unfolding block
  block_keeps n h = octets_keeps b p n h

  pub blob_keeps : Kept u w → Kept u (blob s b p w).walk
  unfolding blob
  blob_keeps h = field_kept h (octets_keeps b p _ (uinteger_keeps s b p h))

  pub text_keeps : Kept u w → Kept u (text s b p w).walk
  unfolding text
  text_keeps h = check_keeps _ 28 (blob_keeps h)

module _ (s : Settings) (b : Bound) (p : List ℕ) {u : Reading} where
  pub marked_keeps : {w : Reading} → Kept u w → Kept u (marked_text s b p w).walk
  unfolding marked_text
  marked_keeps h = text_keeps s b p (check_keeps _ 11 (octets_keeps b p 1 h))

  pub part_keeps : {w : Reading} → Kept u w → Kept u (part s b p w).walk
  unfolding part
  part_keeps h = field_kept h (marked_keeps h)

  -- the parts after one that was refused
  pub parts_keep : (d : Step Parts) (n k : ℕ) → k ≤ n → Kept u (parts_to s b p k d).walk → Kept u (parts_to s b p n d).walk
  unfolding parts_to part_at
  parts_keep d zero k l h = let z : k ≡ 0 = omega arith in rw z at h
  parts_keep d (suc n) k l h =
      ⊎_elim (λ (x : k < suc n). part_keeps (parts_keep d n k (omega arith) h)) (λ (x : suc n ≤ k). let z : k ≡ suc n = omega arith in rw z at h) (below_or k (suc n))

  -- and a domain whose count was, or that came after one
  pub domain_count : (w : Reading) → Kept u (uinteger s b p w).walk → Kept u (domain s b p w).walk
  unfolding domain parts_to part_at
  domain_count w h = go (leb (uinteger s b p w).value parts_most)
    where
      all : (n : ℕ) → Kept u (parts_to s b p n (record { walk = (uinteger s b p w).walk; value = no_parts (uinteger s b p w).value })).walk
      all zero = h
      all (suc n) = part_keeps (all n)

      go :
          (k : Bool) →
          Kept u
          (pick {A = Step Parts} k
          (parts_to s b p (uinteger s b p w).value (record { walk = (uinteger s b p w).walk; value = no_parts (uinteger s b p w).value }))
          (record { walk = check false 13 (uinteger s b p w).walk; value = no_parts 0 })).walk
      go true = all (uinteger s b p w).value
      go false = check_keeps false 13 h

  pub domain_keeps : {w : Reading} → Kept u w → Kept u (domain s b p w).walk
  domain_keeps {w} h = domain_count w (uinteger_keeps s b p h)

-- a domain whose count was refused, as its reader has it
pub domain_length :
    (s : Settings) (b : Bound) (p : List ℕ) (w : Reading) {e : Refused} {r q : Reader} → Stopped e (uinteger s b p w).walk r q →
    Stopped e (domain s b p w).walk r q
domain_length s b p w h = stopped_on (domain_count s b p w (kept h.refuses)) h

-- ---- a blob

-- a length that was refused stands where it began
varint_stands : (b : Bound) (p : List ℕ) (at : ℕ) → going (varint_field b p (goes at)).walk ≡ false → (varint_field b p (goes at)).walk.at ≡ at
unfolding varint_field varint_step
varint_stands b p at = go (read_at 32 (take b.end p) at)
  where
    go : (g : Got) → going (varint_step b p at g).walk ≡ false → (varint_step b p at g).walk.at ≡ at
    go (value v next) h = absurd (false≢true (sym h))
    go ends h = refl
    go bad h = refl

uinteger_stands :
    (s : Settings) (b : Bound) (p : List ℕ) (at : ℕ) → going (uinteger s b p (goes at)).walk ≡ false → (uinteger s b p (goes at)).walk.at ≡ at
unfolding uinteger wide_field
uinteger_stands s b p at = go (eqb s.profile 1)
  where
    go : (k : Bool) → going (pick {A = List ℕ → Reading → Step ℕ} k (wide_field 4 b) (varint_field b) p (goes at)).walk ≡ false →
        (pick {A = List ℕ → Reading → Step ℕ} k (wide_field 4 b) (varint_field b) p (goes at)).walk.at ≡ at
    go true = octets_stand b p 4 at
    go false = varint_stands b p at

-- so a blob whose length was refused is refused there too
pub blob_length :
    (s : Settings) (b : Bound) (p : List ℕ) (at : ℕ) {e : Refused} {r q : Reader} → Stopped e (uinteger s b p (goes at)).walk r q →
    Stopped e (blob s b p (goes at)).walk r q
unfolding blob
blob_length s b p at h =
    let k = kept h.refuses in
    stopped_on (field_kept_at _ _ (uinteger_stands s b p at k.stops) (octets_keeps b p (uinteger s b p (goes at)).value k)) h

-- and one whose octets were, too; octets that a reader went past are there
module _ {r q : Reader} {n : ℕ} (h : Went (uinteger r.settings r.bound r.octets.now (goes r.at)) r q n) where
  step_of : octets q.bound q.octets.now n (goes q.at)
      ≡ octets r.bound r.octets.now (uinteger r.settings r.bound r.octets.now (goes r.at)).value (uinteger r.settings r.bound r.octets.now (goes r.at)).walk
  step_of = rw (h.bound, h.octets, h.walk, h.value) refl

  pub blob_content :
      {e d : Refused} {t : Reader} → Stopped e (octets q.bound q.octets.now n (goes q.at)) q t →
      told d ≡ record (told e) { place = pick (eqb (told e).number 6) r.at 0 } →
      Stopped d (blob r.settings r.bound r.octets.now (goes r.at)).walk r (record t { at = r.at })
  unfolding blob
  blob_content {e} {t = t} k d = field_stops _ (subst (λ (x : Reading). Stopped e x r t) step_of (then_stops h k)) d

  pub blob_inside : {t : Reader} {x : Unit {0}} → Went (skipped q.bound q.octets.now n (goes q.at)) q t x → q.at + n ≤ length r.octets.now
  blob_inside k =
      let l = (octets_there q.bound q.octets.now n (goes q.at) (ap going k.walk)).inside in
      rw h.octets at l

-- ---- a text

-- a text whose content is none
pub text_stops :
    {r q : Reader} {a : Place} {e : Refused} → Went (blob r.settings r.bound r.octets.now (goes r.at)) r q a →
    is_text (content_at r.octets.now a) ≡ false → e ≡ Text → Stopped e (text r.settings r.bound r.octets.now (goes r.at)).walk r q
unfolding text
text_stops {r} h f t = test_stops _ 28 h (ap (λ (x : Place). is_text (content_at r.octets.now x)) h.value ∙ f) (ap told t) refl

-- one whose first octet is not 1
pub mark_stops :
    {r q : Reader} {m : ℕ} {e : Refused} → Went (octet_field r.bound r.octets.now (goes r.at)) r q m → (eqb m 1 ≡ false) × (e ≡ DomainPart) →
    Stopped e (marked_text r.settings r.bound r.octets.now (goes r.at)).walk r q
unfolding marked_text octet_field
mark_stops {r} h t =
    let k = test_stops (eqb (octet_at r.octets.now r.at) 1) 11 h (ap (λ (x : ℕ). eqb x 1) h.value ∙ t.0) (ap told t.1) refl in
    stopped_on (text_keeps r.settings r.bound r.octets.now (kept k.refuses)) k

-- ---- the parts of a domain

-- k parts are read, each in its place
pub record Came (r q : Reader) (count k : ℕ) (parts : List Place) : Type 0 where
  pub walk :
      parts_to r.settings r.bound r.octets.now k (record { walk = goes r.at; value = no_parts count })
      ≡ record { walk = goes q.at; value = record { count = count; places = parts } }
  pub octets : q.octets ≡ r.octets
  pub settings : q.settings ≡ r.settings
  pub bound : q.bound ≡ r.bound
  pub places : length parts ≡ 16

module _ {r q : Reader} {count k : ℕ} {parts : List Place} (i : Came r q count k parts) where
  -- the parts before, and a step at the next one
  abbrev before : Step Parts
  before = parts_to r.settings r.bound r.octets.now k (record { walk = goes r.at; value = no_parts count })

  step_is : part q.settings q.bound q.octets.now (goes q.at) ≡ part r.settings r.bound r.octets.now before.walk
  step_is = rw (i.settings, i.bound, i.octets, i.walk) refl

  pub came_more :
      {n : Reader} {x : Place} → Went (part q.settings q.bound q.octets.now (goes q.at)) q n x → Came r n count (k + 1) (set parts k x)
  unfolding parts_to part_at
  came_more {n} {x} w =
      let d = sym step_is in
      record {
        walk =
            rw add-one
            (λ j.
            record {
              walk = (ap (λ (y : Step Place). y.walk) d ∙ w.walk) j;
              value =
                  record {
                    count = ap (λ (y : Step Parts). y.value.count) i.walk j;
                    places = set (ap (λ (y : Step Parts). y.value.places) i.walk j) k ((ap (λ (y : Step Place). y.value) d ∙ w.value) j);
                  };
            });
        octets = w.octets ∙ i.octets;
        settings = w.settings ∙ i.settings;
        bound = w.bound ∙ i.bound;
        places = length-set parts k x ∙ i.places;
      }

  pub came_stops :
      {e : Refused} {t : Reader} (m : ℕ) → k < m → Stopped e (part q.settings q.bound q.octets.now (goes q.at)).walk q t →
      Stopped e (parts_to r.settings r.bound r.octets.now m (record { walk = goes r.at; value = no_parts count })).walk r t
  unfolding parts_to part_at
  came_stops {e} {t} m l h =
      let x : Stopped e (part q.settings q.bound q.octets.now (goes q.at)).walk r t =
      record { refuses = h.refuses; stands = h.stands; octets = h.octets ∙ i.octets; settings = h.settings ∙ i.settings; bound = h.bound ∙ i.bound } in
      let y = subst (λ (y : Step Place). Stopped e y.walk r t) step_is x in
      stopped_on
      (parts_keep r.settings r.bound r.octets.now (record { walk = goes r.at; value = no_parts count }) m (suc k) (omega arith) (kept y.refuses)) y

pub came_none : (r : Reader) (count : ℕ) → Came r r count 0 (replicate 16 nowhere)
unfolding parts_to
came_none r count = record { walk = refl; octets = refl; settings = refl; bound = refl; places = refl }

-- the parts after a reader, or none
abbrev chosen : Reader → ℕ → Bool → Step Parts
chosen q n k =
    pick k (parts_to q.settings q.bound q.octets.now n (record { walk = goes q.at; value = no_parts n }))
    (record { walk = check false 13 (goes q.at); value = no_parts 0 })

-- a count that was read, and then its parts
module _ {r q : Reader} {n : ℕ} (h : Went (uinteger r.settings r.bound r.octets.now (goes r.at)) r q n) where
  counted : domain r.settings r.bound r.octets.now (goes r.at) ≡ chosen q n (leb n 16)
  unfolding domain
  counted = rw (h.settings, h.bound, h.octets, h.walk, h.value) refl

  pub domain_many : {e : Refused} → (leb n 16 ≡ false) × (e ≡ ManyParts) → Stopped e (domain r.settings r.bound r.octets.now (goes r.at)).walk r q
  unfolding check
  domain_many k =
      then_stops h
      (stopped_as _
      (ap (λ (x : Step Parts). x.walk) (counted ∙ ap (chosen q n) k.0))
      (ap told k.1) refl)

  domain_parts : leb n 16 ≡ true →
      domain r.settings r.bound r.octets.now (goes r.at)
      ≡ parts_to q.settings q.bound q.octets.now n (record { walk = goes q.at; value = no_parts n })
  domain_parts k = counted ∙ ap (chosen q n) k

  pub domain_stops : {t : Reader} {k : ℕ} {parts : List Place} {e : Refused} → leb n 16 ≡ true → Came q t n k parts → k < n →
      {u : Reader} → Stopped e (part t.settings t.bound t.octets.now (goes t.at)).walk t u →
      Stopped e (domain r.settings r.bound r.octets.now (goes r.at)).walk r u
  domain_stops {e = e} y i l {u} k =
      subst (λ (x : Step Parts). Stopped e x.walk r u) (sym (domain_parts y)) (then_stops h (came_stops i n l k))

  pub domain_ends : {t : Reader} {k : ℕ} {parts : List Place} → leb n 16 ≡ true → Came q t n k parts → k ≡ n →
      Went (domain_step r.settings r.bound r.octets.now (goes r.at)) r t (record { count = n; parts = parts })
  domain_ends {t} {k} {parts} y i z =
      let d = domain_parts y ∙ ap (λ (m : ℕ). parts_to q.settings q.bound q.octets.now m (record { walk = goes q.at; value = no_parts n })) (sym z) ∙ i.walk in
      record {
        walk = ap (λ (x : Step Parts). x.walk) d;
        value = λ j. record { count = (d j).value.count; parts = (d j).value.places };
        octets = i.octets ∙ h.octets;
        settings = i.settings ∙ h.settings;
        bound = i.bound ∙ h.bound;
      }
