-- The optional contents, step by step as a reader takes them.
-- Assumes nothing.
use Prim.Native.Nat.{ℕ}
use mathlib.Core.Path.{◌≡◌, refl, ap, sym, ◌∙◌, subst}
use mathlib.Core.List.{List}
use mathlib.Core.Bool.{Bool, true, false}
use Rattle.walk.specs.declared.Settings.{Settings}
use Rattle.walk.specs.declared.Bound.{Bound}
use Rattle.walk.specs.declared.Reader.{Reader}
use Rattle.walk.specs.declared.Refused.{Refused}
use Rattle.walk.specs.Walk.{Reading, Step, goes}
use Rattle.walk.specs.Read.{Stopped, Went}
use Rattle.walk.proofs.Keeps.{kept, stopped_on, optional_kept}
use Rattle.fields.specs.declared.Place.{Place}
use Rattle.fields.specs.declared.Domain.{Domain}
use Rattle.fields.specs.Inner.{domain_step}
use Rattle.fields.specs.Fields.{nowhere, no_parts, opt, block, blob, text, domain}
use Rattle.fields.proofs.Steps.{text_keeps, blob_keeps, domain_keeps}
use Rattle.packet.specs.declared.Present.{Present}
use Rattle.packet.specs.Reading.{texts_of}
use Rattle.packet.proofs.Chain.{at_reader}

-- the domain that is none
abbrev pub no_domain : Domain
no_domain = record { count = 0; parts = (no_parts 0).places }

-- the steps, for any settings, bound and octets
abbrev pub timestamp_at : Settings → Bound → List ℕ → Reading → Step Place
timestamp_at s b p = block s.t b p

module _ (has : Present) where
  abbrev pub timestamp_step : Settings → Bound → List ℕ → Reading → Step Place
  timestamp_step s b p = opt has.timestamp nowhere (timestamp_at s b p)

  abbrev pub zone_step : Settings → Bound → List ℕ → Reading → Step Place
  zone_step s b p = opt has.zone nowhere (text s b p)

  abbrev pub name_step : Settings → Bound → List ℕ → Reading → Step Place
  name_step s b p = opt has.session_name nowhere (text s b p)

  abbrev pub parts_step : Settings → Bound → List ℕ → Reading → Step Domain
  parts_step s b p = opt has.domain no_domain (domain_step s b p)

  abbrev pub id_step : Settings → Bound → List ℕ → Reading → Step Place
  id_step s b p = opt has.authentication nowhere (blob s b p)

-- a domain's step ends where the definition's does
parts_walk :
    (there : Bool) (s : Settings) (b : Bound) (p : List ℕ) (w : Reading) →
    (opt there (no_parts 0) (domain s b p) w).walk ≡ (opt there no_domain (domain_step s b p) w).walk
parts_walk true s b p w = refl
parts_walk false s b p w = refl

parts_value :
    (there : Bool) (s : Settings) (b : Bound) (p : List ℕ) (w : Reading) →
    record { count = (opt there (no_parts 0) (domain s b p) w).value.count; parts = (opt there (no_parts 0) (domain s b p) w).value.places }
    ≡ (opt there no_domain (domain_step s b p) w).value
parts_value true s b p w = refl
parts_value false s b p w = refl

module _ (has : Present) (r : Reader) where
  abbrev W : Step Place
  W = at_reader (timestamp_step has) r (goes r.at)

  abbrev Z : Step Place
  Z = at_reader (zone_step has) r W.walk

  abbrev N : Step Place
  N = at_reader (name_step has) r Z.walk

  abbrev D : Step Domain
  D = at_reader (parts_step has) r N.walk

  abbrev I : Step Place
  I = at_reader (id_step has) r D.walk

  -- the definition's steps are these
  pub texts_walk : (texts_of r.settings r.bound has r.octets.now (goes r.at)).walk ≡ I.walk
  unfolding texts_of
  texts_walk = ap (λ (w : Reading). (at_reader (id_step has) r w).walk) (parts_walk has.domain r.settings r.bound r.octets.now N.walk)

  module _ {e : Refused} {q : Reader} where
    -- refused in one of them, and passed by in those after it
    pub id_refused : Stopped e I.walk r q → Stopped e (texts_of r.settings r.bound has r.octets.now (goes r.at)).walk r q
    id_refused h = subst (λ (w : Reading). Stopped e w r q) (sym texts_walk) h

    pub parts_refused : Stopped e D.walk r q → Stopped e (texts_of r.settings r.bound has r.octets.now (goes r.at)).walk r q
    parts_refused h =
        let k = kept h.refuses in
        id_refused (stopped_on (optional_kept has.authentication _ _ k (blob_keeps r.settings r.bound r.octets.now k)) h)

    pub name_refused : Stopped e N.walk r q → Stopped e (texts_of r.settings r.bound has r.octets.now (goes r.at)).walk r q
    name_refused h =
        let k = kept h.refuses in
        parts_refused
        (stopped_on
        (optional_kept has.domain no_domain (domain_step r.settings r.bound r.octets.now N.walk) k (domain_keeps r.settings r.bound r.octets.now k))
        h)

    pub zone_refused : Stopped e Z.walk r q → Stopped e (texts_of r.settings r.bound has r.octets.now (goes r.at)).walk r q
    zone_refused h =
        let k = kept h.refuses in
        name_refused (stopped_on (optional_kept has.session_name _ _ k (text_keeps r.settings r.bound r.octets.now k)) h)

    pub timestamp_refused : Stopped e W.walk r q → Stopped e (texts_of r.settings r.bound has r.octets.now (goes r.at)).walk r q
    timestamp_refused h =
        let k = kept h.refuses in
        zone_refused (stopped_on (optional_kept has.zone _ _ k (text_keeps r.settings r.bound r.octets.now k)) h)

  -- and where all went on, what each found
  pub texts_whole :
      {q₁ q₂ q₃ q₄ q₅ : Reader} {t z n i : Place} {d : Domain} → Went W r q₁ t → Went Z r q₂ z → Went N r q₃ n → Went D r q₄ d → Went I r q₅ i →
      Went (texts_of r.settings r.bound has r.octets.now (goes r.at)) r q₅
      (record { timestamp = t; zone = z; session_name = n; count = d.count; parts = d.parts; authentication = i })
  unfolding texts_of
  texts_whole {d = d} a b c k l =
      let v = parts_value has.domain r.settings r.bound r.octets.now N.walk ∙ k.value in
      let w = parts_walk has.domain r.settings r.bound r.octets.now N.walk in
      record {
        walk = texts_walk ∙ l.walk;
        value =
            λ j.
            record {
              timestamp = a.value j;
              zone = b.value j;
              session_name = c.value j;
              count = (v j).count;
              parts = (v j).parts;
              authentication = (ap (λ (x : Reading). (at_reader (id_step has) r x).value) w ∙ l.value) j;
            };
        octets = l.octets;
        settings = l.settings;
        bound = l.bound;
      }
