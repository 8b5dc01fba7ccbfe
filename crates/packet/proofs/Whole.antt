-- A secondary header, from the steps of a reader; and a packet, from its tests and its secondary header.
-- Assumes nothing.
use Prim.Native.Nat.{ℕ, ◌-◌}
use mathlib.Core.Path.{◌≡◌, refl, ap, sym, ◌∙◌, subst}
use mathlib.Core.List.{List}
use mathlib.Core.Bool.{Bool, true, false}
use mathlib.Core.Logic.{◌⊎◌, inl, inr, ⊎_elim}
use native.Mathlib.Omega.{arith}
use lib.Dec.{eqb, leb}
use lib.ListN.{length}
use Rattle.std.specs.Prelude.{Ok, Err}
use Rattle.octets.specs.Octets.{pick}
use Rattle.walk.specs.declared.Settings.{Settings}
use Rattle.walk.specs.declared.Bound.{Bound}
use Rattle.walk.specs.declared.Reader.{Reader}
use Rattle.walk.specs.declared.Refused.{Refused}
use Rattle.walk.specs.declared.Refusal.{Refusal}
use Rattle.walk.specs.Told.{told}
use Rattle.walk.specs.Walk.{Reading, Step, goes, refused, refusal, no_refusal, check, going, header_bound, begun}
use Rattle.walk.specs.Read.{Refuses, Stopped, Went, Answers, tells}
use Rattle.fields.specs.Fields.{place}
use Rattle.packet.specs.declared.Primary.{Primary}
use Rattle.packet.specs.declared.Fixed.{Fixed}
use Rattle.packet.specs.declared.Present.{Present}
use Rattle.packet.specs.declared.Ids.{Ids}
use Rattle.packet.specs.declared.Texts.{Texts}
use Rattle.packet.specs.declared.Header.{Header as Decoded}
use Rattle.packet.specs.FixedPart.{fixed_end, fixed_of, present_of}
use Rattle.packet.specs.Reading.{wanted, primary_of, primary_tests, segmented, ids_of, texts_of, body_test, counter_size, start_at, ended, refusal_of}
use Rattle.packet.specs.Reading.{refused_header, accepted_header, read_packet}
use Rattle.packet.specs.Inner.{fixed_part, has_from, ids_from, texts_from, ended_from, secondary, Judges}
use Rattle.packet.specs.Decoded.{decoded, whole}
use Rattle.walk.proofs.Refuses.{has_number}
use Rattle.walk.proofs.Keeps.{Kept, kept, refuses_on, refused_as}
use Rattle.packet.proofs.Chain.{then_went, then_stopped}
use Rattle.packet.proofs.Keeping.{fixed_keeps, primary_keeps, ids_keep, texts_keep, body_keeps}

-- ---- the secondary header

module _ (r : Reader) (eb : r.bound ≡ header_bound) where
  abbrev P : List ℕ
  P = r.octets.now

  abbrev W : Reading
  W = goes r.at

  -- the stages by what the reader had in hand
  abbrev ids_in : Bound → Bool → Present → Step Ids
  ids_in b g h = ids_of r.settings b g h P (fixed_end b P W)

  abbrev texts_in : Bound → Bool → Present → Step Texts
  texts_in b g h = texts_of r.settings b h P (ids_in b g h).walk

  pub fixed_refused : {e : Refused} {q : Reader} → Stopped e (fixed_end r.bound P W) r q → Refuses e (ended_from r.settings P W)
  fixed_refused {e} h =
      let k = subst (λ (b : Bound). Refuses e (fixed_end b P W)) eb h.refuses in
      refuses_on (body_keeps P (texts_keep r.settings header_bound P _ (ids_keep r.settings header_bound P _ _ (kept k)))) k

  module _ {q : Reader} {f : Fixed} {has : Present} {g : Bool} (eg : g ≡ segmented P) (x : Went (fixed_part r.bound P W) r q (f, has)) where
    has_is : has ≡ has_from P W
    has_is = sym (ap (λ (y : Fixed × Present). y.1) x.value) ∙ ap (λ (b : Bound). present_of b P W) eb

    abbrev ids_at : Settings → Bound → List ℕ → Reading → Step Ids
    ids_at s b p = ids_of s b g has p

    abbrev texts_at : Settings → Bound → List ℕ → Reading → Step Texts
    texts_at s b p = texts_of s b has p

    pub ids_refused :
        {e : Refused} {t : Reader} → Stopped e (ids_at q.settings q.bound q.octets.now (goes q.at)).walk q t → Refuses e (ended_from r.settings P W)
    ids_refused {e} h =
        let k : Refuses e (ids_in r.bound g has).walk = (then_stopped ids_at x h).refuses in
        let m : Refuses e (ids_from r.settings P W).walk = subst (Refuses e) (λ j. (ids_in (eb j) (eg j) (has_is j)).walk) k in
        refuses_on (body_keeps P (texts_keep r.settings header_bound P _ (kept m))) m

    module _ {t : Reader} {i : Ids} (y : Went (ids_at q.settings q.bound q.octets.now (goes q.at)) q t i) where
      pub texts_refused :
          {e : Refused} {u : Reader} → Stopped e (texts_at t.settings t.bound t.octets.now (goes t.at)).walk t u →
          Refuses e (ended_from r.settings P W)
      texts_refused {e} h =
          let k : Refuses e (texts_in r.bound g has).walk = (then_stopped texts_at (then_went ids_at x y) h).refuses in
          let m : Refuses e (texts_from r.settings P W).walk = subst (Refuses e) (λ j. (texts_in (eb j) (eg j) (has_is j)).walk) k in
          refuses_on (body_keeps P (kept m)) m

      module _ {u : Reader} {c : Texts} (z : Went (texts_at t.settings t.bound t.octets.now (goes t.at)) t u c) where
        abbrev all : Went (texts_in r.bound g has) r u c
        all = then_went texts_at (then_went ids_at x y) z

        texts_is : texts_from r.settings P W ≡ record { walk = goes u.at; value = c }
        texts_is =
            sym (λ j. texts_in (eb j) (eg j) (has_is j)) ∙ (λ j. record { walk = all.walk j; value = all.value j })

        ended_is : ended_from r.settings P W ≡ body_test P (goes u.at)
        ended_is = ap (λ (s : Step Texts). body_test P s.walk) texts_is

        pub body_refused : {e : Refused} → Refuses e (body_test P (goes u.at)) → Refuses e (ended_from r.settings P W)
        body_refused {e} h = subst (Refuses e) (sym ended_is) h

        pub header_is :
            {m : Primary} {n l : ℕ} → body_test P (goes u.at) ≡ goes u.at → m ≡ primary_of P → n ≡ u.at - 6 - counter_size P →
            l ≡ length P - u.at →
            Answers (secondary r.settings P W)
            (Ok
            (record { primary = m; fixed = f; has = has; ids = i; texts = c; h = n; body = place u.at l; withdrawn = has.zone }))
        header_is {m} {n} {l} b em en el =
            let at : ended_from r.settings P W ≡ goes u.at = ended_is ∙ b in
            let fixed : fixed_of header_bound P W ≡ f = ap (λ (b : Bound). fixed_of b P W) (sym eb) ∙ ap (λ (y : Fixed × Present). y.0) x.value in
            let ids : (ids_from r.settings P W).value ≡ i = sym (λ j. (ids_in (eb j) (eg j) (has_is j)).value) ∙ (then_went ids_at x y).value in (
              ap going at,
              λ j.
                  record {
                    primary = sym em j;
                    fixed = fixed j;
                    has = sym has_is j;
                    ids = ids j;
                    texts = (texts_is j).value;
                    h = (ap (λ (v : Reading). v.at - 6 - counter_size P) at ∙ sym en) j;
                    body = place ((at j).at) ((ap (λ (v : Reading). length P - v.at) at ∙ sym el) j);
                    withdrawn = (sym has_is j).zone;
                  },
            )

-- ---- the packet

-- where the reading goes on to its end, the answer is the header
pub accepts : (s : Settings) (p : List ℕ) → going (ended s p) ≡ true → read_packet s p ≡ accepted_header s p
unfolding read_packet
accepts s p h = rw h

-- what a refused walk's refusal tells of the packet
told_in : List ℕ → Refusal → Refusal
told_in p t =
    record {
      number = t.number;
      octets = pick (eqb t.number 5) (wanted p - length p) (pick (eqb t.number 27) (length p - wanted p) 0);
      place = t.place - 6;
    }

refusal_is : (p : List ℕ) (w : Reading) → refusal_of p w ≡ told_in p (tells w)
unfolding refusal_of told_in
refusal_is p w = λ j. record { number = w.refused; octets = (told_in p (tells w)).octets; place = go (eqb w.refused 6) j }
  where
    go : (b : Bool) → pick b (w.at - 6) 0 ≡ pick b w.at 0 - 6
    go true = refl
    go false = refl

-- a packet that is as long as it says has no octets missing or left over
no_octets : (b c : Bool) (w l : ℕ) → w ≡ l → 0 ≡ pick b (w - l) (pick c (l - w) 0)
no_octets true c w l h = omega arith
no_octets false true w l h = omega arith
no_octets false false w l h = refl

-- settings are in range, or refused by 15
pub begun_is : (s : Settings) → (begun s ≡ goes 6) ⊎ (begun s ≡ refused 6 15)
unfolding begun check
begun_is s = go (leb 1 s.t) (leb s.t 16) (leb s.profile 1)
  where
    go :
        (a b c : Bool) →
        (check c 15 (check b 15 (check a 15 (goes 6))) ≡ goes 6) ⊎ (check c 15 (check b 15 (check a 15 (goes 6))) ≡ refused 6 15)
    go true true true = inl refl
    go true true false = inr refl
    go true false c = inr refl
    go false b c = inr refl

pub settings_held : (s : Settings) → no_refusal ≡ refusal (begun s).refused → begun s ≡ goes 6
settings_held s e =
    ⊎_elim (λ b. b) (λ b. absurd (omega (arith, ap (λ (x : Refusal). x.number) e, ap (λ (w : Reading). w.refused) b))) (begun_is s)

module _ (s : Settings) (p : List ℕ) where
  -- a walk that was refused before the secondary header
  ended_keeps : {u : Reading} → Kept u (start_at s p) → Kept u (ended s p)
  ended_keeps h = body_keeps p (texts_keep s header_bound p _ (ids_keep s header_bound p _ _ (fixed_keeps header_bound p h)))

  refuses_whole : (e : Refused) → going (ended s p) ≡ false → told e ≡ refusal_of p (ended s p) → decoded (Err e) ≡ read_packet s p
  unfolding read_packet
  refuses_whole e h t = ap refused_header t ∙ rw h refl

  -- refused by the settings
  pub settings_refused : (e : Refused) → told e ≡ refusal (begun s).refused → decoded (Err e) ≡ read_packet s p
  unfolding told_in
  settings_refused e t = ⊎_elim none out (begun_is s)
    where
      none : begun s ≡ goes 6 → decoded (Err e) ≡ read_packet s p
      none b = absurd (has_number e (ap (λ (x : Refusal). x.number) t ∙ ap (λ (w : Reading). w.refused) b))

      out : begun s ≡ refused 6 15 → decoded (Err e) ≡ read_packet s p
      out b =
          let f : told e ≡ refusal 15 = t ∙ ap (λ (w : Reading). refusal w.refused) b in
          let d = refused_as {e = e} (begun s) b f refl in
          let k = refuses_on (ended_keeps (primary_keeps p (kept d))) d in
          refuses_whole e k.stops (f ∙ ap (told_in p) (sym f ∙ k.tells) ∙ sym (refusal_is p (ended s p)))

  module _ (b : begun s ≡ goes 6) where
    pub primary_refused : (e : Refused) → Judges p (Err e) → decoded (Err e) ≡ read_packet s p
    primary_refused e h =
        let d = h.1.1 in
        let x : Refuses h.1.0 (start_at s p) = subst (λ (w : Reading). Refuses h.1.0 (primary_tests p w)) (sym b) d in
        let k = refuses_on (ended_keeps (kept x)) x in
        refuses_whole e k.stops
        (h.0 ∙ refusal_is p (primary_tests p (goes 6)) ∙ ap (told_in p) (sym d.tells ∙ k.tells) ∙ sym (refusal_is p (ended s p)))

    module _ (j : Judges p (Ok tt)) where
      start_is : start_at s p ≡ goes 6
      start_is = ap (primary_tests p) b ∙ j.0

      pub secondary_refused :
          (e d : Refused) → Refuses e (ended_from s p (goes 6)) → told d ≡ record (told e) { place = (told e).place - 6 } →
          decoded (Err d) ≡ read_packet s p
      unfolding told_in
      secondary_refused e d h t =
          let k : Refuses e (ended s p) = subst (λ (w : Reading). Refuses e (ended_from s p w)) (sym start_is) h in
          let o : (told e).octets ≡ (told_in p (told e)).octets =
          ap (λ (x : Refusal). x.octets) k.tells ∙ no_octets (eqb (told e).number 5) (eqb (told e).number 27) (wanted p) (length p) j.1 in
          refuses_whole d k.stops
          (t ∙ (λ i. record (told e) { octets = o i; place = (told e).place - 6 }) ∙ ap (told_in p) k.tells ∙ sym (refusal_is p (ended s p)))

      pub header_whole : (h : Decoded) → Answers (secondary s p (goes 6)) (Ok h) → decoded (Ok h) ≡ read_packet s p
      unfolding read_packet accepted_header
      header_whole h a =
          let g : going (ended s p) ≡ true = ap (λ (w : Reading). going (ended_from s p w)) start_is ∙ a.0 in
          ap whole (sym (ap (λ (w : Reading). (secondary s p w).value) start_is ∙ a.1)) ∙ sym (rw g refl)
