-- A message's header, from the steps of a reader; and a message, from its tests and its header.
-- Assumes nothing.
use Prim.Native.Nat.{ℕ, ◌-◌}
use mathlib.Core.Path.{◌≡◌, refl, ap, sym, ◌∙◌, subst}
use mathlib.Core.List.{List}
use mathlib.Core.Bool.{Bool, true, false}
use lib.Dec.{eqb}
use lib.ListN.{length}
use Rattle.std.specs.Prelude.{Result, Ok, Err}
use Rattle.octets.specs.Octets.{pick}
use Rattle.walk.specs.declared.Settings.{Settings}
use Rattle.walk.specs.declared.Bound.{Bound}
use Rattle.walk.specs.declared.Reader.{Reader}
use Rattle.walk.specs.declared.Refused.{Refused}
use Rattle.walk.specs.declared.Refused.TheVariants.{Timestamp}
use Rattle.walk.specs.declared.Refusal.{Refusal}
use Rattle.walk.specs.Told.{told}
use Rattle.walk.specs.Walk.{Reading, Step, goes, going, check}
use Rattle.walk.specs.Read.{Refuses, Stopped, Went, Answers, Tests, tells}
use Rattle.fields.specs.Fields.{place}
use Rattle.packet.specs.declared.Primary.{Primary}
use Rattle.packet.specs.declared.Fixed.{Fixed}
use Rattle.packet.specs.declared.Present.{Present}
use Rattle.packet.specs.declared.Ids.{Ids}
use Rattle.packet.specs.declared.Texts.{Texts}
use Rattle.packet.specs.declared.Header.{Header as Decoded}
use Rattle.packet.specs.FixedPart.{fixed_end, fixed_of, present_of}
use Rattle.packet.specs.Reading.{ids_of, texts_of, refused_header}
use Rattle.packet.specs.Inner.{fixed_part}
use Rattle.packet.specs.Decoded.{decoded, whole}
use Rattle.walk.proofs.Steps.{check_ok}
use Rattle.walk.proofs.Keeps.{kept, refuses_on, check_keeps, check_stops}
use Rattle.packet.proofs.Chain.{then_went, then_stopped}
use Rattle.packet.proofs.Keeping.{fixed_keeps, ids_keep, texts_keep}
use Rattle.carry.specs.Message.{message_bound, start_at, timestamp_fits, ended, refusal_of, primary_of, accepted_message, read_message}
use Rattle.carry.specs.Inner.{has_from, ids_from, texts_from, ended_from, message_from}

-- where the reading goes on to its end, the answer is the header
pub accepts : (s : Settings) (e : ℕ) (m : List ℕ) → going (ended s e m) ≡ true → read_message s e m ≡ accepted_message s e m
unfolding read_message
accepts s e m h = rw h

-- ---- the header

module _ (r : Reader) (eb : r.bound ≡ message_bound) where
  abbrev P : List ℕ
  P = r.octets.now

  abbrev W : Reading
  W = goes r.at

  -- the stages by what the reader had in hand
  abbrev ids_in : Bound → Present → Step Ids
  ids_in b h = ids_of r.settings b false h P (fixed_end b P W)

  abbrev texts_in : Bound → Present → Step Texts
  texts_in b h = texts_of r.settings b h P (ids_in b h).walk

  pub fixed_refused : {e : Refused} {q : Reader} → Stopped e (fixed_end r.bound P W) r q → Refuses e (ended_from r.settings P W)
  fixed_refused {e} h =
      let k = subst (λ (b : Bound). Refuses e (fixed_end b P W)) eb h.refuses in
      refuses_on (check_keeps _ 34 (texts_keep r.settings message_bound P _ (ids_keep r.settings message_bound P _ false (kept k)))) k

  module _ {q : Reader} {f : Fixed} {has : Present} (x : Went (fixed_part r.bound P W) r q (f, has)) where
    has_is : has ≡ has_from P W
    has_is = sym (ap (λ (y : Fixed × Present). y.1) x.value) ∙ ap (λ (b : Bound). present_of b P W) eb

    abbrev ids_at : Settings → Bound → List ℕ → Reading → Step Ids
    ids_at s b p = ids_of s b false has p

    abbrev texts_at : Settings → Bound → List ℕ → Reading → Step Texts
    texts_at s b p = texts_of s b has p

    pub ids_refused :
        {e : Refused} {t : Reader} → Stopped e (ids_at q.settings q.bound q.octets.now (goes q.at)).walk q t → Refuses e (ended_from r.settings P W)
    ids_refused {e} h =
        let k : Refuses e (ids_in r.bound has).walk = (then_stopped ids_at x h).refuses in
        let m : Refuses e (ids_from r.settings P W).walk = subst (Refuses e) (λ j. (ids_in (eb j) (has_is j)).walk) k in
        refuses_on (check_keeps _ 34 (texts_keep r.settings message_bound P _ (kept m))) m

    module _ {t : Reader} {i : Ids} (y : Went (ids_at q.settings q.bound q.octets.now (goes q.at)) q t i) where
      pub texts_refused :
          {e : Refused} {u : Reader} → Stopped e (texts_at t.settings t.bound t.octets.now (goes t.at)).walk t u →
          Refuses e (ended_from r.settings P W)
      texts_refused {e} h =
          let k : Refuses e (texts_in r.bound has).walk = (then_stopped texts_at (then_went ids_at x y) h).refuses in
          let m : Refuses e (texts_from r.settings P W).walk = subst (Refuses e) (λ j. (texts_in (eb j) (has_is j)).walk) k in
          refuses_on (check_keeps _ 34 (kept m)) m

      module _
          {u : Reader}
          {c : Texts}
          {ok : Bool}
          (eo : ok ≡ timestamp_fits r.settings has)
          (z : Went (texts_at t.settings t.bound t.octets.now (goes t.at)) t u c) where
        abbrev all : Went (texts_in r.bound has) r u c
        all = then_went texts_at (then_went ids_at x y) z

        texts_is : texts_from r.settings P W ≡ record { walk = goes u.at; value = c }
        texts_is =
            sym (λ j. texts_in (eb j) (has_is j)) ∙ (λ j. record { walk = all.walk j; value = all.value j })

        ended_is : ended_from r.settings P W ≡ check ok 34 (goes u.at)
        ended_is = λ j. check ((ap (timestamp_fits r.settings) (sym has_is) ∙ sym eo) j) 34 (texts_is j).walk

        pub time_refused : {e : Refused} → (ok ≡ false) × (e ≡ Timestamp) → Refuses e (ended_from r.settings P W)
        time_refused {e} h = subst (Refuses e) (sym ended_is) (check_stops _ 34 (goes u.at) refl h.0 (ap told h.1) refl)

        pub header_is :
            {m : Primary} {n l : ℕ} → ok ≡ true → m ≡ primary_of P → n ≡ u.at - 2 → l ≡ length P - u.at →
            Answers (message_from r.settings P W)
            (Ok
            (record { primary = m; fixed = f; has = has; ids = i; texts = c; h = n; body = place u.at l; withdrawn = has.zone }))
        header_is {m} {n} {l} b em en el =
            let at : ended_from r.settings P W ≡ goes u.at = ended_is ∙ check_ok _ 34 (goes u.at) b in
            let fixed : fixed_of message_bound P W ≡ f = ap (λ (b : Bound). fixed_of b P W) (sym eb) ∙ ap (λ (y : Fixed × Present). y.0) x.value in
            let ids : (ids_from r.settings P W).value ≡ i = sym (λ j. (ids_in (eb j) (has_is j)).value) ∙ (then_went ids_at x y).value in (
              ap going at,
              λ j.
                  record {
                    primary = sym em j;
                    fixed = fixed j;
                    has = sym has_is j;
                    ids = ids j;
                    texts = (texts_is j).value;
                    h = (ap (λ (v : Reading). v.at - 2) at ∙ sym en) j;
                    body = place ((at j).at) ((ap (λ (v : Reading). length P - v.at) at ∙ sym el) j);
                    withdrawn = (sym has_is j).zone;
                  },
            )

-- ---- the message

refusal_is : (w : Reading) → refusal_of w ≡ record (tells w) { place = (tells w).place - 2 }
unfolding refusal_of
refusal_is w = λ j. record { number = w.refused; octets = 0; place = go (eqb w.refused 6) j }
  where
    go : (b : Bool) → pick b (w.at - 2) 0 ≡ pick b w.at 0 - 2
    go true = refl
    go false = refl

module _ (s : Settings) (e : ℕ) (m : List ℕ) where
  refuses_whole : (d : Refused) → going (ended s e m) ≡ false → told d ≡ refusal_of (ended s e m) → decoded (Err d) ≡ read_message s e m
  unfolding read_message
  refuses_whole d h t = ap refused_header t ∙ rw h refl

  -- refused before the header
  pub start_refused : {d : Refused} → Refuses d (start_at s e m) → Refuses d (ended_from s m (start_at s e m))
  start_refused h =
      refuses_on (check_keeps _ 34 (texts_keep s message_bound m _ (ids_keep s message_bound m _ false (fixed_keeps message_bound m (kept h))))) h

  -- or begun after the identification
  pub begins : (x : Result Decoded Refused) → start_at s e m ≡ goes 2 → Answers (message_from s m (goes 2)) x → Answers (message_from s m (start_at s e m)) x
  begins x b a = subst (λ (w : Reading). Answers (message_from s m w) x) (sym b) a

  pub whole_refused :
      (x d : Refused) → Refuses x (ended s e m) → told d ≡ record (told x) { place = (told x).place - 2 } → decoded (Err d) ≡ read_message s e m
  whole_refused x d k t =
      refuses_whole d k.stops (t ∙ ap (λ (x : Refusal). record x { place = x.place - 2 }) k.tells ∙ sym (refusal_is (ended s e m)))

  pub header_whole : (h : Decoded) → Answers (message_from s m (start_at s e m)) (Ok h) → decoded (Ok h) ≡ read_message s e m
  unfolding read_message accepted_message
  header_whole h a = ap whole (sym a.1) ∙ sym (rw a.0 refl)
