-- A store beside one whole message: what it holds under the message's keys and counters is of the message. Arrivals keep this, also
-- where no cell is free, and so do takings; and what is taken is the message, or has none of its keys and counters.
-- Assumes nothing.
use Prim.Native.Nat.{ℕ, zero, suc}
use mathlib.Core.Path.{◌≡◌, refl, sym, ◌∙◌, ap, subst}
use mathlib.Core.Logic.{◌≢◌, ◌⊎◌, inl, inr}
use mathlib.Core.Bool.{Bool, true, false, true≢false}
use mathlib.Core.Option.{none, some, none-ne-some, some-ne-none}
use mathlib.Core.List.Memᴰ
use mathlib.Core.List.{List, [], ◌∷◌}
use Rattle.octets.proofs.Lists.{bool}
use Rattle.cells.specs.Segments.{Seg, carries}
use Rattle.cells.specs.Rows.{Cell}
use Rattle.cells.specs.Messages.{first, Run, segments, look, rest_from, among, or}
use Rattle.cells.proofs.Distinct.{carries_yes, carries_true}
use Rattle.demand3.specs.Cells.{put, has_free, clear, forgotten}
use Rattle.demand3.specs.Complete.{Held, Single}
use Rattle.demand3.proofs.Looks.{carries_no, look_held, look_at, look_same, put_same, put_other, put_full, put_held, clear_kept, clear_held}
use Rattle.demand3.proofs.Forgets.{look_forgotten, forgotten_single}
use Rattle.demand3.proofs.Links.{Mem, role_in, first_middle, first_last, Opened, linked_key, linked_first, opened_key, opened_before}
use Rattle.demand3.proofs.Finds.{Only, Joint, link_inv, look_own, rest_linked, rest_only, Found}

-- ---- the freed

pub among_same : (us : List Seg) (t u : Seg) → t.key ≡ u.key → t.counter ≡ u.counter → among us t ≡ among us u
unfolding among carries
among_same [] t u p q = refl
among_same (v ∷ us) t u p q = rw (among_same us t u p q, p, q)

pub among_mem : (us : List Seg) (t : Seg) → Mem t us → among us t ≡ true
unfolding among
among_mem [] t m = absurd (Memᴰ.not-nil m)
among_mem (u ∷ us) t m = go (among_mem us t) (Memᴰ.cases_cons m)
  where
    or_right : (a b : Bool) → b ≡ true → or a b ≡ true
    or_right true b e = refl
    or_right false b e = e

    go : (Mem t us → among us t ≡ true) → (t ≡ u) ⊎ Mem t us → or (carries u.key u.counter t) (among us t) ≡ true
    go ih (inl e) =
        rw (carries_yes u.key u.counter t (ap (λ (x : Seg). x.key) (sym e)) (ap (λ (x : Seg). x.counter) (sym e)))
    go ih (inr h) = or_right (carries u.key u.counter t) (among us t) (ih h)

pub among_none : (us : List Seg) (t : Seg) → ((u : Seg) → Mem u us → u.key ≡ t.key → u.counter ≢ t.counter) → among us t ≡ false
unfolding among
among_none [] t h = refl
among_none (u ∷ us) t h =
    rw (carries_no u.key u.counter t (h u (Memᴰ.head refl))) (among_none us t (λ v m. h v (Memᴰ.tail m)))

-- the same for all segments with one key and counter
pub among_carried : (us : List Seg) (t u : Seg) {b : Bool} → among us t ≡ b → carries t.key t.counter u ≡ true → among us u ≡ b
among_carried us t u e h = let p = carries_true t.key t.counter u h in among_same us u t (sym p.0) (sym p.1) ∙ e

-- ---- no two cells have equal key and counter

pub clear_single : (r : Run) (cs : List Cell) → Single cs → Single (clear r cs)
clear_single r cs s t h =
    let w = clear_held r cs t h in
    clear_kept r cs t.key t.counter (λ u e. among_carried (segments r) t u w.1 e) ∙ s t w.0

put_single_free : (cs : List Cell) (t : Seg) → has_free cs ≡ true → look cs t.key t.counter ≡ none → Single cs → Single (put cs t)
put_single_free cs t f n s u h = go (put_held cs t u h)
  where
    go : (u ≡ t) ⊎ Held u cs → look (put cs t) u.key u.counter ≡ some u
    go (inl e) = rw e (put_same cs t f n)
    go (inr k) =
        put_other cs t u.key u.counter
        (carries_no u.key u.counter t (λ p q. some-ne-none u (sym (s u k) ∙ look_same cs u t p q ∙ n)))
        ∙ s u k

pub put_single : (cs : List Cell) (t : Seg) → look cs t.key t.counter ≡ none → Single cs → Single (put cs t)
put_single cs t n s = go (bool (has_free cs))
  where
    go : (has_free cs ≡ true) ⊎ (has_free cs ≡ false) → Single (put cs t)
    go (inl f) = put_single_free cs t f n s
    go (inr f) = subst Single (sym (put_full cs t f)) s

-- ---- beside a message

pub record Beside (own : Run) (cs : List Cell) : Type 0 where
  pub single : Single cs
  pub only : Only cs (segments own)

-- a segment with the key and counter of one of the message's is that one
abbrev pub Agrees : Run → Seg → Type 0
Agrees own t = (u : Seg) → Mem u (segments own) → t.key ≡ u.key → t.counter ≡ u.counter → t ≡ u

-- none of these has the key and counter of one of the message's
abbrev pub Off : Run → List Seg → Type 0
Off own ts = (t u : Seg) → Mem t ts → Mem u (segments own) → t.key ≡ u.key → t.counter ≢ u.counter

-- a new segment is put in, or dropped where no cell is free
pub put_beside : (own : Run) (cs : List Cell) (t : Seg) → look cs t.key t.counter ≡ none → Agrees own t → Beside own cs →
    Beside own (put cs t)
put_beside own cs t n g b = record { single = put_single cs t n b.single; only = just }
  where
    just : Only (put cs t) (segments own)
    just u v m e = go (put_held cs t v w.0)
      where
        w : Held v (put cs t) × (carries u.key u.counter v ≡ true)
        w = look_held (put cs t) u.key u.counter v e

        p : (u.key ≡ v.key) × (u.counter ≡ v.counter)
        p = carries_true u.key u.counter v w.1

        go : (v ≡ t) ⊎ Held v cs → v ≡ u
        go (inl d) =
            d ∙ g u m (ap (λ (x : Seg). x.key) (sym d) ∙ sym p.0) (ap (λ (x : Seg). x.counter) (sym d) ∙ sym p.1)
        go (inr h) = b.only u v m (look_at cs p.0 p.1 ∙ b.single v h)

pub clear_beside : (own r : Run) (cs : List Cell) → Beside own cs → Beside own (clear r cs)
clear_beside own r cs b = record { single = clear_single r cs b.single; only = just }
  where
    just : Only (clear r cs) (segments own)
    just t u m e =
        let w = look_held (clear r cs) t.key t.counter u e in
        let p = carries_true t.key t.counter u w.1 in
        b.only t u m (look_at cs p.0 p.1 ∙ b.single u (clear_held r cs u w.0).0)

pub forgotten_beside : (own : Run) (i : ℕ) (cs : List Cell) → Beside own cs → Beside own (forgotten i cs)
forgotten_beside own i cs b =
    record {
      single = forgotten_single i cs b.single;
      only = λ t u m e. b.only t u m (sym (look_forgotten i cs t.key t.counter) ∙ e);
    }

-- ---- a run that the store finds, beside a message

module _
    (next : ℕ → ℕ)
    (span : ℕ)
    (inj : (x y : ℕ) → next x ≡ next y → x ≡ y)
    (own : Run)
    (o : Opened next own)
    (cs : List Cell)
    (b : Beside own cs) where
  -- a rest that begins at none of the message's later counters meets none of its counters
  rest_avoids :
      (n : ℕ) (c : ℕ) (r : List Seg) → ((t : Seg) → Mem t own.rest → c ≢ t.counter) →
      rest_from next span n cs own.head.key c ≡ some r →
      (s : Seg) → Mem s r → (t : Seg) → Mem t (segments own) → s.counter ≢ t.counter
  unfolding rest_from
  rest_avoids zero c r a e s h t g = absurd (none-ne-some r e)
  rest_avoids (suc n) c r a e s h t g =
      go (rest_avoids n (next c)) (link_inv (look cs own.head.key c) (rest_from next span n cs own.head.key (next c)) r e)
    where
      go : ((r' : List Seg) → ((t' : Seg) → Mem t' own.rest → next c ≢ t'.counter) →
          rest_from next span n cs own.head.key (next c) ≡ some r' →
          (s' : Seg) → Mem s' r' → (t' : Seg) → Mem t' (segments own) → s'.counter ≢ t'.counter) →
          (u : Seg) × (look cs own.head.key c ≡ some u) × Joint (rest_from next span n cs own.head.key (next c)) r u →
          s.counter ≢ t.counter
      go ih w = on w.2
        where
          mine : w.0.counter ≡ c
          mine = (look_own cs own.head.key c w.0 w.1).1

          not_first : Joint (rest_from next span n cs own.head.key (next c)) r w.0 → role_in w.0 ≡ first → ⊥
          not_first (inl q) f = first_last f q.0
          not_first (inr q) f = first_middle f q.0

          off : (v : Seg) → Mem v (segments own) → c ≢ v.counter
          off v k e' = at_head (Memᴰ.cases_cons k)
            where
              at_head : (v ≡ own.head) ⊎ Mem v own.rest → ⊥
              at_head (inl p) =
                  let q : look cs v.key v.counter ≡ some w.0 = look_at cs (opened_key next own o v k) (sym e') ∙ w.1 in
                  not_first w.2 (ap role_in (b.only v w.0 k q ∙ p) ∙ o.opens)
              at_head (inr p) = a v p e'

          onwards : (v : Seg) → Mem v own.rest → next c ≢ v.counter
          onwards v k e' = let y = opened_before next own o v k in off y.0 y.1 (inj c y.0.counter (e' ∙ y.2))

          from : (ss : List Seg) → (Mem s ss → s.counter ≢ t.counter) → (s ≡ w.0) ⊎ Mem s ss → s.counter ≢ t.counter
          from ss f (inl q) e' = off t g (sym mine ∙ ap (λ (x : Seg). x.counter) (sym q) ∙ e')
          from ss f (inr k) e' = f k e'

          on : Joint (rest_from next span n cs own.head.key (next c)) r w.0 → s.counter ≢ t.counter
          on (inl q) = from [] (λ k. absurd (Memᴰ.not-nil k)) (Memᴰ.cases_cons (subst (Mem s) q.1 h))
          on (inr q) = from q.1.0 (λ k. ih q.1.0 onwards q.1.1 s k t g) (Memᴰ.cases_cons (subst (Mem s) q.1.2 h))

  same_run : (r : Run) → r.head ≡ own.head → r.rest ≡ own.rest → r ≡ own
  same_run r p q = λ i. record { head = p i; rest = q i }

  -- a run that is found is the message, or has none of its keys and counters
  pub found_apart : (r : Run) → Held r.head cs → Found next span cs r → (r ≡ own) ⊎ Off own (segments r)
  found_apart r h f = go (bool (carries own.head.key own.head.counter r.head))
    where
      same : (t : Seg) → Mem t (segments own) → r.head.key ≡ t.key → r.head.counter ≡ t.counter → r.head ≡ t
      same t m p q = b.only t r.head m (look_same cs t r.head (sym p) (sym q) ∙ b.single r.head h)

      go : (carries own.head.key own.head.counter r.head ≡ true) ⊎
          (carries own.head.key own.head.counter r.head ≡ false) →
          (r ≡ own) ⊎ Off own (segments r)
      go (inl a) =
          let p = carries_true own.head.key own.head.counter r.head a in
          let q : r.head ≡ own.head = same own.head (Memᴰ.head refl) (sym p.0) (sym p.1) in
          let z : rest_from next span span cs own.head.key (next own.head.counter) ≡ some r.rest =
          ap (λ (x : Seg). rest_from next span span cs x.key (next x.counter)) (sym q) ∙ f.finds in
          inl
          (same_run r q
          (rest_only next span span cs own.head.key (next own.head.counter) own.rest r.rest o.follows
          (λ t u m. b.only t u (Memᴰ.tail m)) z))
      go (inr a) = inr off
        where
          head_off : (t : Seg) → Mem t (segments own) → r.head.key ≡ t.key → r.head.counter ≢ t.counter
          head_off t m p q = on (Memᴰ.cases_cons m)
            where
              on : (t ≡ own.head) ⊎ Mem t own.rest → ⊥
              on (inl e) =
                  true≢false
                  (sym (carries_yes own.head.key own.head.counter r.head
                  (ap (λ (x : Seg). x.key) (sym (same t m p q ∙ e))) (ap (λ (x : Seg). x.counter) (sym (same t m p q ∙ e)))) ∙ a)
              on (inr k) =
                  linked_first next own.head.key (next own.head.counter) own.rest o.follows t k
                  (ap role_in (sym (same t m p q)) ∙ f.opens)

          off : Off own (segments r)
          off s t m k p q = on (Memᴰ.cases_cons m)
            where
              on : (s ≡ r.head) ⊎ Mem s r.rest → ⊥
              on (inl e) = head_off t k (ap (λ (x : Seg). x.key) (sym e) ∙ p) (ap (λ (x : Seg). x.counter) (sym e) ∙ q)
              on (inr e) =
                  let l = (rest_linked next span span cs r.head.key (next r.head.counter) r.rest f.finds).0 in
                  let kk : r.head.key ≡ own.head.key =
                  sym (linked_key next r.head.key (next r.head.counter) r.rest l s e) ∙ p ∙ opened_key next own o t k in
                  let z : rest_from next span span cs own.head.key (next r.head.counter) ≡ some r.rest =
                  ap (λ (x : List ℕ). rest_from next span span cs x (next r.head.counter)) (sym kk) ∙ f.finds in
                  rest_avoids span (next r.head.counter) r.rest
                  (λ u g y.
                  let d = opened_before next own o u g in
                  head_off d.0 d.1 (kk ∙ sym (opened_key next own o d.0 d.1))
                  (inj r.head.counter d.0.counter (y ∙ d.2)))
                  z s e t k q
