-- A taking and its output: with as many octets as it writes it is not refused, with fewer it is 21 and changes nothing; and any
-- events beside one message keep what is held under its keys and counters to be of it, room or no room.
-- Assumes nothing.
use Prim.Native.Nat.{ℕ, zero, suc, ◌≤◌, ◌<◌}
use mathlib.Core.Path.{◌≡◌, refl, sym, ◌∙◌, ap, subst}
use mathlib.Core.Logic.{◌⊎◌, inl, inr}
use mathlib.Core.Bool.{Bool, true, false}
use mathlib.Core.Option.{Option, none, some, none-ne-some}
use mathlib.Core.List.Memᴰ
use mathlib.Core.List.{List, [], ◌∷◌, Memᴰ}
use native.Mathlib.Omega.{arith}
use lib.ListN.{length}
use lib.Dec.{leb}
use borrow.Author.Tests.{leb-true, le-leb, lt-leb}
use Rattle.octets.specs.Octets.{pick}
use Rattle.octets.proofs.Lists.{bool}
use Rattle.cells.specs.Segments.{Seg}
use Rattle.cells.specs.Rows.{Cell, free, held}
use Rattle.cells.specs.Messages.{Run, segments, look, picked}
use Rattle.taking.specs.Taking.{Took, message, unable, writing, drawn}
use Rattle.demand3.specs.Cells.{put, clear, forgotten, recorded}
use Rattle.demand3.specs.Complete.{Held, Single}
use Rattle.demand3.specs.Traffic.{Sent, run_of, Event, arrives, passes, takes, forgets, stowed, lessened, empty, taken_from, stepped, after}
use Rattle.demand3.specs.Promise.{Gives}
use Rattle.demand3.proofs.Looks.{put_held, clear_held}
use Rattle.demand3.proofs.Forgets.{held_forgotten, forgotten_single}
use Rattle.demand3.proofs.Links.{Mem, Opened, sent_opened, original}
use Rattle.demand3.proofs.Finds.{found_opened, picked_lowest, picked_held}
use Rattle.demand3.proofs.Beside.{put_single, clear_single, Beside, Agrees, Off, put_beside, clear_beside, forgotten_beside, found_apart}

-- ---- its output

drawn_inv : (o : Option Run) (long : ℕ) (r : Run) → drawn o long ≡ message r → (o ≡ some r) × (length (writing r) ≤ long)
drawn_inv none long r e = absurd (let z : ◌≡◌ {A = ℕ} 0 1 = cc in omega arith)
drawn_inv (some x) long r e = go (bool (leb (length (writing x)) long))
  where
    go : (leb (length (writing x)) long ≡ true) ⊎ (leb (length (writing x)) long ≡ false) →
        (some x ≡ some r) × (length (writing r) ≤ long)
    go (inl h) =
        let f : message x ≡ message r = rw h at e in
        let p : x ≡ r = cc f in
        (ap some p, subst (λ (y : Run). length (writing y) ≤ long) p (leb-true (length (writing x)) long h))
    go (inr h) = absurd (let f : unable 21 ≡ message r = rw h at e in let z : ◌≡◌ {A = ℕ} 0 1 = cc f in omega arith)

module _ (next : ℕ → ℕ) (span : ℕ) where
  -- what is taken was picked, and the output was long enough
  pub taken_picked : (cs : List Cell) (long : ℕ) (r : Run) → taken_from next span cs long ≡ message r →
      (picked next span cs ≡ some r) × (length (writing r) ≤ long)
  unfolding taken_from
  taken_picked cs long r e = drawn_inv (picked next span cs) long r e

  -- what is picked is taken, where the output is long enough
  pub picked_taken : (cs : List Cell) (long : ℕ) (r : Run) → picked next span cs ≡ some r → length (writing r) ≤ long →
      taken_from next span cs long ≡ message r
  unfolding taken_from
  picked_taken cs long r e h =
      ap (λ (o : Option Run). drawn o long) e ∙ ap (λ (b : Bool). pick b (message r) (unable 21)) (le-leb (length (writing r)) long h)

  -- one octet too few: refusal 21, and the cells stay
  pub too_short : (cs : List Cell) (long : ℕ) (r : Run) → picked next span cs ≡ some r → long < length (writing r) →
      (taken_from next span cs long ≡ unable 21) × (stepped next span cs (takes long) ≡ cs)
  unfolding taken_from stepped
  too_short cs long r e h =
      let a : drawn (picked next span cs) long ≡ unable 21 =
      ap (λ (o : Option Run). drawn o long) e
      ∙ ap (λ (b : Bool). pick b (message r) (unable 21)) (lt-leb (length (writing r)) long h) in
      (a, ap (λ (x : Took). lessened x cs) a)

  -- nothing complete: refusal 20, and the cells stay
  pub nothing_picked : (cs : List Cell) (long : ℕ) → picked next span cs ≡ none →
      (taken_from next span cs long ≡ unable 20) × (stepped next span cs (takes long) ≡ cs)
  unfolding taken_from stepped
  nothing_picked cs long e =
      let a : drawn (picked next span cs) long ≡ unable 20 = ap (λ (o : Option Run). drawn o long) e in
      (a, ap (λ (x : Took). lessened x cs) a)

  -- the cells after a taking
  pub taken_cells : (cs : List Cell) (long : ℕ) (r : Run) → taken_from next span cs long ≡ message r →
      stepped next span cs (takes long) ≡ clear r cs
  unfolding stepped
  taken_cells cs long r e = ap (λ (x : Took). lessened x cs) e

  -- a step on the cells: a property that a new segment, a taking, a forgetting and nothing at all keep
  pub step_keeps :
      (F : List Cell → Type 0) (cs : List Cell) (e : Event) → F cs →
      ((t : Seg) → e ≡ arrives t → recorded next cs t.key t.counter ≡ false → look cs t.key t.counter ≡ none → F (put cs t)) →
      ((long : ℕ) (r : Run) → e ≡ takes long → taken_from next span cs long ≡ message r → F (clear r cs)) →
      ((i : ℕ) → e ≡ forgets i → F (forgotten i cs)) →
      F (stepped next span cs e)
  unfolding stepped
  step_keeps F cs (arrives t) f new took forgot = by (recorded next cs t.key t.counter) refl
    where
      go : recorded next cs t.key t.counter ≡ false → (x : Option Seg) → look cs t.key t.counter ≡ x → F (stowed x cs t)
      go d none e = new t refl d e
      go d (some u) e = f

      by : (b : Bool) → recorded next cs t.key t.counter ≡ b → F (pick b cs (stowed (look cs t.key t.counter) cs t))
      by true d = f
      by false d = go d (look cs t.key t.counter) refl
  step_keeps F cs passes f new took forgot = f
  step_keeps F cs (takes long) f new took forgot = go (taken_from next span cs long) refl
    where
      go : (x : Took) → taken_from next span cs long ≡ x → F (lessened x cs)
      go (message r) e = took long r refl e
      go (unable k) e = f
  step_keeps F cs (forgets i) f new took forgot = forgot i refl

  -- no events bring a key and counter into two cells
  pub single_after : (es : List Event) (cs : List Cell) → Single cs → Single (after next span cs es)
  unfolding after
  single_after [] cs s = s
  single_after (e ∷ es) cs s =
      single_after es (stepped next span cs e)
      (step_keeps Single cs e s (λ t d v n. put_single cs t n s) (λ long r d m. clear_single r cs s) (λ i d. forgotten_single i cs s))

  -- ---- events beside a message

  abbrev pub Fair : Run → List Event → Type 0
  Fair own es = (t : Seg) → Memᴰ (arrives t) es → Agrees own t

  beside_step : (own : Run) (cs : List Cell) (e : Event) (es : List Event) → Fair own (e ∷ es) → Beside own cs →
      Beside own (stepped next span cs e)
  beside_step own cs e es f b =
      step_keeps (Beside own) cs e b
      (λ t d v n. put_beside own cs t n (f t (Memᴰ.head (sym d))) b)
      (λ long r d m. clear_beside own r cs b)
      (λ i d. forgotten_beside own i cs b)

  pub beside_after : (own : Run) (es : List Event) (cs : List Cell) → Fair own es → Beside own cs → Beside own (after next span cs es)
  unfolding after
  beside_after own [] cs f b = b
  beside_after own (e ∷ es) cs f b =
      beside_after own es (stepped next span cs e) (λ t m. f t (Memᴰ.tail m)) (beside_step own cs e es f b)

  -- what is held had been held or has arrived
  pub held_after : (es : List Event) (cs : List Cell) (t : Seg) → Held t (after next span cs es) → Held t cs ⊎ Memᴰ (arrives t) es
  unfolding after
  held_after [] cs t h = inl h
  held_after (e ∷ es) cs t h = go (held_after es (stepped next span cs e) t h)
    where
      one : Held t (stepped next span cs e) → Held t cs ⊎ (arrives t ≡ e)
      one =
          step_keeps (λ (x : List Cell). Held t x → Held t cs ⊎ (arrives t ≡ e)) cs e (λ m. inl m) new
          (λ long r d g m. inl (clear_held r cs t m).0) (λ i d m. inl (held_forgotten i cs t m))
        where
          new : (u : Seg) → e ≡ arrives u → recorded next cs u.key u.counter ≡ false → look cs u.key u.counter ≡ none →
              Held t (put cs u) → Held t cs ⊎ (arrives t ≡ e)
          new u d v n m = at (put_held cs u t m)
            where
              at : (t ≡ u) ⊎ Held t cs → Held t cs ⊎ (arrives t ≡ e)
              at (inl p) = inr (ap arrives p ∙ sym d)
              at (inr k) = inl k

      go : Held t (stepped next span cs e) ⊎ Memᴰ (arrives t) es → Held t cs ⊎ Memᴰ (arrives t) (e ∷ es)
      go (inr k) = inr (Memᴰ.tail k)
      go (inl k) = on (one k)
        where
          on : Held t cs ⊎ (arrives t ≡ e) → Held t cs ⊎ Memᴰ (arrives t) (e ∷ es)
          on (inl m) = inl m
          on (inr d) = inr (Memᴰ.head d)

  -- what is taken is a first and what is linked to it
  pub taken_opened : (cs : List Cell) (long : ℕ) (r : Run) → taken_from next span cs long ≡ message r → Opened next r
  taken_opened cs long r e = found_opened next span cs r (picked_lowest next span cs r (taken_picked cs long r e).0).1

  -- whatever is taken beside a message is the message, or has none of its keys and counters
  pub taken_apart :
      (inj : (x y : ℕ) → next x ≡ next y → x ≡ y) (own : Run) → Opened next own → (cs : List Cell) → Beside own cs →
      (long : ℕ) (r : Run) →
      taken_from next span cs long ≡ message r → (r ≡ own) ⊎ Off own (segments r)
  taken_apart inj own o cs b long r e =
      let p = (taken_picked cs long r e).0 in
      found_apart next span inj own o cs b r (picked_held next span cs r p) (picked_lowest next span cs r p).1

  -- under the message's key and one of its counters: the message
  pub taken_own :
      (inj : (x y : ℕ) → next x ≡ next y → x ≡ y) (own : Run) → Opened next own → (cs : List Cell) → Beside own cs →
      (long : ℕ) (r : Run) (t : Seg) →
      taken_from next span cs long ≡ message r → Mem t (segments own) → r.head.key ≡ t.key → r.head.counter ≡ t.counter → r ≡ own
  taken_own inj own o cs b long r t e m p q = go (taken_apart inj own o cs b long r e)
    where
      go : (r ≡ own) ⊎ Off own (segments r) → r ≡ own
      go (inl d) = d
      go (inr f) = absurd (f r.head t (Memᴰ.head refl) m p q)

  pub beside_gives : (inj : (x y : ℕ) → next x ≡ next y → x ≡ y) (m : Sent) (cs : List Cell) → Beside (run_of next m) cs →
      Gives next span m cs
  beside_gives inj m cs b long r t e h p q =
      original next m r (taken_own inj (run_of next m) (sent_opened next m) cs b long r t e h p q)

-- ---- the empty store

pub look_empty : (n : ℕ) (k : List ℕ) (c : ℕ) → look (empty n) k c ≡ none
unfolding look
look_empty zero k c = refl
look_empty (suc n) k c = look_empty n k c

pub held_empty : (n : ℕ) (t : Seg) → Held t (empty n) → ⊥
held_empty zero t h = Memᴰ.not-nil h
held_empty (suc n) t h = go (held_empty n t) (Memᴰ.cases_cons h)
  where
    go : (Held t (empty n) → ⊥) → (held t ≡ free) ⊎ Held t (empty n) → ⊥
    go ih (inl e) = let z : ◌≡◌ {A = ℕ} 0 1 = cc in omega arith
    go ih (inr k) = ih k

pub beside_empty : (own : Run) (n : ℕ) → Beside own (empty n)
beside_empty own n =
    record {
      single = λ t h. absurd (held_empty n t h);
      only = λ t u m e. absurd (none-ne-some u (sym (look_empty n t.key t.counter) ∙ e));
    }

pub single_empty : (n : ℕ) → Single (empty n)
single_empty n t h = absurd (held_empty n t h)
