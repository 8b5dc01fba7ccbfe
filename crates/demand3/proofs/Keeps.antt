-- With room, a store holds of a message just what has arrived of it since it was told anew, until it is taken; and no record has one of its
-- segments in its range.
-- Assumes nothing.
use Prim.Native.Nat.{ℕ}
use mathlib.Core.Path.{◌≡◌, refl, sym, ◌∙◌, ap}
use mathlib.Core.Logic.{◌≢◌, ◌⊎◌, inl, inr}
use mathlib.Core.Bool.{Bool, true, false, true≢false}
use mathlib.Core.Option.{Option, none, some, none-ne-some, some-ne-none}
use mathlib.Core.List.Memᴰ
use mathlib.Core.List.{List, [], ◌∷◌, ◌++◌, append_assoc, Memᴰ}
use native.Mathlib.Omega.{arith}
use Rattle.octets.specs.Octets.{pick}
use Rattle.octets.proofs.Lists.{bool}
use Rattle.cells.specs.Segments.{Seg, carries}
use Rattle.cells.specs.Rows.{Range, Cell}
use Rattle.cells.specs.Messages.{Run, segments, look}
use Rattle.cells.proofs.Distinct.{carries_true}
use Rattle.taking.specs.Taking.{Took, message, unable}
use Rattle.demand3.specs.Cells.{put, has_free, range_by, clear, forgotten, spans, recorded}
use Rattle.demand3.specs.Traffic.{Event, arrives, passes, takes, forgets, stowed, lessened, empty, taken_from, stepped, after, Room}
use Rattle.demand3.proofs.Looks.{carries_no, look_same, put_same, put_other, clear_kept}
use Rattle.demand3.proofs.Links.{Mem, Opened}
use Rattle.demand3.proofs.Ranges.{Noted, spans_only, has_recorded, recorded_none, put_noted, clear_noted}
use Rattle.demand3.proofs.Forgets.{look_forgotten, forgotten_noted}
use Rattle.demand3.proofs.Beside.{among_none, among_carried, Beside, Agrees, Off, put_beside, clear_beside, forgotten_beside}
use Rattle.demand3.proofs.Takings.{Fair, taken_apart, taken_opened, look_empty}
use Rattle.demand3.proofs.Records.{noted_empty, clean_empty, clean_open}

-- under the message's keys and counters the cells hold those of its segments of which A holds, and no others; and none is in a range
pub record Keeps (next : ℕ → ℕ) (own : Run) (A : Seg → Type 0) (cs : List Cell) : Type 0 where
  pub beside : Beside own cs
  pub bare : (t : Seg) → Mem t (segments own) → recorded next cs t.key t.counter ≡ false
  pub came : (t u : Seg) → Mem t (segments own) → look cs t.key t.counter ≡ some u → A t
  pub kept : (t : Seg) → Mem t (segments own) → A t → look cs t.key t.counter ≡ some t

-- nothing of the message
abbrev pub Nothing : (ℕ → ℕ) → Run → List Cell → Type 0
Nothing next own cs = Keeps next own (λ (t : Seg). ⊥) cs

pub keeps_by :
    {next : ℕ → ℕ} {own : Run} {A : Seg → Type 0} {cs : List Cell} (B : Seg → Type 0) → ((t : Seg) → A t → B t) →
    ((t : Seg) → Mem t (segments own) → B t → A t) → Keeps next own A cs → Keeps next own B cs
keeps_by B f g w =
    record { beside = w.beside; bare = w.bare; came = λ t u m e. f t (w.came t u m e); kept = λ t m b. w.kept t m (g t m b) }

-- where nothing is held and nothing recorded
pub keeps_nothing :
    (next : ℕ → ℕ) (own : Run) (cs : List Cell) → Beside own cs → ((t : Seg) → Mem t (segments own) → recorded next cs t.key t.counter ≡ false) →
    ((t : Seg) → Mem t (segments own) → look cs t.key t.counter ≡ none) → Nothing next own cs
keeps_nothing next own cs b r n =
    record { beside = b; bare = r; came = λ t u m e. none-ne-some u (sym (n t m) ∙ e); kept = λ t m a. absurd a }

pub keeps_empty : (next : ℕ → ℕ) (own : Run) (n : ℕ) → Nothing next own (empty n)
keeps_empty next own n =
    let w = clean_empty next own n in
    keeps_nothing next own (empty n) w.beside (clean_open next own (empty n) w (noted_empty n (range_by own)))
    (λ t m. look_empty n t.key t.counter)

abbrev pub Now : (Seg → Type 0) → Event → Seg → Type 0
Now A e t = A t ⊎ (arrives t ≡ e)

arrived_same : (t u : Seg) → arrives t ≡ arrives u → t ≡ u
arrived_same t u e = cc

module _ (next : ℕ → ℕ) (own : Run) (A : Seg → Type 0) (cs : List Cell) (w : Keeps next own A cs) where
  -- ---- an arrival

  -- in the range of a record: it is none of the message's
  arrives_late : (t : Seg) → recorded next cs t.key t.counter ≡ true → Keeps next own (Now A (arrives t)) cs
  arrives_late t e = keeps_by (Now A (arrives t)) (λ u a. inl a) back w
    where
      back : (u : Seg) → Mem u (segments own) → Now A (arrives t) u → A u
      back u m (inl a) = a
      back u m (inr q) =
          absurd (true≢false (sym e ∙ ap (λ (x : Seg). recorded next cs x.key x.counter) (sym (arrived_same u t q)) ∙ w.bare u m))

  arrives_held : (t v : Seg) → look cs t.key t.counter ≡ some v → Keeps next own (Now A (arrives t)) cs
  arrives_held t v e = record { beside = w.beside; bare = w.bare; came = λ u x m p. inl (w.came u x m p); kept = here }
    where
      here : (u : Seg) → Mem u (segments own) → Now A (arrives t) u → look cs u.key u.counter ≡ some u
      here u m (inl a) = w.kept u m a
      here u m (inr q) =
          let p : look cs u.key u.counter ≡ some v = rw (arrived_same u t q) e in
          p ∙ ap some (w.beside.only u v m p)

  arrives_new : (t : Seg) → look cs t.key t.counter ≡ none → has_free cs ≡ true → Agrees own t →
      Keeps next own (Now A (arrives t)) (put cs t)
  arrives_new t n r g = record { beside = put_beside own cs t n g w.beside; bare = still; came = just; kept = here }
    where
      still : (u : Seg) → Mem u (segments own) → recorded next (put cs t) u.key u.counter ≡ false
      still u m =
          recorded_none next (put cs t) u.key u.counter
          (λ h k e. true≢false (sym (has_recorded next cs u.key u.counter h (put_noted cs t h k) e) ∙ w.bare u m))

      here : (u : Seg) → Mem u (segments own) → Now A (arrives t) u → look (put cs t) u.key u.counter ≡ some u
      here u m (inl a) =
          put_other cs t u.key u.counter
          (carries_no u.key u.counter t (λ p q. some-ne-none u (sym (w.kept u m a) ∙ look_same cs u t p q ∙ n)))
          ∙ w.kept u m a
      here u m (inr q) = rw (arrived_same u t q) (put_same cs t r n)

      just : (u x : Seg) → Mem u (segments own) → look (put cs t) u.key u.counter ≡ some x → Now A (arrives t) u
      just u x m e = on (bool (carries u.key u.counter t))
        where
          on : (carries u.key u.counter t ≡ true) ⊎ (carries u.key u.counter t ≡ false) → Now A (arrives t) u
          on (inl a) = let p = carries_true u.key u.counter t a in inr (ap arrives (sym (g u m (sym p.0) (sym p.1))))
          on (inr a) = inl (w.came u x m (sym (put_other cs t u.key u.counter a) ∙ e))

  -- ---- a taking

  -- cells of a run with none of the message's keys and counters are given up: the message stays
  pub clear_off : (r : Run) → Opened next r → Off own (segments r) → Keeps next own A (clear r cs)
  clear_off r q o =
      record {
        beside = clear_beside own r cs w.beside;
        bare = λ t m. recorded_none next (clear r cs) t.key t.counter (λ g h e. still t m g (clear_noted r cs g h) e);
        came = λ t u m e. w.came t u m (sym (same t m) ∙ e);
        kept = λ t m a. same t m ∙ w.kept t m a;
      }
    where
      same : (t : Seg) → Mem t (segments own) → look (clear r cs) t.key t.counter ≡ look cs t.key t.counter
      same t m =
          clear_kept r cs t.key t.counter (λ u e. among_carried (segments r) t u (among_none (segments r) t (λ s k. o s t k m)) e)

      still : (t : Seg) → Mem t (segments own) → (g : Range) → Noted g cs ⊎ (g ≡ range_by r) → spans next t.key t.counter g ≡ true → ⊥
      still t m g (inl h) e = true≢false (sym (has_recorded next cs t.key t.counter g h e) ∙ w.bare t m)
      still t m g (inr d) e =
          let z = spans_only next r q t.key t.counter (sym (ap (spans next t.key t.counter) d) ∙ e) in
          o z.0 t z.1 m z.2 z.3

  -- ---- a forgetting

  forgets_any : (i : ℕ) → Keeps next own (Now A (forgets i)) (forgotten i cs)
  forgets_any i =
      record {
        beside = forgotten_beside own i cs w.beside;
        bare = still;
        came = λ t u m e. inl (w.came t u m (sym (look_forgotten i cs t.key t.counter) ∙ e));
        kept = here;
      }
    where
      still : (t : Seg) → Mem t (segments own) → recorded next (forgotten i cs) t.key t.counter ≡ false
      still t m =
          recorded_none next (forgotten i cs) t.key t.counter
          (λ g h e. true≢false (sym (has_recorded next cs t.key t.counter g (forgotten_noted i cs g h) e) ∙ w.bare t m))

      here : (t : Seg) → Mem t (segments own) → Now A (forgets i) t → look (forgotten i cs) t.key t.counter ≡ some t
      here t m (inl a) = look_forgotten i cs t.key t.counter ∙ w.kept t m a
      here t m (inr e) = absurd (let z : ◌≡◌ {A = ℕ} 0 1 = cc in omega arith)

module _ (next : ℕ → ℕ) (span : ℕ) where
  pub after_append : (cs : List Cell) (p q : List Event) → after next span cs (p ++ q) ≡ after next span (after next span cs p) q
  unfolding after
  after_append cs [] q = refl
  after_append cs (e ∷ p) q = after_append (stepped next span cs e) p q

  room_tail : (cs : List Cell) (e : Event) (es : List Event) → Room next span cs (e ∷ es) → Room next span (stepped next span cs e) es
  unfolding after
  room_tail cs e es r p q t d = r (e ∷ p) q t (ap (λ (x : List Event). e ∷ x) d)

  room_first : (cs : List Cell) (t : Seg) (es : List Event) → Room next span cs (arrives t ∷ es) →
      recorded next cs t.key t.counter ≡ false → look cs t.key t.counter ≡ none → has_free cs ≡ true
  unfolding after
  room_first cs t es r = r [] es t refl

  pub room_right : (cs : List Cell) (p q : List Event) → Room next span cs (p ++ q) → Room next span (after next span cs p) q
  room_right cs p q r a b t d v n =
      let c : after next span cs (p ++ a) ≡ after next span (after next span cs p) a = after_append cs p a in
      let v' : recorded next (after next span cs (p ++ a)) t.key t.counter ≡ false = rw c v in
      let n' : look (after next span cs (p ++ a)) t.key t.counter ≡ none = rw c n in
      let y : has_free (after next span cs (p ++ a)) ≡ true =
      r (p ++ a) b t (ap (λ (x : List Event). p ++ x) d ∙ sym (append_assoc p a (arrives t ∷ b))) v' n' in
      rw c at y

  module _ (inj : (x y : ℕ) → next x ≡ next y → x ≡ y) (own : Run) (o : Opened next own) where
    -- none of the events takes the message's run
    abbrev pub Left : List Cell → List Event → Type 0
    Left cs es =
        (p q : List Event) (long : ℕ) → es ≡ p ++ takes long ∷ q → taken_from next span (after next span cs p) long ≢ message own

    pub left_tail : (cs : List Cell) (e : Event) (es : List Event) → Left cs (e ∷ es) → Left (stepped next span cs e) es
    unfolding after
    left_tail cs e es l p q long d = l (e ∷ p) q long (ap (λ (x : List Event). e ∷ x) d)

    pub left_first : (cs : List Cell) (long : ℕ) (es : List Event) → Left cs (takes long ∷ es) →
        taken_from next span cs long ≢ message own
    unfolding after
    left_first cs long es l = l [] es long refl

    -- one event
    step :
        (A : Seg → Type 0) (cs : List Cell) (e : Event) (es : List Event) → Keeps next own A cs → Fair next span own (e ∷ es) →
        Room next span cs (e ∷ es) →
        Left cs (e ∷ es) → Keeps next own (Now A e) (stepped next span cs e)
    unfolding stepped
    step A cs (arrives t) es w f r l = by (recorded next cs t.key t.counter) refl
      where
        go : recorded next cs t.key t.counter ≡ false → (x : Option Seg) → look cs t.key t.counter ≡ x →
            Keeps next own (Now A (arrives t)) (stowed x cs t)
        go d none e = arrives_new next own A cs w t e (room_first cs t es r d e) (f t (Memᴰ.head refl))
        go d (some u) e = arrives_held next own A cs w t u e

        by : (b : Bool) → recorded next cs t.key t.counter ≡ b →
            Keeps next own (Now A (arrives t)) (pick b cs (stowed (look cs t.key t.counter) cs t))
        by true d = arrives_late next own A cs w t d
        by false d = go d (look cs t.key t.counter) refl
    step A cs passes es w f r l = keeps_by (Now A passes) (λ t a. inl a) back w
      where
        back : (t : Seg) → Mem t (segments own) → Now A passes t → A t
        back t m (inl a) = a
        back t m (inr e) = absurd (let z : ◌≡◌ {A = ℕ} 0 1 = cc in omega arith)
    step A cs (takes long) es w f r l = go (taken_from next span cs long) refl
      where
        back : (t : Seg) → Mem t (segments own) → Now A (takes long) t → A t
        back t m (inl a) = a
        back t m (inr e) = absurd (let z : ◌≡◌ {A = ℕ} 0 1 = cc in omega arith)

        go : (x : Took) → taken_from next span cs long ≡ x → Keeps next own (Now A (takes long)) (lessened x cs)
        go (unable k) e = keeps_by (Now A (takes long)) (λ t a. inl a) back w
        go (message x) e = on (taken_apart next span inj own o cs w.beside long x e)
          where
            on : (x ≡ own) ⊎ Off own (segments x) → Keeps next own (Now A (takes long)) (clear x cs)
            on (inl d) = absurd (left_first cs long es l (e ∙ ap message d))
            on (inr q) = keeps_by (Now A (takes long)) (λ t a. inl a) back (clear_off next own A cs w x (taken_opened next span cs long x e) q)
    step A cs (forgets i) es w f r l = forgets_any next own A cs w i

    -- any events that don't take the message
    pub keeps_after :
        (es : List Event) (cs : List Cell) (A : Seg → Type 0) → Keeps next own A cs → Fair next span own es → Room next span cs es →
        Left cs es →
        Keeps next own (λ (t : Seg). A t ⊎ Memᴰ (arrives t) es) (after next span cs es)
    unfolding after
    keeps_after [] cs A w f r l = keeps_by (λ (t : Seg). A t ⊎ Memᴰ (arrives t) []) (λ t a. inl a) back w
      where
        back : (t : Seg) → Mem t (segments own) → A t ⊎ Memᴰ (arrives t) [] → A t
        back t m (inl a) = a
        back t m (inr k) = absurd (Memᴰ.not-nil k)
    keeps_after (e ∷ es) cs A w f r l =
        keeps_by (λ (t : Seg). A t ⊎ Memᴰ (arrives t) (e ∷ es)) forth back
        (keeps_after es (stepped next span cs e) (Now A e) (step A cs e es w f r l) (λ t m. f t (Memᴰ.tail m))
        (room_tail cs e es r) (left_tail cs e es l))
      where
        forth : (t : Seg) → Now A e t ⊎ Memᴰ (arrives t) es → A t ⊎ Memᴰ (arrives t) (e ∷ es)
        forth t (inl (inl a)) = inl a
        forth t (inl (inr q)) = inr (Memᴰ.head q)
        forth t (inr m) = inr (Memᴰ.tail m)

        back : (t : Seg) → Mem t (segments own) → A t ⊎ Memᴰ (arrives t) (e ∷ es) → Now A e t ⊎ Memᴰ (arrives t) es
        back t m (inl a) = inl (inl a)
        back t m (inr h) = on (Memᴰ.cases_cons h)
          where
            on : (arrives t ≡ e) ⊎ Memᴰ (arrives t) es → Now A e t ⊎ Memᴰ (arrives t) es
            on (inl q) = inl (inr q)
            on (inr k) = inr k
