-- The message that taking picks, by the places of its segments.
-- Assumes nothing.
use Prim.Native.Nat.{ℕ, zero, suc, ◌+◌, ◌≤◌, ◌<◌}
use mathlib.Core.Path.{◌≡◌, refl, ap, ap₂, sym, ◌∙◌}
use mathlib.Core.Logic.{⊎_elim}
use mathlib.Core.Bool.{Bool, true, false}
use mathlib.Core.List.{List, ◌∷◌, ◌++◌, map}
use mathlib.Core.Option
use mathlib.Core.Option.{Option, none, some, none-ne-some}
use native.Mathlib.Omega.{arith}
use lib.ListN.{length, length-append}
use borrow.Author.Tests.{le-leb, lt-leb}
use Rattle.octets.specs.Octets.{pick}
use Rattle.octets.proofs.Lists.{bool, below_or}
use Rattle.walk.specs.declared.Settings.{Settings}
use Rattle.walk.specs.Walk.{refusal}
use Rattle.cells.specs.Segments.{Seg}
use Rattle.cells.specs.Rows.{Cell, held, row_at, by_segment}
use Rattle.cells.specs.Order.{cell_at, lowest}
use Rattle.cells.proofs.Carries.{Holding, held_is}
use Rattle.cells.proofs.CellSegments.{segment_or}
use Rattle.cells.specs.Messages.{Role, first, middle, last, role_of, Run, body_of, listed, or_else, cells_of, rest_from, opens_by, run_from, run_in, pick_in, picked}
use Rattle.taking.specs.Taking.{message, unable, writing, drawn}
use Rattle.taking.specs.declared.Copied.{Copied}
use Rattle.std.specs.Prelude.{Some}
use Rattle.taking.specs.Told.{taken_of}
use Rattle.taking.specs.Follow.{seg_at, follow, places_from, places_of, bodies_at, answer, is_some, opens_at, copied_of, Opens}
use Rattle.cells.proofs.Looks.{lowest_holds}
use Rattle.taking.proofs.Following.{rest_places, bodies_places}

-- ---- what a run that was found has

has_some : {A : Type 0} (o : Option A) → is_some o ≡ true → (a : A) × (o ≡ some a)
has_some none e = let z : ◌≡◌ {A = ℕ} 0 1 = cc in absurd (omega arith)
has_some (some a) e = (a, refl)

-- it opens with a first, and the others follow it
opens_some : (x : Role) (t : Seg) (o : Option (List Seg)) (r : Run) → opens_by x t o ≡ some r → (ts : List Seg) × (o ≡ some ts) × (r ≡ record { head = t; rest = ts })
opens_some first t none r e = let z : ◌≡◌ {A = ℕ} 0 1 = cc in absurd (omega arith)
opens_some first t (some ts) r e = let d : r ≡ record { head = t; rest = ts } = cc in (ts, refl, d)
opens_some middle t o r e = let z : ◌≡◌ {A = ℕ} 0 1 = cc in absurd (omega arith)
opens_some last t o r e = let z : ◌≡◌ {A = ℕ} 0 1 = cc in absurd (omega arith)

mapped : {A B : Type 0} (f : A → B) (o : Option A) (b : B) → Option.map f o ≡ some b → (a : A) × (o ≡ some a) × (b ≡ f a)
mapped f none b e = let z : ◌≡◌ {A = ℕ} 0 1 = cc in absurd (omega arith)
mapped f (some a) b e = let d : b ≡ f a = cc in (a, refl, d)

module _ (next : ℕ → ℕ) (span : ℕ) (s : Settings) (Z : ℕ) (st : List ℕ) (n : ℕ) where
  abbrev cs : List Cell
  cs = cells_of s Z st n

  -- the lowest cell that opens a complete message is the one that is picked
  abbrev at : ℕ → Option Run
  at i = run_in next span cs (cell_at s Z st i)

  pick_here : (o p : Option Run) → is_some o ≡ true → or_else o p ≡ o
  pick_here none p e = let z : ◌≡◌ {A = ℕ} 0 1 = cc in absurd (omega arith)
  pick_here (some r) p e = refl

  pick_on : (o p : Option Run) → is_some o ≡ false → or_else o p ≡ p
  pick_on none p e = refl
  pick_on (some r) p e = let z : ◌≡◌ {A = ℕ} 0 1 = cc in absurd (omega arith)

  pick_lowest : (m i : ℕ) → lowest (opens_at next span s Z st n) m i < i + m → pick_in next span cs (listed (cell_at s Z st) m i) ≡ at (lowest (opens_at next span s Z st n) m i)
  unfolding pick_in listed lowest
  pick_lowest zero i h = absurd (omega arith)
  pick_lowest (suc m) i h = ⊎_elim here (on (pick_lowest m (suc i))) (bool (opens_at next span s Z st n i))
    where
      low : Bool → ℕ
      low b = pick b i (lowest (opens_at next span s Z st n) m (suc i))

      here : opens_at next span s Z st n i ≡ true → or_else (at i) (pick_in next span cs (listed (cell_at s Z st) m (suc i))) ≡ at (low (opens_at next span s Z st n i))
      here e = pick_here (at i) _ e ∙ ap (λ (b : Bool). at (low b)) (sym e)

      on :
          (lowest (opens_at next span s Z st n) m (suc i) < suc i + m → pick_in next span cs (listed (cell_at s Z st) m (suc i)) ≡ at (lowest (opens_at next span s Z st n) m (suc i))) →
          opens_at next span s Z st n i ≡ false → or_else (at i) (pick_in next span cs (listed (cell_at s Z st) m (suc i))) ≡ at (low (opens_at next span s Z st n i))
      on rest e =
          let k : lowest (opens_at next span s Z st n) m (suc i) < suc i + m = omega (arith, ap low e) in
          pick_on (at i) _ e ∙ rest k ∙ ap (λ (b : Bool). at (low b)) (sym e)

  -- where no cell opens one, none is picked
  pick_none : (m i : ℕ) → i + m ≤ lowest (opens_at next span s Z st n) m i → pick_in next span cs (listed (cell_at s Z st) m i) ≡ none
  unfolding pick_in listed lowest
  pick_none zero i h = refl
  pick_none (suc m) i h = ⊎_elim here (on (pick_none m (suc i))) (bool (opens_at next span s Z st n i))
    where
      low : Bool → ℕ
      low b = pick b i (lowest (opens_at next span s Z st n) m (suc i))

      here : opens_at next span s Z st n i ≡ true → or_else (at i) (pick_in next span cs (listed (cell_at s Z st) m (suc i))) ≡ none
      here e = absurd (omega (arith, ap low e))

      on :
          (suc i + m ≤ lowest (opens_at next span s Z st n) m (suc i) → pick_in next span cs (listed (cell_at s Z st) m (suc i)) ≡ none) → opens_at next span s Z st n i ≡ false →
          or_else (at i) (pick_in next span cs (listed (cell_at s Z st) m (suc i))) ≡ none
      on rest e =
          let k : suc i + m ≤ lowest (opens_at next span s Z st n) m (suc i) = omega (arith, ap low e) in
          pick_on (at i) _ e ∙ rest k

  pub picked_below : (picked next span cs ≡ none → ⊥) → lowest (opens_at next span s Z st n) n 0 < n
  picked_below h =
      ⊎_elim
      (λ l. l)
      (λ l. let k : 0 + n ≤ lowest (opens_at next span s Z st n) n 0 = omega arith in absurd (h (pick_none n 0 k)))
      (below_or (lowest (opens_at next span s Z st n) n 0) n)

  -- ---- the message

  -- the message that opens in cell i: the places of the others, and that it is picked
  pub record Message (i : ℕ) : Type 0 where
    pub places : List ℕ
    pub cell : cell_at s Z st i ≡ held (seg_at s Z st i)
    pub complete : follow next span s Z st n (seg_at s Z st i).key span (next (seg_at s Z st i).counter) ≡ some places
    pub run : picked next span cs ≡ some (record { head = seg_at s Z st i; rest = map (seg_at s Z st) places })

  -- a cell that opens a run holds a segment
  opens_held : (i : ℕ) → (x : Cell) → cell_at s Z st i ≡ x → (r : Run) → run_in next span cs x ≡ some r → Holding s Z (row_at Z st i)
  opens_held i x e r h =
      ⊎_elim (λ w. held_is s Z (row_at Z st i) w.0 (e ∙ w.1))
      (λ n. absurd (none-ne-some r (sym (ap (by_segment none (run_from next span cs)) n) ∙ h)))
      (segment_or x)

  module _ {i : ℕ} (ei : i ≡ lowest (opens_at next span s Z st n) n 0) (below : i < n) where
    found_run : (r : Run) × (at i ≡ some r)
    found_run =
        let k : lowest (opens_at next span s Z st n) n 0 < 0 + n = omega arith in
        has_some (at i) (ap (opens_at next span s Z st n) ei ∙ lowest_holds (opens_at next span s Z st n) n 0 k)

    holds : Holding s Z (row_at Z st i)
    holds = opens_held i (cell_at s Z st i) refl found_run.0 found_run.1

    pub message_held : Holding s Z (row_at Z st i)
    message_held = holds

    picked_is : picked next span cs ≡ at i
    picked_is =
        let k : lowest (opens_at next span s Z st n) n 0 < 0 + n = omega arith in
        pick_lowest n 0 k ∙ ap at (sym ei)

    opened : opens_by (role_of (seg_at s Z st i).flags) (seg_at s Z st i) (rest_from next span span cs (seg_at s Z st i).key (next (seg_at s Z st i).counter)) ≡ some found_run.0
    unfolding run_from
    opened = sym (ap (run_in next span cs) holds.cell) ∙ found_run.1

    pub the_message : Message i
    the_message =
        let o = opens_some (role_of (seg_at s Z st i).flags) (seg_at s Z st i) (rest_from next span span cs (seg_at s Z st i).key (next (seg_at s Z st i).counter)) found_run.0 opened in
        let t = seg_at s Z st i in
        let m =
        mapped (map (seg_at s Z st)) (follow next span s Z st n t.key span (next t.counter)) o.0
        (sym (rest_places next span s Z st n t.key span (next t.counter)) ∙ o.1) in
        record {
          places = m.0;
          cell = holds.cell;
          complete = m.1;
          run =
              picked_is
              ∙ found_run.1
              ∙ ap some o.2
              ∙ ap (λ (ts : List Seg). some (record { head = seg_at s Z st i; rest = ts })) m.2;
        }

  -- ---- what is written

  module _ {i : ℕ} (m : Message i) where
    abbrev pub run_of : Run
    run_of = record { head = seg_at s Z st i; rest = map (seg_at s Z st) m.places }

    pub body_is : body_of run_of ≡ bodies_at s Z st (i ∷ m.places)
    body_is = bodies_places next span s Z st n (seg_at s Z st i).key (i ∷ m.places)

    pub writing_is : writing run_of ≡ (seg_at s Z st i).key ++ bodies_at s Z st (i ∷ m.places)
    writing_is = ap (λ (b : List ℕ). (seg_at s Z st i).key ++ b) body_is

    pub places_are : places_from next span s Z st n (seg_at s Z st i).key (next (seg_at s Z st i).counter) ≡ m.places
    unfolding places_from
    places_are = ap places_of m.complete

    module _ {b : ℕ} (eb : Some b ≡ answer (picked next span cs)) where
      pub body_long : b ≡ length (bodies_at s Z st (i ∷ m.places))
      body_long =
          let e : Some b ≡ Some (length (body_of run_of)) = eb ∙ ap answer m.run in
          let d : b ≡ length (body_of run_of) = cc in
          d ∙ ap length body_is

      -- what is told of it
      pub told_is : {u : Copied} (k : ℕ) → u ≡ copied_of (seg_at s Z st i) k → record { refusal = refusal 0; header = u.header; body = b; counter = u.counter } ≡ taken_of (message run_of)
      unfolding copied_of
      told_is {u} k eu =
          ap₂ (λ (x : Copied) (y : ℕ). record { refusal = refusal 0; header = x.header; body = y; counter = x.counter }) eu (body_long ∙ sym (ap length body_is))

      writing_long : length (writing run_of) ≡ length (seg_at s Z st i).key + b
      writing_long = length-append (seg_at s Z st i).key (body_of run_of) ∙ ap (λ (x : ℕ). length (seg_at s Z st i).key + x) (ap length body_is ∙ sym body_long)

      pub took_message : (long : ℕ) → length (seg_at s Z st i).key + b ≤ long → drawn (picked next span cs) long ≡ message run_of
      took_message long h =
          let k : length (writing run_of) ≤ long = omega (arith, writing_long) in
          ap (λ (o : Option Run). drawn o long) m.run
          ∙ ap (λ (c : Bool). pick c (message run_of) (unable 21)) (le-leb (length (writing run_of)) long k)

      pub message_opens : (out : List ℕ) → length (seg_at s Z st i).key + b ≤ length out → Opens next span s Z st n i out
      message_opens out h = record { places = m.places; complete = m.complete; room = omega (arith, body_long) }

      pub took_short : (long : ℕ) → long < length (seg_at s Z st i).key + b → drawn (picked next span cs) long ≡ unable 21
      took_short long h =
          let k : long < length (writing run_of) = omega (arith, writing_long) in
          ap (λ (o : Option Run). drawn o long) m.run
          ∙ ap (λ (c : Bool). pick c (message run_of) (unable 21)) (lt-leb (length (writing run_of)) long k)

  -- nothing is complete
  pub took_none : (long : ℕ) → picked next span cs ≡ none → drawn (picked next span cs) long ≡ unable 20
  took_none long e = ap (λ (o : Option Run). drawn o long) e
