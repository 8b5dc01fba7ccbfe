-- A step by what stands at the place reached, and a packet by its length.
-- Assumes nothing.
use Prim.Native.Nat.{ℕ, ◌+◌, ◌≤◌, ◌<◌}
use mathlib.Core.Path.{◌≡◌, refl, ap, ap₂, sym, ◌∙◌}
use mathlib.Core.Logic.{◌⊎◌, inl, inr}
use mathlib.Core.Bool.{Bool, true, false}
use mathlib.Core.List.{List}
use native.Mathlib.Omega.{arith}
use lib.ListN.{length, drop, length-take}
use lib.Seq.{sets}
use lib.Dec.{leb, eqb}
use borrow.Author.Tests.{le-leb, lt-leb, leb-true}
use Rattle.octets.specs.Octets.{pick}
use Rattle.walk.specs.declared.Settings.{Settings}
use Rattle.cells.specs.Rows.{size_in, packet_in}
use Rattle.octets.proofs.Lists.{bool}
use Rattle.taking.specs.Taking.{writing}
use Rattle.arrival.specs.Arriving.{arrived}
use Rattle.join.specs.Joining.{Joining, in_packet, in_output, unjoined, joining, store_joined}
use Rattle.join.specs.Inner.{is_late}
use Rattle.steps.specs.Answer.{More, Ended, Unmarked, Torn}
use Rattle.steps.specs.declared.Stands.{Stands}
use Rattle.steps.specs.declared.Stands.TheVariants.{Nothing, Other, Cut, Whole}
use Rattle.steps.specs.Answer.{Done}
use Rattle.steps.specs.Stepping.{Found, nothing, other, cut, whole, found_in, longest, room, over, refused, kept, late, roomed, came_by, came_at, came_of, store_after}
use Rattle.steps.specs.Stepping.{without, wrote, Stepped, wanting, ended, unmarked, torn, came, step_by, stepped, store_behind, used_by, written_by}
use Rattle.steps.specs.Told.{stands_of, still, done_came, done_of}
use Rattle.steps.specs.Inner.{stop_as}
use Rattle.steps.proofs.Frames.{framed_long, without_long}
use Rattle.steps.proofs.Joins.{joined_fits}
use Rattle.steps.proofs.Showing.{whole_tells}

-- what is told of a step by parts
pub as_seen : {d : Done} {u n : ℕ} → u ≡ d.used → n ≡ d.written → record d { used = u; written = n } ≡ d
as_seen {d} eu en = ap₂ (λ (u n : ℕ). record d { used = u; written = n }) eu en

-- ---- a packet by its length

module _ (s : Settings) (Z : ℕ) (st p out : List ℕ) where
  -- what a step over the packet answers and leaves
  abbrev pub Passes : Done → List ℕ → List ℕ → Type 0
  Passes d x y =
      (d ≡ done_came p (came_of s Z st p)) × ((x ≡ store_after s Z st p) × (y ≡ sets out 0 (wrote p (came_of s Z st p))))

  pub passes_over : longest < length p → Passes (done_came p over) st out
  unfolding came_of store_after
  passes_over h =
      let b : false ≡ leb (length p) longest = sym (lt-leb (length p) longest h) in (
        ap (λ (t : Bool). done_came p (pick t (came_at s Z (roomed s Z st p) p) over)) b,
        (
          ap (λ (t : Bool). pick t (store_joined s Z (roomed s Z st p) p room) st) b,
          ap (λ (t : Bool). sets out 0 (wrote p (pick t (came_at s Z (roomed s Z st p) p) over))) b,
        ),
      )

  pub passes_joined :
      length p ≤ longest → {d : Done} {x y : List ℕ} → d ≡ done_came p (came_at s Z (roomed s Z st p) p) →
      x ≡ store_joined s Z (roomed s Z st p) p room → y ≡ sets out 0 (wrote p (came_at s Z (roomed s Z st p) p)) → Passes d x y
  unfolding came_of store_after
  passes_joined h ed ex ey =
      let b : true ≡ leb (length p) longest = sym (le-leb (length p) longest h) in (
        ed ∙ ap (λ (t : Bool). done_came p (pick t (came_at s Z (roomed s Z st p) p) over)) b,
        (
          ex ∙ ap (λ (t : Bool). pick t (store_joined s Z (roomed s Z st p) p room) st) b,
          ey ∙ ap (λ (t : Bool). sets out 0 (wrote p (pick t (came_at s Z (roomed s Z st p) p) over))) b,
        ),
      )

-- ---- what stands at the place

module _ (s : Settings) (Z : ℕ) (st w : List ℕ) (e : Bool) (out : List ℕ) where
  abbrev By : Found → Done → List ℕ → List ℕ → Type 0
  By f d x y =
      (d ≡ done_of (step_by s Z st e f))
      × ((x ≡ store_behind s Z st (step_by s Z st e f)) × (y ≡ sets out 0 (written_by (step_by s Z st e f))))

  -- what a step answers and leaves
  abbrev pub Steps : Done → List ℕ → List ℕ → Type 0
  Steps d x y =
      (d ≡ done_of (stepped s Z st w e))
      × ((x ≡ store_behind s Z st (stepped s Z st w e)) × (y ≡ sets out 0 (written_by (stepped s Z st w e))))

  nothing_by : (f : Found) {r : Stands} {d : Done} → r ≡ stands_of f → r ≡ Nothing → d ≡ stop_as e (still Ended) → By f d st out
  unfolding stop_as
  nothing_by nothing {d = d} er h ed = (ed ∙ answer e, (store e, output e))
    where
      answer : (b : Bool) → pick b (still Ended) (still More) ≡ done_of (pick b ended wanting)
      answer true = refl
      answer false = refl

      store : (b : Bool) → st ≡ store_behind s Z st (pick b ended wanting)
      store true = refl
      store false = refl

      output : (b : Bool) → out ≡ sets out 0 (written_by (pick b ended wanting))
      output true = refl
      output false = refl
  nothing_by other er h ed = let z : ◌≡◌ {A = ℕ} 0 1 = cc in absurd (omega arith)
  nothing_by cut er h ed = let z : ◌≡◌ {A = ℕ} 0 1 = cc in absurd (omega arith)
  nothing_by (whole p) er h ed = let z : ◌≡◌ {A = ℕ} 0 1 = cc in absurd (omega arith)

  other_by : (f : Found) {r : Stands} {d : Done} → r ≡ stands_of f → r ≡ Other → d ≡ still Unmarked → By f d st out
  other_by nothing er h ed = let z : ◌≡◌ {A = ℕ} 0 1 = cc in absurd (omega arith)
  other_by other er h ed = (ed, (refl, refl))
  other_by cut er h ed = let z : ◌≡◌ {A = ℕ} 0 1 = cc in absurd (omega arith)
  other_by (whole p) er h ed = let z : ◌≡◌ {A = ℕ} 0 1 = cc in absurd (omega arith)

  cut_by : (f : Found) {r : Stands} {d : Done} → r ≡ stands_of f → r ≡ Cut → d ≡ stop_as e (still Torn) → By f d st out
  unfolding stop_as
  cut_by nothing er h ed = let z : ◌≡◌ {A = ℕ} 0 1 = cc in absurd (omega arith)
  cut_by other er h ed = let z : ◌≡◌ {A = ℕ} 0 1 = cc in absurd (omega arith)
  cut_by cut er h ed = (ed ∙ answer e, (store e, output e))
    where
      answer : (b : Bool) → pick b (still Torn) (still More) ≡ done_of (pick b torn wanting)
      answer true = refl
      answer false = refl

      store : (b : Bool) → st ≡ store_behind s Z st (pick b torn wanting)
      store true = refl
      store false = refl

      output : (b : Bool) → out ≡ sets out 0 (written_by (pick b torn wanting))
      output true = refl
      output false = refl
  cut_by (whole p) er h ed = let z : ◌≡◌ {A = ℕ} 0 1 = cc in absurd (omega arith)

  whole_by :
      (f : Found) {r : Stands} {q : List ℕ} {d : Done} {x y : List ℕ} → ((p : List ℕ) → f ≡ whole p → p ≡ q) → r ≡ stands_of f → r ≡ Whole →
      Passes s Z st q out d x y → By f d x y
  whole_by nothing is er h a = let z : ◌≡◌ {A = ℕ} 0 1 = cc in absurd (omega arith)
  whole_by other is er h a = let z : ◌≡◌ {A = ℕ} 0 1 = cc in absurd (omega arith)
  whole_by cut is er h a = let z : ◌≡◌ {A = ℕ} 0 1 = cc in absurd (omega arith)
  whole_by (whole p) {d = d} {x = x} {y = y} is er h a = rw (is p refl) a

  module _ {r : Stands} {d : Done} (er : r ≡ stands_of (found_in w)) where
    pub step_nothing : r ≡ Nothing → d ≡ stop_as e (still Ended) → Steps d st out
    unfolding stepped
    step_nothing h ed = nothing_by (found_in w) er h ed

    pub step_other : r ≡ Other → d ≡ still Unmarked → Steps d st out
    unfolding stepped
    step_other h ed = other_by (found_in w) er h ed

    pub step_cut : r ≡ Cut → d ≡ stop_as e (still Torn) → Steps d st out
    unfolding stepped
    step_cut h ed = cut_by (found_in w) er h ed

    pub step_whole : {q x y : List ℕ} → r ≡ Whole → q ≡ packet_in w → Passes s Z st q out d x y → Steps d x y
    unfolding stepped
    step_whole h eq a = whole_by (found_in w) (λ p f. (whole_tells w p f).1.1 ∙ sym eq) er h a

-- ---- how many octets a step uses up, and how many it writes

module _ (s : Settings) (Z : ℕ) (st w : List ℕ) (e : Bool) where
  used_by_lem : (f : Found) → found_in w ≡ f → used_by (step_by s Z st e f) ≤ length w
  used_by_lem nothing h = go e
    where
      go : (b : Bool) → used_by (pick b ended wanting) ≤ length w
      go true = omega arith
      go false = omega arith
  used_by_lem other h = omega arith
  used_by_lem cut h = go e
    where
      go : (b : Bool) → used_by (pick b torn wanting) ≤ length w
      go true = omega arith
      go false = omega arith
  used_by_lem (whole p) h =
      let a = whole_tells w p h in
      omega (arith, a.1.0, ap length a.1.1, length-take (size_in w) (drop 2 w))

  -- no more than are in hand
  pub used_most : used_by (stepped s Z st w e) ≤ length w
  unfolding stepped
  used_most = used_by_lem (found_in w) refl

  written_at : (x p : List ℕ) → length p ≤ longest → length (wrote p (came_at s Z x p)) ≤ 6 + room
  unfolding came_at
  written_at x p l = joined (is_late (arrived s Z x p)) (joining s Z x p room) refl
    where
      joined : (m : Bool) (j : Joining) → joining s Z x p room ≡ j → length (wrote p (came_by m j)) ≤ 6 + room
      joined m (in_packet place n) h = omega (arith, framed_long (without p), without_long p)
      joined m (in_output r) h = omega (arith, framed_long (writing r), (joined_fits s Z x p room r h).fits)
      joined m (unjoined k) h = left (eqb k.number 20) m
        where
          left : (b c : Bool) → length (wrote p (pick b (pick c late kept) (refused k))) ≤ 6 + room
          left true true = omega arith
          left true false = omega arith
          left false c = omega arith

  written_came : (p : List ℕ) → length (wrote p (came_of s Z st p)) ≤ 6 + room
  unfolding came_of
  written_came p = go (bool (leb (length p) longest))
    where
      go :
          (leb (length p) longest ≡ true) ⊎ (leb (length p) longest ≡ false) →
          length (wrote p (pick (leb (length p) longest) (came_at s Z (roomed s Z st p) p) over)) ≤ 6 + room
      go (inl h) = rw h (written_at (roomed s Z st p) p (leb-true (length p) longest h))
      go (inr h) = rw h (omega arith)

  written_by_lem : (f : Found) → length (written_by (step_by s Z st e f)) ≤ 6 + room
  written_by_lem nothing = go e
    where
      go : (b : Bool) → length (written_by (pick b ended wanting)) ≤ 6 + room
      go true = omega arith
      go false = omega arith
  written_by_lem other = omega arith
  written_by_lem cut = go e
    where
      go : (b : Bool) → length (written_by (pick b torn wanting)) ≤ 6 + room
      go true = omega arith
      go false = omega arith
  written_by_lem (whole p) = written_came p

  -- no more than the output has room for
  pub written_most : length (written_by (stepped s Z st w e)) ≤ 6 + room
  unfolding stepped
  written_most = written_by_lem (found_in w)

  pub done_used : (d : Stepped) → (done_of d).used ≡ used_by d
  done_used wanting = refl
  done_used ended = refl
  done_used unmarked = refl
  done_used torn = refl
  done_used (came p c) = refl

  pub done_written : (d : Stepped) → (done_of d).written ≡ length (written_by d)
  done_written wanting = refl
  done_written ended = refl
  done_written unmarked = refl
  done_written torn = refl
  done_written (came p c) = refl

  -- what a step answers lies inside both buffers
  pub step_within : {d : Done} → d ≡ done_of (stepped s Z st w e) → (d.used ≤ length w) × (d.written ≤ 6 + room)
  step_within h =
      let g = stepped s Z st w e in (
        omega (arith, ap (λ (x : Done). x.used) h ∙ done_used g, used_most),
        omega (arith, ap (λ (x : Done). x.written) h ∙ done_written g, written_most),
      )
