-- G-4: the steps from the first place to the stop write what the recording as a whole comes to, however it is handed over in pieces.
-- Assumes nothing.
use Prim.Native.Nat.{ℕ, zero, suc, ◌+◌, ◌≤◌, ◌<◌}
use mathlib.Core.Path.{◌≡◌, refl, ap, ap₂, sym, ◌∙◌}
use mathlib.Core.Logic.{◌⊎◌, inl, inr}
use mathlib.Core.Bool.{Bool, true, false}
use mathlib.Core.List.{List, [], ◌∷◌, ◌++◌, Memᴰ}
use native.Mathlib.Omega.{arith}
use lib.ListN.{length, drop, length-drop, take-append-drop}
use lib.Seq.{take_all, length-take-le, get_or-drop}
use lib.Dec.{leb}
use borrow.Author.Tests.{leb-true, le-leb}
use Rattle.octets.specs.Octets.{Octets}
use Rattle.octets.proofs.Lists.{bool, below_or}
use Rattle.octets.proofs.Laying.{empty}
use Rattle.octets.proofs.Has.{octets_part}
use Rattle.octets.proofs.Numbers.{number_top}
use Rattle.walk.specs.declared.Settings.{Settings}
use Rattle.cells.specs.Rows.{size_in}
use Rattle.cells.specs.Order.{cell_size}
use Rattle.cells.proofs.Held.{both_true}
use Rattle.steps.specs.Stepping.{Found, nothing, other, cut, whole, begins, found_in, Came, came_of, wrote, Stepped, wanting, ended, unmarked, torn}
use Rattle.steps.specs.Stepping.{came, step_by, stepped, store_behind, used_by, written_by}
use Rattle.recording.specs.Recording.{recorded_from, recorded, empty_store}
use Rattle.recording.specs.Handing.{Hand, in_hand, ends_with, Outcome, onward, handed}
use Rattle.steps.proofs.Places.{found_nothing, found_cut}
use Rattle.steps.proofs.Showing.{other_more, whole_more, cut_tells, nothing_tells}

-- ---- a step over the octets in hand

module _ (s : Settings) (Z : ℕ) (st : List ℕ) where
  -- where the end is not told, the step is that over the whole rest, or more octets are wanted
  part_by :
      (w y : List ℕ) (f : Found) → found_in w ≡ f → (step_by s Z st false f ≡ wanting) ⊎ (step_by s Z st false f ≡ step_by s Z st true (found_in (w ++ y)))
  part_by w y nothing e = inl refl
  part_by w y other e = inr (ap (step_by s Z st true) (sym (other_more w y e)))
  part_by w y cut e = inl refl
  part_by w y (whole p) e = inr (ap (step_by s Z st true) (sym (whole_more w y p e ∙ e)))

  pub step_part : (w y : List ℕ) → (stepped s Z st w false ≡ wanting) ⊎ (stepped s Z st w false ≡ stepped s Z st (w ++ y) true)
  unfolding stepped
  step_part w y = part_by w y (found_in w) refl

  -- so is a step with any hand
  pub step_hand :
      (h : Hand) (x : List ℕ) →
      (stepped s Z st (in_hand h x) (ends_with h x) ≡ wanting) ⊎ (stepped s Z st (in_hand h x) (ends_with h x) ≡ stepped s Z st x true)
  step_hand h x = told (bool (ends_with h x))
    where
      told :
          (ends_with h x ≡ true) ⊎ (ends_with h x ≡ false) →
          (stepped s Z st (in_hand h x) (ends_with h x) ≡ wanting) ⊎ (stepped s Z st (in_hand h x) (ends_with h x) ≡ stepped s Z st x true)
      told (inl e) =
          let l = leb-true (length x) h.octets (both_true h.knows (leb (length x) h.octets) e).1 in
          inr (ap₂ (λ (w : List ℕ) (b : Bool). stepped s Z st w b) (take_all h.octets x l) e)
      told (inr e) = go (step_part (in_hand h x) (drop h.octets x))
        where
          go :
              (stepped s Z st (in_hand h x) false ≡ wanting) ⊎ (stepped s Z st (in_hand h x) false ≡ stepped s Z st (in_hand h x ++ drop h.octets x) true) →
              (stepped s Z st (in_hand h x) (ends_with h x) ≡ wanting) ⊎ (stepped s Z st (in_hand h x) (ends_with h x) ≡ stepped s Z st x true)
          go (inl d) = inl (ap (stepped s Z st (in_hand h x)) e ∙ d)
          go (inr d) =
              inr (ap (stepped s Z st (in_hand h x)) e ∙ d ∙ ap (λ (w : List ℕ). stepped s Z st w true) (take-append-drop h.octets x))

  -- ---- when more octets are wanted

  -- too few to tell what follows
  abbrev pub Short : List ℕ → Type 0
  Short w = (length w ≡ 0) ⊎ ((begins w ≡ true) × (length w < 2 + size_in w))

  wanting_by : (w : List ℕ) (b : Bool) (f : Found) → found_in w ≡ f → step_by s Z st b f ≡ wanting → (b ≡ false) × Short w
  wanting_by w true nothing e d = let z : ◌≡◌ {A = ℕ} 0 1 = cc d in absurd (omega arith)
  wanting_by w false nothing e d = (refl, inl (nothing_tells w e))
  wanting_by w b other e d = let z : ◌≡◌ {A = ℕ} 0 1 = cc d in absurd (omega arith)
  wanting_by w true cut e d = let z : ◌≡◌ {A = ℕ} 0 1 = cc d in absurd (omega arith)
  wanting_by w false cut e d = (refl, inr (cut_tells w e))
  wanting_by w b (whole p) e d = let z : ◌≡◌ {A = ℕ} 0 1 = cc d in absurd (omega arith)

  -- only where the end is not told and the octets are too few
  pub wanting_tells : (w : List ℕ) (b : Bool) → stepped s Z st w b ≡ wanting → (b ≡ false) × Short w
  unfolding stepped
  wanting_tells w b e = wanting_by w b (found_in w) refl e

  -- and always then
  pub wanting_told : (w : List ℕ) → Short w → stepped s Z st w false ≡ wanting
  unfolding stepped
  wanting_told w (inl e) = ap (step_by s Z st false) (found_nothing w e)
  wanting_told w (inr e) = go (below_or 0 (length w))
    where
      go : (0 < length w) ⊎ (length w ≤ 0) → step_by s Z st false (found_in w) ≡ wanting
      go (inl h) = ap (step_by s Z st false) (found_cut w (λ z. omega arith) e.0 e.1)
      go (inr h) = ap (step_by s Z st false) (found_nothing w (omega arith))

  -- 65,544 octets are enough: a mark and the longest packet
  pub enough : (w : List ℕ) (b : Bool) → Octets w → 65544 ≤ length w → stepped s Z st w b ≡ wanting → ⊥
  enough w b o l e = go (wanting_tells w b e).1
    where
      go : Short w → ⊥
      go (inl h) = omega arith
      go (inr h) = omega (arith, h.1, number_top 2 w 6 o)

-- ---- the steps over a whole recording

module _ (s : Settings) (Z : ℕ) where
  abbrev pub R : ℕ → List ℕ → List ℕ → List ℕ
  R f st x = recorded_from s Z f st x

  -- one step more
  abbrev pub go_on : ℕ → List ℕ → List ℕ → Stepped → List ℕ
  go_on f st x d = written_by d ++ R f (store_behind s Z st d) (drop (used_by d) x)

  pub one : (f : ℕ) (st x : List ℕ) → R (suc f) st x ≡ go_on f st x (stepped s Z st x true)
  unfolding recorded_from
  one f st x = refl

  abbrev pub Stop : Stepped → Type 0
  Stop d = (d ≡ ended) ⊎ ((d ≡ unmarked) ⊎ (d ≡ torn))

  stop_on : (f : ℕ) (st x : List ℕ) (d : Stepped) → Stop d → go_on f st x d ≡ R f st x
  stop_on f st x d (inl e) = ap (go_on f st x) e
  stop_on f st x d (inr (inl e)) = ap (go_on f st x) e
  stop_on f st x d (inr (inr e)) = ap (go_on f st x) e

  -- where it stops nothing more is written
  pub stops : (f : ℕ) (st x : List ℕ) → Stop (stepped s Z st x true) → R f st x ≡ []
  unfolding recorded_from
  stops zero st x h = refl
  stops (suc f) st x h = one f st x ∙ stop_on f st x (stepped s Z st x true) h ∙ stops f st x h

  -- the end is told, so no more octets are wanted
  pub data Ways (d : Stepped) : Type 0 where
    stop : Stop d → Ways d
    goes : (p : List ℕ) (c : Came) → d ≡ came p c → Ways d

  ways_by : (st : List ℕ) (f : Found) → Ways (step_by s Z st true f)
  ways_by st nothing = stop (inl refl)
  ways_by st other = stop (inr (inl refl))
  ways_by st cut = stop (inr (inr refl))
  ways_by st (whole p) = goes p (came_of s Z st p) refl

  pub ways : (st x : List ℕ) → Ways (stepped s Z st x true)
  unfolding stepped
  ways st x = ways_by st (found_in x)

  pub nothing_ends : (st : List ℕ) → stepped s Z st [] true ≡ ended
  unfolding stepped found_in
  nothing_ends st = refl

  -- no more steps than octets
  fuel : (f : ℕ) (st x : List ℕ) → length x ≤ f → R f st x ≡ R (suc f) st x
  unfolding recorded_from
  fuel zero st x h =
      let e : x ≡ [] = empty x (omega arith) in
      sym (stops 1 st x (inl (ap (λ (y : List ℕ). stepped s Z st y true) e ∙ nothing_ends st)))
  fuel (suc f) st x h = go (ways st x) (λ y z l. fuel f y z l)
    where
      go :
          Ways (stepped s Z st x true) → ((y z : List ℕ) → length z ≤ f → R f y z ≡ R (suc f) y z) → R (suc f) st x ≡ R (suc (suc f)) st x
      go (stop d) ih = stops (suc f) st x d ∙ sym (stops (suc (suc f)) st x d)
      go (goes p c d) ih =
          one f st x ∙ ap (go_on f st x) d
          ∙ ap (λ (r : List ℕ). wrote p c ++ r)
          (ih (store_behind s Z st (came p c)) (drop (2 + length p) x) (omega (arith, length-drop (2 + length p) x)))
          ∙ sym (one (suc f) st x ∙ ap (go_on (suc f) st x) d)

  -- ---- handed over in pieces

  -- an outcome is right for the rest x of a recording: if it came to a stop, what it has written is what the rest comes to
  abbrev Right : List ℕ → List ℕ → Outcome → Type 0
  Right st x r = r.stopped ≡ true → (f : ℕ) → length x ≤ f → r.output ≡ R f st x

  hand_by :
      (st x : List ℕ) (d : Stepped) (r : Outcome) → (d ≡ wanting) ⊎ (d ≡ stepped s Z st x true) →
      Right (store_behind s Z st d) (drop (used_by d) x) r → Right st x (onward d r)
  hand_by st x wanting r w ih t f l = ih t f l
  hand_by st x ended r (inl w) ih t f l = let z : ◌≡◌ {A = ℕ} 0 1 = cc w in absurd (omega arith)
  hand_by st x ended r (inr w) ih t f l = sym (stops f st x (inl (sym w)))
  hand_by st x unmarked r (inl w) ih t f l = let z : ◌≡◌ {A = ℕ} 0 1 = cc w in absurd (omega arith)
  hand_by st x unmarked r (inr w) ih t f l = sym (stops f st x (inr (inl (sym w))))
  hand_by st x torn r (inl w) ih t f l = let z : ◌≡◌ {A = ℕ} 0 1 = cc w in absurd (omega arith)
  hand_by st x torn r (inr w) ih t f l = sym (stops f st x (inr (inr (sym w))))
  hand_by st x (came p c) r (inl w) ih t f l = let z : ◌≡◌ {A = ℕ} 0 1 = cc w in absurd (omega arith)
  hand_by st x (came p c) r (inr w) ih t f l =
      ap (λ (y : List ℕ). wrote p c ++ y) (ih t f (omega (arith, length-drop (2 + length p) x)))
      ∙ ap (go_on f st x) w
      ∙ sym (one f st x)
      ∙ sym (fuel f st x l)

  pieces_from : (hs : List Hand) (st x : List ℕ) → Right st x (handed s Z st x hs)
  unfolding handed
  pieces_from [] st x t f l = let z : ◌≡◌ {A = ℕ} 0 1 = cc t in absurd (omega arith)
  pieces_from (h ∷ hs) st x t f l =
      let d = stepped s Z st (in_hand h x) (ends_with h x) in
      let y = store_behind s Z st d in
      let z = drop (used_by d) x in
      hand_by st x d (handed s Z y z hs) (step_hand s Z st h x) (λ u g k. pieces_from hs y z u g k) t f l

-- G-4
pub pieces :
    (s : Settings) (x : List ℕ) (hs : List Hand) → (handed s cell_size empty_store x hs).stopped ≡ true →
    (handed s cell_size empty_store x hs).output ≡ recorded s x
unfolding recorded
pieces s x hs t = pieces_from s cell_size hs empty_store x t (length x) (omega arith)

-- ---- they come to a stop

module _ (s : Settings) (Z : ℕ) where
  -- a hand that shows the end, or a mark and the longest packet
  abbrev pub Full : Hand → Type 0
  Full h = (h.knows ≡ true) × (65544 ≤ h.octets)

  full_goes : (st x : List ℕ) (h : Hand) → Octets x → Full h → stepped s Z st (in_hand h x) (ends_with h x) ≡ wanting → ⊥
  full_goes st x h o w e = go (below_or h.octets (length x))
    where
      go : (h.octets < length x) ⊎ (length x ≤ h.octets) → ⊥
      go (inl l) =
          enough s Z st (in_hand h x) (ends_with h x) (octets_part x 0 h.octets o)
          (omega (arith, length-take-le h.octets x (omega arith), w.1)) e
      go (inr l) =
          let a = (wanting_tells s Z st (in_hand h x) (ends_with h x) e).0 in
          let b : ends_with h x ≡ true = rw w.0 (le-leb (length x) h.octets l) in
          let z : ◌≡◌ {A = ℕ} 0 1 = cc in
          omega arith

  stops_by :
      (x : List ℕ) (d : Stepped) (r : Outcome) → (d ≡ wanting → ⊥) → ((p : List ℕ) (c : Came) → d ≡ came p c → r.stopped ≡ true) →
      (onward d r).stopped ≡ true
  stops_by x wanting r n k = absurd (n refl)
  stops_by x ended r n k = refl
  stops_by x unmarked r n k = refl
  stops_by x torn r n k = refl
  stops_by x (came p c) r n k = k p c refl

  octets_drop : (x : List ℕ) (n : ℕ) → Octets x → Octets (drop n x)
  octets_drop x n o i = rw (get_or-drop n x i 0) (o (n + i))

  came_some : (st x : List ℕ) (h : Hand) (p : List ℕ) (c : Came) → stepped s Z st (in_hand h x) (ends_with h x) ≡ came p c → 0 < length x
  came_some st x h p c e = go (below_or 0 (length x))
    where
      go : (0 < length x) ⊎ (length x ≤ 0) → 0 < length x
      go (inl l) = l
      go (inr l) = absurd (no (step_hand s Z st h x))
        where
          at_end : stepped s Z st x true ≡ ended
          at_end = ap (λ (y : List ℕ). stepped s Z st y true) (empty x (omega arith)) ∙ nothing_ends s Z st

          no : (stepped s Z st (in_hand h x) (ends_with h x) ≡ wanting) ⊎ (stepped s Z st (in_hand h x) (ends_with h x) ≡ stepped s Z st x true) → ⊥
          no (inl w) = let z : ◌≡◌ {A = ℕ} 0 1 = cc (sym w ∙ e) in omega arith
          no (inr w) = let z : ◌≡◌ {A = ℕ} 0 1 = cc (sym at_end ∙ sym w ∙ e) in omega arith

  -- with full hands, within one step more than there are octets
  pub full_stops :
      (hs : List Hand) (st x : List ℕ) → Octets x → ((h : Hand) → Memᴰ h hs → Full h) → length x < length hs →
      (handed s Z st x hs).stopped ≡ true
  unfolding handed
  full_stops [] st x o a l = absurd (omega arith)
  full_stops (h ∷ hs) st x o a l =
      let d = stepped s Z st (in_hand h x) (ends_with h x) in
      stops_by x d (handed s Z (store_behind s Z st d) (drop (used_by d) x) hs)
      (full_goes st x h o (a h (Memᴰ.head refl)))
      (λ p c e.
      let m = came_some st x h p c e in
      let u : used_by d ≡ 2 + length p = ap used_by e in
      full_stops hs (store_behind s Z st d) (drop (used_by d) x) (octets_drop x (used_by d) o) (λ g k. a g (Memᴰ.tail k))
      (omega (arith, length-drop (used_by d) x)))

-- a recording in full hands, as many as will do: the steps come to a stop, and have written what it comes to
pub pieces_full :
    (s : Settings) (x : List ℕ) (hs : List Hand) → Octets x → ((h : Hand) → Memᴰ h hs → Full s cell_size h) → length x < length hs →
    ((handed s cell_size empty_store x hs).stopped ≡ true) × ((handed s cell_size empty_store x hs).output ≡ recorded s x)
pieces_full s x hs o a l =
    let t = full_stops s cell_size hs empty_store x o a l in
    (t, pieces s x hs t)
