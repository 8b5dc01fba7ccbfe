-- All steps over a recording in hand: what the octets, the store and the output come to, step by step, and that the steps stop where
-- the definition says, with all of it written.
-- Assumes nothing.
use Prim.Native.Nat.{ℕ, zero, suc, ◌+◌, ◌-◌, ◌*◌, ◌≤◌, ◌<◌}
use mathlib.Core.Path.{◌≡◌, refl, ap, ap₂, sym, subst, ◌∙◌}
use mathlib.Core.Logic.{inl, inr}
use mathlib.Core.Bool.{true}
use mathlib.Core.List.{List, [], ◌++◌, append-nil, append_assoc}
use native.Mathlib.Omega.{arith}
use lib.ListN.{length, take, drop, length-append, length-drop, replicate, length-replicate}
use lib.Seq.{sets, length-sets, take_all, drop-drop}
use borrow.Author.Tests.{ne_eqb}
use Rattle.octets.specs.Octets.{Octets}
use Rattle.octets.proofs.Lists.{sets_append}
use Rattle.octets.proofs.Has.{octets_drop}
use Rattle.walk.specs.declared.Settings.{Settings}
use Rattle.cells.specs.Rows.{zero_row}
use Rattle.cells.specs.Order.{count_in, cell_size, gate}
use Rattle.walk.specs.Walk.{refusal, begun}
use Rattle.steps.specs.Answer.{Done}
use Rattle.recording.specs.Answer.{Why}
use Rattle.recording.specs.Answer.{refuses}
use Rattle.steps.specs.Stepping.{Found, nothing, other, cut, whole, found_in, Stepped, step_by, stepped, store_behind, used_by, written_by}
use Rattle.recording.specs.Recording.{recorded_from, recorded, settings, cell_count, empty_store}
use Rattle.steps.specs.Told.{done_of}
use Rattle.recording.specs.Ending.{past, reach_from, reach, why_at, why_of, refused_by, recorded_of, out_recorded}
use Rattle.steps.proofs.Steps.{used_most, done_used, done_written}
use Rattle.steps.proofs.Kept.{step_gate, step_octets, step_count}
use Rattle.recording.proofs.Beginning.{begin_octets, begin_gate, begin_count}
use Rattle.recording.proofs.Pieces.{one, Stop, stops, Ways, stop, goes, ways}
use Rattle.recording.proofs.Shorter.{recorded_most}

-- ---- one step

module _ (s : Settings) (Z : ℕ) (st w : List ℕ) where
  abbrev g : Stepped
  g = stepped s Z st w true

  past_by : (f : Found) → past f ≡ used_by (step_by s Z st true f)
  past_by nothing = refl
  past_by other = refl
  past_by cut = refl
  past_by (whole p) = refl

  past_used : past (found_in w) ≡ used_by g
  unfolding stepped
  past_used = past_by (found_in w)

  stop_silent : Stop s Z g → written_by g ≡ []
  stop_silent (inl e) = ap written_by e
  stop_silent (inr (inl e)) = ap written_by e
  stop_silent (inr (inr e)) = ap written_by e

  unused_by : used_by g ≡ 0 → Ways s Z g → Stop s Z g
  unused_by e (stop h) = h
  unused_by e (goes p c d) = absurd (omega (arith, ap used_by d))

  -- a step that uses up no octet is the last
  unused_stops : used_by g ≡ 0 → Stop s Z g
  unused_stops e = unused_by e (ways s Z st w)

-- ---- the place reached

reach_one : (f : ℕ) (x : List ℕ) → reach_from (suc f) x ≡ past (found_in x) + reach_from f (drop (past (found_in x)) x)
unfolding reach_from
reach_one f x = refl

reach_none : (x : List ℕ) → reach_from 0 x ≡ 0
unfolding reach_from
reach_none x = refl

reach_stops : (f : ℕ) (x : List ℕ) → past (found_in x) ≡ 0 → reach_from f x ≡ 0
reach_stops zero x e = reach_none x
reach_stops (suc f) x e =
    let a = ap (λ (n : ℕ). n + reach_from f (drop n x)) e in
    omega (arith, reach_one f x, a, reach_stops f x e)

reach_within : (f : ℕ) (x : List ℕ) → reach_from f x ≤ length x
reach_within zero x = omega (arith, reach_none x)
reach_within (suc f) x =
    let n = past (found_in x) in
    omega (
      arith,
      reach_one f x,
      reach_within f (drop n x),
      length-drop n x,
      past_used settings cell_size [] x,
      used_most settings cell_size [] x true,
    )

pub reach_most : (x : List ℕ) → reach x ≤ length x
unfolding reach
reach_most x = reach_within (length x) x

-- ---- all steps

-- what holds between two steps: so much is done, and the rest comes to the rest of what the recording comes to
pub record Going (s : Settings) (x out₀ : List ℕ) (Z : ℕ) (st out : List ℕ) (place written : ℕ) : Type 0 where
  pub plain : Octets x
  pub wide : length x ≤ length out₀
  pub within : place ≤ length x
  pub stored : Octets st
  pub order : gate s Z st ≡ 0
  pub count : cell_count ≡ count_in Z st
  pub done : List ℕ
  pub output : out ≡ sets out₀ 0 done
  pub long : length done ≡ written
  pub fuel : ℕ
  pub enough : length (drop place x) ≤ fuel
  pub rest : done ++ recorded_from s Z fuel st (drop place x) ≡ recorded s x
  pub reached : place + reach_from fuel (drop place x) ≡ reach x

pub going_first :
    (s : Settings) (x out₀ : List ℕ) → (begun s).refused ≡ 0 → {zero st : List ℕ} → zero ≡ zero_row cell_size → st ≡ empty_store → Octets x → length x ≤ length out₀ →
    Going s x out₀ (length zero) st out₀ 0 0
unfolding recorded reach
going_first s x out₀ g {zero} {st} ez es o h =
    let e : length zero ≡ cell_size = ap length ez ∙ length-replicate {A = ℕ} cell_size 0 in
    record {
      plain = o;
      wide = h;
      within = omega arith;
      stored = subst Octets (sym es) begin_octets;
      order = ap₂ (λ (Z : ℕ) (y : List ℕ). gate s Z y) e es ∙ begin_gate s g;
      count = begin_count ∙ sym (ap₂ (λ (Z : ℕ) (y : List ℕ). count_in Z y) e es);
      done = [];
      output = refl;
      long = refl;
      fuel = length x;
      enough = omega arith;
      rest = ap₂ (λ (Z : ℕ) (y : List ℕ). recorded_from s Z (length x) y x) e es;
      reached = omega arith;
    }

-- the zero cell, by its own length
pub zero_own : {zero : List ℕ} → zero ≡ zero_row cell_size → zero ≡ zero_row (length zero)
zero_own {zero} e = e ∙ ap zero_row (sym (ap length e ∙ length-replicate {A = ℕ} cell_size 0))

-- the rest of a recording, as it is lent
pub rest_lent : (x : List ℕ) (place : ℕ) → take (length x - place) (drop place x) ≡ drop place x
rest_lent x place = take_all (length x - place) (drop place x) (omega (arith, length-drop place x))

module _ {s : Settings} {x out₀ : List ℕ} {Z : ℕ} {st out : List ℕ} {place written : ℕ} (inv : Going s x out₀ Z st out place written) where
  abbrev y : List ℕ
  y = drop place x

  rest_octets_lem : Octets y
  rest_octets_lem = octets_drop place x inv.plain

  pub going_long : length out ≡ length out₀
  going_long = ap length inv.output ∙ length-sets out₀ 0 inv.done

  -- what is written so far fits the output
  pub going_room : written ≤ length out
  going_room =
      omega (
        arith,
        going_long,
        inv.wide,
        inv.long,
        recorded_most s x inv.plain,
        ap length inv.rest,
        length-append inv.done (recorded_from s Z inv.fuel st y),
      )

  module _ {w : List ℕ} (ew : w ≡ y) {d : Done} {st' out' : List ℕ} (ed : d ≡ done_of (stepped s Z st w true))
      (es : st' ≡ store_behind s Z st (stepped s Z st w true)) (eo : out' ≡ sets out written (written_by (stepped s Z st w true))) where
    abbrev h : Stepped
    h = stepped s Z st y true

    used_is : d.used ≡ used_by h
    used_is =
        ap (λ (r : Done). r.used) ed ∙ done_used s Z st w true (stepped s Z st w true) ∙ ap (λ (v : List ℕ). used_by (stepped s Z st v true)) ew

    written_is : d.written ≡ length (written_by h)
    written_is =
        ap (λ (r : Done). r.written) ed
        ∙ done_written s Z st w true (stepped s Z st w true)
        ∙ ap (λ (v : List ℕ). length (written_by (stepped s Z st v true))) ew

    store_is : st' ≡ store_behind s Z st h
    store_is = es ∙ ap (λ (v : List ℕ). store_behind s Z st (stepped s Z st v true)) ew

    output_is : out' ≡ sets out written (written_by h)
    output_is = eo ∙ ap (λ (v : List ℕ). sets out written (written_by (stepped s Z st v true))) ew

    used_within : d.used ≤ length y
    used_within = omega (arith, used_is, used_most s Z st y true)

    more_by :
        (f : ℕ) → length y ≤ f → inv.done ++ recorded_from s Z f st y ≡ recorded s x → place + reach_from f y ≡ reach x → 0 < d.used →
        Going s x out₀ Z st' out' (place + d.used) (written + d.written)
    more_by zero e r q u = absurd (omega (arith, used_within))
    more_by (suc f) e r q u =
        let k : drop (used_by h) y ≡ drop (place + d.used) x =
        drop-drop (used_by h) place x ∙ ap (λ (n : ℕ). drop (place + n) x) (sym used_is) in
        let t : recorded_from s Z f (store_behind s Z st h) (drop (used_by h) y) ≡ recorded_from s Z f st' (drop (place + d.used) x) =
        ap₂ (λ (a b : List ℕ). recorded_from s Z f a b) (sym store_is) k in
        let v : reach_from f (drop (past (found_in y)) y) ≡ reach_from f (drop (place + d.used) x) =
        ap (λ (n : ℕ). reach_from f (drop n y)) (past_used s Z st y) ∙ ap (reach_from f) k in
        let n : written ≡ 0 + length inv.done = omega (arith, inv.long) in
        record {
          plain = inv.plain;
          wide = inv.wide;
          within = omega (arith, used_within, length-drop place x, inv.within);
          stored = subst Octets (sym store_is) (step_octets s Z st inv.stored y true rest_octets_lem);
          order = ap (λ (a : List ℕ). gate s Z a) store_is ∙ step_gate s Z st inv.stored y true rest_octets_lem inv.order;
          count = step_count s Z st h inv.count ∙ ap (λ (a : List ℕ). count_in Z a) (sym store_is);
          done = inv.done ++ written_by h;
          output =
              output_is
              ∙ ap₂ (λ (l : List ℕ) (n : ℕ). sets l n (written_by h)) inv.output n
              ∙ sets_append out₀ 0 inv.done (written_by h);
          long = omega (arith, length-append inv.done (written_by h), inv.long, written_is);
          fuel = f;
          enough = omega (arith, ap length k, length-drop (used_by h) y, used_is, used_within);
          rest =
              append_assoc inv.done (written_by h) (recorded_from s Z f st' (drop (place + d.used) x))
              ∙ ap (λ (l : List ℕ). inv.done ++ (written_by h ++ l)) (sym t)
              ∙ ap (λ (l : List ℕ). inv.done ++ l) (sym (one s Z f st y))
              ∙ r;
          reached = omega (arith, q, reach_one f y, v, past_used s Z st y, used_is);
        }

    -- a step that goes on
    pub going_more : (d.used ≡ 0 → ⊥) → Going s x out₀ Z st' out' (place + d.used) (written + d.written)
    going_more u = more_by inv.fuel inv.enough inv.rest inv.reached (omega arith)

    -- the last step
    pub going_done :
        d.used ≡ 0 →
        (place ≡ reach x) × ((past (found_in y) ≡ 0) × ((written ≡ length (recorded s x)) × (out' ≡ sets out₀ 0 (recorded s x))))
    going_done u =
        let n : used_by h ≡ 0 = sym used_is ∙ u in
        let a = unused_stops s Z st y n in
        let b : inv.done ≡ recorded s x =
        sym (append-nil inv.done) ∙ ap (λ (l : List ℕ). inv.done ++ l) (sym (stops s Z inv.fuel st y a)) ∙ inv.rest in
        let r = reach_stops inv.fuel y (past_used s Z st y ∙ n) in (
          omega (arith, inv.reached),
          (
            past_used s Z st y ∙ n,
            (
              sym inv.long ∙ ap length b,
              output_is ∙ ap (sets out written) (stop_silent s Z st y a) ∙ inv.output ∙ ap (sets out₀ 0) b,
            ),
          ),
        )

-- ---- the buffers that it begins with

pub store_begins : {l : List ℕ} → l ≡ replicate 32768 0 → l ≡ empty_store
store_begins e = let k : 32768 ≡ cell_count * cell_size = omega arith in e ∙ ap (λ (n : ℕ). replicate n 0) k

-- ---- what is told

module _ (s : Settings) (x out : List ℕ) {k : ℕ} (e : k ≡ refused_by s (length x) (length out)) where
  -- refused: the number, and the output as it was
  module _ (h : k ≡ 0 → ⊥) where
    pub told_refused : refuses (refusal k) ≡ recorded_of s (length out) x
    unfolding recorded_of
    told_refused = rw (sym e, ne_eqb k 0 h) refl

    pub out_refused : out ≡ out_recorded s out x
    unfolding out_recorded
    out_refused = rw (sym e, ne_eqb k 0 h) refl

  module _ (h : k ≡ 0) where
    pub out_all : {l : List ℕ} → l ≡ sets out 0 (recorded s x) → l ≡ out_recorded s out x
    unfolding out_recorded
    out_all f = rw (sym e, h) f

    pub told_all :
        {r : List ℕ} {w : Why} {n m : ℕ} → n ≡ reach x → m ≡ length (recorded s x) → r ≡ take (length x - n) (drop n x) →
        w ≡ why_at (found_in r) → record { refusal = refusal 0; why = w; place = n; written = m } ≡ recorded_of s (length out) x
    unfolding recorded_of
    told_all {r} {w} {n} {m} en em er ew =
        let a : r ≡ drop (reach x) x =
        er ∙ take_all (length x - n) (drop n x) (omega (arith, length-drop n x)) ∙ ap (λ (k : ℕ). drop k x) en in
        let b : w ≡ why_of x = ew ∙ ap (λ (k : List ℕ). why_at (found_in k)) a in
        rw (sym e, h) (rw (b, en, em) refl)
