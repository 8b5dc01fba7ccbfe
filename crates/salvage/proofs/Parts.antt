-- A file that comes in parts: what a call over a part in hand lists, and then the list from its stop on, is the list from its start on; and
-- so for the places tested. So calls over parts, one after another, list the file's list, however the parts were taken.
-- Assumes nothing.
use Prim.Native.Nat.{ℕ, zero, suc, ◌+◌, ◌-◌, ◌≤◌, ◌<◌}
use mathlib.Core.Path.{◌≡◌, ap, ap₂, sym, ◌∙◌, subst}
use mathlib.Core.Logic.{⊎_elim}
use mathlib.Core.Bool.{Bool, true, false}
use mathlib.Core.List.{List, [], ◌∷◌, ◌++◌}
use native.Mathlib.Omega.{arith}
use lib.ListN.{length}
use Rattle.octets.specs.Octets.{Octets, pick, part}
use Rattle.octets.proofs.Lists.{below_or, bool}
use Rattle.octets.proofs.Has.{octets_part}
use Rattle.walk.specs.declared.Settings.{Settings}
use Rattle.salvage.specs.Listing.{kept, width_at, kept_entry, Stop, stop, stretch, listed, onward}
use Rattle.salvage.specs.Calling.{Called, ending, calling, is_done}
use Rattle.salvage.specs.Parts.{testable, till_in, around, length_in, call_in}
use Rattle.salvage.proofs.Testing.{kept_has, onward_kept, onward_none}
use Rattle.salvage.proofs.Stepping.{calling_tests, calling_none, calling_over, calling_full}
use Rattle.salvage.proofs.Ending.{ending_on, done_stop}
use Rattle.salvage.proofs.Running.{State, Same, handed_same, ending_same, tested_same}
use Rattle.salvage.proofs.Bounds.{ending_keeps}
use Rattle.salvage.proofs.Windows.{window_long, Alike, alike}
use Rattle.salvage.proofs.Around.{testable_most, around_long, long_ends, long_more, alike_around}

-- a place that is kept alike in two files, and as wide, is listed alike and leads to the same
module _ (s : Settings) (x v : List ℕ) (w : Stop) (k : kept s v w.place ≡ kept s x w.place) (n : width_at v w.place ≡ width_at x w.place) where
  same_listed : listed s v w ≡ listed s x w
  unfolding listed
  same_listed = ap₂ (λ (b : Bool) (i : ℕ). pick b (stretch w ++ (kept_entry w.place i ∷ [])) []) k n

  same_onward : onward s v w ≡ onward s x w
  unfolding onward
  same_onward =
      ap₂ (λ (b : Bool) (i : ℕ). pick b (stop (w.place + i) (w.place + i)) (stop w.begin (w.place + 1))) k n

module _ (s : Settings) (x : List ℕ) (o : Octets x) (off n : ℕ) (h : off + n ≤ length x) (ends : Bool) (e : ends ≡ true → off + n ≡ length x) where
  abbrev pub in_hand : List ℕ
  in_hand = part x off n

  abbrev file : List ℕ
  file = around off ends in_hand

  long : length in_hand ≡ n
  long = window_long s x off n h

  abbrev till : ℕ
  till = till_in off ends (length in_hand)

  till_top : till ≤ off + n
  till_top = omega (arith, testable_most ends (length in_hand), long)

  in_part : Alike s x in_hand off (testable ends (length in_hand))
  in_part = subst (λ (m : ℕ). Alike s x in_hand off (testable ends m)) (sym long) (alike s x off n h o ends e)

  module _ (k : ℕ) (l : off ≤ k) (m : k < till) where
    from_off : off + (k - off) ≡ k
    from_off = omega arith

    same_kept : kept s file k ≡ kept s x k
    same_kept =
        ap (kept s file) (sym from_off)
        ∙ sym ((alike_around off ends in_hand s (octets_part x off n o)).tests (k - off) (omega arith))
        ∙ in_part.tests (k - off) (omega arith)
        ∙ ap (kept s x) from_off

    same_width : width_at file k ≡ width_at x k
    same_width =
        ap (width_at file) (sym from_off)
        ∙ sym ((alike_around off ends in_hand s (octets_part x off n o)).widths (k - off) (omega arith))
        ∙ in_part.widths (k - off) (omega arith)
        ∙ ap (width_at x) from_off

    -- a kept place lies in the part
    kept_within : kept s x k ≡ true → k + width_at x k ≤ off + n
    kept_within z =
        let t = in_part.tests (k - off) (omega arith) ∙ ap (kept s x) from_off ∙ z in
        omega (arith, (kept_has s in_hand (k - off) t).inside, in_part.widths (k - off) (omega arith) ∙ ap (width_at x) from_off, long)

  -- a state with its place in the part
  pub record Within (w : Stop) : Type 0 where
    pub order : w.begin ≤ w.place
    pub low : off ≤ w.place
    pub top : w.place ≤ off + n

  state : {w : Stop} → Within w → State x w
  state i = record { order = i.order; inside = omega (arith, i.top) }

  -- what a call comes to: nothing is missing or listed twice, it stops in the part, and not before its start
  pub record Fair (w : Stop) (c : Called) : Type 0 where
    pub same : Same s x w c
    pub within : Within c.stop
    pub on : w.place ≤ c.stop.place

  -- its end. If the file does not end with the part, none does
  file_long : length file ≡ length_in off ends n
  file_long = around_long off ends in_hand ∙ ap (length_in off ends) long

  ends_there : (w : Stop) → Within w → length file ≤ w.place → length file ≡ length x
  ends_there w i p =
      ⊎_elim
      (λ (t : ends ≡ true). file_long ∙ ap (λ (b : Bool). length_in off b n) t ∙ long_ends off n ∙ e t)
      (λ (t : ends ≡ false). absurd (omega (arith, file_long ∙ ap (λ (b : Bool). length_in off b n) t ∙ long_more off n, i.top)))
      (bool ends)

  end_same : (free : ℕ) (w : Stop) → Within w → Same s x w (ending (length file) free w)
  end_same free w i =
      ⊎_elim
      (λ (p : w.place < length file).
      rw (ending_on (length file) free w.begin w.place (λ (z : w.place ≡ length file). omega arith)) (handed_same s x w (state i)))
      (λ (p : length file ≤ w.place).
      subst (λ (m : ℕ). Same s x w (ending m free w)) (sym (ends_there w i p)) (ending_same s x free w (state i)))
      (below_or w.place (length file))

  end_fair : (free : ℕ) (w : Stop) → Within w → Fair w (ending (length file) free w)
  end_fair free w i =
      let q = end_same free w i in
      let p = (ending_keeps s x (length file) free w).1 in
      record {
        same = q;
        within = record { order = q.state.order; low = omega (arith, p, i.low); top = omega (arith, p, i.top) };
        on = omega (arith, p);
      }

  next_within : (w : Stop) → Within w → w.place < till → Within (onward s x w)
  next_within w i p =
      ⊎_elim
      (λ k. rw (onward_kept s x w.begin w.place k)
      (record { order = omega arith; low = omega (arith, i.low); top = kept_within w.place i.low p k }))
      (λ k. rw (onward_none s x w.begin w.place k)
      (record { order = omega (arith, i.order); low = omega (arith, i.low); top = omega (arith, till_top) }))
      (bool (kept s x w.place))

  next_on : (w : Stop) → w.place < (onward s x w).place
  next_on w =
      ⊎_elim
      (λ k. rw (onward_kept s x w.begin w.place k) (omega arith))
      (λ k. rw (onward_none s x w.begin w.place k) (omega arith))
      (bool (kept s x w.place))

  -- a place tested over the part is one tested over the file
  tests_fair :
      (g free : ℕ) (w : Stop) → Within w → w.place < till → 2 ≤ free →
      ((f : ℕ) → Fair (onward s x w) (calling s file till g f (onward s x w))) →
      Fair w (calling s file till (suc g) free w) × (w.place < (calling s file till (suc g) free w).stop.place)
  tests_fair g free w i p q r =
      let k = same_kept w.place i.low p in
      let m = same_width w.place i.low p in
      let c = r (free - length (listed s x w)) in
      rw (calling_tests s file till g free w p q, same_listed s x file w k m, same_onward s x file w k m) (
        record {
          same = tested_same s x w _ (state i) (omega (arith, till_top)) c.same;
          within = c.within;
          on = omega (arith, next_on w, c.on);
        },
        omega (arith, next_on w, c.on),
      )

  pub call_fair : (g free : ℕ) (w : Stop) → Within w → Fair w (call_in s in_hand off ends w g free)
  call_fair zero free w i = rw (calling_none s file till free w) (end_fair free w i)
  call_fair (suc g) free w i =
      ⊎_elim
      (λ (p : w.place < till). ⊎_elim
      (λ (q : free < 2). rw (calling_full s file till (suc g) free w q) (end_fair free w i))
      (λ (q : 2 ≤ free). (tests_fair g free w i p q (λ f. call_fair g f (onward s x w) (next_within w i p))).0)
      (below_or free 2))
      (λ (p : till ≤ w.place). rw (calling_over s file till (suc g) free w p) (end_fair free w i))
      (below_or w.place till)

  -- it gets on if a place can be tested in the part, the grant is not 0, and two entries are free
  pub call_on :
      (g free : ℕ) (w : Stop) → Within w → w.place < till → 1 ≤ g → 2 ≤ free → w.place < (call_in s in_hand off ends w g free).stop.place
  call_on zero free w i p l q = absurd (omega arith)
  call_on (suc g) free w i p l q = (tests_fair g free w i p q (λ f. call_fair g f (onward s x w) (next_within w i p))).1

  -- it is done only at the file's end
  pub done_there : (v : Stop) → Within v → is_done (length_in off ends (length in_hand)) v ≡ true → v ≡ stop (length x) (length x)
  done_there v i d =
      let q = done_stop (length_in off ends (length in_hand)) v d in
      let m : length file ≡ v.place = around_long off ends in_hand ∙ sym (ap (λ (u : Stop). u.place) q) in
      let z = ends_there v i (omega (arith, m)) in
      q ∙ ap (λ (k : ℕ). stop k k) (sym (around_long off ends in_hand) ∙ z)
