-- Stopping and resuming: what calls list one after another, with any grants and any free entries, and then the list from their stop on, is
-- the list from their start on; and so for the places tested.
-- Assumes nothing.
use Prim.Native.Nat.{ℕ, zero, suc, ◌+◌, ◌-◌, ◌≤◌, ◌<◌}
use mathlib.Core.Path.{◌≡◌, refl, ap, sym, ◌∙◌}
use mathlib.Core.Logic.{⊎_elim}
use mathlib.Core.List.{List, [], ◌∷◌, ◌++◌, append-nil, append_assoc}
use native.Mathlib.Omega.{arith}
use lib.ListN.{length}
use Rattle.octets.proofs.Lists.{below_or}
use Rattle.walk.specs.declared.Settings.{Settings}
use Rattle.salvage.specs.Listing.{Entry, skipped_entry, Stop, stop, listed, onward, list_at, tests_at, list_of, tests_of}
use Rattle.salvage.specs.Calling.{Called, ahead, ending, calling, call_of}
use Rattle.salvage.specs.Running.{Given, running}
use Rattle.salvage.proofs.Numbering.{stretch_open, stretch_none}
use Rattle.salvage.proofs.Stepping.{calling_tests, calling_none, calling_over, calling_full}
use Rattle.salvage.proofs.Ending.{handed, closed, ending_on, ending_empty, ending_full, ending_open}
use Rattle.salvage.proofs.Resuming.{list_end, tests_end, list_next, tests_next, leads}

-- a state that a call may be given
pub record State (x : List ℕ) (w : Stop) : Type 0 where
  pub order : w.begin ≤ w.place
  pub inside : w.place ≤ length x

-- what was listed and tested is what is missing from the stop on; and the stop is a state
pub record Same (s : Settings) (x : List ℕ) (w : Stop) (c : Called) : Type 0 where
  pub list : c.entries ++ list_at s x c.stop ≡ list_at s x w
  pub tests : c.tested + tests_at s x c.stop ≡ tests_at s x w
  pub state : State x c.stop

module _ (s : Settings) (x : List ℕ) where
  pub handed_same : (w : Stop) → State x w → Same s x w (handed w)
  handed_same w i = record { list = refl; tests = omega arith; state = i }

  closed_same : (b at : ℕ) → b < at → at ≡ length x → Same s x (stop b at) (closed b at)
  closed_same b at h e =
      let n = list_end s x (length x - at) (stop at at) (omega arith) ∙ stretch_none at at (omega arith) in
      let m = list_end s x (length x - at) (stop b at) (omega arith) ∙ stretch_open b at h in
      record {
        list = ap (λ (r : List Entry). skipped_entry b at ∷ r) n ∙ sym m;
        tests = omega (arith, tests_end s x (length x - at) (stop at at) (omega arith), tests_end s x (length x - at) (stop b at) (omega arith));
        state = record { order = omega arith; inside = omega arith };
      }

  pub ending_same : (free : ℕ) (w : Stop) → State x w → Same s x w (ending (length x) free w)
  ending_same free w i =
      let b = w.begin in
      let at = w.place in
      ⊎_elim
      (λ (p : w.place < length x). rw (ending_on (length x) free b at (λ (z : w.place ≡ length x). omega arith)) (handed_same w i))
      (λ (p : length x ≤ w.place). ⊎_elim
      (λ (q : w.begin < w.place). ⊎_elim
      (λ (r : 0 < free). rw (ending_open (length x) free b at (omega (arith, i.inside)) q r) (closed_same b at q (omega (arith, i.inside))))
      (λ (r : free ≤ 0). rw (ending_full (length x) free b at q (omega arith)) (handed_same w i))
      (below_or 0 free))
      (λ (q : w.place ≤ w.begin). rw (ending_empty (length x) free b at (omega (arith, i.order))) (handed_same w i))
      (below_or b at))
      (below_or at (length x))

  pub tested_same : (w : Stop) (c : Called) → State x w → w.place < length x → Same s x (onward s x w) c → Same s x w (ahead 1 (listed s x w) c)
  tested_same w c i h k =
      record {
        list =
            append_assoc (listed s x w) c.entries (list_at s x c.stop)
            ∙ ap (λ (r : List Entry). listed s x w ++ r) k.list
            ∙ sym (list_next s x w i.order h);
        tests = omega (arith, k.tests, tests_next s x w i.order h);
        state = k.state;
      }

  -- one call, that tests no place from `till` on
  pub till_same : (till g free : ℕ) (w : Stop) → till ≤ length x → State x w → Same s x w (calling s x till g free w)
  till_same till zero free w t i = rw (calling_none s x till free w) (ending_same free w i)
  till_same till (suc g) free w t i =
      ⊎_elim
      (λ (p : w.place < till). ⊎_elim
      (λ (q : free < 2). rw (calling_full s x till (suc g) free w q) (ending_same free w i))
      (λ (q : 2 ≤ free).
      let l = leads s x w i.order (omega arith) in
      rw (calling_tests s x till g free w p q)
      (tested_same w _ i (omega arith)
      (till_same till g (free - length (listed s x w)) (onward s x w) t (record { order = l.order; inside = l.inside }))))
      (below_or free 2))
      (λ (p : till ≤ w.place). rw (calling_over s x till (suc g) free w p) (ending_same free w i))
      (below_or w.place till)

  pub call_same : (g free : ℕ) (w : Stop) → State x w → Same s x w (call_of s x w g free)
  call_same g free w i = till_same (length x) g free w (omega arith) i

  -- any calls
  pub run_same : (more : List Given) (w : Stop) → State x w → Same s x w (running s x more w)
  unfolding running
  run_same [] w i = record { list = refl; tests = omega arith; state = i }
  run_same (a ∷ more) w i =
      let k = call_same a.grant a.free w i in
      let c = call_of s x w a.grant a.free in
      let r = running s x more c.stop in
      let j = run_same more c.stop k.state in
      record {
        list =
            append_assoc c.entries r.entries (list_at s x r.stop)
            ∙ ap (λ (q : List Entry). c.entries ++ q) j.list
            ∙ k.list;
        tests = omega (arith, k.tests, j.tests);
        state = j.state;
      }

  -- a run from the file's beginning that is done lists the file's list, and tests the places of one long run
  pub resumed :
      (more : List Given) → (running s x more (stop 0 0)).stop ≡ stop (length x) (length x) →
      ((running s x more (stop 0 0)).entries ≡ list_of s x) × ((running s x more (stop 0 0)).tested ≡ tests_of s x)
  resumed more e =
      let r = running s x more (stop 0 0) in
      let n = length x in
      let k = run_same more (stop 0 0) (record { order = omega arith; inside = omega arith }) in
      let l : list_at s x r.stop ≡ [] =
      ap (list_at s x) e ∙ list_end s x (n - n) (stop n n) (omega arith) ∙ stretch_none n n (omega arith) in
      let t : tests_at s x r.stop ≡ 0 = ap (tests_at s x) e ∙ tests_end s x (n - n) (stop n n) (omega arith) in (
        sym (append-nil r.entries) ∙ ap (λ (q : List Entry). r.entries ++ q) (sym l) ∙ k.list,
        omega (arith, k.tests),
      )
