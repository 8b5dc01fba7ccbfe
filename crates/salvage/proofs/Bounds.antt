-- A call tests no more places than it was granted and lists no more entries than are free; and one with enough of both lists the rest of the
-- file.
-- Assumes nothing.
use Prim.Native.Nat.{ℕ, zero, suc, ◌+◌, ◌-◌, ◌≤◌, ◌<◌}
use mathlib.Core.Path.{◌≡◌, refl, ap, sym, ◌∙◌}
use mathlib.Core.Logic.{◌⊎◌, inl, inr, ⊎_elim}
use mathlib.Core.Bool.{Bool, true, false}
use mathlib.Core.List.{List, [], ◌∷◌}
use native.Mathlib.Omega.{arith}
use lib.ListN.{length, length-append}
use lib.Dec.{eqb, leb}
use borrow.Author.Tests.{leb-true}
use Rattle.octets.specs.Octets.{pick}
use Rattle.octets.proofs.Lists.{below_or, bool}
use Rattle.walk.specs.declared.Settings.{Settings}
use Rattle.format.proofs.Refusals.{picked}
use Rattle.salvage.specs.Listing.{kept, width_at, kept_entry, Entry, Stop, stop, stretch, listed, onward, list_from, list_at, tests_at}
use Rattle.salvage.specs.Calling.{Called, ending, calling, call_of}
use Rattle.salvage.proofs.Numbering.{stretch_most, stretch_open}
use Rattle.salvage.proofs.Testing.{listed_kept, listed_none, onward_none}
use Rattle.salvage.proofs.Stepping.{calling_tests, calling_none, calling_over, calling_full}
use Rattle.salvage.proofs.Ending.{ending_empty, ending_full, ending_open}
use Rattle.salvage.proofs.Resuming.{leads, list_more, list_end, list_next, tests_next}
use Rattle.salvage.proofs.Running.{State}

pub record Bounded (g free : ℕ) (c : Called) : Type 0 where
  pub granted : c.tested ≤ g
  pub room : length c.entries ≤ free

module _ (s : Settings) (x : List ℕ) where
  pub listed_most : (w : Stop) → length (listed s x w) ≤ 2
  listed_most w =
      let e = kept_entry w.place (width_at x w.place) ∷ [] in
      ⊎_elim
      (λ k. omega (arith, stretch_most w, ap length (listed_kept s x w.begin w.place k), length-append (stretch w) e))
      (λ k. omega (arith, ap (length {A = Entry}) (listed_none s x w.begin w.place k)))
      (bool (kept s x w.place))

  -- either is bounded, or the test does not hold
  if_bounded : (g free : ℕ) (q : Bool) (c d : Called) → (q ≡ true → Bounded g free c) → Bounded g free d → Bounded g free (pick q c d)
  if_bounded g free true c d h k = h refl
  if_bounded g free false c d h k = k

  both_hold : (a b : Bool) → pick a b false ≡ true → b ≡ true
  both_hold true b e = e
  both_hold false b e = let z : ◌≡◌ {A = ℕ} 0 1 = cc in absurd (omega arith)

  ending_bounded : (n g free : ℕ) (w : Stop) → Bounded g free (ending n free w)
  unfolding ending
  ending_bounded n g free w =
      let fits = leb (length (stretch w)) free in
      if_bounded g free (pick (eqb w.place n) fits false) (record { tested = 0; entries = stretch w; stop = stop w.place w.place })
      (record { tested = 0; entries = []; stop = w })
      (λ h. record { granted = omega arith; room = leb-true _ _ (both_hold (eqb w.place n) fits h) })
      (record { granted = omega arith; room = omega arith })

  pub call_bounded : (till g free : ℕ) (w : Stop) → Bounded g free (calling s x till g free w)
  call_bounded till zero free w = rw (calling_none s x till free w) (ending_bounded (length x) 0 free w)
  call_bounded till (suc g) free w =
      ⊎_elim
      (λ p. ⊎_elim
      (λ q. rw (calling_full s x till (suc g) free w q) (ending_bounded (length x) (suc g) free w))
      (λ q.
      let f = free - length (listed s x w) in
      let c = calling s x till g f (onward s x w) in
      let k = call_bounded till g f (onward s x w) in
      rw (calling_tests s x till g free w p q)
      (record {
        granted = omega (arith, k.granted);
        room = omega (arith, k.room, listed_most w, length-append (listed s x w) c.entries);
      }))
      (below_or free 2))
      (λ p. rw (calling_over s x till (suc g) free w p) (ending_bounded (length x) (suc g) free w))
      (below_or w.place till)

  -- ---- why it ends

  pub ending_keeps : (n free : ℕ) (w : Stop) → ((ending n free w).tested ≡ 0) × ((ending n free w).stop.place ≡ w.place)
  unfolding ending
  ending_keeps n free w =
      picked (λ (c : Called). (c.tested ≡ 0) × (c.stop.place ≡ w.place)) (pick (eqb w.place n) (leb (length (stretch w)) free) false) _ _
      (refl, refl) (refl, refl)

  -- the grant is spent, or fewer than two entries are free, or the file's end is reached
  abbrev pub Ends : ℕ → ℕ → Called → Type 0
  Ends g free c = (c.tested ≡ g) ⊎ ((free < length c.entries + 2) ⊎ (c.stop.place ≡ length x))

  pub call_ends : (g free : ℕ) (w : Stop) → State x w → Ends g free (call_of s x w g free)
  call_ends zero free w i = rw (calling_none s x (length x) free w) (inl (ending_keeps (length x) free w).0)
  call_ends (suc g) free w i =
      ⊎_elim
      (λ (p : w.place < length x). ⊎_elim
      (λ (q : free < 2). rw (calling_full s x (length x) (suc g) free w q) (inr (inl (omega arith))))
      (λ (q : 2 ≤ free).
      let l = leads s x w i.order p in
      let f = free - length (listed s x w) in
      let c = call_of s x (onward s x w) g f in
      rw (calling_tests s x (length x) g free w p q)
      (⊎_elim
      (λ h. inl (omega (arith, h)))
      (λ h. inr (⊎_elim
      (λ j. inl (omega (arith, j, listed_most w, length-append (listed s x w) c.entries)))
      (λ j. inr j)
      h))
      (call_ends g f (onward s x w) (record { order = l.order; inside = l.inside }))))
      (below_or free 2))
      (λ (p : length x ≤ w.place). rw (calling_over s x (length x) (suc g) free w p)
      (inr (inr ((ending_keeps (length x) free w).1 ∙ (omega (arith, i.inside))))))
      (below_or w.place (length x))

  -- at the file's end a stretch stays open only if no entry is free for it
  abbrev pub OpenLeft : ℕ → Called → Type 0
  OpenLeft free c = c.stop.place ≡ length x → c.stop.begin < c.stop.place → length c.entries ≡ free

  ending_left : (free : ℕ) (w : Stop) → State x w → OpenLeft free (ending (length x) free w)
  ending_left free w i e o =
      let b = w.begin in
      let at = w.place in
      let n : w.place ≡ length x = sym (ending_keeps (length x) free w).1 ∙ e in
      ⊎_elim
      (λ (p : w.begin < w.place). ⊎_elim
      (λ (q : 0 < free). absurd (omega (arith, rw (ending_open (length x) free b at n p q) at o)))
      (λ (q : free ≤ 0). rw (ending_full (length x) free b at p (omega arith)) (omega arith))
      (below_or 0 free))
      (λ (p : w.place ≤ w.begin). absurd (omega (arith, rw (ending_empty (length x) free b at (omega (arith, i.order))) at o)))
      (below_or b at)

  pub call_left : (g free : ℕ) (w : Stop) → State x w → OpenLeft free (call_of s x w g free)
  call_left zero free w i = rw (calling_none s x (length x) free w) (ending_left free w i)
  call_left (suc g) free w i =
      ⊎_elim
      (λ (p : w.place < length x). ⊎_elim
      (λ (q : free < 2). rw (calling_full s x (length x) (suc g) free w q) (ending_left free w i))
      (λ (q : 2 ≤ free).
      let l = leads s x w i.order p in
      let f = free - length (listed s x w) in
      let c = call_of s x (onward s x w) g f in
      rw (calling_tests s x (length x) g free w p q)
      (λ e o.
      omega (
        arith,
        call_left g f (onward s x w) (record { order = l.order; inside = l.inside }) e o,
        listed_most w,
        length-append (listed s x w) c.entries,
      )))
      (below_or free 2))
      (λ (p : length x ≤ w.place). rw (calling_over s x (length x) (suc g) free w p) (ending_left free w i))
      (below_or w.place (length x))

  -- at the file's end one free entry is enough
  end_done : (free : ℕ) (w : Stop) → w.begin ≤ w.place → w.place ≡ length x → 1 ≤ free → (ending (length x) free w).stop ≡ stop (length x) (length x)
  end_done free w o e h =
      ⊎_elim
      (λ (p : w.begin < w.place). rw (ending_open (length x) free w.begin w.place e p h) (ap (λ (i : ℕ). stop i i) e))
      (λ (p : w.place ≤ w.begin).
      let b : w.begin ≡ w.place = omega arith in
      rw (ending_empty (length x) free w.begin w.place b) (λ i. stop ((b ∙ e) i) (e i)))
      (below_or w.begin w.place)

  -- what is not listed yet has an entry
  some_from : (f b at : ℕ) → b ≤ at → b < length x → length x ≤ at + f → 1 ≤ length (list_from s x f (stop b at))
  some_from zero b at o i h =
      omega (arith, ap (length {A = Entry}) (list_end s x 0 (stop b at) (omega arith) ∙ stretch_open b at (omega arith)))
  some_from (suc f) b at o i h =
      ⊎_elim
      (λ (p : at < length x).
      let r = list_from s x f (onward s x (stop b at)) in
      let m = ap (length {A = Entry}) (list_more s x f (stop b at) p) ∙ length-append (listed s x (stop b at)) r in
      ⊎_elim
      (λ (e : kept s x at ≡ true).
      let k = kept_entry at (width_at x at) ∷ [] in
      omega (arith, m, ap (length {A = Entry}) (listed_kept s x b at e), length-append (stretch (stop b at)) k))
      (λ (e : kept s x at ≡ false).
      let n = ap (λ (v : Stop). length (list_from s x f v)) (onward_none s x b at e) in
      omega (arith, m, n, some_from f b (at + 1) (omega arith) i (omega arith)))
      (bool (kept s x at)))
      (λ (p : length x ≤ at).
      omega (arith, ap (length {A = Entry}) (list_end s x (suc f) (stop b at) p ∙ stretch_open b at (omega arith))))
      (below_or at (length x))

  -- a grant of the places that are left, and one entry more free than are left: all is listed
  pub long_done :
      (g free : ℕ) (w : Stop) → State x w → tests_at s x w ≤ g → length (list_at s x w) + 1 ≤ free →
      (call_of s x w g free).stop ≡ stop (length x) (length x)
  long_done zero free w i h k =
      ⊎_elim
      (λ p. absurd (omega (arith, h, tests_next s x w i.order p)))
      (λ p. rw (calling_none s x (length x) free w) (end_done free w i.order (omega (arith, i.inside)) (omega arith)))
      (below_or w.place (length x))
  long_done (suc g) free w i h k =
      ⊎_elim
      (λ p.
      let l = leads s x w i.order p in
      let v = onward s x w in
      let m = ap (length {A = Entry}) (list_next s x w i.order p) ∙ length-append (listed s x w) (list_at s x v) in
      let two : 2 ≤ free =
      omega (arith, k, some_from (length x - w.place) w.begin w.place i.order (omega (arith, i.order)) (omega arith)) in
      rw (calling_tests s x (length x) g free w p two)
      (long_done g (free - length (listed s x w)) v (record { order = l.order; inside = l.inside })
      (omega (arith, h, tests_next s x w i.order p)) (omega (arith, m, k))))
      (λ p. rw (calling_over s x (length x) (suc g) free w p) (end_done free w i.order (omega (arith, i.inside)) (omega arith)))
      (below_or w.place (length x))
