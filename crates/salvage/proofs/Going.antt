-- The loop of a call, on plain values: so many places are tested and so many entries listed, and the rest of the call is what is left of
-- the whole.
-- Assumes nothing.
use Prim.Native.Nat.{ℕ, suc, ◌+◌, ◌-◌, ◌*◌, ◌/◌, ◌≤◌, ◌<◌}
use mathlib.Core.Path.{◌≡◌, refl, ap, ap₂, sym, ◌∙◌}
use mathlib.Core.Logic.{⊎_elim}
use mathlib.Core.Bool.{false}
use mathlib.Core.List.{List, [], ◌∷◌, ◌++◌, append-nil}
use native.Mathlib.Omega.{arith}
use lib.ListN.{length, length-append}
use lib.Seq.{sets, length-sets}
use Rattle.octets.proofs.Lists.{below_or}
use Rattle.walk.specs.declared.Settings.{Settings}
use Rattle.salvage.specs.Answer.{Salvaged}
use Rattle.salvage.specs.Listing.{kept, kept_entry, Entry, Stop, stop, stretch, listed, onward}
use Rattle.salvage.specs.Calling.{Called, ahead, ending, calling, flat, as_told, told_of}
use Rattle.salvage.specs.Inner.{Passed, end_at, Puts, told_after}
use Rattle.salvage.proofs.Numbering.{laid_first, stretch_most}
use Rattle.std.specs.Prelude.{Some, None}
use Rattle.salvage.proofs.Testing.{kept_has, kept_unmarked, wide_at, not_kept, is_kept, is_wide, listed_kept, onward_kept}
use Rattle.salvage.proofs.Stepping.{ahead_none, ahead_ahead, calling_tests, calling_skips, calling_ends, Lasts, lasts}

-- what holds between two turns
pub record Going (s : Settings) (x : List ℕ) (till grant : ℕ) (l₀ : List ℕ) (w : Stop) (l : List ℕ) (from at tested entries : ℕ) : Type 0 where
  pub order : from ≤ at
  pub within : at ≤ length x
  pub spent : tested ≤ grant
  pub room : entries ≤ length l₀ / 3
  pub done : List Entry
  pub count : length done ≡ entries
  pub numbers : l ≡ sets l₀ 0 (flat done)
  pub whole : ahead tested done (calling s x till (grant - tested) (length l₀ / 3 - entries) (stop from at)) ≡ calling s x till grant (length l₀ / 3) w

pub going_first :
    (s : Settings) (x : List ℕ) (till grant : ℕ) (l : List ℕ) {b at : ℕ} → b ≤ at → at ≤ length x →
    Going s x till grant l (stop b at) l b at 0 0
unfolding flat
going_first s x till grant l h k =
    let p : grant - 0 ≡ grant = omega arith in
    let q : length l / 3 - 0 ≡ length l / 3 = omega arith in
    record {
      order = h;
      within = k;
      spent = omega arith;
      room = omega arith;
      done = [];
      count = refl;
      numbers = refl;
      whole = rw (p, q) (ahead_none _);
    }

module _
    {s : Settings} {x : List ℕ} {till grant : ℕ} {l₀ : List ℕ} {w : Stop} {l : List ℕ} {from at tested entries : ℕ}
    (g : Going s x till grant l₀ w l from at tested entries) where
  pub going_long : length l ≡ length l₀
  going_long = ap length g.numbers ∙ length-sets l₀ 0 (flat g.done)

  pub going_room : entries ≤ length l / 3
  going_room = let e = ap (λ (i : ℕ). i / 3) going_long in omega (arith, g.room)

  abbrev left : ℕ
  left = grant - tested

  abbrev free : ℕ
  free = length l₀ / 3 - entries

  module _ {end : ℕ} (e : end ≡ end_at at till left free) (h : at < end) where
    pub going_lasts : Lasts at till left free end
    going_lasts = rw e (lasts at till left free (rw e at h))

    -- two entries fit
    pub going_space : entries * 3 + 6 ≤ length l
    going_space = omega (arith, going_lasts.room, going_long)

    -- places that are not kept are passed over
    pub going_passed :
        {next : ℕ} → None ≡ wide_at s x at → Passed x (at + 1) end next → till ≤ length x →
        Going s x till grant l₀ w l from next (tested + (next - at)) entries
    going_passed {next} y p b =
        let c = going_lasts in
        let m = next - at in
        let none : (k : ℕ) → k < m → kept s x (at + k) ≡ false =
        λ (k : ℕ) (i : k < m).
        ⊎_elim
        (λ j. let q : at + k ≡ at = omega arith in rw q (not_kept s x at y))
        (λ j. kept_unmarked s x (at + k) (p.none (at + k) (omega arith) (omega arith)))
        (below_or k 1) in
        let d : left ≡ m + (left - m) = omega (arith, p.low, p.top, c.granted) in
        let u : at + m ≡ next = omega (arith, p.low) in
        let q : left - m ≡ grant - (tested + m) = omega arith in
        let t = calling_skips s x till m (left - m) free from at (omega (arith, p.low, p.top, c.inside)) c.room none in
        record {
          order = omega (arith, g.order, p.low);
          within = omega (arith, p.top, c.inside);
          spent = omega (arith, p.low, p.top, c.granted, g.spent);
          room = g.room;
          done = g.done;
          count = g.count;
          numbers = g.numbers;
          whole =
              ap₂ (λ (j i : ℕ). ahead (tested + m) g.done (calling s x till j free (stop from i))) (sym q) (sym u)
              ∙ ap (λ (es : List Entry). ahead (tested + m) es (rest m)) (sym (append-nil g.done))
              ∙ sym (ahead_ahead tested m g.done [] (rest m))
              ∙ ap (ahead tested g.done) (sym t ∙ ap (λ (j : ℕ). calling s x till j free (stop from at)) (sym d))
              ∙ g.whole;
        }
      where
        rest : ℕ → Called
        rest m = calling s x till (left - m) free (stop from (at + m))

    -- a kept place is listed, with the stretch before it
    pub going_kept :
        {v n : ℕ} {m : List ℕ} → Some v ≡ wide_at s x at →
        Puts l entries (stretch (stop from at) ++ (kept_entry at v ∷ [])) m n →
        Going s x till grant l₀ w m (at + v) (at + v) (tested + 1) n
    going_kept {v} {n} {m} y p =
        let c = going_lasts in
        let k = is_kept s x at y in
        let wide = is_wide s x at y in
        let es = listed s x (stop from at) in
        let is : stretch (stop from at) ++ (kept_entry at v ∷ []) ≡ es = rw wide (sym (listed_kept s x from at k)) in
        let long : length es ≤ 2 =
        omega (arith, ap length (sym is), length-append (stretch (stop from at)) (kept_entry at v ∷ []), stretch_most (stop from at)) in
        let count : n ≡ entries + length es = p.count ∙ ap (λ (q : List Entry). entries + length q) is in
        let first : suc (left - 1) ≡ left = omega (arith, c.granted) in
        let t = calling_tests s x till (left - 1) free (stop from at) (omega (arith, c.inside)) c.room in
        let f : length l₀ / 3 - n ≡ free - length es = omega arith in
        let q : grant - (tested + 1) ≡ left - 1 = omega arith in
        let to : stop (at + v) (at + v) ≡ onward s x (stop from at) = rw wide (sym (onward_kept s x from at k)) in
        record {
          order = omega arith;
          within = omega (arith, (kept_has s x at k).inside);
          spent = omega (arith, c.granted);
          room = omega (arith, c.room);
          done = g.done ++ es;
          count = length-append g.done es ∙ ap (λ (i : ℕ). i + length es) g.count ∙ sym count;
          numbers =
              p.numbers
              ∙ ap (λ (q : List Entry). sets l (entries * 3) (flat q)) is
              ∙ ap₂ (λ (a : List ℕ) (i : ℕ). sets a (i * 3) (flat es)) g.numbers (sym g.count)
              ∙ laid_first l₀ g.done es;
          whole =
              ap (ahead (tested + 1) (g.done ++ es))
              (ap₂ (λ (i j : ℕ). calling s x till i j (stop (at + v) (at + v))) q f ∙ ap (calling s x till (left - 1) (free - length es)) to)
              ∙ sym (ahead_ahead tested 1 g.done es (calling s x till (left - 1) (free - length es) (onward s x (stop from at))))
              ∙ ap (ahead tested g.done) (sym t ∙ ap (λ (j : ℕ). calling s x till j free (stop from at)) first)
              ∙ g.whole;
        }

  -- where nothing lasts on, the call has come to its end
  pub going_done :
      {end : ℕ} {r : Salvaged} {m : List ℕ} → end ≡ end_at at till left free → end ≤ at →
      r ≡ told_after (length x) tested entries (ending (length x) (length l / 3 - entries) (stop from at)) →
      m ≡ sets l (entries * 3) (flat (ending (length x) (length l / 3 - entries) (stop from at)).entries) →
      (r ≡ told_of (length x) (calling s x till grant (length l₀ / 3) w)) × (m ≡ sets l₀ 0 (flat (calling s x till grant (length l₀ / 3) w).entries))
  going_done {end} e h p q =
      let n : length l / 3 - entries ≡ free = ap (λ (i : ℕ). i / 3 - entries) going_long in
      let c : ending (length x) (length l / 3 - entries) (stop from at) ≡ calling s x till left free (stop from at) =
      ap (λ (f : ℕ). ending (length x) f (stop from at)) n ∙ sym (calling_ends s x till left free from at (omega arith)) in
      let k = calling s x till left free (stop from at) in
      let m : entries + length k.entries ≡ length (g.done ++ k.entries) =
      ap (λ (i : ℕ). i + length k.entries) (sym g.count) ∙ sym (length-append g.done k.entries) in (
        p ∙ ap (told_after (length x) tested entries) c
            ∙ ap (λ (i : ℕ). as_told (length x) (tested + k.tested) i k.stop) m
            ∙ ap (told_of (length x)) g.whole,
        q ∙ ap (λ (y : Called). sets l (entries * 3) (flat y.entries)) c
            ∙ ap₂ (λ (a : List ℕ) (i : ℕ). sets a (i * 3) (flat k.entries)) g.numbers (sym g.count)
            ∙ laid_first l₀ g.done k.entries
            ∙ ap (λ (y : Called). sets l₀ 0 (flat y.entries)) g.whole,
      )
