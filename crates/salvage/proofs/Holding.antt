-- The loop of a call over a part in hand, on plain values: what holds between two turns of it over the file around the part, with the place
-- in the part.
-- Assumes nothing.
use Prim.Native.Nat.{ℕ, ◌+◌, ◌-◌, ◌*◌, ◌/◌, ◌≤◌, ◌<◌}
use mathlib.Core.Path.{◌≡◌, ap, ap₂, sym, ◌∙◌}
use mathlib.Core.Bool.{Bool}
use mathlib.Core.List.{List, [], ◌∷◌, ◌++◌}
use native.Mathlib.Omega.{arith}
use lib.ListN.{length}
use lib.Seq.{sets}
use Rattle.octets.specs.Octets.{Octets}
use Rattle.walk.specs.declared.Settings.{Settings}
use Rattle.salvage.specs.Answer.{Salvaged}
use Rattle.salvage.specs.Listing.{kept_entry, Stop, stop, stretch}
use Rattle.salvage.specs.Calling.{ending, calling, flat, told_of}
use Rattle.salvage.specs.Inner.{Passed, end_at, Puts, told_after, Lies}
use Rattle.salvage.specs.Parts.{off_most, testable, till_in, around, length_in, call_in}
use Rattle.salvage.proofs.Going.{Going, going_first, going_lasts, going_passed, going_kept, going_done}
use Rattle.std.specs.Prelude.{Option, Some, None}
use Rattle.salvage.proofs.Testing.{wide_at}
use Rattle.salvage.proofs.Windows.{Alike}
use Rattle.salvage.proofs.Around.{testable_most, around_long, long_least, alike_around, found_wide, found_passed, found_inside}

pub record Held
    (s : Settings) (y : List ℕ) (off : ℕ) (ends : Bool) (n till grant : ℕ) (l₀ : List ℕ) (w : Stop) (l : List ℕ)
    (from at tested entries : ℕ) : Type 0 where
  pub going : Going s (around off ends y) till grant l₀ w l from at tested entries
  pub low : off ≤ at
  pub top : at ≤ off + length y
  pub most : off + length y ≤ off_most
  pub long : n ≡ length_in off ends (length y)
  pub tills : till ≡ till_in off ends (length y)
  pub alike : Alike s (around off ends y) y off (testable ends (length y))

pub held_first :
    (s : Settings) (y : List ℕ) (off : ℕ) (ends : Bool) {n till : ℕ} (grant : ℕ) (l : List ℕ) {b at : ℕ} → Octets y →
    Lies off (length y) (stop b at) →
    n ≡ length_in off ends (length y) → till ≡ till_in off ends (length y) → Held s y off ends n till grant l (stop b at) l b at 0 0
held_first s y off ends {till = till} grant l o h e t =
    record {
      going =
          going_first s (around off ends y) till grant l h.order
          (omega (arith, around_long off ends y, long_least off ends (length y), h.top));
      low = h.low;
      top = h.top;
      most = h.most;
      long = e;
      tills = t;
      alike = alike_around off ends y s o;
    }

module _
    {s : Settings} {y : List ℕ} {off : ℕ} {ends : Bool} {n till grant : ℕ} {l₀ : List ℕ} {w : Stop} {l : List ℕ}
    {from at tested entries : ℕ} (g : Held s y off ends n till grant l₀ w l from at tested entries) where
  module _ {end : ℕ} (e : end ≡ end_at at till (grant - tested) (length l₀ / 3 - entries)) (h : at < end) where
    end_inside : end ≤ off + testable ends (length y)
    end_inside = omega (arith, (going_lasts g.going e h).inside, g.tills)

    pub held_end : end ≤ off + length y
    held_end = omega (arith, end_inside, testable_most ends (length y))

    module _ {v : Option ℕ} (i : v ≡ wide_at s y (at - off)) where
      wide : v ≡ wide_at s (around off ends y) at
      wide = found_wide g.alike g.low (omega (arith, end_inside)) i

      -- places that are not kept are passed over
      pub held_passed :
          {r : ℕ} → None ≡ v → Passed y (at + 1 - off) (end - off) r →
          Held s y off ends n till grant l₀ w l from (off + r) (tested + (off + r - at)) entries
      held_passed {r} z p =
          let t : till ≤ length (around off ends y) =
          omega (arith, g.tills, testable_most ends (length y), around_long off ends y, long_least off ends (length y)) in
          record {
            going = going_passed g.going e h (z ∙ wide) (found_passed g.alike g.low end_inside p h) t;
            low = omega arith;
            top = omega (arith, p.top, held_end);
            most = g.most;
            long = g.long;
            tills = g.tills;
            alike = g.alike;
          }

      -- a kept place is listed, with the stretch before it
      pub held_kept :
          {m₁ k : ℕ} {m : List ℕ} → Some m₁ ≡ v → Puts l entries (stretch (stop from at) ++ (kept_entry at m₁ ∷ [])) m k →
          Held s y off ends n till grant l₀ w m (at + m₁) (at + m₁) (tested + 1) k
      held_kept {m₁} z p =
          record {
            going = going_kept g.going e h (z ∙ wide) p;
            low = omega (arith, g.low);
            top = found_inside s y off at m₁ g.low (z ∙ i);
            most = g.most;
            long = g.long;
            tills = g.tills;
            alike = g.alike;
          }

  -- where nothing lasts on, the call has come to its end
  pub held_done :
      {end : ℕ} {r : Salvaged} {m : List ℕ} → end ≡ end_at at till (grant - tested) (length l₀ / 3 - entries) → end ≤ at →
      r ≡ told_after n tested entries (ending n (length l / 3 - entries) (stop from at)) →
      m ≡ sets l (entries * 3) (flat (ending n (length l / 3 - entries) (stop from at)).entries) →
      (r ≡ told_of (length_in off ends (length y)) (call_in s y off ends w grant (length l₀ / 3)))
      × (m ≡ sets l₀ 0 (flat (call_in s y off ends w grant (length l₀ / 3)).entries))
  held_done e h p q =
      let x = around off ends y in
      let k : n ≡ length x = g.long ∙ sym (around_long off ends y) in
      let d =
      going_done g.going e h (p ∙ ap (λ (j : ℕ). told_after j tested entries (ending j (length l / 3 - entries) (stop from at))) k)
      (q ∙ ap (λ (j : ℕ). sets l (entries * 3) (flat (ending j (length l / 3 - entries) (stop from at)).entries)) k) in (
        d.0 ∙ ap₂ (λ (j t : ℕ). told_of j (calling s x t grant (length l₀ / 3) w)) (around_long off ends y) g.tills,
        d.1 ∙ ap (λ (t : ℕ). sets l₀ 0 (flat (calling s x t grant (length l₀ / 3) w).entries)) g.tills,
      )
