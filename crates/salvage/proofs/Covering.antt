-- The list of a file covers it: kept entries and skipped stretches stand one after another from its beginning to its end, each is what it
-- says, and a stretch is as long as can be; the octets that they name are the file's.
-- Assumes nothing.
use Prim.Native.Nat.{ℕ, zero, suc, ◌+◌, ◌-◌, ◌≤◌, ◌<◌}
use mathlib.Core.Path.{◌≡◌, refl, ap, ap₂, sym, ◌∙◌, subst}
use mathlib.Core.Logic.{⊎_elim}
use mathlib.Core.Bool.{true, false}
use mathlib.Core.List.{List, [], ◌∷◌, ◌++◌, append_assoc, append-nil}
use native.Mathlib.Omega.{arith}
use lib.ListN.{length, drop, take-append-drop}
use lib.Seq.{drop-drop, drop-length}
use Rattle.octets.specs.Octets.{part}
use Rattle.octets.proofs.Lists.{below_or, bool}
use Rattle.walk.specs.declared.Settings.{Settings}
use Rattle.salvage.specs.Listing.{kept, width_at, Skipped, kept_entry, skipped_entry, Entry, stop, stretch, listed, onward, list_from, list_of}
use Rattle.salvage.specs.Covering.{Follow, Says, AllSay, begins, Apart, Covers, named}
use Rattle.salvage.proofs.Numbering.{stretch_open, stretch_none}
use Rattle.salvage.proofs.Testing.{kept_has, listed_kept, listed_none, onward_kept, onward_none}
use Rattle.salvage.proofs.Resuming.{list_more, list_end}

module _ (s : Settings) (x : List ℕ) where
  -- no place from one up to another is kept
  abbrev pub NoneKept : ℕ → ℕ → Type 0
  NoneKept from at = (k : ℕ) → from ≤ k → k < at → kept s x k ≡ false

  -- a kept place before what follows it
  kept_covers :
      (at end : ℕ) (es : List Entry) → kept s x at ≡ true → Covers s x (at + width_at x at) end es →
      Covers s x at end (kept_entry at (width_at x at) ∷ es)
  unfolding Follow AllSay Says Apart begins
  kept_covers at end [] e c = record { follow = (refl, c.follow); say = ((e, refl), c.say); apart = (refl, c.apart) }
  kept_covers at end (f ∷ es) e c = record { follow = (refl, c.follow); say = ((e, refl), c.say); apart = (refl, c.apart) }

  -- the open stretch before a kept place, or before the end
  stretch_before :
      (b at end : ℕ) (es : List Entry) → b < at → NoneKept b at → begins Skipped es ≡ true → Covers s x at end es →
      Covers s x b end (skipped_entry b at ∷ es)
  unfolding Follow AllSay Says Apart
  stretch_before b at end es h n g c =
      let e : b + (at - b) ≡ at = omega arith in
      record {
        follow = (refl, subst (λ (k : ℕ). Follow k end es) (sym e) c.follow);
        say = ((omega arith, λ (k : ℕ) i j. n k i (omega arith)), c.say);
        apart = (g, c.apart);
      }

  stretch_covers :
      (b at end : ℕ) (es : List Entry) → b ≤ at → NoneKept b at → begins Skipped es ≡ true → Covers s x at end es →
      Covers s x b end (stretch (stop b at) ++ es)
  stretch_covers b at end es o n g c =
      ⊎_elim
      (λ h. rw (stretch_open b at h) (stretch_before b at end es h n g c))
      (λ h. let e : at ≡ b = omega arith in rw (stretch_none b at h) (subst (λ (k : ℕ). Covers s x k end es) e c))
      (below_or b at)

  none_on : (b at : ℕ) → NoneKept b at → kept s x at ≡ false → NoneKept b (at + 1)
  none_on b at n e k i j =
      ⊎_elim (λ h. n k i h) (λ h. let q : at ≡ k = omega arith in subst (λ (m : ℕ). kept s x m ≡ false) q e) (below_or k at)

  nothing_covers : (at : ℕ) → at ≡ length x → Covers s x at (length x) []
  unfolding Follow AllSay Apart
  nothing_covers at e = record { follow = e; say = tt; apart = tt }

  end_covers : (b at : ℕ) → b ≤ at → at ≡ length x → NoneKept b at → Covers s x b (length x) (stretch (stop b at))
  unfolding begins
  end_covers b at o e n =
      subst (Covers s x b (length x)) (append-nil (stretch (stop b at))) (stretch_covers b at (length x) [] o n refl (nothing_covers at e))

  kept_next :
      (b at : ℕ) (es : List Entry) → b ≤ at → NoneKept b at → kept s x at ≡ true → Covers s x (at + width_at x at) (length x) es →
      Covers s x b (length x) (listed s x (stop b at) ++ es)
  unfolding begins
  kept_next b at es o n e c =
      let k = kept_entry at (width_at x at) in
      rw (listed_kept s x b at e)
      (subst (Covers s x b (length x)) (sym (append_assoc (stretch (stop b at)) (k ∷ []) es))
      (stretch_covers b at (length x) (k ∷ es) o n refl (kept_covers at (length x) es e c)))

  -- from a stop on
  pub from_covers :
      (f b at : ℕ) → b ≤ at → at ≤ length x → length x ≤ at + f → NoneKept b at → Covers s x b (length x) (list_from s x f (stop b at))
  from_covers zero b at o i h n = rw (list_end s x 0 (stop b at) (omega arith)) (end_covers b at o (omega arith) n)
  from_covers (suc f) b at o i h n =
      ⊎_elim
      (λ (p : at < length x). rw (list_more s x f (stop b at) p)
      (⊎_elim
      (λ (e : kept s x at ≡ true).
      let m = at + width_at x at in
      kept_next b at (list_from s x f (onward s x (stop b at))) o n e
      (rw (onward_kept s x b at e)
      (from_covers f m m (omega arith) (kept_has s x at e).inside (omega arith) (λ k j l. absurd (omega arith)))))
      (λ (e : kept s x at ≡ false). rw (listed_none s x b at e, onward_none s x b at e)
      (from_covers f b (at + 1) (omega arith) (omega arith) (omega arith) (none_on b at n e)))
      (bool (kept s x at))))
      (λ (p : length x ≤ at). rw (list_end s x (suc f) (stop b at) p) (end_covers b at o (omega arith) n))
      (below_or at (length x))

  -- the list of the file covers it
  pub covered : Covers s x 0 (length x) (list_of s x)
  covered = from_covers (length x - 0) 0 0 (omega arith) (omega arith) (omega arith) (λ k i j. absurd (omega arith))

  -- so the octets that the entries name are the file's
  named_from : (es : List Entry) (from : ℕ) → Follow from (length x) es → named x es ≡ drop from x
  unfolding named Follow
  named_from [] from f = sym (ap (λ (k : ℕ). drop k x) f ∙ drop-length x)
  named_from (e ∷ es) from f =
      ap₂ (λ (at : ℕ) (r : List ℕ). part x at e.long ++ r) f.0
      (named_from es (from + e.long) f.1 ∙ sym (drop-drop e.long from x))
      ∙ take-append-drop e.long (drop from x)

  pub all_named : named x (list_of s x) ≡ x
  all_named = named_from (list_of s x) 0 covered.follow
