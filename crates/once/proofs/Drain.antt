-- Takings one after the other, each with output at least as long as what it picks: each hands out what it picks, and leaves fewer cells that
-- hold a segment; so that after no more of them than there are cells nothing is complete, and the next is refused by 20.
-- Assumes nothing.
use Prim.Native.Nat.{ℕ, ◌≤◌, ◌<◌, zero-le}
use mathlib.Core.Path.{◌≡◌, refl, ap, sym, ◌∙◌, subst}
use mathlib.Core.Option.{Option, none, some, none-ne-some}
use mathlib.Core.List.{List, [], ◌∷◌, ◌++◌, map}
use native.Mathlib.Omega.{arith}
use lib.ListN.{length}
use Rattle.walk.specs.declared.Settings.{Settings}
use Rattle.packet.specs.Numbers.{next_counter, steps_most}
use Rattle.cells.specs.Messages.{Run, picked}
use Rattle.taking.specs.Taking.{message, unable, writing}
use Rattle.demand3.specs.Cells.{clear}
use Rattle.demand3.specs.Traffic.{taken_from}
use Rattle.demand3.specs.Calls.{taking, took_by, store_by, store_after}
use Rattle.demand3.specs.Presupposed.{cells_in}
use Rattle.demand3.specs.Whole.{LongEnough}
use Rattle.demand3.specs.Joins.{NoneComplete}
use Rattle.demand3.proofs.Finds.{picked_held}
use Rattle.demand3.proofs.Takings.{picked_taken, taken_cells, nothing_picked}
use Rattle.demand3.proofs.Tally.{number_of}
use Rattle.demand3.proofs.Progress.{holds_one, held_fewer}
use Rattle.demand3.proofs.Steps.{Kept, took_is, taking_cells, taking_keeps}

module _ (s : Settings) (Z n : ℕ) where
  -- how many cells hold a segment
  abbrev pub holding : List ℕ → ℕ
  holding st = number_of holds_one (cells_in s Z n st)

  -- if nothing is complete, a taking is refused by 20
  pub refused_by_20 : (st : List ℕ) → Kept s Z n st → NoneComplete s Z n st → (out : List ℕ) → took_by s Z st (taking out) ≡ some (unable 20)
  unfolding took_by
  refused_by_20 st k e out =
      ap some (took_is s Z n st k (length out) ∙ (nothing_picked next_counter steps_most (cells_in s Z n st) (length out) e).0)

  -- the takings up to where nothing is complete
  pub record Emptied (st : List ℕ) (outs : List (List ℕ)) : Type 0 where
    pub asked : List (List ℕ)
    pub last : List ℕ
    pub others : List (List ℕ)
    pub place : outs ≡ asked ++ last ∷ others
    pub few : length asked ≤ holding st
    pub nothing : NoneComplete s Z n (store_after s Z st (map taking asked))

  -- one that picks a message leaves fewer
  fewer : (st : List ℕ) → Kept s Z n st → (out : List ℕ) (r : Run) → picked next_counter steps_most (cells_in s Z n st) ≡ some r →
      taken_from next_counter steps_most (cells_in s Z n st) (length out) ≡ message r → holding (store_by s Z st (taking out)) < holding st
  unfolding store_by
  fewer st k out r e t =
      let c : cells_in s Z n (store_by s Z st (taking out)) ≡ clear r (cells_in s Z n st) =
      taking_cells s Z n st k (length out) ∙ taken_cells next_counter steps_most (cells_in s Z n st) (length out) r t in
      rw c (held_fewer r (cells_in s Z n st) (picked_held next_counter steps_most (cells_in s Z n st) r e))

  kept_by : (st : List ℕ) → Kept s Z n st → (out : List ℕ) → Kept s Z n (store_by s Z st (taking out))
  unfolding store_by
  kept_by st k out = taking_keeps s Z n st k (length out)

  pub empties : (outs : List (List ℕ)) (st : List ℕ) → Kept s Z n st → holding st < length outs → LongEnough s Z n st outs → Emptied st outs
  unfolding store_after
  empties [] st k l e = absurd (omega arith)
  empties (out ∷ outs) st k l e = go (empties outs) (picked next_counter steps_most (cells_in s Z n st)) refl e
    where
      go : ((x : List ℕ) → Kept s Z n x → holding x < length outs → LongEnough s Z n x outs → Emptied x outs) →
          (o : Option Run) → picked next_counter steps_most (cells_in s Z n st) ≡ o → LongEnough s Z n st (out ∷ outs) → Emptied st (out ∷ outs)
      go ih none d e' = record { asked = []; last = out; others = outs; place = refl; few = zero-le; nothing = d }
      go ih (some r) d e' =
          let t = picked_taken next_counter steps_most (cells_in s Z n st) (length out) r d (e' [] outs out r refl d) in
          let f = fewer st k out r d t in
          let v =
          ih (store_by s Z st (taking out)) (kept_by st k out) (omega arith)
          (λ x y o q p. e' (out ∷ x) y o q (ap (λ (g : List (List ℕ)). out ∷ g) p)) in
          record {
            asked = out ∷ v.asked;
            last = v.last;
            others = v.others;
            place = ap (λ (g : List (List ℕ)). out ∷ g) v.place;
            few = let w = v.few in omega arith;
            nothing = v.nothing;
          }

  -- ---- outputs that are long enough

  none_stays : (x : List (List ℕ)) (st : List ℕ) → Kept s Z n st → NoneComplete s Z n st → NoneComplete s Z n (store_after s Z st (map taking x))
  unfolding store_after store_by
  none_stays [] st k e = e
  none_stays (o ∷ x) st k e =
      none_stays x (store_by s Z st (taking o)) (kept_by st k o)
      (ap (picked next_counter steps_most)
      (taking_cells s Z n st k (length o) ∙ (nothing_picked next_counter steps_most (cells_in s Z n st) (length o) e).1)
      ∙ e)

  -- all are, if nothing is complete
  pub long_none : (outs : List (List ℕ)) (st : List ℕ) → Kept s Z n st → NoneComplete s Z n st → LongEnough s Z n st outs
  long_none outs st k e x y out r d p = absurd (none-ne-some r (sym (none_stays x st k e) ∙ p))

  -- one before others is, if it is as long as what is picked
  pub long_more : (out : List ℕ) (outs : List (List ℕ)) (st : List ℕ) →
      ((r : Run) → picked next_counter steps_most (cells_in s Z n st) ≡ some r → length (writing r) ≤ length out) →
      LongEnough s Z n (store_by s Z st (taking out)) outs → LongEnough s Z n st (out ∷ outs)
  unfolding store_after
  long_more out outs st f g [] y o r d p = let q : out ≡ o = cc d in subst (λ (z : List ℕ). length (writing r) ≤ length z) q (f r p)
  long_more out outs st f g (b ∷ x) y o r d p =
      let q : b ≡ out = cc d in
      let t : outs ≡ x ++ o ∷ y = cc d in
      g x y o r t
      (subst (λ (z : List ℕ). picked next_counter steps_most (cells_in s Z n (store_after s Z (store_by s Z st (taking z)) (map taking x))) ≡ some r) q p)
