-- What a cell holds came: a packet that reads as it was handed over. And of the calls of a run, one takes a message, or none does.
-- Assumes nothing.
use Prim.Native.Nat.{ℕ, ◌≤◌, ◌<◌}
use mathlib.Core.Path.{◌≡◌, refl, ap, sym, ◌∙◌, subst}
use mathlib.Core.Logic.{◌⊎◌, inl, inr}
use mathlib.Core.Bool.{true, false, true≢false}
use mathlib.Core.Option.{Option, none, some}
use mathlib.Core.List.{List, [], ◌∷◌, ◌++◌, Memᴰ}
use native.Mathlib.Omega.{arith}
use Rattle.octets.proofs.Lists.{bool}
use Rattle.walk.specs.declared.Settings.{Settings}
use Rattle.packet.specs.Numbers.{next_counter, steps_most}
use Rattle.cells.specs.Segments.{Seg, carries}
use Rattle.cells.specs.Rows.{Cell, held}
use Rattle.cells.specs.Order.{cell_at}
use Rattle.cells.specs.Messages.{Run}
use Rattle.cells.proofs.Distinct.{carries_true, carries_yes}
use Rattle.taking.specs.Taking.{Took, message, unable}
use Rattle.demand3.specs.Complete.{Held}
use Rattle.demand3.specs.Traffic.{arrives, empty, after}
use Rattle.demand3.specs.Calls.{Call, Plain, took_by, store_by, store_after}
use Rattle.demand3.specs.Sendings.{Sending, key_in, start_of}
use Rattle.demand3.specs.Presupposed.{Came, InUse, empty_store, store_behind, cells_in, TakesIt, Untaken}
use Rattle.demand3.proofs.Takings.{held_after, held_empty}
use Rattle.demand3.proofs.Sents.{listed_in}
use Rattle.demand3.proofs.Steps.{event_reads}
use Rattle.demand3.proofs.Events.{none_split, events_in}
use Rattle.demand3.proofs.Simulates.{in_handed}
use Rattle.demand3.proofs.Carried.{behind_cells}

-- ---- what is held came

module _ (Z : ℕ) (one : 1 ≤ Z) (s : Settings) (n : ℕ) (u : InUse s n) where
  pub held_came : (cs : List Call) → Plain cs → (j : ℕ) (t : Seg) → j < n → cell_at s Z (store_behind s Z n cs) j ≡ held t → Came s t cs
  held_came cs o j t l e = go (held_after next_counter steps_most (events_in s Z zeros cs) (empty n) t there)
    where
      zeros : List ℕ
      zeros = empty_store Z n

      there : Held t (after next_counter steps_most (empty n) (events_in s Z zeros cs))
      there =
          subst (Held t) (behind_cells s Z n one u cs o)
          (subst (λ (x : Cell). Memᴰ x (cells_in s Z n (store_behind s Z n cs))) e
          (listed_in (cell_at s Z (store_behind s Z n cs)) n 0 j (omega arith) (omega arith)))

      go : Held t (empty n) ⊎ Memᴰ (arrives t) (events_in s Z zeros cs) → Came s t cs
      go (inl h) = absurd (held_empty n t h)
      go (inr h) = let v = in_handed s Z cs zeros t h in (v.0, v.1, (event_reads s Z v.0 t v.2).0)

-- ---- taken, or not

module _ (s : Settings) (Z : ℕ) (m : Sending) where
  -- by one call
  takes_it : (st : List ℕ) (c : Call) → (TakesIt s Z m st c → ⊥) ⊎ TakesIt s Z m st c
  takes_it st c = go (took_by s Z st c) refl
    where
      no_run : (o : Option Took) → took_by s Z st c ≡ o → ((r : Run) → o ≡ some (message r) → ⊥) → TakesIt s Z m st c → ⊥
      no_run o e f t = f t.0 (sym e ∙ t.1)

      by : (r : Run) → took_by s Z st c ≡ some (message r) →
          (carries (key_in s m) (start_of s m) r.head ≡ true) ⊎ (carries (key_in s m) (start_of s m) r.head ≡ false) →
          (TakesIt s Z m st c → ⊥) ⊎ TakesIt s Z m st c
      by r e (inl h) = let k = carries_true (key_in s m) (start_of s m) r.head h in inr (r, e, (sym k.0, sym k.1))
      by r e (inr h) =
          inl
          (λ t.
          let d : some (message r) ≡ some (message t.0) = sym e ∙ t.1 in
          let q : r ≡ t.0 = cc d in
          true≢false
          (sym (carries_yes (key_in s m) (start_of s m) r.head
          (sym t.2.0 ∙ ap (λ (x : Run). x.head.key) (sym q)) (sym t.2.1 ∙ ap (λ (x : Run). x.head.counter) (sym q)))
          ∙ h))

      go : (o : Option Took) → took_by s Z st c ≡ o → (TakesIt s Z m st c → ⊥) ⊎ TakesIt s Z m st c
      go none e = inl (no_run none e (λ r d. let z : ◌≡◌ {A = ℕ} 0 1 = cc d in omega arith))
      go (some (unable k)) e = inl (no_run (some (unable k)) e (λ r d. let z : ◌≡◌ {A = ℕ} 0 1 = cc d in omega arith))
      go (some (message r)) e = by r e (bool (carries (key_in s m) (start_of s m) r.head))

  -- one of the calls takes the message
  pub record Taken (st : List ℕ) (cs : List Call) : Type 0 where
    pub earlier : List Call
    pub call : Call
    pub others : List Call
    pub place : cs ≡ earlier ++ call ∷ others
    pub takes : TakesIt s Z m (store_after s Z st earlier) call

  -- or none does
  pub taken_or : (cs : List Call) (st : List ℕ) → Untaken s Z m st cs ⊎ Taken st cs
  unfolding store_after
  taken_or [] st = inl (λ x y c e t. none_split c x y e)
  taken_or (c ∷ cs) st = go (takes_it st c) (taken_or cs (store_by s Z st c))
    where
      later : (TakesIt s Z m st c → ⊥) → Untaken s Z m (store_by s Z st c) cs → (x y : List Call) (d : Call) → c ∷ cs ≡ x ++ d ∷ y →
          TakesIt s Z m (store_after s Z st x) d → ⊥
      later no' u [] y d e t = let q : d ≡ c = cc e in no' (subst (TakesIt s Z m st) q t)
      later no' u (z ∷ x) y d e t =
          let q : z ≡ c = cc e in
          let f : cs ≡ x ++ d ∷ y = cc e in
          u x y d f (subst (λ (k : Call). TakesIt s Z m (store_after s Z (store_by s Z st k) x) d) q t)

      go : (TakesIt s Z m st c → ⊥) ⊎ TakesIt s Z m st c → Untaken s Z m (store_by s Z st c) cs ⊎ Taken (store_by s Z st c) cs →
          Untaken s Z m st (c ∷ cs) ⊎ Taken st (c ∷ cs)
      go (inr t) v = inr (record { earlier = []; call = c; others = cs; place = refl; takes = t })
      go (inl no') (inl u) = inl (later no' u)
      go (inl no') (inr v) =
          inr
          (record {
            earlier = c ∷ v.earlier;
            call = v.call;
            others = v.others;
            place = ap (λ (l : List Call). c ∷ l) v.place;
            takes = v.takes;
          })
