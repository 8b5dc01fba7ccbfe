-- A step keeps the store in order and as long as it was, so that the next step may follow.
-- Assumes nothing.
use Prim.Native.Nat.{ℕ, ◌/◌}
use mathlib.Core.Path.{◌≡◌, refl, ap, sym, subst, ◌∙◌}
use mathlib.Core.Bool.{Bool, true, false}
use mathlib.Core.List.{List}
use lib.ListN.{length}
use lib.Dec.{leb}
use Rattle.octets.specs.Octets.{pick, Octets}
use Rattle.octets.proofs.Has.{octets_part}
use Rattle.walk.specs.declared.Settings.{Settings}
use Rattle.cells.specs.Rows.{size_in}
use Rattle.cells.specs.Order.{count_in, gate}
use Rattle.cells.proofs.Gate.{opened_order, gate_again}
use Rattle.taking.specs.Forgetting.{lowest_record}
use Rattle.taking.proofs.Forgets.{forget_long, forget_keeps}
use Rattle.join.specs.Joining.{joining, store_joined}
use Rattle.join.proofs.Plain.{forget_octets}
use Rattle.join.proofs.Kept.{join_gate, join_long, join_octets}
use Rattle.steps.specs.Stepping.{Found, nothing, other, cut, whole, found_in, longest, room, is_full, unrecorded, roomed, store_after}
use Rattle.steps.specs.Stepping.{Stepped, wanting, ended, unmarked, torn, came, step_by, stepped, store_behind}
use Rattle.steps.proofs.Showing.{whole_tells}

module _ (s : Settings) (Z : ℕ) (st : List ℕ) where
  -- ---- without the lowest record

  pub unrecorded_long : length (unrecorded s Z st) ≡ length st
  unrecorded_long = forget_long s Z st (lowest_record s Z st (count_in Z st))

  pub unrecorded_gate : gate s Z st ≡ 0 → gate s Z (unrecorded s Z st) ≡ 0
  unrecorded_gate g =
      gate_again s Z st (unrecorded s Z st) g (forget_keeps s Z st (lowest_record s Z st (count_in Z st)) (opened_order s Z st g))

  pub unrecorded_count : {n : ℕ} → n ≡ count_in Z st → n ≡ count_in Z (unrecorded s Z st)
  unrecorded_count e = e ∙ ap (λ (m : ℕ). m / Z) (sym unrecorded_long)

  pub roomed_gate : (p : List ℕ) → gate s Z st ≡ 0 → gate s Z (roomed s Z st p) ≡ 0
  unfolding roomed
  roomed_gate p g = told (is_full (joining s Z st p room))
    where
      told : (b : Bool) → gate s Z (pick b (unrecorded s Z st) st) ≡ 0
      told true = unrecorded_gate g
      told false = g

  roomed_long : (p : List ℕ) → length (roomed s Z st p) ≡ length st
  unfolding roomed
  roomed_long p = told (is_full (joining s Z st p room))
    where
      told : (b : Bool) → length (pick b (unrecorded s Z st) st) ≡ length st
      told true = unrecorded_long
      told false = refl

  pub roomed_octets : (p : List ℕ) → Octets st → Octets (roomed s Z st p)
  unfolding roomed
  roomed_octets p o = told (is_full (joining s Z st p room))
    where
      told : (b : Bool) → Octets (pick b (unrecorded s Z st) st)
      told true = forget_octets s Z st (lowest_record s Z st (count_in Z st)) o
      told false = o

  -- ---- after a packet

  after_long : (p : List ℕ) → length (store_after s Z st p) ≡ length st
  unfolding store_after
  after_long p = told (leb (length p) longest)
    where
      told : (b : Bool) → length (pick b (store_joined s Z (roomed s Z st p) p room) st) ≡ length st
      told true = join_long s Z (roomed s Z st p) p room ∙ roomed_long p
      told false = refl

  after_gate : (p : List ℕ) → Octets st → Octets p → gate s Z st ≡ 0 → gate s Z (store_after s Z st p) ≡ 0
  unfolding store_after
  after_gate p o q g = told (leb (length p) longest)
    where
      told : (b : Bool) → gate s Z (pick b (store_joined s Z (roomed s Z st p) p room) st) ≡ 0
      told true = join_gate s Z (roomed s Z st p) p room (roomed_octets p o) q (roomed_gate p g)
      told false = g

  after_octets : (p : List ℕ) → Octets st → Octets p → Octets (store_after s Z st p)
  unfolding store_after
  after_octets p o q = told (leb (length p) longest)
    where
      told : (b : Bool) → Octets (pick b (store_joined s Z (roomed s Z st p) p room) st)
      told true = join_octets s Z (roomed s Z st p) p room (roomed_octets p o) q
      told false = o

  -- ---- after a step

  pub step_long : (d : Stepped) → length (store_behind s Z st d) ≡ length st
  step_long wanting = refl
  step_long ended = refl
  step_long unmarked = refl
  step_long torn = refl
  step_long (came p c) = after_long p

  -- it has as many cells
  pub step_count : (d : Stepped) {n : ℕ} → n ≡ count_in Z st → n ≡ count_in Z (store_behind s Z st d)
  step_count d e = e ∙ ap (λ (m : ℕ). m / Z) (sym (step_long d))

  -- what holds of the store, and of the store after each packet, holds of it after a step
  step_has :
      (F : List ℕ → Type 0) (w : List ℕ) (e : Bool) → F st → ((p : List ℕ) → Octets p → F (store_after s Z st p)) → Octets w →
      F (store_behind s Z st (stepped s Z st w e))
  unfolding stepped
  step_has F w e a h q = by (found_in w) refl
    where
      stop : (d : Stepped) → store_behind s Z st d ≡ st → (b : Bool) → store_behind s Z st (pick b d wanting) ≡ st
      stop d k true = k
      stop d k false = refl

      by : (f : Found) → found_in w ≡ f → F (store_behind s Z st (step_by s Z st e f))
      by nothing d = subst F (sym (stop ended refl e)) a
      by other d = a
      by cut d = subst F (sym (stop torn refl e)) a
      by (whole p) d = h p (subst Octets (sym (whole_tells w p d).1.1) (octets_part w 2 (size_in w) q))

  module _ (o : Octets st) (w : List ℕ) (e : Bool) (q : Octets w) where
    -- it stays in order under the same settings
    pub step_gate : gate s Z st ≡ 0 → gate s Z (store_behind s Z st (stepped s Z st w e)) ≡ 0
    step_gate g = step_has (λ (x : List ℕ). gate s Z x ≡ 0) w e g (λ p h. after_gate p o h g) q

    -- and is still octets
    pub step_octets : Octets (store_behind s Z st (stepped s Z st w e))
    step_octets = step_has Octets w e o (λ p h. after_octets p o h) q
