-- What a recording comes to is never longer than the recording: what was written, and what the store weighs, is at most what was used
-- up.
-- Assumes nothing.
use Prim.Native.Nat.{ℕ, zero, suc, ◌+◌, ◌≤◌}
use mathlib.Core.Path.{◌≡◌, refl, ap, ◌∙◌}
use mathlib.Core.Bool.{Bool, true, false}
use mathlib.Core.List.{List}
use native.Mathlib.Omega.{arith}
use lib.ListN.{length, take, drop, length-append, length-take, length-drop}
use lib.Dec.{leb, eqb}
use Rattle.octets.specs.Octets.{pick, Octets}
use Rattle.octets.proofs.Has.{octets_drop, octets_part}
use Rattle.walk.specs.declared.Settings.{Settings}
use Rattle.walk.specs.declared.Refusal.{Refusal}
use Rattle.walk.specs.Walk.{refusal}
use Rattle.cells.specs.Rows.{size_in}
use Rattle.cells.specs.Order.{count_in, cell_size}
use Rattle.arrival.specs.Arriving.{Arrived, whole as wholly', stored, again, late as late', refused as refused', arrived, store_with}
use Rattle.taking.specs.Taking.{Took, message as message', unable, writing, took, store_less}
use Rattle.taking.specs.Forgetting.{lowest_record}
use Rattle.join.specs.Joining.{took_as, joined_by, store_by, joining, store_joined}
use Rattle.join.specs.Inner.{is_late}
use Rattle.join.proofs.Plain.{arrive_octets}
use Rattle.steps.specs.Stepping.{Found, nothing, other, cut, whole, found_in, longest, room, is_full, unrecorded, roomed, over, refused, kept, late}
use Rattle.steps.specs.Stepping.{came_by, came_at, came_of, store_after, without}
use Rattle.steps.specs.Stepping.{wrote, step_by, stepped, store_behind, used_by, written_by}
use Rattle.recording.specs.Recording.{recorded_from, recorded, cell_count, empty_store}
use Rattle.steps.proofs.Frames.{framed_long}
use Rattle.steps.proofs.Showing.{whole_tells}
use Rattle.steps.proofs.Kept.{roomed_octets, step_octets}
use Rattle.steps.proofs.Steps.{used_most}
use Rattle.recording.proofs.Weights.{weighs, weighs_none, arrival_weighs, taking_weighs, forgetting_weighs}
use Rattle.recording.proofs.Beginning.{begin_octets}

without_less : (p : List ℕ) → 6 ≤ length p → 6 + length (without p) ≤ 2 + length p
without_less p h = omega (arith, length-append (take 2 p) (drop 6 p), length-take 2 p, length-drop 6 p)

-- neither a refusal nor a packet that is kept or late writes an octet
left_none : (p : List ℕ) (r : Refusal) (a l : Bool) → length (wrote p (pick a (pick l late kept) (refused r))) ≡ 0
left_none p r true true = refl
left_none p r true false = refl
left_none p r false l = refl

module _ (s : Settings) (Z : ℕ) where
  -- ---- a taking

  took_by_lem :
      (p x : List ℕ) → Octets x → (long : ℕ) (l : Bool) (t : Took) → took s Z x long ≡ t →
      length (wrote p (came_by l (took_as t))) + weighs s Z (store_less s Z x (count_in Z x) t) ≤ weighs s Z x
  unfolding store_less
  took_by_lem p x o long l (message' r) e = let a = taking_weighs s Z x o long r e in omega (arith, framed_long (writing r))
  took_by_lem p x o long l (unable k) e = omega (arith, left_none p (refusal k) (eqb k 20) l)

  -- ---- a packet

  module _ (st p : List ℕ) (six : 6 ≤ length p) (o : Octets st) (q : Octets p) where
    joined_by_lem :
        (l : Bool) (b : Arrived) → arrived s Z st p ≡ b →
        length (wrote p (came_by l (joined_by s Z st p room b))) + weighs s Z (store_by s Z st p room b) ≤ weighs s Z st + (2 + length p)
    unfolding store_with
    joined_by_lem l wholly' e = omega (arith, framed_long (without p), without_less p six)
    joined_by_lem l (stored i) e =
        let x = store_with Z st p (stored i) in
        let a = took_by_lem p x (arrive_octets Z st p (stored i) o q) room l (took s Z x room) refl in
        let b = arrival_weighs s Z st p i q e in
        omega arith
    joined_by_lem l again e = let a = took_by_lem p st o room l (took s Z st room) refl in omega arith
    joined_by_lem l late' e = let a = took_by_lem p st o room l (took s Z st room) refl in omega arith
    joined_by_lem l (refused' k) e = omega (arith, left_none p k (eqb k.number 20) l)

    at_weighs : length (wrote p (came_at s Z st p)) + weighs s Z (store_joined s Z st p room) ≤ weighs s Z st + (2 + length p)
    unfolding came_at joining store_joined
    at_weighs = joined_by_lem (is_late (arrived s Z st p)) (arrived s Z st p) refl

  module _ (st p : List ℕ) (six : 6 ≤ length p) (o : Octets st) (q : Octets p) where
    roomed_weighs : weighs s Z (roomed s Z st p) ≤ weighs s Z st
    unfolding roomed
    roomed_weighs = told (is_full (joining s Z st p room))
      where
        told : (b : Bool) → weighs s Z (pick b (unrecorded s Z st) st) ≤ weighs s Z st
        told true = forgetting_weighs s Z st (lowest_record s Z st (count_in Z st))
        told false = omega arith

    came_weighs : length (wrote p (came_of s Z st p)) + weighs s Z (store_after s Z st p) ≤ weighs s Z st + (2 + length p)
    unfolding came_of store_after
    came_weighs = go (leb (length p) longest)
      where
        x : List ℕ
        x = roomed s Z st p

        go :
            (b : Bool) →
            length (wrote p (pick b (came_at s Z x p) over)) + weighs s Z (pick b (store_joined s Z x p room) st) ≤ weighs s Z st + (2 + length p)
        go true = let a = at_weighs x p six (roomed_octets s Z st p o) q in omega (arith, roomed_weighs)
        go false = omega arith

  -- ---- a step

  module _ (st x : List ℕ) (k : Octets st) (o : Octets x) where
    step_by_lem :
        (f : Found) → found_in x ≡ f →
        length (written_by (step_by s Z st true f)) + weighs s Z (store_behind s Z st (step_by s Z st true f)) ≤ weighs s Z st + used_by (step_by s Z st true f)
    step_by_lem nothing e = omega arith
    step_by_lem other e = omega arith
    step_by_lem cut e = omega arith
    step_by_lem (whole p) e =
        let a = whole_tells x p e in
        let l : length p ≡ size_in x = ap length a.1.1 ∙ long a.1.0 in
        let q : Octets p = rw a.1.1 (octets_part x 2 (size_in x) o) in
        came_weighs st p (omega arith) k q
      where
        long : 2 + size_in x ≤ length x → length (take (size_in x) (drop 2 x)) ≡ size_in x
        long h = omega (arith, length-take (size_in x) (drop 2 x), length-drop 2 x)

    step_weighs :
        length (written_by (stepped s Z st x true)) + weighs s Z (store_behind s Z st (stepped s Z st x true)) ≤ weighs s Z st + used_by (stepped s Z st x true)
    unfolding stepped
    step_weighs = step_by_lem (found_in x) refl

  -- ---- all steps

  pub recorded_from_lem : (f : ℕ) (st x : List ℕ) → Octets st → Octets x → length (recorded_from s Z f st x) ≤ weighs s Z st + length x
  unfolding recorded_from
  recorded_from_lem zero st x k o = omega arith
  recorded_from_lem (suc f) st x k o =
      let d = stepped s Z st x true in
      let y = store_behind s Z st d in
      let z = drop (used_by d) x in
      let a = recorded_from_lem f y z (step_octets s Z st k x true o) (octets_drop (used_by d) x o) in
      let b = step_weighs st x k o in
      let u = used_most s Z st x true in
      omega (arith, length-append (written_by d) (recorded_from s Z f y z), length-drop (used_by d) x)

-- the law: what a recording comes to is never longer than it
pub recorded_most : (s : Settings) (x : List ℕ) → Octets x → length (recorded s x) ≤ length x
unfolding recorded
recorded_most s x o =
    let a = recorded_from_lem s cell_size (length x) empty_store x begin_octets o in
    let b = weighs_none s cell_size cell_count (omega arith) in
    omega arith
