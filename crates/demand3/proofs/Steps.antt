-- A call on a store's octets is an event of its cells: a packet that may be held arrives as its segment, any other passes, a taking
-- takes, a forgetting forgets. A store in order stays in order, with as many cells, and octets.
-- Assumes nothing.
use Prim.Native.Nat.{ℕ, ◌+◌, ◌*◌, ◌/◌, ◌≤◌}
use mathlib.Core.Path.{◌≡◌, refl, ap, sym, ◌∙◌, subst}
use mathlib.Core.Logic.{◌⊎◌, inl, inr}
use mathlib.Core.Bool.{Bool, true, false, not}
use mathlib.Core.Option.{Option, none, some}
use mathlib.Core.List.{List}
use native.Mathlib.Omega.{arith}
use lib.ListN.{length}
use lib.Dec.{leb, ltb, eqb}
use borrow.Author.Tests.{eqb-true, leb-true, eq-eqb, le-leb}
use Rattle.octets.specs.Octets.{pick, Octets}
use Rattle.octets.proofs.Lists.{bool}
use Rattle.walk.specs.declared.Settings.{Settings}
use Rattle.walk.specs.Walk.{refusal, begun}
use Rattle.packet.specs.Format.{SettingsInRange}
use Rattle.format.proofs.Start.{begun_back}
use Rattle.packet.specs.Reading.{read_packet, segmented}
use Rattle.packet.specs.Numbers.{next_counter, steps_most}
use Rattle.cells.specs.Segments.{Seg, both, same_rest}
use Rattle.cells.specs.Rows.{Cell, may_hold}
use Rattle.cells.specs.Order.{in_order, count_in, untaken_to}
use Rattle.cells.proofs.Held.{both_true}
use Rattle.cells.specs.Messages.{Run, cells_of, look}
use Rattle.arrival.specs.Arriving.{Arrived, whole, stored, again, late, refused, placed, beside, lowest_free}
use Rattle.arrival.specs.Arriving.{segment_arrived, segment_came, arrived_in, arrived, store_with}
use Rattle.taking.specs.Taking.{Took, message, unable, took_in, took, store_less}
use Rattle.demand3.specs.Cells.{put, clear, forgotten, recorded}
use Rattle.cells.proofs.Picking.{pick_yes}
use Rattle.cells.proofs.StoreOrder.{cells_inside}
use Rattle.cells.proofs.Gate.{gate_by}
use Rattle.arrival.proofs.Checked.{arrived_open}
use Rattle.arrival.proofs.After.{segment, late_told}
use Rattle.arrival.proofs.Keeps.{arrive_long, arrive_keeps}
use Rattle.taking.proofs.Checked.{took_open}
use Rattle.taking.proofs.Keeps.{take_long, take_keeps}
use Rattle.taking.specs.Forgetting.{store_forgotten}
use Rattle.taking.proofs.Forgets.{forget_long, forget_keeps}
use Rattle.demand3.proofs.After.{cells_stored, has_free_lem, cells_taken, cells_forgotten}
use Rattle.demand3.proofs.Marked.{untaken_is}
use Rattle.join.proofs.Plain.{arrive_octets, took_octets, forget_octets}
use Rattle.demand3.specs.Traffic.{Event, arrives, passes, takes, forgets, stowed, lessened, taken_from, stepped}
use Rattle.join.specs.Joining.{less_taken}
use Rattle.demand3.specs.Calls.{arrived_store}
use Rattle.demand3.specs.Sendings.{ReadsAs}
use Rattle.demand3.proofs.Looks.{put_full}

pub pick_no : {A : Type 0} (b : Bool) (x y : A) → b ≡ false → pick b x y ≡ y
pick_no true x y e = let z : ◌≡◌ {A = ℕ} 0 1 = cc in absurd (omega arith)
pick_no false x y e = refl

-- T and profile in range
pub settings_go : (s : Settings) → SettingsInRange s → eqb (begun s).refused 0 ≡ true
settings_go s r = rw (begun_back s r) refl

-- ---- a packet as an event

module _ (s : Settings) (Z : ℕ) (p : List ℕ) where
  -- a packet that may be held arrives as its segment
  abbrev pub event_of : Event
  event_of = pick (may_hold s Z p) (arrives (segment s p)) passes

  may_hold_lem : may_hold s Z p ≡ true → (2 + length p ≤ Z) × ((read_packet s p).refusal.number ≡ 0) × (segmented p ≡ true)
  unfolding may_hold
  may_hold_lem e =
      let a = both_true (leb (2 + length p) Z) (both (eqb (read_packet s p).refusal.number 0) (segmented p)) e in
      let b = both_true (eqb (read_packet s p).refusal.number 0) (segmented p) a.1 in
      (leb-true (2 + length p) Z a.0, eqb-true (read_packet s p).refusal.number 0 b.0, b.1)

  holds_may : 2 + length p ≤ Z → (read_packet s p).refusal.number ≡ 0 → segmented p ≡ true → may_hold s Z p ≡ true
  unfolding may_hold
  holds_may a b c = rw (le-leb (2 + length p) Z a, eq-eqb (read_packet s p).refusal.number 0 b, c) refl

  -- what arrives as a segment reads as it, and fits a cell
  pub event_reads : (t : Seg) → event_of ≡ arrives t → ReadsAs s p t × (2 + length p ≤ Z)
  event_reads t e = go (bool (may_hold s Z p))
    where
      go : (may_hold s Z p ≡ true) ⊎ (may_hold s Z p ≡ false) → ReadsAs s p t × (2 + length p ≤ Z)
      go (inl h) =
          let a = may_hold_lem h in
          let b : arrives (segment s p) ≡ arrives t = sym (pick_yes (may_hold s Z p) (arrives (segment s p)) passes h) ∙ e in
          (record { accepted = a.1; segmented = a.2; segment = cc b }, a.0)
      go (inr h) =
          let b : passes ≡ arrives t = sym (pick_no (may_hold s Z p) (arrives (segment s p)) passes h) ∙ e in
          let z : ◌≡◌ {A = ℕ} 0 1 = cc b in
          absurd (omega arith)

  -- and the other way
  pub reads_event : (t : Seg) → ReadsAs s p t → 2 + length p ≤ Z → event_of ≡ arrives t
  reads_event t r l =
      pick_yes (may_hold s Z p) (arrives (segment s p)) passes (holds_may l r.accepted r.segmented) ∙ ap arrives r.segment

  -- a packet takes nothing
  pub event_no_take : (long : ℕ) → event_of ≡ takes long → ⊥
  event_no_take long e = go (may_hold s Z p) e
    where
      go : (b : Bool) → pick b (arrives (segment s p)) passes ≡ takes long → ⊥
      go true h = let z : ◌≡◌ {A = ℕ} 0 1 = cc in omega arith
      go false h = let z : ◌≡◌ {A = ℕ} 0 1 = cc in omega arith

  -- and forgets nothing
  pub event_no_forget : (i : ℕ) → event_of ≡ forgets i → ⊥
  event_no_forget i e = go (may_hold s Z p) e
    where
      go : (b : Bool) → pick b (arrives (segment s p)) passes ≡ forgets i → ⊥
      go true h = let z : ◌≡◌ {A = ℕ} 0 1 = cc in omega arith
      go false h = let z : ◌≡◌ {A = ℕ} 0 1 = cc in omega arith

-- ---- a store in order of n cells, with T and profile in range

pub record Kept (s : Settings) (Z n : ℕ) (st : List ℕ) : Type 0 where
  pub settings : eqb (begun s).refused 0 ≡ true
  pub order : in_order s Z st ≡ true
  pub count : count_in Z st ≡ n
  pub octets : Octets st

module _ (s : Settings) (Z n : ℕ) (st : List ℕ) (k : Kept s Z n st) where
  abbrev cs : List Cell
  cs = cells_of s Z st n

  inside : n * Z ≤ length st
  inside = subst (λ (x : ℕ). x * Z ≤ length st) k.count (cells_inside Z st)

  -- ---- an arrival

  module _ (p : List ℕ) where
    abbrev low : ℕ
    low = lowest_free s Z st n

    pub arrived_is : arrived s Z st p ≡ arrived_in s Z st n p
    arrived_is =
        sym (arrived_open s Z st p (gate_by s Z st k.settings k.order))
        ∙ ap (λ (x : ℕ). arrived_in s Z st x p) k.count

    -- no record has the packet's key and counter in its range
    abbrev out : Bool
    out = untaken_to s Z st n (segment s p).key (segment s p).counter

    -- a packet that may not be held changes nothing
    passed : may_hold s Z p ≡ false → store_with Z st p (arrived_in s Z st n p) ≡ st
    unfolding arrived_in segment_came may_hold store_with
    passed e = go (eqb (read_packet s p).refusal.number 0) (segmented p) out (leb (2 + length p) Z) e
      where
        go : (a b u c : Bool) → both c (both a b) ≡ false →
            store_with Z st p
            (pick a (pick b (pick u (pick c (segment_arrived s Z st n (segment s p)) (refused (refusal 17))) late) whole) (refused (read_packet s p).refusal))
            ≡ st
        go false b u c h = refl
        go true false u c h = refl
        go true true false c h = refl
        go true true true false h = refl
        go true true true true h = let z : ◌≡◌ {A = ℕ} 0 1 = cc in absurd (omega arith)

    pub segment_came_lem : may_hold s Z p ≡ true → arrived_in s Z st n p ≡ pick out (segment_arrived s Z st n (segment s p)) late
    unfolding arrived_in segment_came
    segment_came_lem e =
        let a = may_hold_lem s Z p e in
        pick_yes (eqb (read_packet s p).refusal.number 0) _ _ (eq-eqb (read_packet s p).refusal.number 0 a.1)
        ∙ pick_yes (segmented p) _ _ a.2
        ∙ ap (λ (x : Arrived). pick out x late) (pick_yes (leb (2 + length p) Z) _ _ (le-leb (2 + length p) Z a.0))

    -- one that a record has in its range: whatever its length
    pub came_late : (read_packet s p).refusal.number ≡ 0 → segmented p ≡ true → recorded next_counter cs (segment s p).key (segment s p).counter ≡ true →
        arrived_in s Z st n p ≡ late
    came_late a b r = late_told s Z st n p a b (untaken_is s Z st n (segment s p).key (segment s p).counter ∙ ap not r)

    -- a new segment
    new_cells : may_hold s Z p ≡ true → out ≡ true → look cs (segment s p).key (segment s p).counter ≡ none →
        cells_of s Z (store_with Z st p (placed n low)) n ≡ put cs (segment s p)
    unfolding segment_arrived placed store_with
    new_cells h f e = go (bool (ltb low n))
      where
        came : arrived_in s Z st n p ≡ placed n low
        came = segment_came_lem h ∙ pick_yes out (segment_arrived s Z st n (segment s p)) late f ∙ ap (λ (o : Option Seg). beside o (segment s p) (placed n low)) e

        go : (ltb low n ≡ true) ⊎ (ltb low n ≡ false) → cells_of s Z (store_with Z st p (placed n low)) n ≡ put cs (segment s p)
        go (inl l) =
            let a : placed n low ≡ stored low = pick_yes (ltb low n) (stored low) (refused (refusal 19)) l in
            ap (λ (x : Arrived). cells_of s Z (store_with Z st p x) n) a ∙ cells_stored s Z st n p low (came ∙ a) inside
        go (inr l) =
            ap (λ (x : Arrived). cells_of s Z (store_with Z st p x) n) (pick_no (ltb low n) (stored low) (refused (refusal 19)) l)
            ∙ sym (put_full cs (segment s p) (has_free_lem s Z st n ∙ l))

    segment_cells : may_hold s Z p ≡ true → out ≡ true → cells_of s Z (store_with Z st p (segment_arrived s Z st n (segment s p))) n ≡
        stowed (look cs (segment s p).key (segment s p).counter) cs (segment s p)
    unfolding segment_arrived store_with
    segment_cells h f = go (look cs (segment s p).key (segment s p).counter) refl
      where
        same : (u : Seg) (b : Bool) → cells_of s Z (store_with Z st p (pick b again (refused (refusal 18)))) n ≡ cs
        same u true = refl
        same u false = refl

        go : (o : Option Seg) → look cs (segment s p).key (segment s p).counter ≡ o →
            cells_of s Z (store_with Z st p (beside o (segment s p) (placed n low))) n ≡ stowed o cs (segment s p)
        go none e = new_cells h f e
        go (some u) e = same u (same_rest u (segment s p))

    -- by whether a record has it in its range
    came_cells : may_hold s Z p ≡ true → cells_of s Z (store_with Z st p (pick out (segment_arrived s Z st n (segment s p)) late)) n ≡
        pick (recorded next_counter cs (segment s p).key (segment s p).counter) cs
        (stowed (look cs (segment s p).key (segment s p).counter) cs (segment s p))
    unfolding store_with
    came_cells h = go (recorded next_counter cs (segment s p).key (segment s p).counter) refl
      where
        go : (b : Bool) → recorded next_counter cs (segment s p).key (segment s p).counter ≡ b →
            cells_of s Z (store_with Z st p (pick out (segment_arrived s Z st n (segment s p)) late)) n ≡
            pick b cs (stowed (look cs (segment s p).key (segment s p).counter) cs (segment s p))
        go true e =
            ap (λ (x : Arrived). cells_of s Z (store_with Z st p x) n)
            (pick_no out (segment_arrived s Z st n (segment s p)) late (untaken_is s Z st n (segment s p).key (segment s p).counter ∙ ap not e))
        go false e =
            let f : out ≡ true = untaken_is s Z st n (segment s p).key (segment s p).counter ∙ ap not e in
            ap (λ (x : Arrived). cells_of s Z (store_with Z st p x) n) (pick_yes out (segment_arrived s Z st n (segment s p)) late f)
            ∙ segment_cells h f

    -- the cells after an arrival
    pub arrival_cells : cells_of s Z (arrived_store s Z st p) n ≡ stepped next_counter steps_most cs (event_of s Z p)
    unfolding stepped
    arrival_cells = ap (λ (x : Arrived). cells_of s Z (store_with Z st p x) n) arrived_is ∙ go (bool (may_hold s Z p))
      where
        go : (may_hold s Z p ≡ true) ⊎ (may_hold s Z p ≡ false) →
            cells_of s Z (store_with Z st p (arrived_in s Z st n p)) n ≡ stepped next_counter steps_most cs (event_of s Z p)
        go (inl e) =
            ap (λ (x : Arrived). cells_of s Z (store_with Z st p x) n) (segment_came_lem e) ∙ came_cells e
            ∙ ap (stepped next_counter steps_most cs) (sym (pick_yes (may_hold s Z p) (arrives (segment s p)) passes e))
        go (inr e) =
            ap (λ (x : List ℕ). cells_of s Z x n) (passed e)
            ∙ ap (stepped next_counter steps_most cs) (sym (pick_no (may_hold s Z p) (arrives (segment s p)) passes e))

    pub arrival_keeps : Octets p → Kept s Z n (arrived_store s Z st p)
    arrival_keeps q =
        record {
          settings = k.settings;
          order = arrive_keeps s Z st p k.order;
          count = ap (λ (x : ℕ). x / Z) (arrive_long Z st p (arrived s Z st p)) ∙ k.count;
          octets = arrive_octets Z st p (arrived s Z st p) k.octets q;
        }

  -- ---- a taking

  module _ (long : ℕ) where
    -- what it comes to, by the cells
    pub took_is : took s Z st long ≡ taken_from next_counter steps_most cs long
    unfolding took_in taken_from
    took_is =
        sym (took_open s Z st long (gate_by s Z st k.settings k.order))
        ∙ ap (λ (x : ℕ). took_in s Z st x long) k.count

    -- the cells after it
    pub taking_cells : cells_of s Z (less_taken s Z st long) n ≡ stepped next_counter steps_most cs (takes long)
    unfolding stepped store_less
    taking_cells =
        go (took s Z st long) refl ∙ ap (λ (x : Took). lessened x cs) took_is
      where
        by : (r : Run) → took s Z st long ≡ message r → cells_of s Z (store_less s Z st (count_in Z st) (message r)) n ≡ clear r cs
        by r e =
            subst (λ (x : ℕ). cells_of s Z (store_less s Z st (count_in Z st) (message r)) x ≡ clear r (cells_of s Z st x)) k.count
            (cells_taken s Z st k.octets long r e)

        go : (t : Took) → took s Z st long ≡ t → cells_of s Z (store_less s Z st (count_in Z st) t) n ≡ lessened t cs
        go (message r) e = by r e
        go (unable x) e = refl

    pub taking_keeps : Kept s Z n (less_taken s Z st long)
    taking_keeps =
        record {
          settings = k.settings;
          order = take_keeps s Z st k.octets long k.order;
          count = ap (λ (x : ℕ). x / Z) (take_long Z st s (count_in Z st) (took s Z st long)) ∙ k.count;
          octets = took_octets s Z st long k.octets;
        }

  -- ---- a forgetting

  module _ (i : ℕ) where
    -- the cells after it
    pub forgetting_cells : cells_of s Z (store_forgotten s Z st i) n ≡ stepped next_counter steps_most cs (forgets i)
    unfolding stepped
    forgetting_cells =
        subst (λ (x : ℕ). cells_of s Z (store_forgotten s Z st i) x ≡ forgotten i (cells_of s Z st x)) k.count
        (cells_forgotten s Z st i (gate_by s Z st k.settings k.order))

    pub forgetting_keeps : Kept s Z n (store_forgotten s Z st i)
    forgetting_keeps =
        record {
          settings = k.settings;
          order = forget_keeps s Z st i k.order;
          count = ap (λ (x : ℕ). x / Z) (forget_long s Z st i) ∙ k.count;
          octets = forget_octets s Z st i k.octets;
        }
