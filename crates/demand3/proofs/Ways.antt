-- Programs that store and take like the store but for two things that they are given: how they find a segment under a key and a
-- counter, and which message they pick. Of the faults that were met there are two: one that calls a message complete by the number of
-- its segments, and one that matches by transaction id alone. The store's own way comes to what its calls promise.
-- Assumes nothing.
use Prim.Native.Nat.{ℕ, zero, suc, ◌+◌, ◌-◌, ◌≤◌}
use mathlib.Core.Path.{◌≡◌, refl, ap, ap₂, sym, ◌∙◌}
use mathlib.Core.Logic.{◌⊎◌, inl, inr}
use mathlib.Core.Bool.{Bool, true, false}
use mathlib.Core.Option.{Option, none, some}
use mathlib.Core.List.{List, [], ◌∷◌, ◌++◌, map}
use lib.ListN.{length}
use lib.Dec.{eqb, leb}
use Rattle.octets.specs.Octets.{pick, part, alike, most32}
use Rattle.octets.proofs.Lists.{bool}
use Rattle.walk.specs.declared.Settings.{Settings}
use Rattle.packet.specs.Numbers.{next_counter, steps_most}
use Rattle.cells.specs.Segments.{Seg, both}
use Rattle.cells.specs.Rows.{Cell, segment_in, by_segment}
use Rattle.cells.specs.Messages.{Run, Role, first, middle, last, role_of, cells_of, or_else, look, link, opens_by, rest_from, run_from, pick_in, picked}
use Rattle.taking.specs.Taking.{Took, drawn, took}
use Rattle.cells.proofs.Picking.{pick_yes}
use Rattle.cells.proofs.Empty.{empty_cells}
use Rattle.demand3.specs.Cells.{forgotten, recorded}
use Rattle.demand3.specs.Traffic.{Event, arrives, passes, takes, forgets, stowed, lessened, empty, taken_from, stepped, after}
use Rattle.demand3.specs.Calls.{Call, arrival, taking, joining, forgetting, Plain, draws, store_at, took_by, store_by, store_after}
use Rattle.demand3.specs.Presupposed.{InUse, empty_store, store_behind}
use Rattle.demand3.proofs.Steps.{pick_no, event_of, Kept}
use Rattle.demand3.proofs.Plain.{Pure, plain_first, plain_rest, plain_at}
use Rattle.demand3.proofs.Simulates.{took_by_lem, by_keeps, by_cells, run_keeps}
use Rattle.demand3.proofs.Carried.{begins}
use Rattle.demand3.proofs.Acts.{Act, comes, draw, meets, forgoes, far_of, act_of, lands_beside, lands_far, lands, events_of, draws_by, by_acts}

-- what is held under a key and a counter, and the message that a taking picks
pub record Way : Type 0 where
  pub find : List Cell → List ℕ → ℕ → Option Seg
  pub choose : List Cell → Option Run

-- ---- a program that goes a way

module _ (w : Way) where
  unfoldable pub goes : List Cell → Event → List Cell
  goes cs (arrives t) = pick (recorded next_counter cs t.key t.counter) cs (stowed (w.find cs t.key t.counter) cs t)
  goes cs passes = cs
  goes cs (takes long) = lessened (drawn (w.choose cs) long) cs
  goes cs (forgets i) = forgotten i cs

  unfoldable pub goes_on : List Cell → List Event → List Cell
  goes_on cs [] = cs
  goes_on cs (e ∷ es) = goes_on (goes cs e) es

  -- a joining goes on to a taking
  abbrev pub joins : List Cell → Event → Option Seg → Bool
  joins cs (arrives t) o = pick (recorded next_counter cs t.key t.counter) true (lands_beside (w.find cs t.key t.counter) cs t)
  joins cs passes o = lands_far cs o
  joins cs (takes long) o = false
  joins cs (forgets i) o = false

  -- a call's events
  abbrev pub events_for : List Cell → Act → List Event
  events_for cs (comes e) = e ∷ []
  events_for cs (draw long) = takes long ∷ []
  events_for cs (meets e o long) = e ∷ pick (joins cs e o) (takes long ∷ []) []
  events_for cs (forgoes i) = forgets i ∷ []

  -- the cells after a list of calls
  unfoldable pub behind : List Cell → List Act → List Cell
  behind cs [] = cs
  behind cs (a ∷ l) = behind (goes_on cs (events_for cs a)) l

  -- what a call takes
  unfoldable pub taken_by : List Cell → Act → Option Took
  taken_by cs (comes e) = none
  taken_by cs (draw long) = some (drawn (w.choose cs) long)
  taken_by cs (meets e o long) = pick (joins cs e o) (some (drawn (w.choose (goes cs e)) long)) none
  taken_by cs (forgoes i) = none

  -- and after some calls, from an empty store of n cells on
  abbrev pub by : Settings → ℕ → ℕ → List Call → Call → Option Took
  by s Z n cs c = taken_by (behind (empty n) (map (act_of s Z) cs)) (act_of s Z c)

-- ---- the store's way

abbrev pub store_way : Way
store_way = record { find = look; choose = picked next_counter steps_most }

goes_same : (cs : List Cell) (e : Event) → goes store_way cs e ≡ stepped next_counter steps_most cs e
unfolding goes stepped taken_from
goes_same cs (arrives t) = refl
goes_same cs passes = refl
goes_same cs (takes long) = refl
goes_same cs (forgets i) = refl

all_same : (es : List Event) (cs : List Cell) → goes_on store_way cs es ≡ after next_counter steps_most cs es
unfolding goes_on after
all_same [] cs = refl
all_same (e ∷ es) cs = all_same es (goes store_way cs e) ∙ ap (λ (x : List Cell). after next_counter steps_most x es) (goes_same cs e)

joins_same : (cs : List Cell) (e : Event) (o : Option Seg) → joins store_way cs e o ≡ lands cs e o
joins_same cs (arrives t) o = refl
joins_same cs passes o = refl
joins_same cs (takes long) o = refl
joins_same cs (forgets i) o = refl

events_same : (cs : List Cell) (a : Act) → events_for store_way cs a ≡ events_of cs a
events_same cs (comes e) = refl
events_same cs (draw long) = refl
events_same cs (meets e o long) = ap (λ (b : Bool). e ∷ pick b (takes long ∷ []) []) (joins_same cs e o)
events_same cs (forgoes i) = refl

module _ (s : Settings) (Z n : ℕ) where
  module _ (st : List ℕ) (k : Kept s Z n st) where
    abbrev cs : List Cell
    cs = cells_of s Z st n

    one_takes : (c : Call) → Pure c → taken_by store_way cs (act_of s Z c) ≡ took_by s Z st c
    unfolding taken_by took_by taken_from after
    one_takes (arrival p) o = refl
    one_takes (forgetting i) o = refl
    one_takes (taking out) o = sym (took_by_lem s Z n st k (taking out) o refl)
    one_takes (joining p out) o =
        ap (λ (b : Bool). pick b taken none) (joins_same cs (event_of s Z p) (far_of s Z p) ∙ sym (draws_by s Z n st k p out))
        ∙ go (bool (draws s Z st (joining p out)))
      where
        taken : Option Took
        taken = some (drawn (picked next_counter steps_most (goes store_way cs (event_of s Z p))) (length out))

        go : (draws s Z st (joining p out) ≡ true) ⊎ (draws s Z st (joining p out) ≡ false) →
            pick (draws s Z st (joining p out)) taken none ≡ took_by s Z st (joining p out)
        go (inl d) =
            pick_yes (draws s Z st (joining p out)) taken none d
            ∙ ap (λ (x : List Cell). some (drawn (picked next_counter steps_most x) (length out))) (goes_same cs (event_of s Z p))
            ∙ sym (took_by_lem s Z n st k (joining p out) o d)
        go (inr d) =
            pick_no (draws s Z st (joining p out)) taken none d
            ∙ sym
            (pick_no (draws s Z st (joining p out)) (some (took s Z (store_at s Z st (joining p out)) (length out))) none d)

    one_goes : (c : Call) → Pure c → goes_on store_way cs (events_for store_way cs (act_of s Z c)) ≡ cells_of s Z (store_by s Z st c) n
    one_goes c o =
        ap (goes_on store_way cs) (events_same cs (act_of s Z c) ∙ sym (by_acts s Z n st k c))
        ∙ all_same _ cs
        ∙ sym (by_cells s Z n st k c o)

  all_go : (l : List Call) (st : List ℕ) → Kept s Z n st → Plain l →
      behind store_way (cells_of s Z st n) (map (act_of s Z) l) ≡ cells_of s Z (store_after s Z st l) n
  unfolding behind store_after
  all_go [] st k o = refl
  all_go (c ∷ l) st k o =
      ap (λ (x : List Cell). behind store_way x (map (act_of s Z) l)) (one_goes st k c (plain_first c l o))
      ∙ all_go l (store_by s Z st c) (by_keeps s Z n st k c (plain_first c l o)) (plain_rest c l o)

  -- a program that goes the store's way takes what the store's calls do
  pub store_goes : 1 ≤ Z → InUse s n → (cs : List Call) (c : Call) → Plain (cs ++ c ∷ []) → by store_way s Z n cs c ≡ took_by s Z (store_behind s Z n cs) c
  store_goes one u cs c o =
      let f = plain_at (cs ++ c ∷ []) cs [] c refl o in
      let k = begins s Z n one u in
      ap (λ (x : List Cell). taken_by store_way (behind store_way x (map (act_of s Z) cs)) (act_of s Z c)) (sym (empty_cells s Z n))
      ∙ ap (λ (x : List Cell). taken_by store_way x (act_of s Z c)) (all_go cs (empty_store Z n) k f.0)
      ∙ one_takes (store_behind s Z n cs) (run_keeps s Z n cs (empty_store Z n) k f.0) c f.1

-- ---- a message complete by the number of its segments

-- the segments of a key
unfoldable pub of_key : List ℕ → List Cell → List Seg
of_key k [] = []
of_key k (x ∷ cs) = let r = of_key k cs in by_segment r (λ t. pick (alike k t.key) (t ∷ r) r) (segment_in x)

-- a last among some segments
abbrev last_or : Role → Seg → Option Seg → Option Seg
last_or first t r = r
last_or middle t r = r
last_or last t r = some t

unfoldable pub last_of : List Seg → Option Seg
last_of [] = none
last_of (t ∷ ts) = last_or (role_of t.flags) t (last_of ts)

-- those that are held at n counters from c on, and no others
abbrev among : Option Seg → List Seg → List Seg
among none ts = ts
among (some t) ts = t ∷ ts

unfoldable pub held_from : ℕ → List Cell → List ℕ → ℕ → List Seg
held_from zero cs k c = []
held_from (suc n) cs k c = among (look cs k c) (held_from n cs k (next_counter c))

-- the steps from one counter to another, round the end if it is lower
abbrev between : ℕ → ℕ → ℕ
between c d = pick (leb c d) (d - c) (most32 - c + suc d)

-- there is a last, and of the key as many segments as the counters from the first to it
abbrev enough : List Cell → List Seg → Seg → Option Seg → Option (List Seg)
enough cs ts t none = none
enough cs ts t (some u) =
    pick (eqb (length ts) (suc (between t.counter u.counter)))
    (some (held_from (between t.counter u.counter) cs t.key (next_counter t.counter))) none

abbrev numbered_from : List Cell → Cell → Option Run
numbered_from cs x =
    by_segment none (λ t. opens_by (role_of t.flags) t (enough cs (of_key t.key cs) t (last_of (of_key t.key cs)))) (segment_in x)

unfoldable pub numbered : List Cell → List Cell → Option Run
numbered cs [] = none
numbered cs (x ∷ xs) = or_else (numbered_from cs x) (numbered cs xs)

abbrev pub number_way : Way
number_way = record { find = look; choose = λ cs. numbered cs cs }

-- ---- segments matched by their transaction id alone

-- of a key, two octets of identification and the header, the eight of the transaction id
abbrev pub transaction_of : List ℕ → List ℕ
transaction_of k = part k 14 8

abbrev matched : List ℕ → ℕ → Cell → Option Seg
matched k c x =
    by_segment none
    (λ t. pick (both (eqb c t.counter) (alike (transaction_of k) (transaction_of t.key))) (some t) none)
    (segment_in x)

unfoldable pub match : List Cell → List ℕ → ℕ → Option Seg
match [] k c = none
match (x ∷ xs) k c = or_else (matched k c x) (match xs k c)

-- the message that is found so: as the store finds its own, but with another finding of a segment
module _ (find : List Cell → List ℕ → ℕ → Option Seg) where
  unfoldable pub rest_by : ℕ → List Cell → List ℕ → ℕ → Option (List Seg)
  rest_by zero cs k c = none
  rest_by (suc n) cs k c = let r = rest_by n cs k (next_counter c) in link (find cs k c) r

  unfoldable pub opened : List Cell → Seg → Option Run
  opened cs t = let r = rest_by steps_most cs t.key (next_counter t.counter) in opens_by (role_of t.flags) t r

  abbrev opened_in : List Cell → Cell → Option Run
  opened_in cs x = by_segment none (opened cs) (segment_in x)

  unfoldable pub chosen : List Cell → List Cell → Option Run
  chosen cs [] = none
  chosen cs (x ∷ xs) = let r = chosen cs xs in or_else (opened_in cs x) r

  abbrev pub way_by : Way
  way_by = record { find = find; choose = λ cs. chosen cs cs }

abbrev pub transaction_way : Way
transaction_way = way_by match

-- with the store's finding it is the store's way
rest_same : (n : ℕ) (cs : List Cell) (k : List ℕ) (c : ℕ) → rest_by look n cs k c ≡ rest_from next_counter steps_most n cs k c
unfolding rest_by rest_from
rest_same zero cs k c = refl
rest_same (suc n) cs k c = ap (link (look cs k c)) (rest_same n cs k (next_counter c))

opened_same : (cs : List Cell) (t : Seg) → opened look cs t ≡ run_from next_counter steps_most cs t
unfolding opened run_from
opened_same cs t = ap (opens_by (role_of t.flags) t) (rest_same steps_most cs t.key (next_counter t.counter))

pub chosen_same : (cs xs : List Cell) → chosen look cs xs ≡ pick_in next_counter steps_most cs xs
unfolding chosen pick_in
chosen_same cs [] = refl
chosen_same cs (x ∷ xs) = ap₂ or_else (go (segment_in x)) (chosen_same cs xs)
  where
    go : (o : Option Seg) → by_segment none (opened look cs) o ≡ by_segment none (run_from next_counter steps_most cs) o
    go none = refl
    go (some t) = opened_same cs t
