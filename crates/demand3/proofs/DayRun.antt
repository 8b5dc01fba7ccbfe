-- The run of `Day`, of which demand 3 speaks (J-8): interleaved arrivals at fewer cells than segments, cells used
-- again after a take, repeats with another sequence count, a whole, a malformed, an over-long and an other-keyed packet, a take
-- refused by 21, joinings, late repeats of a message that was taken, forgettings.
-- Assumes nothing.
use Prim.Native.Nat.{ℕ, ◌≤◌}
use mathlib.Core.Path.{◌≡◌, refl, ap, ap₂, ◌∙◌}
use mathlib.Core.Bool.{true}
use mathlib.Core.Option.{Option, none, some}
use mathlib.Core.List.{List, [], ◌∷◌, ◌++◌, map}
use native.Mathlib.Omega.{arith}
use lib.ListN.{length, replicate}
use Rattle.octets.specs.Octets.{Octets}
use Rattle.packet.specs.Numbers.{next_counter, steps_most}
use Rattle.cells.specs.Segments.{Seg}
use Rattle.cells.specs.Rows.{Cell}
use Rattle.cells.specs.Order.{cell_size}
use Rattle.cells.proofs.Empty.{empty_cells}
use Rattle.demand3.specs.Traffic.{Event, arrives, passes, empty, taken_from, after}
use Rattle.demand3.specs.Calls.{Call, arrival, taking, joining, forgetting, Plain, draws, took_by}
use Rattle.demand3.specs.Presupposed.{InUse, empty_store, store_behind, cells_in}
use Rattle.demand3.proofs.Steps.{event_of}
use Rattle.demand3.proofs.Events.{events_in}
use Rattle.demand3.proofs.Plain.{plain_first, plain_takings, joining_pure}
use Rattle.demand3.proofs.Simulates.{took_by_lem}
use Rattle.demand3.proofs.Carried.{begins, behind_cells, behind_keeps}
use Rattle.demand3.proofs.Acts.{Act, comes, draw, meets, forgoes, far_of, act_of, lands, act_events, event_near, draws_by, acts_are}
use Rattle.demand3.proofs.Day.{settings, of_three, of_two, single, stub, huge, other, seg, stray}
use Rattle.demand3.proofs.Day.{is_three_first, is_three_next, is_three_last, is_two_first, is_two_last, is_single, is_stub, is_huge, is_other}

abbrev Z : ℕ
Z = cell_size

-- ---- the calls

-- an output of n octets
abbrev pub lent_out : ℕ → List ℕ
lent_out n = replicate n 0xEE

-- the last comes first; a take before anything is complete; a malformed and a whole packet; a joining that stores; a repeat with
-- another sequence count; an over-long packet
abbrev pub dawn : List Call
dawn =
    arrival (of_three 2 2) ∷ taking (lent_out 100) ∷ arrival (of_two 0 3) ∷ arrival stub ∷ arrival single ∷ joining (of_three 0 0) (lent_out 100)
    ∷ arrival (of_three 2 77)
    ∷ arrival huge
    ∷ []

-- a joining with one octet of output too few
abbrev pub early : Call
early = joining (of_three 1 1) (lent_out 30)

-- a repeat in a full store
abbrev pub morning : List Call
morning = dawn ++ early ∷ arrival (of_three 1 78) ∷ []

-- a repeat joined, with four octets of output more than enough
abbrev pub at_noon : Call
at_noon = joining (of_three 1 79) (lent_out 35)

abbrev pub noon : List Call
noon = morning ++ at_noon ∷ []

-- freed cells are used again; a whole packet joined without output; the other message is taken; late repeats of both come, by arrivals and by
-- a joining; a record is to be forgotten in a cell that has none, and that of the other message is
abbrev pub dusk : List Call
dusk =
    arrival other ∷ joining single [] ∷ arrival (of_three 0 83) ∷ arrival (of_two 1 4) ∷ taking (lent_out 33) ∷ arrival (of_two 0 84)
    ∷ joining (of_three 1 85) (lent_out 100)
    ∷ forgetting 0
    ∷ forgetting 1
    ∷ []

-- the first message's record is forgotten
abbrev pub forgets_three : Call
forgets_three = forgetting 2

abbrev pub evening : List Call
evening = dusk ++ forgets_three ∷ []

-- and it is sent once more
abbrev pub night : List Call
night = arrival (of_three 0 80) ∷ arrival (of_three 1 81) ∷ arrival (of_three 2 82) ∷ []

-- up to the forgetting, and all
abbrev pub dark : List Call
dark = noon ++ evening

abbrev pub day : List Call
day = dark ++ night

-- ---- the same by their events

abbrev pub three_first : Event
three_first = arrives (seg 4294967294 1 (1 ∷ 2 ∷ 3 ∷ []))

abbrev pub three_next : Event
three_next = arrives (seg 4294967295 0 (4 ∷ 5 ∷ 6 ∷ []))

abbrev pub three_last : Event
three_last = arrives (seg 0 2 (7 ∷ 8 ∷ []))

abbrev pub two_first : Event
two_first = arrives (seg 1 1 (21 ∷ 22 ∷ 23 ∷ []))

abbrev pub two_last : Event
two_last = arrives (seg 2 2 (24 ∷ 25 ∷ 26 ∷ 27 ∷ 28 ∷ 29 ∷ 30 ∷ []))

abbrev pub dawn_acts : List Act
dawn_acts =
    comes three_last ∷ draw 100 ∷ comes two_first ∷ comes passes ∷ comes passes ∷ meets three_first none 100 ∷ comes three_last ∷ comes passes ∷ []

abbrev pub morning_acts : List Act
morning_acts = dawn_acts ++ meets three_next none 30 ∷ comes three_next ∷ []

abbrev pub dusk_acts : List Act
dusk_acts =
    comes (arrives stray) ∷ meets passes none 0 ∷ comes three_first ∷ comes two_last ∷ draw 33 ∷ comes two_first ∷ meets three_next none 100 ∷ forgoes 0
    ∷ forgoes 1
    ∷ []

abbrev pub evening_acts : List Act
evening_acts = dusk_acts ++ forgoes 2 ∷ []

abbrev pub night_acts : List Act
night_acts = comes three_first ∷ comes three_next ∷ comes three_last ∷ []

pub consed : {A : Type 0} {a b : A} {l k : List A} → a ≡ b → l ≡ k → a ∷ l ≡ b ∷ k
consed p q = ap₂ ◌∷◌ p q

-- a joining of a packet that arrives as a segment
pub met : (p : List ℕ) (t : Seg) (k : ℕ) → event_of settings Z p ≡ arrives t → meets (event_of settings Z p) (far_of settings Z p) k ≡ meets (arrives t) none k
met p t k e = ap₂ (λ (x : Event) (o : Option Seg). meets x o k) e (event_near settings Z p t e)

single_near : far_of settings Z single ≡ none
unfolding far_of
single_near = refl

pub dusk_acts_lem : map (act_of settings Z) dusk ≡ dusk_acts
dusk_acts_lem =
    consed (ap comes is_other)
    (consed (ap₂ (λ (x : Event) (o : Option Seg). meets x o 0) is_single single_near)
    (consed (ap comes (is_three_first 83 (omega arith)))
    (consed (ap comes (is_two_last 4 (omega arith)))
    (consed refl
    (consed (ap comes (is_two_first 84 (omega arith)))
    (consed (met (of_three 1 85) _ 100 (is_three_next 85 (omega arith))) refl))))))

pub evening_acts_lem : map (act_of settings Z) evening ≡ evening_acts
evening_acts_lem = ap (λ (l : List Act). l ++ forgoes 2 ∷ []) dusk_acts_lem

pub night_acts_lem : map (act_of settings Z) night ≡ night_acts
night_acts_lem =
    consed (ap comes (is_three_first 80 (omega arith)))
    (consed (ap comes (is_three_next 81 (omega arith))) (consed (ap comes (is_three_last 82 (omega arith))) refl))

pub dawn_acts_lem : map (act_of settings Z) dawn ≡ dawn_acts
dawn_acts_lem =
    consed (ap comes (is_three_last 2 (omega arith)))
    (consed refl
    (consed (ap comes (is_two_first 3 (omega arith)))
    (consed (ap comes is_stub)
    (consed (ap comes is_single)
    (consed (met (of_three 0 0) _ 100 (is_three_first 0 (omega arith)))
    (consed (ap comes (is_three_last 77 (omega arith))) (consed (ap comes is_huge) refl)))))))

pub morning_acts_lem : map (act_of settings Z) morning ≡ morning_acts
morning_acts_lem =
    ap₂ ◌++◌ dawn_acts_lem
    (consed (met (of_three 1 1) _ 30 (is_three_next 1 (omega arith))) (consed (ap comes (is_three_next 78 (omega arith))) refl))

abbrev pub noon_acts : List Act
noon_acts = morning_acts ++ meets three_next none 35 ∷ []

pub noon_acts_lem : map (act_of settings Z) noon ≡ noon_acts
noon_acts_lem = ap₂ ◌++◌ morning_acts_lem (consed (met (of_three 1 79) _ 35 (is_three_next 79 (omega arith))) refl)

abbrev pub dark_acts : List Act
dark_acts = noon_acts ++ evening_acts

pub dark_acts_lem : map (act_of settings Z) dark ≡ dark_acts
dark_acts_lem = ap₂ ◌++◌ noon_acts_lem evening_acts_lem

abbrev pub day_acts : List Act
day_acts = dark_acts ++ night_acts

pub day_acts_lem : map (act_of settings Z) day ≡ day_acts
day_acts_lem = ap₂ ◌++◌ dark_acts_lem night_acts_lem

-- ---- the store

pub in_use_lem : InUse settings 4
in_use_lem = record { settings = record { t_low = omega arith; t_top = omega arith; profile_top = omega arith }; some = omega arith; most = omega arith }

pub one : 1 ≤ Z
one = omega arith

module _ (l : List Call) (o : Plain l) (acts : List Act) (e : map (act_of settings Z) l ≡ acts) where
  abbrev now : List ℕ
  now = store_behind settings Z 4 l

  pub events_are : events_in settings Z (empty_store Z 4) l ≡ act_events (empty 4) acts
  events_are =
      acts_are settings Z 4 l (empty_store Z 4) (begins settings Z 4 one in_use_lem) o
      ∙ ap (λ (x : List Cell). act_events x (map (act_of settings Z) l)) (empty_cells settings Z 4)
      ∙ ap (act_events (empty 4)) e

  pub cells_are : cells_in settings Z 4 now ≡ after next_counter steps_most (empty 4) (act_events (empty 4) acts)
  cells_are = behind_cells settings Z 4 one in_use_lem l o ∙ ap (after next_counter steps_most (empty 4)) events_are

  -- what a joining of a segment takes
  pub joined_takes :
      (cs : List Cell) → after next_counter steps_most (empty 4) (act_events (empty 4) acts) ≡ cs → (p out : List ℕ) → Octets p →
      (t : Seg) → event_of settings Z p ≡ arrives t → lands cs (arrives t) none ≡ true →
      took_by settings Z now (joining p out) ≡ some (taken_from next_counter steps_most (after next_counter steps_most cs (arrives t ∷ [])) (length out))
  joined_takes cs f p out h t q g =
      let k = behind_keeps settings Z 4 one in_use_lem l o in
      let c = cells_are ∙ f in
      let d : draws settings Z now (joining p out) ≡ true =
      draws_by settings Z 4 now k p out ∙ ap (λ (x : List Cell). lands x (event_of settings Z p) (far_of settings Z p)) c
      ∙ ap₂ (lands cs) q (event_near settings Z p t q)
      ∙ g in
      took_by_lem settings Z 4 now k (joining p out) (joining_pure p out h) d
      ∙ ap (λ (x : List Cell). some (taken_from next_counter steps_most (after next_counter steps_most x (event_of settings Z p ∷ [])) (length out))) c
      ∙ ap (λ (x : Event). some (taken_from next_counter steps_most (after next_counter steps_most cs (x ∷ [])) (length out))) q

  -- and a taking
  pub taking_takes :
      (cs : List Cell) → after next_counter steps_most (empty 4) (act_events (empty 4) acts) ≡ cs → (out : List ℕ) →
      took_by settings Z now (taking out) ≡ some (taken_from next_counter steps_most cs (length out))
  unfolding after
  taking_takes cs f out =
      took_by_lem settings Z 4 now (behind_keeps settings Z 4 one in_use_lem l o) (taking out) (plain_first (taking out) [] (plain_takings (out ∷ []))) refl
      ∙ ap (λ (x : List Cell). some (taken_from next_counter steps_most x (length out))) (cells_are ∙ f)
