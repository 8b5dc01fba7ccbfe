-- A run that the laws speak of, and that it meets every condition, by computation: demand 3's worked day up to noon, with its take refused by 20, its
-- joining refused by 21 and the one that hands out the first message, whose counters go round the end; then, without a forgetting, repeats of
-- that message, a take of the other refused by 21, its take, and takes refused by 20. Five segments and two records at four cells.
-- Assumes nothing.
use Prim.Native.Nat.{ℕ}
use mathlib.Core.Path.{◌≡◌, refl, ap, ap₂, sym, ◌∙◌, subst}
use mathlib.Core.Logic.{◌⊎◌, inl, inr}
use mathlib.Core.Bool.{Bool, true, false, false≢true}
use mathlib.Core.Option.{none}
use mathlib.Core.List.Memᴰ
use mathlib.Core.List.{List, [], ◌∷◌, ◌++◌, map, Memᴰ}
use native.Mathlib.Omega.{arith}
use Rattle.octets.specs.Octets.{alike}
use Rattle.packet.specs.Numbers.{next_counter, steps_most}
use Rattle.cells.specs.Segments.{carries, same_rest, reaches, both}
use Rattle.cells.specs.Order.{cell_size}
use Rattle.cells.specs.Messages.{look, role_of, bodies, rest_from, run_from, pick_in, among}
use Rattle.cells.proofs.Held.{both_true}
use Rattle.demand3.specs.Cells.{put, has_free, recorded, spans, forgotten}
use Rattle.demand3.specs.Traffic.{empty, taken_from, stepped, after, arrives, Room as CellRoom}
use Rattle.demand3.specs.Calls.{Call, arrival, taking, joining, forgetting, Handed}
use Rattle.demand3.specs.Presupposed.{Traffic}
use Rattle.demand3.proofs.Checks.{room_in, room_by}
use Rattle.demand3.proofs.Acts.{EachPacket, each_packet, Act, comes, draw, meets, act_of, act_events, room_told}
use Rattle.demand3.proofs.Day.{settings, three, two, messages, of_three, of_two, other, stray}
use Rattle.demand3.proofs.Day.{is_three_first, is_three_next, is_three_last, is_two_first, is_two_last, is_other}
use Rattle.demand3.proofs.DayComes.{Fine, three_fine, two_fine, other_fine}
use Rattle.demand3.proofs.DayRun.{lent_out, noon, evening as later_day, night, day, three_first, three_next, three_last, two_first, two_last}
use Rattle.demand3.proofs.DayRun.{noon_acts, noon_acts_lem, consed, met, in_use_lem, one, events_are}
use Rattle.demand3.proofs.DayGiven.{traffic as day_traffic}
use Rattle.once.specs.Once.{NoneForgets, Unforgotten, Once}
use Rattle.once.proofs.Lists.{before_others}
use Rattle.once.proofs.Each.{each_once·whole}

abbrev Z : ℕ
Z = cell_size

-- ---- the calls

-- another key; a repeat of the first message, which is out; the last segment of the other, which completes it
abbrev pub completing : List Call
completing = arrival other ∷ arrival (of_three 0 83) ∷ arrival (of_two 1 4) ∷ []

-- one octet of output too few
abbrev pub afternoon : List Call
afternoon = completing ++ taking (lent_out 32) ∷ []

-- the first message is out, and the other complete
abbrev pub ripe : List Call
ripe = noon ++ afternoon

-- the other is taken; the first comes once more, all of it, one segment by a joining
abbrev pub repeating : List Call
repeating = taking (lent_out 33) ∷ joining (of_three 1 85) (lent_out 100) ∷ arrival (of_three 2 86) ∷ []

-- a take that finds nothing complete; and a repeat of the other
abbrev pub evening : List Call
evening = repeating ++ taking (lent_out 100) ∷ arrival (of_two 0 84) ∷ []

abbrev pub whole : List Call
whole = ripe ++ evening

-- ---- the same by their events

abbrev pub afternoon_acts : List Act
afternoon_acts = comes (arrives stray) ∷ comes three_first ∷ comes two_last ∷ draw 32 ∷ []

abbrev pub evening_acts : List Act
evening_acts = draw 33 ∷ meets three_next none 100 ∷ comes three_last ∷ draw 100 ∷ comes two_first ∷ []

abbrev pub ripe_acts : List Act
ripe_acts = noon_acts ++ afternoon_acts

pub completing_acts : map (act_of settings Z) completing ≡ comes (arrives stray) ∷ comes three_first ∷ comes two_last ∷ []
completing_acts = consed (ap comes is_other) (consed (ap comes (is_three_first 83 (omega arith))) (consed (ap comes (is_two_last 4 (omega arith))) refl))

pub ripe_acts_lem : map (act_of settings Z) ripe ≡ ripe_acts
ripe_acts_lem = ap₂ ◌++◌ noon_acts_lem (ap (λ (l : List Act). l ++ draw 32 ∷ []) completing_acts)

pub repeating_acts : map (act_of settings Z) repeating ≡ draw 33 ∷ meets three_next none 100 ∷ comes three_last ∷ []
repeating_acts = consed refl (consed (met (of_three 1 85) _ 100 (is_three_next 85 (omega arith))) (consed (ap comes (is_three_last 86 (omega arith))) refl))

pub whole_acts : map (act_of settings Z) whole ≡ ripe_acts ++ evening_acts
whole_acts = ap₂ ◌++◌ ripe_acts_lem (ap₂ ◌++◌ repeating_acts (consed refl (consed (ap comes (is_two_first 84 (omega arith))) refl)))

-- ---- what is presupposed

after_fine : EachPacket Fine (afternoon ++ evening)
after_fine = (
  other_fine,
  (
    three_fine 0 (omega arith) 83 (omega arith),
    (
      two_fine 1 (omega arith) 4 (omega arith),
      (three_fine 1 (omega arith) 85 (omega arith), (three_fine 2 (omega arith) 86 (omega arith), (two_fine 0 (omega arith) 84 (omega arith), tt))),
    ),
  ),
)

fine : (p : List ℕ) → Handed p whole → Fine p
fine p h = go (Memᴰ.append_cases noon h')
  where
    h' : Memᴰ h.0 (noon ++ (afternoon ++ evening))
    h' = h.1

    go : Memᴰ h.0 noon ⊎ Memᴰ h.0 (afternoon ++ evening) → Fine p
    go (inl k) =
        let v : Handed p day = (h.0, Memᴰ.append_left night (Memᴰ.append_left later_day k), h.2) in
        (day_traffic.octets p v, day_traffic.packets p v)
    go (inr k) = each_packet Fine (afternoon ++ evening) after_fine p (h.0, k, h.2)

pub traffic : Traffic settings Z messages whole
traffic =
    record { cut = day_traffic.cut; apart = day_traffic.apart; octets = λ p h. (fine p h).0; packets = λ p h. (fine p h).1 }

has_room : room_in next_counter steps_most (empty 4) (act_events (empty 4) (ripe_acts ++ evening_acts)) ≡ true
unfolding act_events room_in after stepped taken_from look carries same_rest alike put has_free pick_in run_from rest_from role_of bodies among next_counter recorded spans
    reaches forgotten
has_room = refl

-- no call forgets
abbrev stays : Call → Bool
stays (arrival p) = true
stays (taking out) = true
stays (joining p out) = true
stays (forgetting i) = false

abbrev all_stay : List Call → Bool
all_stay [] = true
all_stay (c ∷ cs) = both (stays c) (all_stay cs)

none_by : (cs : List Call) → all_stay cs ≡ true → NoneForgets cs
none_by [] e i h = Memᴰ.not-nil h
none_by (c ∷ cs) e i h = go (none_by cs b.1 i) (Memᴰ.cases_cons h)
  where
    b : (stays c ≡ true) × (all_stay cs ≡ true)
    b = both_true (stays c) (all_stay cs) e

    go : (Memᴰ (forgetting i) cs → ⊥) → (forgetting i ≡ c) ⊎ Memᴰ (forgetting i) cs → ⊥
    go ih (inl d) = false≢true (ap stays d ∙ b.0)
    go ih (inr k) = ih k

pub unforgotten : Unforgotten settings Z 4 messages whole
unforgotten =
    record {
      given =
          record {
            traffic = traffic;
            room =
                room_told settings Z 4 one in_use_lem whole traffic.octets
                (subst (CellRoom next_counter steps_most (empty 4)) (sym (events_are whole traffic.octets (ripe_acts ++ evening_acts) whole_acts))
                (room_by next_counter steps_most (empty 4) (act_events (empty 4) (ripe_acts ++ evening_acts)) has_room));
          };
      none_forgets = none_by whole refl;
    }

pub ripe_given : Unforgotten settings Z 4 messages ripe
ripe_given = before_others settings Z 4 messages ripe evening unforgotten

-- so of each message the law speaks
pub once_three : Once settings Z 4 three whole
once_three = each_once·whole settings 4 in_use_lem messages whole unforgotten three (Memᴰ.head refl)

pub once_two : Once settings Z 4 two whole
once_two = each_once·whole settings 4 in_use_lem messages whole unforgotten two (Memᴰ.tail (Memᴰ.head refl))
