-- What the run of `Run` comes to: the first message is handed out at noon, the other by its own taking after one that is refused by 21, repeats
-- of both change nothing, and takings up to refusal 20 leave both out.
-- Assumes nothing.
use Prim.Native.Nat.{ℕ, ◌≤◌, ◌<◌}
use mathlib.Core.Path.{◌≡◌, refl, ap, ap₂, sym, ◌∙◌, subst}
use mathlib.Core.Logic.{◌⊎◌, inl, inr}
use mathlib.Core.Option.{none, some}
use mathlib.Core.List.Memᴰ
use mathlib.Core.List.{List, [], ◌∷◌, ◌++◌, map, Memᴰ}
use native.Mathlib.Omega.{arith}
use lib.ListN.{length}
use Rattle.octets.specs.Octets.{alike}
use Rattle.octets.proofs.Lists.{below_or}
use Rattle.packet.specs.Numbers.{next_counter, steps_most}
use Rattle.cells.specs.Segments.{carries, same_rest, reaches}
use Rattle.cells.specs.Rows.{Cell, free, held, taken}
use Rattle.cells.specs.Order.{cell_size}
use Rattle.cells.specs.Messages.{Run, look, role_of, bodies, rest_from, run_from, pick_in, picked, among}
use Rattle.taking.specs.Taking.{message, unable, writing}
use Rattle.demand3.specs.Cells.{put, has_free, recorded, spans, forgotten}
use Rattle.demand3.specs.Traffic.{empty, taken_from, stepped, after, arrives}
use Rattle.demand3.specs.Calls.{arrival, taking, Plain, took_by, store_by, store_after}
use Rattle.demand3.specs.Sendings.{segment_at}
use Rattle.demand3.specs.Presupposed.{Came, AllCame, store_behind, empty_store, cells_in}
use Rattle.demand3.specs.Whole.{LongEnough}
use Rattle.demand3.specs.Joins.{NoneComplete}
use Rattle.demand3.proofs.ReadAs.{repeat_reads}
use Rattle.demand3.proofs.Events.{store_append}
use Rattle.demand3.proofs.Steps.{Kept}
use Rattle.demand3.proofs.Carried.{behind_keeps}
use Rattle.demand3.proofs.Plain.{plain_left}
use Rattle.demand3.proofs.Acts.{Act, comes, draw, meets, act_events}
use Rattle.demand3.proofs.Day.{settings, three, two, messages, of_two, the_key, two_cut, two_many, seg, stray}
use Rattle.demand3.proofs.DayRun.{lent_out, morning, at_noon, noon, three_first, three_next, three_last, two_last}
use Rattle.demand3.proofs.DayRun.{noon_acts, noon_acts_lem, in_use_lem, one, cells_are, taking_takes}
use Rattle.demand3.proofs.DayEnd.{cell_two_first, record_three, the_run, noon_took, the_key_lem, the_start, handed}
use Rattle.once.specs.Once.{HandedOut, Drained}
use Rattle.once.proofs.Lists.{before_others}
use Rattle.once.proofs.Drain.{long_none, long_more}
use Rattle.once.proofs.Each.{all_out·whole}
use Rattle.once.proofs.Run.{completing, ripe, repeating, ripe_acts, completing_acts, ripe_acts_lem, repeating_acts, traffic, unforgotten, ripe_given}

abbrev Z : ℕ
Z = cell_size

-- ---- what the calls come to

-- the joining at noon hands out the first message
pub three_out : HandedOut settings Z 4 three noon
three_out =
    record { earlier = morning; call = at_noon; others = []; place = refl; takes = (the_run, noon_took, (the_key_lem, the_start)); whole = handed }

abbrev cell_two_last : Cell
cell_two_last = held (seg 2 2 (24 ∷ 25 ∷ 26 ∷ 27 ∷ 28 ∷ 29 ∷ 30 ∷ []))

abbrev cells_ripe : List Cell
cells_ripe = held stray ∷ cell_two_first ∷ record_three ∷ cell_two_last ∷ []

completed : after next_counter steps_most (empty 4) (act_events (empty 4) (noon_acts ++ comes (arrives stray) ∷ comes three_first ∷ comes two_last ∷ [])) ≡ cells_ripe
unfolding act_events after stepped taken_from look carries same_rest alike put has_free pick_in run_from rest_from role_of bodies among next_counter recorded spans
    reaches forgotten
completed = refl

-- a record's cell is not free, and a take refused by 21 changes nothing
ripened : after next_counter steps_most (empty 4) (act_events (empty 4) ripe_acts) ≡ cells_ripe
unfolding act_events after stepped taken_from look carries same_rest alike put has_free pick_in run_from rest_from role_of bodies among next_counter recorded spans
    reaches forgotten
ripened = refl

abbrev pub two_run : Run
two_run = record { head = seg 1 1 (21 ∷ 22 ∷ 23 ∷ []); rest = seg 2 2 (24 ∷ 25 ∷ 26 ∷ 27 ∷ 28 ∷ 29 ∷ 30 ∷ []) ∷ [] }

picks_two : picked next_counter steps_most cells_ripe ≡ some two_run
unfolding look carries alike pick_in run_from rest_from role_of next_counter
picks_two = refl

two_long : length (writing two_run) ≡ 33
unfolding bodies
two_long = refl

plain_ripe : Plain ripe
plain_ripe = ripe_given.given.traffic.octets

takes_32 : taken_from next_counter steps_most cells_ripe 32 ≡ unable 21
unfolding taken_from look carries alike pick_in run_from rest_from role_of next_counter bodies
takes_32 = refl

pub short_21 : took_by settings Z (store_behind settings Z 4 (noon ++ completing)) (taking (lent_out 32)) ≡ some (unable 21)
short_21 =
    taking_takes (noon ++ completing) (plain_left (noon ++ completing) (taking (lent_out 32) ∷ []) plain_ripe)
    (noon_acts ++ comes (arrives stray) ∷ comes three_first ∷ comes two_last ∷ []) (ap₂ ◌++◌ noon_acts_lem completing_acts) cells_ripe completed (lent_out 32)
    ∙ ap some takes_32

takes_33 : taken_from next_counter steps_most cells_ripe 33 ≡ message two_run
unfolding taken_from look carries alike pick_in run_from rest_from role_of next_counter bodies
takes_33 = refl

pub two_taken : took_by settings Z (store_behind settings Z 4 ripe) (taking (lent_out 33)) ≡ some (message two_run)
two_taken = taking_takes ripe plain_ripe ripe_acts ripe_acts_lem cells_ripe ripened (lent_out 33) ∙ ap some takes_33

-- both are recorded, and what comes again is told as taken and stored nowhere
abbrev cells_last : List Cell
cells_last = held stray ∷ taken (record { key = the_key; first = 1; steps = 1 }) ∷ record_three ∷ free ∷ []

emptied : after next_counter steps_most (empty 4) (act_events (empty 4) (ripe_acts ++ draw 33 ∷ meets three_next none 100 ∷ comes three_last ∷ [])) ≡ cells_last
unfolding act_events after stepped taken_from look carries same_rest alike put has_free pick_in run_from rest_from role_of bodies among next_counter recorded spans
    reaches forgotten
emptied = refl

takes_none : taken_from next_counter steps_most cells_last 100 ≡ unable 20
unfolding taken_from look carries alike pick_in run_from rest_from role_of next_counter
takes_none = refl

pub last_20 : took_by settings Z (store_behind settings Z 4 (ripe ++ repeating)) (taking (lent_out 100)) ≡ some (unable 20)
last_20 =
    taking_takes (ripe ++ repeating) (plain_left (ripe ++ repeating) (taking (lent_out 100) ∷ arrival (of_two 0 84) ∷ []) traffic.octets)
    (ripe_acts ++ draw 33 ∷ meets three_next none 100 ∷ comes three_last ∷ []) (ap₂ ◌++◌ ripe_acts_lem repeating_acts) cells_last emptied (lent_out 100)
    ∙ ap some takes_none

-- ---- takings up to refusal 20

-- all segments of the other message have arrived
pub two_came : AllCame settings two ripe
two_came i l = go (below_or i 1)
  where
    at : (c : ℕ) → c < 16384 → Memᴰ (arrival (of_two i c)) ripe → Came settings (segment_at settings two i) ripe
    at c h m = (of_two i c, (arrival (of_two i c), m, inl refl), repeat_reads settings Z two two_cut i l c h)

    go : (i < 1) ⊎ (1 ≤ i) → Came settings (segment_at settings two i) ripe
    go (inl a) =
        let e : i ≡ 0 = omega arith in
        at 3 (omega arith) (Memᴰ.tail (Memᴰ.tail (Memᴰ.head (ap (λ (x : ℕ). arrival (of_two x 3)) e))))
    go (inr a) =
        let e : i ≡ 1 = omega (arith, two_many) in
        at 4 (omega arith) (Memᴰ.append_right noon (Memᴰ.tail (Memᴰ.tail (Memᴰ.head (ap (λ (x : ℕ). arrival (of_two x 4)) e)))))

-- more outputs than cells
abbrev pub outs : List (List ℕ)
outs = lent_out 33 ∷ [] ∷ [] ∷ [] ∷ [] ∷ []

taken_then : after next_counter steps_most (empty 4) (act_events (empty 4) (ripe_acts ++ draw 33 ∷ [])) ≡ cells_last
unfolding act_events after stepped taken_from look carries same_rest alike put has_free pick_in run_from rest_from role_of bodies among next_counter recorded spans
    reaches forgotten
taken_then = refl

none_then : picked next_counter steps_most cells_last ≡ none
unfolding look carries alike pick_in run_from rest_from role_of next_counter
none_then = refl

plain_then : Plain (ripe ++ taking (lent_out 33) ∷ [])
plain_then = (before_others settings Z 4 messages (ripe ++ taking (lent_out 33) ∷ []) _ unforgotten).given.traffic.octets

long_enough : LongEnough settings Z 4 (store_behind settings Z 4 ripe) outs
unfolding store_after
long_enough =
    long_more settings Z 4 (lent_out 33) ([] ∷ [] ∷ [] ∷ [] ∷ []) (store_behind settings Z 4 ripe) fits
    (long_none settings Z 4 ([] ∷ [] ∷ [] ∷ [] ∷ []) next_store
    (subst (Kept settings Z 4) next_is (behind_keeps settings Z 4 one in_use_lem (ripe ++ taking (lent_out 33) ∷ []) plain_then))
    (subst (NoneComplete settings Z 4) next_is
    (ap (picked next_counter steps_most) (cells_are (ripe ++ taking (lent_out 33) ∷ []) plain_then (ripe_acts ++ draw 33 ∷ []) (ap (λ (l : List Act). l ++ draw 33 ∷ []) ripe_acts_lem) ∙ taken_then)
    ∙ none_then)))
  where
    next_store : List ℕ
    next_store = store_by settings Z (store_behind settings Z 4 ripe) (taking (lent_out 33))

    next_is : store_behind settings Z 4 (ripe ++ taking (lent_out 33) ∷ []) ≡ next_store
    next_is = store_append settings Z ripe (taking (lent_out 33) ∷ []) (empty_store Z 4)

    fits : (r : Run) → picked next_counter steps_most (cells_in settings Z 4 (store_behind settings Z 4 ripe)) ≡ some r → length (writing r) ≤ 33
    fits r e =
        let d : some two_run ≡ some r = sym (ap (picked next_counter steps_most) (cells_are ripe plain_ripe ripe_acts ripe_acts_lem ∙ ripened) ∙ picks_two) ∙ e in
        let q : two_run ≡ r = cc d in
        subst (λ (z : Run). length (writing z) ≤ 33) q (omega (arith, two_long))

pub drained : Drained settings Z 4 messages ripe outs
drained = all_out·whole settings 4 in_use_lem messages ripe ripe_given outs (omega arith) long_enough

-- the other message is out by then
pub two_out : HandedOut settings Z 4 two (ripe ++ map taking drained.asked)
two_out = drained.out two (Memᴰ.tail (Memᴰ.head refl)) two_came
