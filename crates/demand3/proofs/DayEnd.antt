-- What the run of `Day` comes to: a take refused by 20 and one by 21, the first message handed out by a joining, octet by octet, its record
-- in one cell and its others free; and, its record forgotten and it sent once more, the whole promise of demand 3 anew.
-- Assumes nothing.
use Prim.Native.Nat.{ℕ, ◌≤◌, ◌<◌}
use mathlib.Core.Path.{◌≡◌, refl, ap, ap₂, sym, ◌∙◌, subst}
use mathlib.Core.Logic.{◌⊎◌, inl, inr}
use mathlib.Core.Bool.{true}
use mathlib.Core.Option.{none, some}
use mathlib.Core.List.Memᴰ
use mathlib.Core.List.{List, [], ◌∷◌, ◌++◌, Memᴰ}
use native.Mathlib.Omega.{arith}
use lib.ListN.{get_or}
use Rattle.octets.specs.Octets.{Octets, wide, alike}
use Rattle.octets.proofs.Lists.{below_or}
use Rattle.fields.specs.Form.{split}
use Rattle.packet.specs.Format.{presence, identification, fixed_octets, front_octets, back_octets, header_octets}
use Rattle.packet.specs.Numbers.{next_counter, steps_most}
use Rattle.sender.specs.Sending.{steps_of}
use Rattle.write.specs.Given.{head_of}
use Rattle.cells.specs.Segments.{Seg, carries, same_rest, reaches}
use Rattle.cells.specs.Rows.{Cell, free, held, taken}
use Rattle.cells.specs.Order.{cell_at, cell_size}
use Rattle.cells.specs.Messages.{Run, look, role_of, bodies, rest_from, run_from, pick_in, among}
use Rattle.taking.specs.Taking.{message, unable}
use Rattle.demand3.specs.Cells.{put, has_free, recorded, spans, forgotten}
use Rattle.demand3.specs.Traffic.{Event, empty, taken_from, stepped, after}
use Rattle.demand3.specs.Promise.{Untaken as CellUntaken}
use Rattle.demand3.specs.Calls.{arrival, taking, Brings, Handed, Plain, took_by, out_by}
use Rattle.demand3.specs.Sendings.{segment_at, key_in, start_of, steps_to, range_sent}
use Rattle.demand3.specs.Presupposed.{Came, AllCame, MayCome, Traffic, Untaken, store_behind, cells_in, Anew, fresh, forgot}
use Rattle.demand3.specs.Whole.{IsComplete, Delivers, Promise}
use Rattle.demand3.proofs.ReadAs.{repeat_reads}
use Rattle.demand3.proofs.Sents.{sent_of}
use Rattle.demand3.proofs.Checks.{left_in, untaken_by}
use Rattle.demand3.proofs.Events.{events_in}
use Rattle.demand3.proofs.Carried.{behind_keeps}
use Rattle.demand3.proofs.Whole.{demand3·whole, soundness·whole}
use Rattle.demand3.proofs.Cutter.{cutter_hands_out}
use Rattle.demand3.proofs.Acts.{comes, lands, act_events, acts_are}
use Rattle.demand3.proofs.Taken.{of_untaken}
use Rattle.demand3.proofs.Plain.{plain_left, plain_right, plain_arrival}
use Rattle.demand3.proofs.Marked.{listed_get}
use Rattle.demand3.proofs.Day.{settings, cutting, three, succeeds, messages, of_three, header, the_key, three_many, three_cut, seg, stray, is_three_next, is_three_last}
use Rattle.demand3.proofs.DayComes.{Fine, three_fine}
use Rattle.demand3.proofs.DayRun.{lent_out, dawn, early, morning, at_noon, noon, dusk, forgets_three, evening, night, dark, day, three_next, three_last, dawn_acts, morning_acts, noon_acts}
use Rattle.demand3.proofs.DayRun.{dusk_acts, night_acts, dark_acts, day_acts, dawn_acts_lem, morning_acts_lem, noon_acts_lem}
use Rattle.demand3.proofs.DayRun.{dusk_acts_lem, dark_acts_lem, night_acts_lem, day_acts_lem, in_use_lem, one, cells_are}
use Rattle.demand3.proofs.DayRun.{joined_takes, taking_takes}
use Rattle.demand3.proofs.DayGiven.{traffic, given}

abbrev Z : ℕ
Z = cell_size

-- ---- the packets are octets

plain_dark : Plain dark
plain_dark = plain_left dark night traffic.octets

pub plain_noon : Plain noon
plain_noon = plain_left noon evening plain_dark

plain_morning : Plain morning
plain_morning = plain_left morning (at_noon ∷ []) plain_noon

plain_dawn : Plain dawn
plain_dawn = plain_left dawn (early ∷ arrival (of_three 1 78) ∷ []) plain_morning

plain_dusk : Plain (noon ++ dusk)
plain_dusk = plain_left (noon ++ dusk) (forgets_three ∷ []) plain_dark

-- ---- the cells

abbrev cell_three_first : Cell
cell_three_first = held (seg 4294967294 1 (1 ∷ 2 ∷ 3 ∷ []))

abbrev the_next : Seg
the_next = seg 4294967295 0 (4 ∷ 5 ∷ 6 ∷ [])

abbrev cell_three_next : Cell
cell_three_next = held the_next

abbrev cell_three_last : Cell
cell_three_last = held (seg 0 2 (7 ∷ 8 ∷ []))

abbrev pub cell_two_first : Cell
cell_two_first = held (seg 1 1 (21 ∷ 22 ∷ 23 ∷ []))

-- three segments, and a free cell
three_held : after next_counter steps_most (empty 4) (act_events (empty 4) dawn_acts) ≡ cell_three_last ∷ cell_two_first ∷ cell_three_first ∷ free ∷ []
unfolding act_events after stepped taken_from look carries same_rest alike put has_free pick_in run_from rest_from role_of bodies among next_counter recorded spans reaches forgotten
three_held = refl

one_held : after next_counter steps_most (empty 4) (act_events (empty 4) (comes three_last ∷ [])) ≡ cell_three_last ∷ free ∷ free ∷ free ∷ []
unfolding act_events after stepped look carries alike put recorded
one_held = refl

-- the store is full before noon
full : after next_counter steps_most (empty 4) (act_events (empty 4) morning_acts) ≡ cell_three_last ∷ cell_two_first ∷ cell_three_first ∷ cell_three_next ∷ []
unfolding act_events after stepped taken_from look carries same_rest alike put has_free pick_in run_from rest_from role_of bodies among next_counter recorded spans reaches forgotten
full = refl

-- its record
abbrev pub record_three : Cell
record_three = taken (record { key = the_key; first = 4294967294; steps = 2 })

-- at noon the cell of the first message's first segment has its record, its others are freed, and no other cell is touched
freed : after next_counter steps_most (empty 4) (act_events (empty 4) noon_acts) ≡ free ∷ cell_two_first ∷ record_three ∷ free ∷ []
unfolding act_events after stepped taken_from look carries same_rest alike put has_free pick_in run_from rest_from role_of bodies among next_counter recorded
freed = refl

pub noon_cells : cells_in settings Z 4 (store_behind settings Z 4 noon) ≡ free ∷ cell_two_first ∷ record_three ∷ free ∷ []
noon_cells = cells_are noon plain_noon noon_acts noon_acts_lem ∙ freed

-- at dusk the other message's record is forgotten, which was in cell 1
at_dusk : after next_counter steps_most (empty 4) (act_events (empty 4) (noon_acts ++ dusk_acts)) ≡ held stray ∷ free ∷ record_three ∷ free ∷ []
unfolding act_events after stepped taken_from look carries same_rest alike put has_free pick_in run_from rest_from role_of bodies among next_counter recorded spans
    reaches forgotten
at_dusk = refl

dusk_cells : cells_in settings Z 4 (store_behind settings Z 4 (noon ++ dusk)) ≡ held stray ∷ free ∷ record_three ∷ free ∷ []
dusk_cells = cells_are (noon ++ dusk) plain_dusk (noon_acts ++ dusk_acts) (ap₂ ◌++◌ noon_acts_lem dusk_acts_lem) ∙ at_dusk

-- then the first message's own
abbrev cells_in_dark : List Cell
cells_in_dark = held stray ∷ free ∷ free ∷ free ∷ []

in_dark : after next_counter steps_most (empty 4) (act_events (empty 4) dark_acts) ≡ cells_in_dark
unfolding act_events after stepped taken_from look carries same_rest alike put has_free pick_in run_from rest_from role_of bodies among next_counter recorded spans
    reaches forgotten
in_dark = refl

dark_cells : cells_in settings Z 4 (store_behind settings Z 4 dark) ≡ cells_in_dark
dark_cells = cells_are dark plain_dark dark_acts dark_acts_lem ∙ in_dark

-- at night the cells are used again, by the message itself
abbrev pub cells_at_end : List Cell
cells_at_end = held stray ∷ cell_three_first ∷ cell_three_next ∷ cell_three_last ∷ []

used_again : after next_counter steps_most (empty 4) (act_events (empty 4) day_acts) ≡ cells_at_end
unfolding act_events after stepped taken_from look carries same_rest alike put has_free pick_in run_from rest_from role_of bodies among next_counter recorded spans
    reaches forgotten
used_again = refl

pub end_cells : cells_in settings Z 4 (store_behind settings Z 4 day) ≡ cells_at_end
end_cells = cells_are day traffic.octets day_acts day_acts_lem ∙ used_again

-- ---- the takings

takes_nothing : taken_from next_counter steps_most (cell_three_last ∷ free ∷ free ∷ free ∷ []) 100 ≡ unable 20
unfolding taken_from pick_in run_from rest_from role_of look carries alike next_counter
takes_nothing = refl

-- the run's first take finds nothing complete
pub none_yet : took_by settings Z (store_behind settings Z 4 (arrival (of_three 2 2) ∷ [])) (taking (lent_out 100)) ≡ some (unable 20)
none_yet =
    taking_takes (arrival (of_three 2 2) ∷ []) (plain_arrival (of_three 2 2) (three_fine 2 (omega arith) 2 (omega arith)).0) (comes three_last ∷ [])
    (ap (λ (x : Event). comes x ∷ []) (is_three_last 2 (omega arith)))
    (cell_three_last ∷ free ∷ free ∷ free ∷ []) one_held (lent_out 100)
    ∙ ap some takes_nothing

takes_short : taken_from next_counter steps_most (after next_counter steps_most (cell_three_last ∷ cell_two_first ∷ cell_three_first ∷ free ∷ []) (three_next ∷ [])) 30 ≡ unable 21
unfolding after stepped taken_from look carries same_rest alike put has_free pick_in run_from rest_from role_of bodies among next_counter recorded spans reaches forgotten
takes_short = refl

lands_new : lands (cell_three_last ∷ cell_two_first ∷ cell_three_first ∷ free ∷ []) three_next none ≡ true
unfolding look carries alike has_free recorded
lands_new = refl

-- one octet too few
pub too_few : took_by settings Z (store_behind settings Z 4 dawn) early ≡ some (unable 21)
too_few =
    joined_takes dawn plain_dawn dawn_acts dawn_acts_lem (cell_three_last ∷ cell_two_first ∷ cell_three_first ∷ free ∷ []) three_held
    (of_three 1 1) (lent_out 30) (three_fine 1 (omega arith) 1 (omega arith)).0 the_next
    (is_three_next 1 (omega arith)) lands_new
    ∙ ap some takes_short

abbrev pub the_run : Run
the_run =
    record { head = seg 4294967294 1 (1 ∷ 2 ∷ 3 ∷ []); rest = seg 4294967295 0 (4 ∷ 5 ∷ 6 ∷ []) ∷ seg 0 2 (7 ∷ 8 ∷ []) ∷ [] }

takes_three : taken_from next_counter steps_most (after next_counter steps_most (cell_three_last ∷ cell_two_first ∷ cell_three_first ∷ cell_three_next ∷ []) (three_next ∷ [])) 35 ≡ message the_run
unfolding after stepped taken_from look carries same_rest alike put has_free pick_in run_from rest_from role_of bodies among next_counter recorded spans reaches forgotten
takes_three = refl

lands_again : lands (cell_three_last ∷ cell_two_first ∷ cell_three_first ∷ cell_three_next ∷ []) three_next none ≡ true
unfolding look carries same_rest alike recorded
lands_again = refl

-- at noon
pub noon_took : took_by settings Z (store_behind settings Z 4 morning) at_noon ≡ some (message the_run)
noon_took =
    joined_takes morning plain_morning morning_acts morning_acts_lem (cell_three_last ∷ cell_two_first ∷ cell_three_first ∷ cell_three_next ∷ []) full
    (of_three 1 79) (lent_out 35) (three_fine 1 (omega arith) 79 (omega arith)).0 the_next
    (is_three_next 79 (omega arith)) lands_again
    ∙ ap some takes_three

pub the_key_lem : the_run.head.key ≡ key_in settings three
unfolding head_of split identification header_octets fixed_octets presence front_octets back_octets wide
the_key_lem = refl

pub the_start : the_run.head.counter ≡ start_of settings three
the_start = refl

first_counter : the_run.head.counter ≡ (segment_at settings three 0).counter
unfolding steps_of
first_counter = refl

-- the joining at noon hands it out
pub handed : Delivers settings Z 4 three (store_behind settings Z 4 morning) at_noon
handed =
    ((soundness·whole settings 4 in_use_lem messages [] morning sooner three (Memᴰ.head refl) fresh).1.takes at_noon fine_packet).gives
    the_run noon_took the_key_lem 0 (omega (arith, three_many)) first_counter
  where
    part : (p : List ℕ) → Handed p morning → Handed p day
    part p h = (h.0, Memᴰ.append_left night (Memᴰ.append_left evening (Memᴰ.append_left (at_noon ∷ []) h.1)), h.2)

    sooner : Traffic settings Z messages morning
    sooner =
        record {
          cut = traffic.cut;
          apart = traffic.apart;
          octets = λ p h. traffic.octets p (part p h);
          packets = λ p h. traffic.packets p (part p h);
        }

    fine_packet : (p : List ℕ) → Brings p at_noon → Octets p × MayCome settings Z messages p
    fine_packet p (inl e) = let z : ◌≡◌ {A = ℕ} 0 1 = cc e in absurd (omega arith)
    fine_packet p (inr e) =
        let f : p ≡ of_three 1 79 = cc e.1 in
        subst Fine (sym f) (three_fine 1 (omega arith) 79 (omega arith))

-- identification, header and body, and after them the output as it was
pub written : out_by settings Z (store_behind settings Z 4 morning) at_noon ≡ 0x18 ∷ 5 ∷ header ++ (1 ∷ 2 ∷ 3 ∷ 4 ∷ 5 ∷ 6 ∷ 7 ∷ 8 ∷ lent_out 4)
unfolding head_of split identification header_octets fixed_octets presence front_octets back_octets wide
written = (cutter_hands_out settings Z cutting succeeds 4 (store_behind settings Z 4 morning) at_noon handed).1

-- ---- and anew

two_is : 2 < 4
two_is = omega arith

-- cell 2 has its record before that is forgotten
record_there : cell_at settings Z (store_behind settings Z 4 (noon ++ dusk)) 2 ≡ taken (range_sent settings three)
unfolding head_of split identification header_octets fixed_octets presence front_octets back_octets wide
record_there =
    sym (listed_get (cell_at settings Z (store_behind settings Z 4 (noon ++ dusk))) 4 0 2 2 refl two_is)
    ∙ ap (λ (l : List Cell). get_or l 2 free) dusk_cells
    ∙ ap (λ (k : ℕ). taken (record { key = the_key; first = 4294967294; steps = k })) (let e : 2 ≡ steps_to settings three = omega (arith, three_many) in e)

pub anew : Anew settings Z 4 three dark
anew = forgot (noon ++ dusk) 2 (two_is, record_there)

left : left_in next_counter steps_most (sent_of settings three) cells_in_dark (act_events cells_in_dark night_acts) ≡ true
unfolding left_in act_events after stepped taken_from look carries same_rest alike put has_free pick_in run_from rest_from role_of bodies among head_of
    split identification header_octets fixed_octets presence front_octets back_octets wide next_counter recorded
left = refl

pub untaken : Untaken settings Z three (store_behind settings Z 4 dark) night
untaken =
    let k = behind_keeps settings Z 4 one in_use_lem dark plain_dark in
    let pl = plain_right dark night traffic.octets in
    let e : events_in settings Z (store_behind settings Z 4 dark) night ≡ act_events cells_in_dark night_acts =
    acts_are settings Z 4 night (store_behind settings Z 4 dark) k pl ∙ ap₂ act_events dark_cells night_acts_lem in
    of_untaken settings Z 4 three (store_behind settings Z 4 dark) night k pl
    (subst (λ (l : List Event). CellUntaken next_counter steps_most (sent_of settings three) (cells_in settings Z 4 (store_behind settings Z 4 dark)) l) (sym e)
    (subst (λ (l : List Cell). CellUntaken next_counter steps_most (sent_of settings three) l (act_events cells_in_dark night_acts)) (sym dark_cells)
    (untaken_by next_counter steps_most (sent_of settings three) cells_in_dark (act_events cells_in_dark night_acts) left)))

-- so demand 3 speaks of the run
pub promised : Promise settings Z 4 messages three dark night
promised = demand3·whole settings 4 in_use_lem messages dark night given three (Memᴰ.head refl) anew untaken

-- all its segments have arrived since
again : AllCame settings three night
again i l = go (below_or i 1) (below_or i 2)
  where
    at : (c : ℕ) → c < 16384 → Memᴰ (arrival (of_three i c)) night → Came settings (segment_at settings three i) night
    at c h m = (of_three i c, (arrival (of_three i c), m, inl refl), repeat_reads settings Z three three_cut i l c h)

    go : (i < 1) ⊎ (1 ≤ i) → (i < 2) ⊎ (2 ≤ i) → Came settings (segment_at settings three i) night
    go (inl a) b =
        let e : i ≡ 0 = omega arith in at 80 (omega arith) (Memᴰ.head (ap (λ (x : ℕ). arrival (of_three x 80)) e))
    go (inr a) (inl b) =
        let e : i ≡ 1 = omega arith in at 81 (omega arith) (Memᴰ.tail (Memᴰ.head (ap (λ (x : ℕ). arrival (of_three x 81)) e)))
    go (inr a) (inr b) =
        let e : i ≡ 2 = omega (arith, three_many) in
        at 82 (omega arith) (Memᴰ.tail (Memᴰ.tail (Memᴰ.head (ap (λ (x : ℕ). arrival (of_three x 82)) e))))

-- so it is complete again
pub complete_again : IsComplete settings Z 4 three (store_behind settings Z 4 day)
complete_again = promised.complete.1 again
