-- The run of `Day` from noon to dusk: the first message, taken at noon, is out, with late repeats of it by arrivals and by a joining, until
-- its record is forgotten.
-- Assumes nothing.
use Prim.Native.Nat.{ℕ}
use mathlib.Core.Path.{◌≡◌, refl, ap₂, sym, ◌∙◌, subst}
use mathlib.Core.Bool.{true}
use mathlib.Core.List.Memᴰ
use mathlib.Core.List.{List, [], ◌∷◌, ◌++◌}
use Rattle.octets.specs.Octets.{wide, alike}
use Rattle.fields.specs.Form.{split}
use Rattle.packet.specs.Format.{presence, identification, fixed_octets, front_octets, back_octets, header_octets}
use Rattle.packet.specs.Numbers.{next_counter, steps_most}
use Rattle.write.specs.Given.{head_of}
use Rattle.cells.specs.Segments.{carries, same_rest, reaches}
use Rattle.cells.specs.Rows.{Cell, free}
use Rattle.cells.specs.Order.{cell_size}
use Rattle.cells.specs.Messages.{look, role_of, bodies, rest_from, run_from, pick_in, among}
use Rattle.demand3.specs.Cells.{put, has_free, recorded, spans, forgotten}
use Rattle.demand3.specs.Traffic.{Event, taken_from, stepped, after}
use Rattle.demand3.specs.Promise.{Remembered as CellRemembered}
use Rattle.demand3.specs.Calls.{Handed, Plain, store_by, store_after}
use Rattle.demand3.specs.Presupposed.{Traffic, Untaken, Remembered, store_behind, empty_store, cells_in}
use Rattle.demand3.specs.Whole.{Out}
use Rattle.demand3.proofs.Sents.{sent_of}
use Rattle.demand3.proofs.Checks.{remembers_in, remembered_by}
use Rattle.demand3.proofs.Steps.{Kept}
use Rattle.demand3.proofs.Events.{events_in, store_append}
use Rattle.demand3.proofs.Carried.{behind_keeps, of_remembered}
use Rattle.demand3.proofs.Taken.{recorded·whole}
use Rattle.demand3.proofs.Plain.{plain_left, plain_right}
use Rattle.demand3.proofs.Acts.{act_events, acts_are}
use Rattle.demand3.proofs.Day.{settings, three, messages, three_cut}
use Rattle.demand3.proofs.DayRun.{morning, at_noon, noon, dusk, forgets_three, night, dark, day, dusk_acts, dusk_acts_lem, in_use_lem, one}
use Rattle.demand3.proofs.DayGiven.{traffic}
use Rattle.demand3.proofs.DayEnd.{plain_noon, cell_two_first, record_three, noon_cells, the_run, noon_took, the_key_lem, the_start}

abbrev Z : ℕ
Z = cell_size

abbrev cells_at_noon : List Cell
cells_at_noon = free ∷ cell_two_first ∷ record_three ∷ free ∷ []

-- the store after noon
abbrev since : List ℕ
since = store_by settings Z (store_behind settings Z 4 morning) at_noon

noon_is : store_behind settings Z 4 noon ≡ since
unfolding store_after
noon_is = store_append settings Z morning (at_noon ∷ []) (empty_store Z 4)

plain_dusk : Plain dusk
plain_dusk = plain_left dusk (forgets_three ∷ []) (plain_right noon (dusk ++ forgets_three ∷ []) (plain_left dark night traffic.octets))

-- none of the calls until dusk forgets its record: cell 0 has none, and cell 1 that of the other message
remembers : remembers_in next_counter steps_most (sent_of settings three) cells_at_noon (act_events cells_at_noon dusk_acts) ≡ true
unfolding remembers_in act_events after stepped taken_from look carries same_rest alike put has_free pick_in run_from rest_from role_of bodies among head_of split
    identification header_octets fixed_octets presence front_octets back_octets wide next_counter recorded spans reaches forgotten
remembers = refl

remembered : Remembered settings Z 4 three since dusk
remembered =
    subst (λ (x : List ℕ). Remembered settings Z 4 three x dusk) noon_is
    (of_remembered settings Z 4 three three_cut (store_behind settings Z 4 noon) dusk k plain_dusk
    (subst (λ (l : List Event). CellRemembered next_counter steps_most (sent_of settings three) (cells_in settings Z 4 (store_behind settings Z 4 noon)) l) (sym e)
    (subst (λ (l : List Cell). CellRemembered next_counter steps_most (sent_of settings three) l (act_events cells_at_noon dusk_acts)) (sym noon_cells)
    (remembered_by next_counter steps_most (sent_of settings three) cells_at_noon (act_events cells_at_noon dusk_acts) remembers))))
  where
    k : Kept settings Z 4 (store_behind settings Z 4 noon)
    k = behind_keeps settings Z 4 one in_use_lem noon plain_noon

    e : events_in settings Z (store_behind settings Z 4 noon) dusk ≡ act_events cells_at_noon dusk_acts
    e = acts_are settings Z 4 dusk (store_behind settings Z 4 noon) k plain_dusk ∙ ap₂ act_events noon_cells dusk_acts_lem

until_dusk : Traffic settings Z messages (morning ++ at_noon ∷ dusk)
until_dusk =
    record {
      cut = traffic.cut;
      apart = traffic.apart;
      octets = λ p h. traffic.octets p (part p h);
      packets = λ p h. traffic.packets p (part p h);
    }
  where
    part : (p : List ℕ) → Handed p (morning ++ at_noon ∷ dusk) → Handed p day
    part p h = (h.0, Memᴰ.append_left night (Memᴰ.append_left (forgets_three ∷ []) h.1), h.2)

-- its record is in a cell, every repeat of one of its segments is told as taken, none is held, and no call has taken it since
pub out_since : Out settings Z 4 three (store_behind settings Z 4 (morning ++ at_noon ∷ dusk)) × Untaken settings Z three since dusk
out_since =
    recorded·whole settings 4 in_use_lem messages morning dusk at_noon until_dusk three (Memᴰ.head refl) (the_run, noon_took, (the_key_lem, the_start)) remembered
