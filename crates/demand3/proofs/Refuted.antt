-- Wrong programs that demand 3 shuts out (E-5): a store that refuses all or keeps nothing, so that its octets stay
-- zero whatever arrives; a joining that works once and then pretends; one that calls a message complete by number alone; one that
-- matches by transaction id alone. The first three are any program at all of which this is said: what it leaves after a list of calls,
-- or what a call then takes. The last two are programs of `Ways`. Each fails a part of demand 3 on the run of `Day`; the store meets it.
-- Assumes nothing.
use Prim.Native.Nat.{ℕ, ◌≤◌, ◌<◌}
use mathlib.Core.Path.{◌≡◌, refl, ap, ap₂, sym, ◌∙◌, subst}
use mathlib.Core.Logic.{◌⊎◌, inl, inr}
use mathlib.Core.Option
use mathlib.Core.Option.{Option, none, some}
use mathlib.Core.List.Memᴰ
use mathlib.Core.List.{List, [], ◌∷◌, ◌++◌, map, Memᴰ}
use native.Mathlib.Omega.{arith}
use lib.ListN.{length}
use Rattle.octets.specs.Octets.{Octets, wide, alike}
use Rattle.octets.proofs.Lists.{below_or}
use Rattle.fields.specs.Form.{split}
use Rattle.packet.specs.Format.{presence, identification, fixed_octets, front_octets, back_octets, header_octets}
use Rattle.packet.specs.Numbers.{next_counter, steps_most}
use Rattle.write.specs.Given.{head_of}
use Rattle.cells.specs.Segments.{carries, same_rest, reaches}
use Rattle.cells.specs.Order.{cell_size}
use Rattle.taking.specs.Answer.{Taken}
use Rattle.cells.specs.Messages.{Run, look, role_of, bodies, body_of, rest_from, run_from, pick_in, picked, among}
use Rattle.taking.specs.Taking.{Took, message, unable}
use Rattle.walk.specs.Walk.{refusal}
use Rattle.taking.specs.Told.{taken_of}
use Rattle.demand3.specs.Cells.{put, has_free, recorded, spans, forgotten}
use Rattle.cells.proofs.Empty.{empty_cells}
use Rattle.demand3.specs.Complete.{Held}
use Rattle.demand3.specs.Traffic.{passes, empty}
use Rattle.demand3.specs.Calls.{Call, arrival, taking, joining, Brings, Handed, took_by, store_after}
use Rattle.demand3.specs.Sendings.{segment_at, header_size}
use Rattle.demand3.specs.Presupposed.{Came, AllCame, Its, MayCome, Traffic, Untaken, empty_store, store_behind, cells_in, fresh, RoomIn}
use Rattle.demand3.specs.Whole.{IsComplete}
use Rattle.demand3.proofs.Takings.{held_empty}
use Rattle.demand3.proofs.Whole.{demand3·whole, soundness·whole}
use Rattle.demand3.proofs.Acts.{EachPacket, each_packet, Act, comes, draw, meets, act_of}
use Rattle.demand3.proofs.ReadAs.{repeat_reads}
use Rattle.demand3.proofs.Cutter.{cutter_hands_out}
use Rattle.demand3.proofs.Day.{settings, cutting, three, succeeds, messages, of_three, of_two, single, stub, huge, three_many, three_long}
use Rattle.demand3.proofs.Day.{three_cut, seg, stray, is_three_first, is_three_last, is_two_first, is_single, is_stub}
use Rattle.demand3.proofs.DayComes.{Fine, three_fine}
use Rattle.demand3.proofs.DayRun.{lent_out, early, morning, at_noon, evening, night, day, three_first, three_last, two_first, day_acts, consed, met, day_acts_lem, in_use_lem}
use Rattle.demand3.proofs.DayGiven.{traffic}
use Rattle.demand3.proofs.DayEnd.{cells_at_end, end_cells, the_run, the_key_lem, the_start, promised}
use Rattle.demand3.proofs.Ways.{goes, goes_on, behind, taken_by, by, of_key, last_of, held_from, numbered, number_way, match, rest_by, opened, chosen, transaction_way}
use Rattle.sender.specs.Sending.{steps_of}

abbrev Z : ℕ
Z = cell_size

-- ---- a store that refuses all, or keeps nothing

-- of arrivals alone, which take nothing: where all its segments have come the message is complete
abbrev pub Completes : (List Call → List ℕ) → Type 0
Completes run = (ps : List (List ℕ)) → Traffic settings Z messages (map arrival ps) → RoomIn settings Z 4 run (map arrival ps) →
    AllCame settings three (map arrival ps) → IsComplete settings Z 4 three (run (map arrival ps))

none_taken : (ps : List (List ℕ)) (st : List ℕ) → Untaken settings Z three st (map arrival ps)
unfolding took_by
none_taken ps st x y c e t = go ps x e
  where
    nothing : (p : List ℕ) → arrival p ≡ c → ⊥
    nothing p d =
        let f = ap (took_by settings Z (store_after settings Z st x)) d ∙ t.1 in
        let z : ◌≡◌ {A = ℕ} 0 1 = cc f in
        omega arith

    go : (qs : List (List ℕ)) (u : List Call) → map arrival qs ≡ u ++ c ∷ y → ⊥
    go [] [] d = let z : ◌≡◌ {A = ℕ} 0 1 = cc in omega arith
    go [] (b ∷ u) d = let z : ◌≡◌ {A = ℕ} 0 1 = cc in omega arith
    go (q ∷ qs) [] d = nothing q (let f : arrival q ≡ c = cc d in f)
    go (q ∷ qs) (b ∷ u) d = go qs u (let f : map arrival qs ≡ u ++ c ∷ y = cc d in f)

-- the store does so
pub keeps_all : Completes (store_behind settings Z 4)
keeps_all ps t r f =
    (demand3·whole settings 4 in_use_lem messages [] (map arrival ps) (record { traffic = t; room = r }) three (Memᴰ.head refl) fresh
    (none_taken ps (store_behind settings Z 4 []))).complete.1 f

-- the message's three packets, one after the other
abbrev all_three : List (List ℕ)
all_three = of_three 0 0 ∷ of_three 1 1 ∷ of_three 2 2 ∷ []

three_packets : EachPacket Fine (map arrival all_three)
three_packets =
    (three_fine 0 (omega arith) 0 (omega arith), (three_fine 1 (omega arith) 1 (omega arith), (three_fine 2 (omega arith) 2 (omega arith), tt)))

all_come : AllCame settings three (map arrival all_three)
all_come i l = go (below_or i 1) (below_or i 2)
  where
    at : Memᴰ (arrival (of_three i i)) (map arrival all_three) → Came settings (segment_at settings three i) (map arrival all_three)
    at m = (of_three i i, (arrival (of_three i i), m, inl refl), repeat_reads settings Z three three_cut i l i (omega (arith, three_many)))

    go : (i < 1) ⊎ (1 ≤ i) → (i < 2) ⊎ (2 ≤ i) → Came settings (segment_at settings three i) (map arrival all_three)
    go (inl a) b = let e : i ≡ 0 = omega arith in at (Memᴰ.head (ap (λ (x : ℕ). arrival (of_three x x)) e))
    go (inr a) (inl b) =
        let e : i ≡ 1 = omega arith in at (Memᴰ.tail (Memᴰ.head (ap (λ (x : ℕ). arrival (of_three x x)) e)))
    go (inr a) (inr b) =
        let e : i ≡ 2 = omega (arith, three_many) in
        at (Memᴰ.tail (Memᴰ.tail (Memᴰ.head (ap (λ (x : ℕ). arrival (of_three x x)) e))))

-- no program does whose store stays empty
pub no_empty : (run : List Call → List ℕ) → ((cs : List Call) → run cs ≡ empty_store Z 4) → Completes run → ⊥
unfolding has_free
no_empty run e f =
    let d = f all_three enough roomy all_come in
    let h = d.opens in
    held_empty 4 h.0 (subst (Held h.0) (cells (map arrival all_three)) h.1)
  where
    cells : (cs : List Call) → cells_in settings Z 4 (run cs) ≡ empty 4
    cells cs = ap (cells_in settings Z 4) (e cs) ∙ empty_cells settings Z 4

    roomy : RoomIn settings Z 4 run (map arrival all_three)
    roomy x y c p q b r g l v n = ap has_free (cells x)

    enough : Traffic settings Z messages (map arrival all_three)
    enough =
        record {
          cut = traffic.cut;
          apart = traffic.apart;
          octets = λ p h. (each_packet Fine (map arrival all_three) three_packets p h).0;
          packets = λ p h. (each_packet Fine (map arrival all_three) three_packets p h).1;
        }

-- ---- a joining that works once

-- what is told of the first message: H, B and c
abbrev pub told : Taken
told = record { refusal = refusal 0; header = 21; body = 8; counter = record { 0 = 4294967294 } }

-- at the end of the run the first message, taken at noon and sent once more after its record was forgotten, is complete anew: a taking with
-- 31 octets or more tells it
abbrev pub TakesAgain : (List Call → Call → Option Took) → Type 0
TakesAgain by = (out : List ℕ) → 31 ≤ length out → Option.map taken_of (by day (taking out)) ≡ some told

-- once a call has handed out a message, no later one does
abbrev pub Once : (List Call → Call → Option Took) → Type 0
Once by = (x y : List Call) (c d : Call) (r q : Run) → by x c ≡ some (message r) → by (x ++ c ∷ y) d ≡ some (message q) → ⊥

picks_three : picked next_counter steps_most cells_at_end ≡ some the_run
unfolding look carries alike pick_in run_from rest_from role_of next_counter
picks_three = refl

-- the store does so
pub takes_again : TakesAgain (λ cs c. took_by settings Z (store_behind settings Z 4 cs) c)
unfolding head_of split identification header_octets fixed_octets presence front_octets back_octets wide
takes_again out l =
    let h : header_size settings three ≡ 21 = refl in
    let d =
    (promised.delivery.takes (taking out) (λ p b. absurd (no_packet p b))).enough
    (refl, (the_run, ap (picked next_counter steps_most) end_cells ∙ picks_three, (the_key_lem, the_start))) (omega (arith, three_long)) in
    (cutter_hands_out settings Z cutting succeeds 4 (store_behind settings Z 4 day) (taking out) d).0
  where
    no_packet : (p : List ℕ) → Brings p (taking out) → ⊥
    no_packet p (inl e) = let z : ◌≡◌ {A = ℕ} 0 1 = cc e in omega arith
    no_packet p (inr e) = let f = e.1 in let z : ◌≡◌ {A = ℕ} 0 1 = cc f in omega arith

-- no program does that handed out the message at noon and works once
pub no_once : (by : List Call → Call → Option Took) (r : Run) → by morning at_noon ≡ some (message r) → Once by → TakesAgain by → ⊥
no_once by r e o f = go (by day (taking (lent_out 31))) refl (f (lent_out 31) (omega arith))
  where
    go : (t : Option Took) → by day (taking (lent_out 31)) ≡ t → Option.map taken_of t ≡ some told → ⊥
    go none d g = let z : ◌≡◌ {A = ℕ} 0 1 = cc in omega arith
    go (some (message q)) d g = o morning (evening ++ night) at_noon (taking (lent_out 31)) r q e d
    go (some (unable k)) d g = let z : ◌≡◌ {A = ℕ} 0 21 = cc (ap (Option.map (λ (x : Taken). x.header)) g) in omega arith

-- ---- a message complete by number alone

-- of the run's calls, one that hands out something under the first message's key and first counter tells the message
abbrev pub TellsIt : (List Call → Call → Option Took) → Type 0
TellsIt by = (x y : List Call) (c : Call) (r : Run) → day ≡ x ++ c ∷ y → by x c ≡ some (message r) → Its settings three r →
    Option.map taken_of (by x c) ≡ some told

-- the store does so
pub tells_it : TellsIt (λ cs c. took_by settings Z (store_behind settings Z 4 cs) c)
unfolding steps_of head_of split identification header_octets fixed_octets presence front_octets back_octets wide next_counter
tells_it x y c r d e i =
    let a : r.head.counter ≡ (segment_at settings three 0).counter = i.1 in
    let v =
    ((soundness·whole settings 4 in_use_lem messages [] x sooner three (Memᴰ.head refl) fresh).1.takes c its).gives r e i.0 0
    (omega (arith, three_many)) a in
    (cutter_hands_out settings Z cutting succeeds 4 (store_behind settings Z 4 x) c v).0
  where
    part : (p : List ℕ) → Handed p (x ++ c ∷ y) → Octets p × MayCome settings Z messages p
    part p h =
        let k = subst (Handed p) (sym d) h in
        (traffic.octets p k, traffic.packets p k)

    before : (p : List ℕ) → Handed p x → Octets p × MayCome settings Z messages p
    before p h = part p (h.0, Memᴰ.append_left (c ∷ y) h.1, h.2)

    its : (p : List ℕ) → Brings p c → Octets p × MayCome settings Z messages p
    its p h = part p (c, Memᴰ.append_right x (Memᴰ.head refl), h)

    sooner : Traffic settings Z messages x
    sooner =
        record { cut = traffic.cut; apart = traffic.apart; octets = λ p h. (before p h).0; packets = λ p h. (before p h).1 }

told_body : (r : Run) → some (taken_of (message r)) ≡ some told → length (body_of r) ≡ 8
told_body r h = let e : taken_of (message r) ≡ told = cc h in ap (λ (x : Taken). x.body) e

-- after these calls a joining of the first: of the key there are then three segments, as many as the counters from its first, 4,294,967,294, to its last, 0, and the one between is missing
abbrev third_comes : List Call
third_comes =
    arrival (of_three 2 2) ∷ taking (lent_out 100) ∷ arrival (of_two 0 3) ∷ arrival stub ∷ arrival single ∷ []

third_acts : map (act_of settings Z) third_comes ≡ comes three_last ∷ draw 100 ∷ comes two_first ∷ comes passes ∷ comes passes ∷ []
third_acts =
    consed (ap comes (is_three_last 2 (omega arith)))
    (consed refl (consed (ap comes (is_two_first 3 (omega arith))) (consed (ap comes is_stub) (consed (ap comes is_single) refl))))

-- what is handed out then lacks the segment between
abbrev lacking : Run
lacking = record { head = seg 4294967294 1 (1 ∷ 2 ∷ 3 ∷ []); rest = seg 0 2 (7 ∷ 8 ∷ []) ∷ [] }

lacking_taken :
    taken_by number_way (behind number_way (empty 4) (comes three_last ∷ draw 100 ∷ comes two_first ∷ comes passes ∷ comes passes ∷ [])) (meets three_first none 100)
    ≡ some (message lacking)
unfolding taken_by behind goes_on goes numbered of_key last_of held_from look carries same_rest alike put has_free role_of bodies next_counter recorded
lacking_taken = refl

lacking_long : length (body_of lacking) ≡ 5
unfolding bodies
lacking_long = refl

pub no_number : TellsIt (by number_way settings Z 4) → ⊥
no_number f =
    let e : by number_way settings Z 4 third_comes (joining (of_three 0 0) (lent_out 100)) ≡ some (message lacking) =
    ap₂ (λ (l : List Act) (a : Act). taken_by number_way (behind number_way (empty 4) l) a) third_acts
    (met (of_three 0 0) _ 100 (is_three_first 0 (omega arith)))
    ∙ lacking_taken in
    let g = f third_comes rest (joining (of_three 0 0) (lent_out 100)) lacking refl e (the_key_lem, the_start) in
    omega (arith, told_body lacking (sym (ap (Option.map taken_of) e) ∙ g), lacking_long)
  where
    rest : List Call
    rest = arrival (of_three 2 77) ∷ arrival huge ∷ early ∷ arrival (of_three 1 78) ∷ at_noon ∷ (evening ++ night)

-- ---- segments matched by transaction id alone

-- the segment of another key that stands at counter 4,294,967,295 is taken for the message's own
abbrev mixed : Run
mixed = record { head = seg 4294967294 1 (1 ∷ 2 ∷ 3 ∷ []); rest = stray ∷ seg 0 2 (7 ∷ 8 ∷ []) ∷ [] }

mixed_taken : taken_by transaction_way (behind transaction_way (empty 4) day_acts) (draw 31) ≡ some (message mixed)
unfolding taken_by behind goes_on goes match rest_by opened chosen carries same_rest alike put has_free role_of bodies among next_counter recorded spans reaches forgotten
mixed_taken = refl

mixed_long : length (body_of mixed) ≡ 6
unfolding bodies
mixed_long = refl

pub no_transaction : TakesAgain (by transaction_way settings Z 4) → ⊥
no_transaction f =
    let e : by transaction_way settings Z 4 day (taking (lent_out 31)) ≡ some (message mixed) =
    ap (λ (l : List Act). taken_by transaction_way (behind transaction_way (empty 4) l) (draw 31)) day_acts_lem ∙ mixed_taken in
    omega (arith, told_body mixed (sym (ap (Option.map taken_of) e) ∙ f (lent_out 31) (omega arith)), mixed_long)
