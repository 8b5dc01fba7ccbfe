-- The hypotheses of demand 3 are met by a run whose first message goes round the end: by computation it has room and takes each message
-- when it should. The laws then say that the first message, once taken, is out, also after late repeats of it; and that, sent again after its
-- record was forgotten, it is complete again.
-- Assumes nothing.
use Prim.Native.Nat.{ℕ, suc, ◌≤◌}
use mathlib.Core.Path.{◌≡◌, refl, sym, ◌∙◌, ap}
use mathlib.Core.Logic.{◌≢◌, ◌⊎◌, inl, inr}
use mathlib.Core.Bool.{true}
use mathlib.Core.List.Memᴰ
use mathlib.Core.List.{List, [], ◌∷◌, ◌++◌, Memᴰ}
use native.Mathlib.Omega.{arith}
use Rattle.octets.specs.Octets.{alike, most32}
use Rattle.packet.specs.Numbers.{next_counter, steps_most}
use Rattle.sender.specs.Sending.{steps_of}
use Rattle.cells.specs.Segments.{Seg, carries, reaches}
use Rattle.cells.specs.Rows.{free, held, taken}
use Rattle.cells.specs.Messages.{Run, bodies, look, role_of, rest_from, run_from, pick_in, among}
use Rattle.taking.specs.Taking.{message, unable}
use Rattle.demand3.specs.Cells.{put, has_free, recorded, spans, forgotten}
use Rattle.demand3.specs.Traffic.{Sent, later, run_of, segments_of, Event, arrives, takes, forgets, empty, taken_from, stepped, after, OneOf, steps_in}
use Rattle.demand3.specs.Promise.{AllCame, Untaken, RecordAt, Anew, forgot, Promise, Out}
use Rattle.demand3.specs.Base.{Done01, Traffic01, Given01}
use Rattle.demand3.specs.Example.{the_key, three, two, morning, noon, evening, midnight, night, takings}
use Rattle.demand3.proofs.Links.{Mem, linked_at, sent_opened, sent_key, sent_start, sent_length}
use Rattle.demand3.proofs.Base.{demand3·01, recorded01}
use Rattle.demand3.proofs.Checks.{Each, each_arrives, remembers_in, remembered_by, room_in, room_by, left_in, untaken_by}
use Rattle.sender.proofs.Stepping.{steps_round}

-- ---- the messages

-- a counter of a message is some steps from its first
pub counter_in_lem : (m : Sent) (t : Seg) → Mem t (segments_of next_counter m) → (i : ℕ) × (i ≤ steps_in m) × (t.counter ≡ steps_of next_counter i m.start)
unfolding steps_of next_counter
counter_in_lem m t h = go (Memᴰ.cases_cons h)
  where
    r : Run
    r = run_of next_counter m

    go : (t ≡ r.head) ⊎ Mem t r.rest → (i : ℕ) × (i ≤ steps_in m) × (t.counter ≡ steps_of next_counter i m.start)
    go (inl e) = (0, omega arith, ap (λ (x : Seg). x.counter) e ∙ sent_start next_counter m)
    go (inr k) =
        let z = linked_at next_counter r.head.key (next_counter r.head.counter) r.rest (sent_opened next_counter m).follows t k in
        (suc z.0, omega (arith, z.1, sent_length next_counter m), z.2 ∙ ap (λ (c : ℕ). steps_of next_counter z.0 (next_counter c)) (sent_start next_counter m))

-- the two share none
no_counter_lem : (t u : Seg) → Mem t (segments_of next_counter three) → Mem u (segments_of next_counter two) → t.counter ≢ u.counter
no_counter_lem t u h g e =
    let a = counter_in_lem three t h in
    let b = counter_in_lem two u g in
    omega (arith, e, a.1, a.2, b.1, b.2, steps_round a.0 three.start (omega arith), steps_round b.0 two.start (omega arith))

abbrev messages : List Sent
messages = three ∷ two ∷ []

abbrev Apart : Sent → Sent → Type 0
Apart m w = (m ≡ w) ⊎ (m.key ≢ w.key) ⊎ ((t u : Seg) → Mem t (segments_of next_counter m) → Mem u (segments_of next_counter w) → t.counter ≢ u.counter)

one_of : (m : Sent) → Memᴰ m messages → (m ≡ three) ⊎ (m ≡ two)
one_of m h = go (Memᴰ.cases_cons h)
  where
    at : (m ≡ two) ⊎ Memᴰ m [] → m ≡ two
    at (inl e) = e
    at (inr k) = absurd (Memᴰ.not-nil k)

    go : (m ≡ three) ⊎ Memᴰ m (two ∷ []) → (m ≡ three) ⊎ (m ≡ two)
    go (inl e) = inl e
    go (inr k) = inr (at (Memᴰ.cases_cons k))

apart : (m w : Sent) → Memᴰ m messages → Memᴰ w messages → Apart m w
apart m w h g = go (one_of m h) (one_of w g)
  where
    go : (m ≡ three) ⊎ (m ≡ two) → (w ≡ three) ⊎ (w ≡ two) → Apart m w
    go (inl e) (inl f) = inl (e ∙ sym f)
    go (inl e) (inr f) = rw (e, f) (inr (inr no_counter_lem))
    go (inr e) (inl f) = rw (e, f) (inr (inr (λ t u k l d. no_counter_lem u t l k (sym d))))
    go (inr e) (inr f) = inl (e ∙ sym f)

starts : (m : Sent) → Memᴰ m messages → m.start ≤ most32
starts m h = go (one_of m h)
  where
    go : (m ≡ three) ⊎ (m ≡ two) → m.start ≤ most32
    go (inl e) = rw e (omega arith)
    go (inr e) = rw e (omega arith)

short : (m : Sent) → Memᴰ m messages → steps_in m ≤ steps_most
short m h = go (one_of m h)
  where
    go : (m ≡ three) ⊎ (m ≡ two) → steps_in m ≤ steps_most
    go (inl e) = rw e (omega arith)
    go (inr e) = rw e (omega arith)

-- ---- the arrivals

abbrev Source : Seg → Type 0
Source t = OneOf next_counter messages t ⊎ ((m : Sent) → Memᴰ m messages → t.key ≢ m.key)

abbrev seg : ℕ → ℕ → List ℕ → Seg
seg c f b = record { key = the_key; counter = c; flags = f; body = b }

three_first : Source (seg 4294967294 1 (1 ∷ 2 ∷ []))
unfolding run_of later next_counter
three_first = inl (three, Memᴰ.head refl, Memᴰ.head refl)

three_next : Source (seg 4294967295 0 (3 ∷ 4 ∷ []))
unfolding run_of later next_counter
three_next = inl (three, Memᴰ.head refl, Memᴰ.tail (Memᴰ.head refl))

three_last : Source (seg 0 2 (5 ∷ []))
unfolding run_of later next_counter
three_last = inl (three, Memᴰ.head refl, Memᴰ.tail (Memᴰ.tail (Memᴰ.head refl)))

two_first : Source (seg 1 1 (6 ∷ []))
unfolding run_of later next_counter
two_first = inl (two, Memᴰ.tail (Memᴰ.head refl), Memᴰ.head refl)

two_last : Source (seg 2 2 (7 ∷ []))
unfolding run_of later next_counter
two_last = inl (two, Memᴰ.tail (Memᴰ.head refl), Memᴰ.tail (Memᴰ.head refl))

stray : Source record { key = 0x18 ∷ 6 ∷ 9 ∷ []; counter = 4294967295; flags = 0; body = 3 ∷ 4 ∷ [] }
stray = inr (λ m h e. go (one_of m h) e)
  where
    go : {m : Sent} → (m ≡ three) ⊎ (m ≡ two) → 0x18 ∷ 6 ∷ 9 ∷ [] ≡ m.key → ⊥
    go (inl p) e =
        let q : 0x18 ∷ 6 ∷ 9 ∷ [] ≡ the_key = e ∙ ap (λ (x : Sent). x.key) p in
        let z : ◌≡◌ {A = ℕ} 6 5 = cc q in
        omega arith
    go (inr p) e =
        let q : 0x18 ∷ 6 ∷ 9 ∷ [] ≡ the_key = e ∙ ap (λ (x : Sent). x.key) p in
        let z : ◌≡◌ {A = ℕ} 6 5 = cc q in
        omega arith

-- the calls up to midnight, and all
abbrev dark : List Event
dark = noon ++ evening ++ midnight

sources : Each Source (dark ++ night)
sources =
    (three_last, (two_first, (three_first, (three_last, (three_next, (three_next, (stray, (three_first, (two_last, (three_next, (two_last, (three_first, (three_next, (three_last, tt))))))))))))))

-- ---- the run

has_room : room_in next_counter steps_most (empty 4) (dark ++ night) ≡ true
unfolding room_in stepped taken_from look carries alike put has_free pick_in run_from rest_from role_of bodies among next_counter recorded spans reaches forgotten
has_room = refl

-- nothing complete; one octet too few; the first message; the second; no more, also after late repeats; and the first again, once its record
-- is forgotten
pub its_takings :
    takings (empty 4) (dark ++ night ++ takes 8 ∷ []) ≡
    unable 20 ∷ unable 21 ∷ message (run_of next_counter three) ∷ message (run_of next_counter two) ∷ unable 20 ∷ message (run_of next_counter three) ∷ []
unfolding takings stepped taken_from look carries alike put has_free pick_in run_from rest_from role_of bodies among run_of later next_counter recorded spans reaches forgotten
its_takings = refl

-- once it is taken, its record is in the cell of its first, and its other cells are free
pub in_use_lem :
    after next_counter steps_most (empty 4) noon ≡
    free ∷ held (seg 1 1 (6 ∷ [])) ∷ taken (record { key = the_key; first = 4294967294; steps = 2 }) ∷ free ∷ []
unfolding after stepped taken_from look carries alike put has_free pick_in run_from rest_from role_of bodies among next_counter recorded spans reaches
in_use_lem = refl

pub given : Given01 4 messages (dark ++ night)
given =
    record {
      traffic = record { start = starts; short = short; apart = apart; source = each_arrives Source (dark ++ night) sources };
      room = room_by next_counter steps_most (empty 4) (dark ++ night) has_room;
    }

-- ---- the first message is out from noon on

at_noon_lem : taken_from next_counter steps_most (after next_counter steps_most (empty 4) morning) 8 ≡ message (run_of next_counter three)
unfolding after stepped taken_from look carries alike put has_free pick_in run_from rest_from role_of bodies among run_of later next_counter recorded
at_noon_lem = refl

day_sources : Each Source (morning ++ takes 8 ∷ evening)
day_sources =
    (three_last, (two_first, (three_first, (three_last, (three_next, (three_next, (stray, (three_first, (two_last, (three_next, (two_last, tt)))))))))))

day : Traffic01 messages (morning ++ takes 8 ∷ evening)
day =
    record { start = starts; short = short; apart = apart; source = each_arrives Source (morning ++ takes 8 ∷ evening) day_sources }

remembers : remembers_in next_counter steps_most three (stepped next_counter steps_most (after next_counter steps_most (empty 4) morning) (takes 8)) evening ≡ true
unfolding remembers_in after stepped taken_from look carries alike put has_free pick_in run_from rest_from role_of bodies among next_counter recorded spans reaches
remembers = refl

pub out_since :
    Out next_counter steps_most three (after next_counter steps_most (empty 4) (morning ++ takes 8 ∷ evening)) ×
    Untaken next_counter steps_most three (stepped next_counter steps_most (after next_counter steps_most (empty 4) morning) (takes 8)) evening
out_since =
    recorded01 4 messages morning evening 8 (run_of next_counter three) day three (Memᴰ.head refl) at_noon_lem
    (sent_key next_counter three, sent_start next_counter three)
    (remembered_by next_counter steps_most three (stepped next_counter steps_most (after next_counter steps_most (empty 4) morning) (takes 8)) evening remembers)

-- ---- and told anew from midnight on

before_midnight : RecordAt next_counter steps_most three (after next_counter steps_most (empty 4) (noon ++ evening ++ forgets 1 ∷ forgets 0 ∷ [])) 2
unfolding after stepped taken_from look carries alike put has_free pick_in run_from rest_from role_of bodies among run_of later next_counter recorded spans reaches forgotten
before_midnight = refl

pub anew : Anew next_counter steps_most 4 three dark
anew = forgot (noon ++ evening ++ forgets 1 ∷ forgets 0 ∷ []) 2 before_midnight

left : left_in next_counter steps_most three (after next_counter steps_most (empty 4) dark) night ≡ true
unfolding left_in after stepped taken_from look carries alike put has_free pick_in run_from rest_from role_of bodies among next_counter recorded spans reaches forgotten
left = refl

-- and not taken since
pub untaken : Untaken next_counter steps_most three (after next_counter steps_most (empty 4) dark) night
untaken = untaken_by next_counter steps_most three (after next_counter steps_most (empty 4) dark) night left

pub promised : Promise next_counter steps_most (Done01 three) 4 three night (after next_counter steps_most (empty 4) (dark ++ night))
promised = demand3·01 4 messages dark night given three (Memᴰ.head refl) anew untaken

-- all its segments have arrived since
again : AllCame next_counter three night
unfolding run_of later next_counter
again t h = at (Memᴰ.cases_cons h)
  where
    at_last : (t ≡ seg 0 2 (5 ∷ [])) ⊎ Mem t [] → Memᴰ (arrives t) night
    at_last (inl e) = rw e (Memᴰ.tail (Memᴰ.tail (Memᴰ.head refl)))
    at_last (inr k) = absurd (Memᴰ.not-nil k)

    at_next : (t ≡ seg 4294967295 0 (3 ∷ 4 ∷ [])) ⊎ Mem t (seg 0 2 (5 ∷ []) ∷ []) → Memᴰ (arrives t) night
    at_next (inl e) = rw e (Memᴰ.tail (Memᴰ.head refl))
    at_next (inr k) = at_last (Memᴰ.cases_cons k)

    at : (t ≡ seg 4294967294 1 (1 ∷ 2 ∷ [])) ⊎ Mem t (seg 4294967295 0 (3 ∷ 4 ∷ []) ∷ seg 0 2 (5 ∷ []) ∷ []) → Memᴰ (arrives t) night
    at (inl e) = rw e (Memᴰ.head refl)
    at (inr k) = at_next (Memᴰ.cases_cons k)

-- so it is complete again
pub complete_again : Done01 three (after next_counter steps_most (empty 4) (dark ++ night))
complete_again = promised.complete.1 again
