-- From the generated contracts of the public calls to the steps of demand 3 (J-9): what `store::arrive`, `store::take`, `store::forget` and
-- `join::join` leave is the store and the output after the call, and they answer what it comes to; what `cut::count` answers and `cut::packet`
-- writes, or the old cutter, are a message's count and its packets. So where demand 3 says that a call hands out a message, its answer and its output do.
-- Assumes nothing.
use Prim.Native.Nat.{ℕ, zero, suc, ◌+◌, ◌-◌, ◌<◌}
use mathlib.Core.Path.{◌≡◌, refl, ap, sym, ◌∙◌}
use mathlib.Core.Logic.{◌⊎◌, inl, inr}
use mathlib.Core.Bool.{Bool, true, false}
use mathlib.Core.Option.{Option, none, some, map, some-injective}
use mathlib.Core.List.{List, ◌++◌}
use native.Mathlib.Omega.{arith}
use contract.Lifetimes as L
use lib.ListN.{length, take, drop}
use lib.Dec.{leb}
use Rattle.octets.specs.Octets.{pick}
use Rattle.walk.specs.declared.Settings.{Settings}
use Rattle.walk.specs.declared.Refusal.{Refusal}
use Rattle.walk.specs.Walk.{refusal}
use Rattle.packet.specs.Numbers.{next_counter, steps_most}
use Rattle.packet.specs.Reading.{read_packet, segmented}
use Rattle.cells.specs.Segments.{seg_of}
use Rattle.sender.specs.declared.Sender.{Sender}
use Rattle.write.specs.declared.HeaderValues.{HeaderValues}
use Rattle.write.specs.Given.{Lent}
use Rattle.cut.specs.declared.Counted.{Counted}
use Rattle.cut.specs.Cutting.{count_answer}
use Rattle.cut.proofs.Arguments.{count_call, cut_call, cut_output, count_old, count_by_call, cut_old, cut_by_call, cut_by_output}
use Rattle.cut.proofs.count.Reads as counts
use Rattle.cut.proofs.packet.Reads as cuts
use Rattle.cut.proofs.count_by.Reads as count-bys
use Rattle.cut.proofs.packet_by.Reads as cut-bys
use Rattle.fewest.proofs.Calls.{packet_wrote, packet_by_wrote}
use Rattle.cells.specs.Order.{count_in, cell_size, gate}
use Rattle.cells.specs.Messages.{Run, cells_of, picked}
use Rattle.arrival.specs.Arriving.{Arrived, whole, stored, again, late, refused, arrived, store_with}
use Rattle.arrival.specs.Answer.{Answer}
use Rattle.arrival.specs.declared.Kind.TheVariants.{Taken as Repeated}
use Rattle.taking.specs.Taking.{Took, message, unable, writing, drawn, took_in, took}
use Rattle.taking.specs.Forgetting.{forgot}
use Rattle.taking.specs.Answer.{Taken}
use Rattle.arrival.specs.Told.{arrival_of}
use Rattle.taking.specs.Told.{taken_of}
use Rattle.taking.proofs.Checked.{took_open, took_shut}
use Rattle.store.proofs.Arguments.{arrive_call, arrive_store, take_call, take_store, take_output, forget_call, forget_store}
use Rattle.walk.specs.Told.{said}
use Rattle.arrival.specs.Answer.{arrival_answer}
use Rattle.taking.specs.Answer.{taken_answer}
use Rattle.join.specs.Answer.{joined_answer}
use Rattle.store.proofs.arrive.Reads as arrives
use Rattle.store.proofs.take.Reads as takes
use Rattle.store.proofs.forget.Reads as forgets
use Rattle.join.specs.Joining.{Joining, in_packet, unjoined, body_from, took_as, joined_by, joining as joined}
use Rattle.join.specs.Told.{taken, joined_of}
use Rattle.join.proofs.Arguments.{join_call, join_store, join_output}
use Rattle.join.proofs.join.Reads as joins
use Rattle.demand3.specs.Calls.{arrival, taking, joining, forgetting, goes_on, store_by, took_by, out_by}
use Rattle.demand3.specs.Sendings.{Sending, whole_body, identification_of, header_of, header_size, body_size, start_of, many_of, key_in, counter_in}
use Rattle.demand3.specs.Cutter.{Cutting, count_of, packet_of}
use Rattle.demand3.specs.Whole.{Delivers, Out}

-- `store::arrive`
pub arrive_answers : (κs : L.Lfts 2) (a : _) (r : _) (x : _) → arrives.Post κs a r x →
    arrival_answer r ≡ arrival_of (arrived (arrive_call κs a).settings cell_size (arrive_call κs a).store (arrive_call κs a).packet)
arrive_answers κs a r x k = k.0

pub arrive_steps : (κs : L.Lfts 2) (a : _) (r : _) (x : _) → arrives.Post κs a r x →
    arrive_store κs x ≡ store_by (arrive_call κs a).settings cell_size (arrive_call κs a).store (arrival (arrive_call κs a).packet)
unfolding store_by
arrive_steps κs a r x k = k.1

-- a segment with the key and a counter of a message that is out is answered "taken", and leaves the store as it was
pub arrive_out : (κs : L.Lfts 2) (a : _) (r : _) (x : _) → arrives.Post κs a r x → (n : ℕ) (m : Sending) →
    Out (arrive_call κs a).settings cell_size n m (arrive_call κs a).store →
    (read_packet (arrive_call κs a).settings (arrive_call κs a).packet).refusal.number ≡ 0 → segmented (arrive_call κs a).packet ≡ true →
    (seg_of (arrive_call κs a).packet (read_packet (arrive_call κs a).settings (arrive_call κs a).packet)).key ≡ key_in (arrive_call κs a).settings m →
    (i : ℕ) → i < many_of (arrive_call κs a).settings m →
    (seg_of (arrive_call κs a).packet (read_packet (arrive_call κs a).settings (arrive_call κs a).packet)).counter ≡ counter_in (arrive_call κs a).settings m i →
    (arrival_answer r ≡ Answer Repeated) × (arrive_store κs x ≡ (arrive_call κs a).store)
arrive_out κs a r x k n m o ok seg key i l c =
    let v = o.repeats (arrive_call κs a).packet ok seg key i l c in
    (arrive_answers κs a r x k ∙ ap arrival_of v.0, k.1 ∙ v.1)

-- `store::forget`
pub forget_answers : (κs : L.Lfts 1) (a : _) (r : _) (x : _) → forgets.Post κs a r x →
    said r ≡ refusal (forgot (forget_call κs a).settings cell_size (forget_call κs a).store (forget_call κs a).number)
forget_answers κs a r x k = k.0

pub forget_steps : (κs : L.Lfts 1) (a : _) (r : _) (x : _) → forgets.Post κs a r x →
    forget_store κs x ≡ store_by (forget_call κs a).settings cell_size (forget_call κs a).store (forgetting (forget_call κs a).number)
unfolding store_by
forget_steps κs a r x k = k.1

-- ---- a joining in the words of its definition

-- a joining that takes nothing: the body's place in a packet that came whole, or the refusal of its arrival
abbrev pub Ended : Settings → List ℕ → Arrived → Joining → Type 0
Ended s p a j =
    ((a ≡ whole) × (j ≡ in_packet (body_from s p) (length p - body_from s p))) ⊎ ((r : Refusal) × (a ≡ refused r) × (j ≡ unjoined r))

module _ (s : Settings) (Z : ℕ) (st out p : List ℕ) where
  -- where there is a taking, joining comes to what it does
  pub joining_takes : (t : Took) → took_by s Z st (joining p out) ≡ some t → joined s Z st p (length out) ≡ took_as t
  unfolding took_by joined
  joining_takes t = by (arrived s Z st p)
    where
      by : (a : Arrived) → pick (goes_on a) (some (took s Z (store_with Z st p a) (length out))) none ≡ some t →
          joined_by s Z st p (length out) a ≡ took_as t
      by whole g = let z : ◌≡◌ {A = ℕ} 0 1 = cc in absurd (omega arith)
      by (stored i) g = ap took_as (some-injective (took s Z (store_with Z st p (stored i)) (length out)) t g)
      by again g = ap took_as (some-injective (took s Z (store_with Z st p again) (length out)) t g)
      by late g = ap took_as (some-injective (took s Z (store_with Z st p late) (length out)) t g)
      by (refused k) g = let z : ◌≡◌ {A = ℕ} 0 1 = cc in absurd (omega arith)

  -- where there is none, to what its arrival does
  pub joining_ends : took_by s Z st (joining p out) ≡ none → Ended s p (arrived s Z st p) (joined s Z st p (length out))
  unfolding took_by joined
  joining_ends = by (arrived s Z st p)
    where
      by : (a : Arrived) → pick (goes_on a) (some (took s Z (store_with Z st p a) (length out))) none ≡ none →
          Ended s p a (joined_by s Z st p (length out) a)
      by whole g = inl (refl, refl)
      by (stored i) g = let z : ◌≡◌ {A = ℕ} 0 1 = cc in absurd (omega arith)
      by again g = let z : ◌≡◌ {A = ℕ} 0 1 = cc in absurd (omega arith)
      by late g = let z : ◌≡◌ {A = ℕ} 0 1 = cc in absurd (omega arith)
      by (refused k) g = inr (k, refl, refl)

-- `store::take`
pub take_answers : (κs : L.Lfts 2) (a : _) (r : _) (x : _) → takes.Post κs a r x →
    some (taken_answer r) ≡ map taken_of (took_by (take_call κs a).settings cell_size (take_call κs a).store (taking (take_call κs a).output))
unfolding took_by
take_answers κs a r x k = ap some k.0

pub take_writes : (κs : L.Lfts 2) (a : _) (r : _) (x : _) → takes.Post κs a r x →
    take_output κs x ≡ out_by (take_call κs a).settings cell_size (take_call κs a).store (taking (take_call κs a).output)
unfolding out_by
take_writes κs a r x k = k.1.0

pub take_steps : (κs : L.Lfts 2) (a : _) (r : _) (x : _) → takes.Post κs a r x →
    take_store κs x ≡ store_by (take_call κs a).settings cell_size (take_call κs a).store (taking (take_call κs a).output)
unfolding store_by
take_steps κs a r x k = k.1.1

-- `join::join`
pub join_answers : (κs : L.Lfts 3) (a : _) (r : _) (x : _) → joins.Post κs a r x → (t : Took) →
    took_by (join_call κs a).settings cell_size (join_call κs a).store (joining (join_call κs a).packet (join_call κs a).output) ≡ some t → joined_answer r ≡ joined_of (took_as t)
join_answers κs a r x k t e =
    k.0 ∙ ap joined_of (joining_takes (join_call κs a).settings cell_size (join_call κs a).store (join_call κs a).output (join_call κs a).packet t e)

pub join_ends : (κs : L.Lfts 3) (a : _) (r : _) (x : _) → joins.Post κs a r x →
    took_by (join_call κs a).settings cell_size (join_call κs a).store (joining (join_call κs a).packet (join_call κs a).output) ≡ none →
    (j : Joining) × (joined_answer r ≡ joined_of j) × Ended (join_call κs a).settings (join_call κs a).packet
    (arrived (join_call κs a).settings cell_size (join_call κs a).store (join_call κs a).packet) j
join_ends κs a r x k e = (_, k.0, joining_ends (join_call κs a).settings cell_size (join_call κs a).store (join_call κs a).output (join_call κs a).packet e)

pub join_steps : (κs : L.Lfts 3) (a : _) (r : _) (x : _) → joins.Post κs a r x →
    join_store κs x ≡ store_by (join_call κs a).settings cell_size (join_call κs a).store (joining (join_call κs a).packet (join_call κs a).output)
unfolding store_by
join_steps κs a r x k = k.1.0

pub join_writes : (κs : L.Lfts 3) (a : _) (r : _) (x : _) → joins.Post κs a r x →
    join_output κs x ≡ out_by (join_call κs a).settings cell_size (join_call κs a).store (joining (join_call κs a).packet (join_call κs a).output)
unfolding out_by
join_writes κs a r x k = k.1.1

-- ---- a message that is handed out

-- taking refuses by no zero
drawn_not : (o : Option Run) (long : ℕ) → drawn o long ≡ unable 0 → ⊥
drawn_not none long e = let z : ◌≡◌ {A = ℕ} 20 0 = cc in omega arith
drawn_not (some r) long e = go (leb (length (writing r)) long) e
  where
    go : (b : Bool) → pick b (message r) (unable 21) ≡ unable 0 → ⊥
    go true d = let z : ◌≡◌ {A = ℕ} 0 1 = cc in omega arith
    go false d = let z : ◌≡◌ {A = ℕ} 21 0 = cc in omega arith

took_not : (s : Settings) (Z : ℕ) (st : List ℕ) (long : ℕ) → took s Z st long ≡ unable 0 → ⊥
unfolding took_in
took_not s Z st long e = go (gate s Z st) refl
  where
    go : (g : ℕ) → gate s Z st ≡ g → ⊥
    go zero h = drawn_not (picked next_counter steps_most (cells_of s Z st (count_in Z st))) long (took_open s Z st long h ∙ e)
    go (suc g) h =
        let d : unable (suc g) ≡ unable 0 = ap unable (sym h) ∙ sym (took_shut s Z st long (λ k. omega (arith, h, k))) ∙ e in
        let z : ◌≡◌ {A = ℕ} (suc g) 0 = cc in omega arith

-- so an answer without a refusal is a message's
joined_tells : (s : Settings) (Z : ℕ) (st p out : List ℕ) (x : Taken) → x.refusal.number ≡ 0 →
    map taken_of (took_by s Z st (joining p out)) ≡ some x → joined_of (joined s Z st p (length out)) ≡ taken x
unfolding took_by joined
joined_tells s Z st p out x z = by (arrived s Z st p)
  where
    of : (t : Took) → (t ≡ unable 0 → ⊥) → some (taken_of t) ≡ some x → joined_of (took_as t) ≡ taken x
    of (message r) n g = ap taken (some-injective (taken_of (message r)) x g)
    of (unable k) n g =
        absurd (n (ap unable (ap (λ (y : Taken). y.refusal.number) (some-injective (taken_of (unable k)) x g) ∙ z)))

    by : (a : Arrived) → map taken_of (pick (goes_on a) (some (took s Z (store_with Z st p a) (length out))) none) ≡ some x →
        joined_of (joined_by s Z st p (length out) a) ≡ taken x
    by whole g = let y : ◌≡◌ {A = ℕ} 0 1 = cc in absurd (omega arith)
    by (stored i) g =
        let u = store_with Z st p (stored i) in of (took s Z u (length out)) (took_not s Z u (length out)) g
    by again g = let u = store_with Z st p again in of (took s Z u (length out)) (took_not s Z u (length out)) g
    by late g = let u = store_with Z st p late in of (took s Z u (length out)) (took_not s Z u (length out)) g
    by (refused k) g = let y : ◌≡◌ {A = ℕ} 0 1 = cc in absurd (omega arith)

module _ (s : Settings) (m : Sending) where
  -- H, B and c
  abbrev pub its_answer : Taken
  its_answer = record { refusal = refusal 0; header = header_size s m; body = body_size s m; counter = record { 0 = start_of s m } }

  -- the identification, header and body that were sent, and after them the output as it was
  abbrev pub its_output : List ℕ → List ℕ
  its_output out = identification_of s m ++ header_of s m ++ whole_body m ++ drop (2 + header_size s m + body_size s m) out

pub take_hands_out : (κs : L.Lfts 2) (a : _) (r : _) (x : _) → takes.Post κs a r x → (n : ℕ) (m : Sending) →
    Delivers (take_call κs a).settings cell_size n m (take_call κs a).store (taking (take_call κs a).output) →
    (taken_answer r ≡ its_answer (take_call κs a).settings m) × (take_output κs x ≡ its_output (take_call κs a).settings m (take_call κs a).output)
take_hands_out κs a r x k n m d = (
  some-injective (taken_answer r) (its_answer (take_call κs a).settings m) (take_answers κs a r x k ∙ d.told),
  take_writes κs a r x k ∙ d.written,
)

pub join_hands_out : (κs : L.Lfts 3) (a : _) (r : _) (x : _) → joins.Post κs a r x → (n : ℕ) (m : Sending) →
    Delivers (join_call κs a).settings cell_size n m (join_call κs a).store (joining (join_call κs a).packet (join_call κs a).output) →
    (joined_answer r ≡ taken (its_answer (join_call κs a).settings m)) × (join_output κs x ≡ its_output (join_call κs a).settings m (join_call κs a).output)
join_hands_out κs a r x k n m d = (
  k.0
      ∙ joined_tells (join_call κs a).settings cell_size (join_call κs a).store (join_call κs a).packet (join_call κs a).output (its_answer (join_call κs a).settings m) refl d.told,
  join_writes κs a r x k ∙ d.written,
)

-- ---- the cutter

-- what the cutter is given, by the arguments of its calls
abbrev pub cutting : Bool → ℕ → HeaderValues → Lent → List ℕ → Sender → Cutting
cutting old P v t body d = record { old = old; limit = P; values = v; texts = t; body = body; sender = d }

plain_count : (old : Bool) (s : Settings) (P B : ℕ) (v : HeaderValues) (t : Lent) (d : Sender) (r : Counted) → r ≡ count_answer old s P v t B d →
    (body : List ℕ) → length body ≡ B → count_of s (cutting old P v t body d) ≡ r
plain_count old s P B v t d r k body e = ap (λ (x : ℕ). count_answer old s P v t x d) e ∙ sym k

-- `cut::count`
pub count_steps : (κs : L.Lfts 1) (a : _) (r : _) (x : _) → counts.Post κs a r x → (body : List ℕ) → length body ≡ (count_call κs a).long →
    (let c = count_call κs a in count_of c.settings (cutting false c.limit c.header c.texts body c.sender)) ≡ r
count_steps κs a r x k body e =
    let c = count_call κs a in plain_count false c.settings c.limit c.long c.header c.texts c.sender r k body e

-- `cut::packet`
pub packet_steps : (κs : L.Lfts 3) (a : _) (r : _) (x : _) → cuts.Post κs a r x → r.refusal.number ≡ 0 →
    take r.length (cut_output κs x) ≡
    (let c = cut_call κs a in packet_of c.settings (cutting false c.limit c.header c.texts c.body c.sender) c.index)
packet_steps κs a r x k z = (packet_wrote κs a r x k z).octets

-- and the old cutter, `cut::count_by` and `cut::packet_by`, with a zone too
pub count_by_steps : (κs : L.Lfts 1) (a : _) (r : _) (x : _) → count-bys.Post κs a r x → (body : List ℕ) →
    length body ≡ (count_by_call κs a).long →
    (let c = count_by_call κs a in count_of c.settings (cutting (count_old κs a) c.limit c.header c.texts body c.sender)) ≡ r
count_by_steps κs a r x k body e =
    let c = count_by_call κs a in plain_count (count_old κs a) c.settings c.limit c.long c.header c.texts c.sender r k body e

pub packet_by_steps : (κs : L.Lfts 3) (a : _) (r : _) (x : _) → cut-bys.Post κs a r x → r.refusal.number ≡ 0 →
    take r.length (cut_by_output κs x) ≡
    (let c = cut_by_call κs a in
    packet_of c.settings (cutting (cut_old κs a) c.limit c.header c.texts c.body c.sender) c.index)
packet_by_steps κs a r x k z = (packet_by_wrote κs a r x k z).octets
