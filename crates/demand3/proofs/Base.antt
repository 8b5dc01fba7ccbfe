-- Demand 3 in SPEC's words, from the law for any counter that follows one: a message of at most 4,096 segments has no counter twice, whatever
-- counter it starts from. And without the room, that whatever is taken under a message's key is one of the messages of that key.
-- Assumes nothing.
use Prim.Native.Nat.{ℕ, suc, ◌≤◌, suc-le-suc, zero-le}
use mathlib.Core.Path.{◌≡◌, refl, sym, ◌∙◌, ap}
use mathlib.Core.Logic.{◌≢◌, ◌⊎◌, inl, inr}
use mathlib.Core.List.Memᴰ
use mathlib.Core.List.{List, [], ◌∷◌, ◌++◌, Memᴰ}
use native.Mathlib.Omega.{arith}
use lib.ListN.{length}
use Rattle.octets.specs.Octets.{most32}
use Rattle.packet.specs.Numbers.{next_counter, steps_most}
use Rattle.packet.proofs.Rounds.{next_most, next_injective}
use Rattle.cells.specs.Segments.{Seg}
use Rattle.cells.specs.Rows.{Cell}
use Rattle.cells.specs.Messages.{Run, middle, last}
use Rattle.sender.specs.Sending.{steps_of}
use Rattle.sender.proofs.Stepping.{no_return}
use Rattle.demand3.specs.Complete.{Held}
use Rattle.demand3.specs.Traffic.{Sent, steps_in, run_of, segments_of, Event, arrives, takes, empty, after, OneOf, Stray, Traffic}
use Rattle.demand3.specs.Promise.{Original, fresh, Given}
use Rattle.demand3.specs.Base.{Traffic01, Given01, Demand3·01, Soundness01, Genuine01, Recorded01}
use Rattle.demand3.proofs.Links.{Mem, role_in, Linked, linked_at, opened_key, sent_opened, sent_key, sent_start, sent_length}
use Rattle.demand3.proofs.Finds.{picked_held}
use Rattle.demand3.proofs.Takings.{taken_picked, held_after, held_empty}
use Rattle.demand3.proofs.Demand.{demand3, soundness}
use Rattle.demand3.proofs.Outs.{recorded_out}

-- ---- no counter comes twice

-- one of n segments that follow a counter has another
follows_apart :
    (k : List ℕ) (c : ℕ) (ts : List Seg) → c ≤ most32 → length ts ≤ most32 → Linked next_counter k (next_counter c) ts → (y : Seg) → Mem y ts →
    y.counter ≡ c → ⊥
unfolding steps_of
follows_apart k c ts l n q y h e =
    let z = linked_at next_counter k (next_counter c) ts q y h in
    no_return (suc z.0) c l (suc-le-suc zero-le) (let b = z.1 in omega arith) (sym z.2 ∙ e)

linked_steady :
    (k : List ℕ) (c : ℕ) (ts : List Seg) → c ≤ most32 → length ts ≤ most32 → Linked next_counter k c ts → (t u : Seg) → Mem t ts → Mem u ts →
    t.counter ≡ u.counter → t ≡ u
linked_steady k c [] low n l t u h g e = absurd l
linked_steady k c (v ∷ ts) low n l t u h g e =
    go l.2 (linked_steady k (next_counter c) ts (next_most c low) (omega arith)) (Memᴰ.cases_cons h) (Memᴰ.cases_cons g)
  where
    above : Linked next_counter k (next_counter c) ts → (x y : Seg) → x ≡ v → Mem y ts → x.counter ≡ y.counter → x ≡ y
    above q x y p m d =
        absurd (follows_apart k c ts low (omega arith) q y m (sym d ∙ ap (λ (s : Seg). s.counter) p ∙ l.1))

    go : ((role_in v ≡ last) × (ts ≡ [])) ⊎ ((role_in v ≡ middle) × Linked next_counter k (next_counter c) ts) →
        (Linked next_counter k (next_counter c) ts → (x y : Seg) → Mem x ts → Mem y ts → x.counter ≡ y.counter → x ≡ y) → (t ≡ v) ⊎ Mem t ts →
        (u ≡ v) ⊎ Mem u ts →
        t ≡ u
    go q ih (inl x) (inl y) = x ∙ sym y
    go (inl q) ih (inr x) y = absurd (Memᴰ.not-nil (rw q.1 at x))
    go (inl q) ih (inl x) (inr y) = absurd (Memᴰ.not-nil (rw q.1 at y))
    go (inr q) ih (inl x) (inr y) = above q.1 t u x y e
    go (inr q) ih (inr x) (inl y) = sym (above q.1 u t y x (sym e))
    go (inr q) ih (inr x) (inr y) = ih q.1 t u x y e

sent_steady :
    (m : Sent) → m.start ≤ most32 → steps_in m ≤ steps_most → (t u : Seg) → Mem t (segments_of next_counter m) → Mem u (segments_of next_counter m) →
    t.counter ≡ u.counter → t ≡ u
sent_steady m low short t u h g e = go (Memᴰ.cases_cons h) (Memᴰ.cases_cons g)
  where
    r : Run
    r = run_of next_counter m

    c : ℕ
    c = r.head.counter

    l : Linked next_counter r.head.key (next_counter c) r.rest
    l = (sent_opened next_counter m).follows

    first_low : c ≤ most32
    first_low = omega (arith, sent_start next_counter m)

    few : length r.rest ≤ most32
    few = omega (arith, sent_length next_counter m)

    above : (x y : Seg) → x ≡ r.head → Mem y r.rest → x.counter ≡ y.counter → x ≡ y
    above x y p k d =
        absurd (follows_apart r.head.key c r.rest first_low few l y k (sym d ∙ ap (λ (s : Seg). s.counter) p))

    go : (t ≡ r.head) ⊎ Mem t r.rest → (u ≡ r.head) ⊎ Mem u r.rest → t ≡ u
    go (inl x) (inl y) = x ∙ sym y
    go (inl x) (inr y) = above t u x y e
    go (inr x) (inl y) = sym (above u t y x (sym e))
    go (inr x) (inr y) =
        linked_steady r.head.key (next_counter c) r.rest (next_most c first_low) few l t u x y e

-- ---- what is presupposed

key_of : (m : Sent) (t : Seg) → Mem t (segments_of next_counter m) → t.key ≡ m.key
key_of m t h = opened_key next_counter (run_of next_counter m) (sent_opened next_counter m) t h ∙ sent_key next_counter m

traffic_of : (ms : List Sent) (es : List Event) → Traffic01 ms es → Traffic next_counter steps_most ms es
traffic_of ms es tr =
    record {
      short = tr.short;
      steady = λ m h. sent_steady m (tr.start m h) (tr.short m h);
      apart = tr.apart;
      source = λ t h. go t (tr.source t h);
    }
  where
    go : (t : Seg) → OneOf next_counter ms t ⊎ ((m : Sent) → Memᴰ m ms → t.key ≢ m.key) → OneOf next_counter ms t ⊎ Stray next_counter ms t
    go t (inl z) = inl z
    go t (inr f) = inr (λ m h u g p q. f m h (p ∙ key_of m u g))

given_of : (cells : ℕ) (ms : List Sent) (es : List Event) → Given01 cells ms es → Given next_counter steps_most cells ms es
given_of cells ms es g = record { traffic = traffic_of ms es g.traffic; room = g.room }

-- ---- demand 3

pub demand3·01 : Demand3·01
demand3·01 cells ms before since g m h a u =
    demand3 next_counter steps_most next_injective cells ms before since (given_of cells ms (before ++ since) g) m h a u

-- ---- without the room

pub soundness01 : Soundness01
soundness01 cells ms before since tr m h a =
    soundness next_counter steps_most next_injective cells ms before since (traffic_of ms (before ++ since) tr) m h a

pub recorded01 : Recorded01
recorded01 cells ms before since long r tr m h e i u =
    recorded_out next_counter steps_most next_injective cells ms before since long r (traffic_of ms (before ++ takes long ∷ since) tr) m h e i u

pub genuine01 : Genuine01
unfolding after
genuine01 cells ms es tr long r e m h k =
    go (held_after next_counter steps_most es (empty cells) r.head
    (picked_held next_counter steps_most cs r (taken_picked next_counter steps_most cs long r e).0))
  where
    cs : List Cell
    cs = after next_counter steps_most (empty cells) es

    from : OneOf next_counter ms r.head ⊎ ((w : Sent) → Memᴰ w ms → r.head.key ≢ w.key) →
        (w : Sent) × Memᴰ w ms × (w.key ≡ m.key) × Original next_counter w r
    from (inl z) = (
      z.0,
      z.1,
      sym (key_of z.0 r.head z.2) ∙ k,
      (soundness01 cells ms [] es tr z.0 z.1 fresh).1.gives long r r.head e z.2 refl refl,
    )
    from (inr f) = absurd (f m h k)

    go : Held r.head (empty cells) ⊎ Memᴰ (arrives r.head) es →
        (w : Sent) × Memᴰ w ms × (w.key ≡ m.key) × Original next_counter w r
    go (inl x) = absurd (held_empty cells r.head x)
    go (inr x) = from (tr.source r.head x)
