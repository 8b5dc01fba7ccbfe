-- Each tile once from the generated contracts of `store::take` and `join::join`: at a store that some calls left, a message that is out is not
-- told and written again, and a taking refused by 20 says that every message all of whose segments have arrived is out. What the calls leave
-- is the store after them by the laws of demand 3's `Bridges`.
-- Assumes nothing.
use Prim.Native.Nat.{ℕ, ◌-◌, ◌+◌}
use mathlib.Core.Path.{◌≡◌, refl, ap, sym, ◌∙◌, subst}
use mathlib.Core.Logic.{◌⊎◌, inl, inr}
use mathlib.Core.Bool.{Bool, true, false}
use mathlib.Core.Option.{Option, none, some, map}
use mathlib.Core.List.{List, [], ◌∷◌, ◌++◌, append_assoc, Memᴰ}
use native.Mathlib.Omega.{arith}
use contract.Lifetimes as L
use lib.ListN.{length, take, drop}
use lib.Seq.{take-append_seam}
use lib.Dec.{leb}
use Rattle.octets.specs.Octets.{pick}
use Rattle.walk.specs.declared.Settings.{Settings}
use Rattle.packet.specs.Numbers.{next_counter, steps_most}
use Rattle.format.proofs.Stretches.{header_long}
use Rattle.cells.specs.Order.{cell_size}
use Rattle.cells.specs.Messages.{Run, body_of, picked}
use Rattle.cells.proofs.Picking.{pick_yes}
use Rattle.arrival.specs.Arriving.{Arrived, arrived}
use Rattle.taking.specs.Taking.{Took, message, unable, writing, drawn, took, out_with}
use Rattle.taking.specs.Answer.{Taken}
use Rattle.taking.specs.Told.{taken_of}
use Rattle.taking.proofs.Tells.{taken_tells}
use Rattle.store.proofs.Arguments.{take_call, take_output}
use Rattle.taking.specs.Answer.{taken_answer}
use Rattle.join.specs.Answer.{joined_answer}
use Rattle.store.proofs.take.Reads as takes
use Rattle.join.specs.Answer.{Joined}
use Rattle.join.specs.Joining.{Joining}
use Rattle.join.specs.Told.{taken, joined_of}
use Rattle.join.proofs.Arguments.{join_call, join_output}
use Rattle.join.proofs.join.Reads as joins
use Rattle.demand3.specs.Traffic.{taken_from}
use Rattle.demand3.specs.Calls.{Call, taking, joining, out_of, draws, store_at, took_by, out_by}
use Rattle.demand3.specs.Sendings.{Sending, whole_body, header_size, body_size, key_in, start_of, IsCut}
use Rattle.demand3.specs.Presupposed.{InUse, store_behind, cells_in, AllCame, TakesIt}
use Rattle.demand3.specs.Whole.{IsComplete}
use Rattle.demand3.specs.Joins.{NoneComplete}
use Rattle.demand3.proofs.Sents.{key_long_lem}
use Rattle.demand3.proofs.Called.{out_by_lem}
use Rattle.demand3.proofs.Simulates.{by_took}
use Rattle.demand3.proofs.Steps.{Kept, took_is}
use Rattle.demand3.proofs.Carried.{behind_keeps}
use Rattle.demand3.proofs.Delivers.{written_out}
use Rattle.demand3.proofs.JoinsAt.{none_is}
use Rattle.demand3.proofs.Bridges.{Ended, take_answers, take_writes, join_answers, join_ends, join_writes, its_answer, its_output}
use Rattle.once.specs.Once.{Unforgotten, HandedOut}
use Rattle.once.proofs.Lists.{with_takings}
use Rattle.once.proofs.Each.{each_once·whole}

-- ---- what an answer and an output say

module _ (s : Settings) (Z : ℕ) (m : Sending) (k : IsCut s Z m) where
  -- a header has 21 octets or more, and beside a refusal H is 0
  header_some : header_size s m ≡ 0 → ⊥
  header_some e = omega (arith, header_long s m.head, e)

  -- H, c and what is written tell the key and the first counter
  told_takes : (st : List ℕ) (c : Call) (q : Run) → took_by s Z st c ≡ some (message q) → length q.head.key - 2 ≡ header_size s m →
      q.head.counter ≡ start_of s m → out_by s Z st c ≡ its_output s m (out_of c) → TakesIt s Z m st c
  told_takes st c q e h f w = (q, e, (same, f))
    where
      b : (draws s Z st c ≡ true) × (took s Z (store_at s Z st c) (length (out_of c)) ≡ message q)
      b = by_took s Z st c q e

      long : length q.head.key ≡ length (key_in s m)
      long =
          let a : length (key_in s m) ≡ 2 + header_size s m = key_long_lem s Z m k in
          omega (arith, header_long s m.head)

      after : List ℕ
      after = body_of q ++ drop (length (writing q)) (out_of c)

      its : List ℕ
      its = whole_body m ++ drop (2 + header_size s m + body_size s m) (out_of c)

      written : out_by s Z st c ≡ q.head.key ++ after
      written =
          out_by_lem s Z st c ∙ pick_yes (draws s Z st c) (out_with (out_of c) (took s Z (store_at s Z st c) (length (out_of c)))) (out_of c) b.0
          ∙ ap (out_with (out_of c)) b.1
          ∙ written_out (out_of c) (writing q) q refl (taken_tells s Z (store_at s Z st c) (length (out_of c)) q b.1).fits
          ∙ append_assoc q.head.key (body_of q) (drop (length (writing q)) (out_of c))

      same : q.head.key ≡ key_in s m
      same =
          sym (take-append_seam q.head.key after)
          ∙ ap (take (length q.head.key))
          (sym written ∙ w ∙ append_assoc (key_in s m) (whole_body m) (drop (2 + header_size s m + body_size s m) (out_of c)))
          ∙ ap (λ (i : ℕ). take i (key_in s m ++ its)) long
          ∙ take-append_seam (key_in s m) its

-- ---- a message that is out

module _ (s : Settings) (n : ℕ) (u : InUse s n) (ms : List Sending) (cs : List Call) (m : Sending) (h : Memᴰ m ms) where
  -- one more call does not take it
  not_again : (c : Call) → Unforgotten s cell_size n ms (cs ++ c ∷ []) → HandedOut s cell_size n m cs → TakesIt s cell_size m (store_behind s cell_size n cs) c → ⊥
  not_again c g o t =
      (each_once·whole s n u ms (cs ++ c ∷ []) g m h).once o.earlier o.others [] o.call c
      (ap (λ (l : List Call). l ++ c ∷ []) o.place) o.takes
      (subst (λ (l : List Call). TakesIt s cell_size m (store_behind s cell_size n l) c) o.place t)

-- `store::take` does not answer H, B and c of a message that is out with its identification, header and body written
pub take_once : (κs : L.Lfts 2) (a : _) (r : _) (x : _) → takes.Post κs a r x → (n : ℕ) → InUse (take_call κs a).settings n →
    (ms : List Sending) (cs : List Call) → (take_call κs a).store ≡ store_behind (take_call κs a).settings cell_size n cs →
    Unforgotten (take_call κs a).settings cell_size n ms cs → (m : Sending) → Memᴰ m ms → HandedOut (take_call κs a).settings cell_size n m cs →
    taken_answer r ≡ its_answer (take_call κs a).settings m → take_output κs x ≡ its_output (take_call κs a).settings m (take_call κs a).output → ⊥
take_once κs a r x p n u ms cs e g m h o b w =
    not_again s n u ms cs m h (taking out) (with_takings s cell_size n ms cs (out ∷ []) g) o
    (subst (λ (z : List ℕ). TakesIt s cell_size m z (taking out)) e (go (took_by s cell_size st (taking out)) refl (take_answers κs a r x p)))
  where
    s : Settings
    s = (take_call κs a).settings

    st : List ℕ
    st = (take_call κs a).store

    out : List ℕ
    out = (take_call κs a).output

    k : IsCut s cell_size m
    k = g.given.traffic.cut m h

    go : (t : Option Took) → took_by s cell_size st (taking out) ≡ t → some (taken_answer r) ≡ map taken_of t → TakesIt s cell_size m st (taking out)
    go none d f = let z : ◌≡◌ {A = ℕ} 0 1 = cc f in absurd (omega arith)
    go (some (message q)) d f =
        let y : its_answer s m ≡ taken_of (message q) = sym b ∙ (let v : taken_answer r ≡ taken_of (message q) = cc f in v) in
        told_takes s cell_size m k st (taking out) q d (ap (λ (v : Taken). v.header) (sym y)) (ap (λ (v : Taken). v.counter.0) (sym y))
        (sym (take_writes κs a r x p) ∙ w)
    go (some (unable i)) d f =
        let y : its_answer s m ≡ taken_of (unable i) = sym b ∙ (let v : taken_answer r ≡ taken_of (unable i) = cc f in v) in
        absurd (header_some s cell_size m k (ap (λ (v : Taken). v.header) y))

-- a joining that takes nothing answers no H
ended_header : (s : Settings) (p : List ℕ) (b : Arrived) (j : Joining) → Ended s p b j → (joined_of j).header ≡ 0
ended_header s p b j (inl f) = ap (λ (y : Joining). (joined_of y).header) f.1
ended_header s p b j (inr f) = ap (λ (y : Joining). (joined_of y).header) f.2

-- and `join::join` does not
pub join_once : (κs : L.Lfts 3) (a : _) (r : _) (x : _) → joins.Post κs a r x → (n : ℕ) → InUse (join_call κs a).settings n →
    (ms : List Sending) (cs : List Call) → (join_call κs a).store ≡ store_behind (join_call κs a).settings cell_size n cs →
    Unforgotten (join_call κs a).settings cell_size n ms (cs ++ joining (join_call κs a).packet (join_call κs a).output ∷ []) →
    (m : Sending) → Memᴰ m ms → HandedOut (join_call κs a).settings cell_size n m cs →
    joined_answer r ≡ taken (its_answer (join_call κs a).settings m) → join_output κs x ≡ its_output (join_call κs a).settings m (join_call κs a).output → ⊥
join_once κs a r x p n u ms cs e g m h o b w =
    not_again s n u ms cs m h c g o (subst (λ (z : List ℕ). TakesIt s cell_size m z c) e (go (took_by s cell_size st c) refl))
  where
    s : Settings
    s = (join_call κs a).settings

    st : List ℕ
    st = (join_call κs a).store

    c : Call
    c = joining (join_call κs a).packet (join_call κs a).output

    k : IsCut s cell_size m
    k = g.given.traffic.cut m h

    header_is : (joined_answer r).header ≡ header_size s m
    header_is = ap (λ (v : Joined). v.header) b

    go : (t : Option Took) → took_by s cell_size st c ≡ t → TakesIt s cell_size m st c
    go none d =
        let v = join_ends κs a r x p d in
        absurd
        (header_some s cell_size m k
        (sym header_is ∙ ap (λ (y : Joined). y.header) v.1
        ∙ ended_header s (join_call κs a).packet (arrived s cell_size st (join_call κs a).packet) v.0 v.2))
    go (some (message q)) d =
        let y = sym (join_answers κs a r x p (message q) d) ∙ b in
        told_takes s cell_size m k st c q d (ap (λ (v : Joined). v.header) y) (ap (λ (v : Joined). v.counter.0) y)
        (sym (join_writes κs a r x p) ∙ w)
    go (some (unable i)) d =
        let y = join_answers κs a r x p (unable i) d in
        absurd (header_some s cell_size m k (sym header_is ∙ ap (λ (v : Joined). v.header) y))

-- ---- refusal 20

-- only if nothing is complete
pub drawn_20 : (o : Option Run) (long : ℕ) → (taken_of (drawn o long)).refusal.number ≡ 20 → o ≡ none
drawn_20 none long e = refl
drawn_20 (some r) long e = go (leb (length (writing r)) long) e
  where
    go : (b : Bool) → (taken_of (pick b (message r) (unable 21))).refusal.number ≡ 20 → some r ≡ none
    go true d = absurd (omega (arith, d))
    go false d = absurd (omega (arith, d))

-- if `store::take` answers 20, every message all of whose segments have arrived is out
pub take_empty : (κs : L.Lfts 2) (a : _) (r : _) (x : _) → takes.Post κs a r x → (n : ℕ) → InUse (take_call κs a).settings n →
    (ms : List Sending) (cs : List Call) → (take_call κs a).store ≡ store_behind (take_call κs a).settings cell_size n cs →
    Unforgotten (take_call κs a).settings cell_size n ms cs → (taken_answer r).refusal.number ≡ 20 →
    (m : Sending) → Memᴰ m ms → AllCame (take_call κs a).settings m cs → HandedOut (take_call κs a).settings cell_size n m cs
unfolding taken_from
take_empty κs a r x p n u ms cs e g z m h all = go ((each_once·whole s n u ms cs g m h).exactly.1 all)
  where
    s : Settings
    s = (take_call κs a).settings

    out : List ℕ
    out = (take_call κs a).output

    now : List ℕ
    now = store_behind s cell_size n cs

    kept : Kept s cell_size n now
    kept = behind_keeps s cell_size n (omega arith) u cs g.given.traffic.octets

    answer : taken_answer r ≡ taken_of (taken_from next_counter steps_most (cells_in s cell_size n now) (length out))
    answer =
        p.0 ∙ ap (λ (y : List ℕ). taken_of (took s cell_size y (length out))) e ∙ ap taken_of (took_is s cell_size n now kept (length out))

    nothing : NoneComplete s cell_size n now
    nothing =
        drawn_20 (picked next_counter steps_most (cells_in s cell_size n now)) (length out) (sym (ap (λ (y : Taken). y.refusal.number) answer) ∙ z)

    go : HandedOut s cell_size n m cs ⊎ IsComplete s cell_size n m now → HandedOut s cell_size n m cs
    go (inl o) = o
    go (inr d) = absurd (none_is cell_size (omega arith) s n u cs g.given.traffic.octets nothing m (g.given.traffic.cut m h) d)
