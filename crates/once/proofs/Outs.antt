-- A message that is out: a call that takes it hands it out whole, and no call hands it out again, since its record stands until it is
-- forgotten. All its segments have arrived, since each was in a cell. And it is not complete any more: its record has its first counter in
-- its range, and in a store in order no such segment is held.
-- Assumes nothing.
use Prim.Native.Nat.{ℕ, ◌≤◌, zero-le}
use mathlib.Core.Path.{◌≡◌, refl, ap, sym, ◌∙◌, subst}
use mathlib.Core.Bool.{true, true≢false}
use mathlib.Core.List.Memᴰ
use mathlib.Core.List.{List, [], ◌∷◌, ◌++◌, append_assoc, Memᴰ}
use native.Mathlib.Omega.{arith}
use Rattle.octets.proofs.Lists.{alike_self}
use Rattle.octets.specs.Octets.{Octets}
use Rattle.walk.specs.declared.Settings.{Settings}
use Rattle.packet.specs.Numbers.{next_counter}
use Rattle.sender.specs.Sending.{steps_of}
use Rattle.cells.specs.Rows.{held}
use Rattle.cells.specs.Order.{cell_at, covers}
use Rattle.cells.proofs.Covered.{Clear}
use Rattle.cells.proofs.StoreOrder.{order_tells}
use Rattle.demand3.specs.Calls.{Call, forgetting, Brings, Handed, Plain, store_by, store_after}
use Rattle.demand3.specs.Sendings.{Sending, segment_at, key_in, start_of, steps_to, range_sent, IsCut}
use Rattle.demand3.specs.Presupposed.{InUse, empty_store, store_behind, AllCame, MayCome, Traffic, TakesIt, Untaken, Remembered, fresh}
use Rattle.demand3.specs.Whole.{IsComplete, Delivers, Out}
use Rattle.demand3.proofs.Distinct.{listed_at}
use Rattle.demand3.proofs.Ranges.{reaches_at}
use Rattle.demand3.proofs.Steps.{Kept}
use Rattle.demand3.proofs.Events.{store_append}
use Rattle.demand3.proofs.Carried.{behind_keeps}
use Rattle.demand3.proofs.Holds.{held_came}
use Rattle.demand3.proofs.Whole.{whole_soundness}
use Rattle.demand3.proofs.Taken.{whole_recorded}
use Rattle.once.specs.Once.{NoneForgets, HandedOut, AtMostOnce}
use Rattle.once.proofs.Lists.{traffic_with, up_to, up_to_lem, handed_up}

-- a message's record has its first counter in its range
own_covers : (k : List ℕ) (c m : ℕ) → covers k c (record { key = k; first = c; steps = m }) ≡ true
unfolding covers steps_of
own_covers k c m = rw (reaches_at next_counter m 0 c zero-le, alike_self k)

module _ (Z : ℕ) (one : 1 ≤ Z) (s : Settings) (n : ℕ) (u : InUse s n) (ms : List Sending) where
  -- ---- a call that takes a message

  module _ (x y : List Call) (c : Call) (g : Traffic s Z ms (x ++ c ∷ y)) (m : Sending) (h : Memᴰ m ms) where
    abbrev st : List ℕ
    st = store_behind s Z n x

    k : IsCut s Z m
    k = g.cut m h

    up : (q : List ℕ) → Handed q (x ++ c ∷ []) → Handed q (x ++ c ∷ y)
    up q b = subst (Handed q) (append_assoc x (c ∷ []) y) (b.0, Memᴰ.append_left y b.1, b.2)

    into : (q : List ℕ) → Handed q x → Handed q (x ++ c ∷ y)
    into q b = (b.0, Memᴰ.append_left (c ∷ y) b.1, b.2)

    brought : (q : List ℕ) → Brings q c → Octets q × MayCome s Z ms q
    brought q b = let v : Handed q (x ++ c ∷ y) = (c, Memᴰ.append_right x (Memᴰ.head refl), b) in (g.octets q v, g.packets q v)

    -- it is handed out whole
    pub hands_out : TakesIt s Z m st c → Delivers s Z n m st c
    unfolding steps_of
    hands_out t =
        ((whole_soundness Z one s n u ms [] x (traffic_with s Z n ms (x ++ c ∷ y) x g into) m h fresh).1.takes c brought).gives
        t.0 t.1 t.2.0 0 (let e = k.many in omega arith) t.2.1

    -- each of its segments was in a cell, and so has arrived
    pub out_came : Delivers s Z n m st c → AllCame s m (x ++ c ∷ y)
    out_came d i l =
        let v = d.there i l in
        let p : Plain (up_to s Z n x c) = λ q b. g.octets q (up q (handed_up s Z n x c q b)) in
        let w =
        held_came Z one s n u (up_to s Z n x c) p v.0 (segment_at s m i) v.1
        (ap (λ (z : List ℕ). cell_at s Z z v.0) (up_to_lem s Z n x c) ∙ v.2) in
        (w.0, up w.0 (handed_up s Z n x c w.0 w.1), w.2)

    -- if nothing is forgotten after it, it is out, and no call takes it again
    pub out_after : NoneForgets y → TakesIt s Z m st c → Out s Z n m (store_behind s Z n (x ++ c ∷ y)) × Untaken s Z m (store_by s Z st c) y
    out_after f t = whole_recorded Z one s n u ms x y c g m h t kept
      where
        kept : Remembered s Z n m (store_by s Z st c) y
        kept a b i e r = f i (subst (Memᴰ (forgetting i)) (sym e) (Memᴰ.append_right a (Memᴰ.head refl)))

  -- ---- among the calls

  pub at_most_once : (cs : List Call) → Traffic s Z ms cs → NoneForgets cs → (m : Sending) → Memᴰ m ms → AtMostOnce s Z n m cs
  unfolding store_after
  at_most_once cs g f m h x y z c d e t w =
      (out_after x (y ++ d ∷ z) c (subst (Traffic s Z ms) e' g) m h none t).1 y z d refl
      (subst (λ (q : List ℕ). TakesIt s Z m q d) (store_append s Z x (c ∷ y) (empty_store Z n)) w)
    where
      e' : cs ≡ x ++ c ∷ (y ++ d ∷ z)
      e' = e ∙ append_assoc x (c ∷ y) (d ∷ z)

      none : NoneForgets (y ++ d ∷ z)
      none i b = f i (subst (Memᴰ (forgetting i)) (sym e') (Memᴰ.append_right x (Memᴰ.tail b)))

  -- the calls that handed it out
  pub out_all : (cs : List Call) → Traffic s Z ms cs → (m : Sending) → Memᴰ m ms → HandedOut s Z n m cs → AllCame s m cs
  out_all cs g m h o =
      subst (AllCame s m) (sym o.place)
      (out_came o.earlier o.others o.call (subst (Traffic s Z ms) o.place g) m h o.whole)

  -- a message that is out is not complete
  pub out_or_complete : (cs : List Call) → Traffic s Z ms cs → NoneForgets cs → (m : Sending) → Memᴰ m ms → HandedOut s Z n m cs →
      IsComplete s Z n m (store_behind s Z n cs) → ⊥
  out_or_complete cs g f m h o d =
      let v = d.opens in
      let j = listed_at (cell_at s Z now) n 0 (held v.0) v.1 in
      let r = gone.noted in
      true≢false
      (sym (own_covers (key_in s m) (start_of s m) (steps_to s m))
      ∙ ap (λ (q : List ℕ). covers q (start_of s m) (range_sent s m)) (sym v.2)
      ∙ ap (λ (q : ℕ). covers v.0.key q (range_sent s m)) (sym v.3)
      ∙ clear j.0 r.0 v.0 (range_sent s m) (omega (arith, j.2)) r.1.0 (sym j.3) r.1.1)
    where
      now : List ℕ
      now = store_behind s Z n cs

      none : NoneForgets o.others
      none i b = f i (subst (Memᴰ (forgetting i)) (sym o.place) (Memᴰ.append_right o.earlier (Memᴰ.tail b)))

      gone : Out s Z n m now
      gone =
          subst (λ (l : List Call). Out s Z n m (store_behind s Z n l)) (sym o.place)
          (out_after o.earlier o.others o.call (subst (Traffic s Z ms) o.place g) m h none o.takes).0

      kept : Kept s Z n now
      kept = behind_keeps s Z n one u cs g.octets

      clear : Clear s Z now n
      clear = subst (Clear s Z now) kept.count (order_tells s Z now kept.order).clear
