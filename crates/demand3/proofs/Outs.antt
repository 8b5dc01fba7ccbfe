-- A message that was taken is out until its record is forgotten, whatever arrives and whatever else is taken or forgotten, room or no room: its
-- record stays, none of its segments is held, a repeat of one changes nothing, and no taking hands it out again.
-- Assumes nothing.
use Prim.Native.Nat.{ℕ}
use mathlib.Core.Path.{◌≡◌, refl, sym, ◌∙◌, ap, subst}
use mathlib.Core.Bool.{Bool, true}
use mathlib.Core.Option.{some-ne-none}
use mathlib.Core.List.Memᴰ
use mathlib.Core.List.{List, [], ◌∷◌, ◌++◌, append_assoc, Memᴰ}
use Rattle.octets.specs.Octets.{pick}
use Rattle.cells.specs.Segments.{Seg}
use Rattle.cells.specs.Rows.{Cell, held}
use Rattle.cells.specs.Messages.{Run, segments, look}
use Rattle.taking.specs.Taking.{message}
use Rattle.demand3.specs.Cells.{range_by, clear, recorded}
use Rattle.demand3.specs.Traffic.{Sent, run_of, segments_of, Event, takes, forgets, stowed, empty, taken_from, stepped, after}
use Rattle.demand3.specs.Promise.{Its, Remembered, Out, Recorded}
use Rattle.demand3.proofs.Links.{Mem, sent_opened}
use Rattle.demand3.proofs.Ranges.{Noted, noted_put, noted_clear}
use Rattle.demand3.proofs.Forgets.{noted_forgotten, noted_at, own_noted}
use Rattle.demand3.proofs.Finds.{picked_held}
use Rattle.demand3.proofs.Beside.{among_mem}
use Rattle.demand3.proofs.Takings.{Fair, taken_picked, taken_cells, step_keeps}
use Rattle.demand3.proofs.Records.{Clean, clean_empty, clean_after, clear_own_clean, noted_recorded}
use Rattle.demand3.proofs.Keeps.{after_append}
use Rattle.demand3.proofs.Demand.{fair, its_own}

module _ (next : ℕ → ℕ) (span : ℕ) where
  -- a record that is not forgotten stays
  remembered_tail : (m : Sent) (cs : List Cell) (e : Event) (es : List Event) → Remembered next span m cs (e ∷ es) →
      Remembered next span m (stepped next span cs e) es
  unfolding after
  remembered_tail m cs e es u p q i d = u (e ∷ p) q i (ap (λ (x : List Event). e ∷ x) d)

  noted_after : (m : Sent) (es : List Event) (cs : List Cell) → Remembered next span m cs es → Noted (range_by (run_of next m)) cs →
      Noted (range_by (run_of next m)) (after next span cs es)
  unfolding after
  noted_after m [] cs u h = h
  noted_after m (e ∷ es) cs u h =
      noted_after m es (stepped next span cs e) (remembered_tail m cs e es u)
      (step_keeps next span (Noted (range_by (run_of next m))) cs e h
      (λ t d v n. noted_put cs t (range_by (run_of next m)) h)
      (λ long r d g. noted_clear r cs (range_by (run_of next m)) h)
      (λ i d. noted_forgotten i cs (range_by (run_of next m)) (λ g. u [] es i (ap (λ (x : Event). x ∷ es) d) g) h))

  -- where its record is, it is out
  noted_out : (m : Sent) (cs : List Cell) → Clean next (run_of next m) cs → Noted (range_by (run_of next m)) cs → Out next span m cs
  unfolding stepped
  noted_out m cs w h =
      record {
        noted = noted_at cs (range_by (run_of next m)) h;
        late = late';
        same = λ t k. ap (λ (b : Bool). pick b cs (stowed (look cs t.key t.counter) cs t)) (late' t k);
        gone = w.parted h;
      }
    where
      late' : (t : Seg) → Mem t (segments_of next m) → recorded next cs t.key t.counter ≡ true
      late' = noted_recorded next (run_of next m) (sent_opened next m) cs h

  module _ (inj : (x y : ℕ) → next x ≡ next y → x ≡ y) where
    -- what is out is not taken
    out_untaken : (m : Sent) (cs : List Cell) → Clean next (run_of next m) cs → Noted (range_by (run_of next m)) cs →
        (long : ℕ) (r : Run) → taken_from next span cs long ≡ message r → Its m r → ⊥
    out_untaken m cs w h long r e i =
        let q : r ≡ run_of next m = its_own next span inj m cs w.beside long r e i in
        let k = picked_held next span cs r (taken_picked next span cs long r e).0 in
        some-ne-none r.head
        (sym (w.beside.single r.head k)
        ∙ w.parted h r.head (subst (λ (x : Run). Mem r.head (segments x)) q (Memᴰ.head refl)))

    pub recorded_out : Recorded next span
    unfolding after
    recorded_out cells ms before since long r tr m h e i u = (
      subst (Out next span m) (sym (after_append next span (empty cells) before (takes long ∷ since)))
          (noted_out m then (clean since f') (stays since u)),
      λ p q n x d g y. out_untaken m (after next span now p) (clean p (part p q n d)) (stays p (forth p q n d)) n x g y,
    )
      where
        own : Run
        own = run_of next m

        cs : List Cell
        cs = after next span (empty cells) before

        now : List Cell
        now = stepped next span cs (takes long)

        then : List Cell
        then = after next span now since

        f : Fair next span own (before ++ takes long ∷ since)
        f = fair next span inj ms (before ++ takes long ∷ since) tr m h

        f' : Fair next span own since
        f' t k = f t (Memᴰ.append_right before (Memᴰ.tail k))

        w : Clean next own cs
        w = clean_after next span inj own (sent_opened next m) before (empty cells) (λ t k. f t (Memᴰ.append_left (takes long ∷ since) k)) (clean_empty next own cells)

        q : r ≡ own
        q = its_own next span inj m cs w.beside long r e i

        cleared : now ≡ clear own cs
        cleared = taken_cells next span cs long r e ∙ ap (λ (x : Run). clear x cs) q

        w' : Clean next own now
        w' = subst (Clean next own) (sym cleared) (clear_own_clean next own (sent_opened next m) cs w)

        noted : Noted (range_by own) now
        noted =
            subst (Noted (range_by own)) (sym cleared)
            (own_noted own cs (among_mem (segments own) own.head (Memᴰ.head refl))
            (subst (λ (x : Run). Memᴰ (held x.head) cs) q (picked_held next span cs r (taken_picked next span cs long r e).0)))

        clean : (es : List Event) → Fair next span own es → Clean next own (after next span now es)
        clean es g = clean_after next span inj own (sent_opened next m) es now g w'

        stays : (es : List Event) → Remembered next span m now es → Noted (range_by own) (after next span now es)
        stays es g = noted_after m es now g noted

        part : (p z : List Event) (n : ℕ) → since ≡ p ++ takes n ∷ z → Fair next span own p
        part p z n d t k = f' t (rw d (Memᴰ.append_left (takes n ∷ z) k))

        forth : (p z : List Event) (n : ℕ) → since ≡ p ++ takes n ∷ z → Remembered next span m now p
        forth p z n d x y j g =
            u x (y ++ takes n ∷ z) j (d ∙ ap (λ (v : List Event). v ++ takes n ∷ z) g ∙ append_assoc x (forgets j ∷ y) (takes n ∷ z))
