-- Each tile once, for any list of calls that `Unforgotten` admits: of the calls one takes the message, or none does. If none does, demand 3 says
-- that it is complete exactly if all its segments have arrived; if one does, it is out, and so all have.
-- Assumes nothing.
use Prim.Native.Nat.{ℕ, ◌≤◌, ◌<◌}
use mathlib.Core.Path.{◌≡◌, ap, sym, ◌∙◌, subst}
use mathlib.Core.Logic.{◌⊎◌, inl, inr}
use mathlib.Core.List.Memᴰ
use mathlib.Core.List.{List, [], ◌∷◌, ◌++◌, map, Memᴰ}
use native.Mathlib.Omega.{arith}
use lib.ListN.{length}
use Rattle.walk.specs.declared.Settings.{Settings}
use Rattle.cells.specs.Order.{cell_at, cell_size}
use Rattle.demand3.specs.Calls.{Call, taking, store_after}
use Rattle.demand3.specs.Sendings.{Sending}
use Rattle.demand3.specs.Presupposed.{InUse, empty_store, store_behind, cells_in, AllCame, Untaken, Traffic, fresh}
use Rattle.demand3.specs.Whole.{IsComplete, Delivers, LongEnough}
use Rattle.demand3.specs.Joins.{NoneComplete}
use Rattle.demand3.proofs.Sents.{listed_long}
use Rattle.demand3.proofs.Tally.{number_of, number_most}
use Rattle.demand3.proofs.Progress.{holds_one}
use Rattle.demand3.proofs.Events.{append_split, store_append}
use Rattle.demand3.proofs.Delivers.{map_split}
use Rattle.demand3.proofs.Carried.{behind_keeps}
use Rattle.demand3.proofs.Holds.{Taken, taken_or}
use Rattle.demand3.proofs.JoinsAt.{none_is}
use Rattle.demand3.proofs.Whole.{whole_demand3, whole_soundness}
use Rattle.once.specs.Once.{Unforgotten, HandedOut, Once, HandedBy, Drained, EachOnce, AllOut}
use Rattle.once.proofs.Lists.{with_takings}
use Rattle.once.proofs.Outs.{hands_out, at_most_once, out_all, out_or_complete}
use Rattle.once.proofs.Drain.{Emptied, empties, refused_by_20}

module _ (Z : ℕ) (one : 1 ≤ Z) where
  module _ (s : Settings) (n : ℕ) (u : InUse s n) (ms : List Sending) (cs : List Call) (g : Unforgotten s Z n ms cs) (m : Sending) (h : Memᴰ m ms) where
    abbrev now : List ℕ
    now = store_behind s Z n cs

    -- a call that takes it hands it out
    out_by_lem : Taken s Z m (empty_store Z n) cs → HandedOut s Z n m cs
    out_by_lem t =
        record {
          earlier = t.earlier;
          call = t.call;
          others = t.others;
          place = t.place;
          takes = t.takes;
          whole = hands_out Z one s n u ms t.earlier t.others t.call (subst (Traffic s Z ms) t.place g.given.traffic) m h t.takes;
        }

    came_out : AllCame s m cs → HandedOut s Z n m cs ⊎ IsComplete s Z n m now
    unfolding store_after
    came_out a = go (taken_or s Z m cs (empty_store Z n))
      where
        go : Untaken s Z m (empty_store Z n) cs ⊎ Taken s Z m (empty_store Z n) cs → HandedOut s Z n m cs ⊎ IsComplete s Z n m now
        go (inl w) = inr ((whole_demand3 Z one s n u ms [] cs g.given m h fresh w).complete.1 a)
        go (inr t) = inl (out_by_lem t)

    out_came : HandedOut s Z n m cs ⊎ IsComplete s Z n m now → AllCame s m cs
    out_came (inl o) = out_all Z one s n u ms cs g.given.traffic m h o
    out_came (inr d) = (whole_soundness Z one s n u ms [] cs g.given.traffic m h fresh).0 d

    pub once_by : Once s Z n m cs
    once_by =
        record {
          once = at_most_once Z one s n u ms cs g.given.traffic g.none_forgets m h;
          exactly = (out_came, came_out);
          either = out_or_complete Z one s n u ms cs g.given.traffic g.none_forgets m h;
        }

  pub each_once : EachOnce Z
  each_once s n u ms cs g m h = once_by s n u ms cs g m h

  -- ---- takings up to refusal 20

  module _ (s : Settings) (n : ℕ) (u : InUse s n) (ms : List Sending) (cs : List Call) (g : Unforgotten s Z n ms cs) (outs : List (List ℕ)) where
    -- nothing is complete after them
    module _ (asked : List (List ℕ)) (nothing : NoneComplete s Z n (store_behind s Z n (cs ++ map taking asked))) where
      more : Unforgotten s Z n ms (cs ++ map taking asked)
      more = with_takings s Z n ms cs asked g

      all_out : (m : Sending) → Memᴰ m ms → AllCame s m cs → HandedOut s Z n m (cs ++ map taking asked)
      all_out m h a = go ((once_by s n u ms (cs ++ map taking asked) more m h).exactly.1 a')
        where
          a' : AllCame s m (cs ++ map taking asked)
          a' i l = let v = a i l in (v.0, (v.1.0, Memᴰ.append_left (map taking asked) v.1.1, v.1.2), v.2)

          go : HandedOut s Z n m (cs ++ map taking asked) ⊎ IsComplete s Z n m (store_behind s Z n (cs ++ map taking asked)) →
              HandedOut s Z n m (cs ++ map taking asked)
          go (inl o) = o
          go (inr d) =
              absurd
              (none_is Z one s n u (cs ++ map taking asked) more.given.traffic.octets nothing m (g.given.traffic.cut m h) d)

      complete_out : (m : Sending) → Memᴰ m ms → IsComplete s Z n m (store_behind s Z n cs) → HandedBy s Z n m cs asked
      complete_out m h d = go (append_split cs (map taking asked) o.earlier o.call o.others o.place)
        where
          was : Once s Z n m cs
          was = once_by s n u ms cs g m h

          o : HandedOut s Z n m (cs ++ map taking asked)
          o = all_out m h (was.exactly.0 (inr d))

          go : ((v : List Call) × (cs ≡ o.earlier ++ o.call ∷ v)) ⊎
              ((w : List Call) × (o.earlier ≡ cs ++ w) × (map taking asked ≡ w ++ o.call ∷ o.others)) → HandedBy s Z n m cs asked
          go (inl v) =
              absurd
              (was.either
              (record { earlier = o.earlier; call = o.call; others = v.0; place = v.1; takes = o.takes; whole = o.whole }) d)
          go (inr w) =
              let t = map_split taking asked w.0 o.call o.others w.2 in (
                t.0,
                t.1,
                t.2,
                t.3,
                subst (Delivers s Z n m (store_behind s Z n (cs ++ map taking t.0))) (sym t.5)
                    (subst (λ (l : List Call). Delivers s Z n m (store_behind s Z n l) o.call) (w.1 ∙ ap (λ (l : List Call). cs ++ l) (sym t.4)) o.whole),
              )

    pub drained : n < length outs → LongEnough s Z n (store_behind s Z n cs) outs → Drained s Z n ms cs outs
    drained l e =
        record {
          asked = v.asked;
          last = v.last;
          others = v.others;
          place = v.place;
          few = let f = v.few in omega (arith, most);
          empty =
              refused_by_20 s Z n (store_behind s Z n (cs ++ map taking v.asked))
              (behind_keeps s Z n one u (cs ++ map taking v.asked) (more v.asked nothing).given.traffic.octets) nothing v.last;
          handed = complete_out v.asked nothing;
          out = all_out v.asked nothing;
        }
      where
        st : List ℕ
        st = store_behind s Z n cs

        most : number_of holds_one (cells_in s Z n st) ≤ n
        most = let a = number_most holds_one (cells_in s Z n st) in omega (arith, listed_long (cell_at s Z st) n 0)

        v : Emptied s Z n st outs
        v = empties s Z n outs st (behind_keeps s Z n one u cs g.given.traffic.octets) (omega (arith, most)) e

        nothing : NoneComplete s Z n (store_behind s Z n (cs ++ map taking v.asked))
        nothing = subst (NoneComplete s Z n) (sym (store_append s Z cs (map taking v.asked) (empty_store Z n))) v.nothing

  pub all_out_by : AllOut Z
  all_out_by s n u ms cs g outs l e = drained s n u ms cs g outs l e

-- ---- cells of 1,024 octets

pub each_once·whole : EachOnce cell_size
each_once·whole = each_once cell_size (omega arith)

pub all_out·whole : AllOut cell_size
all_out·whole = all_out_by cell_size (omega arith)
