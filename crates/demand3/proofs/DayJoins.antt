-- Two joinings that meet every hypothesis of the law on joinings: the first stores the first segment of a message, the second completes
-- it, with just enough output, and hands it out.
-- Assumes nothing.
use Prim.Native.Nat.{ℕ, zero, suc, ◌+◌, ◌≤◌}
use mathlib.Core.Path.{◌≡◌, refl, ap, sym, ◌∙◌}
use mathlib.Core.Logic.{inl, inr}
use mathlib.Core.Option.{some}
use mathlib.Core.List.Memᴰ
use mathlib.Core.List.{List, [], ◌∷◌}
use native.Mathlib.Omega.{arith}
use Rattle.octets.specs.Octets.{wide, alike}
use Rattle.octets.specs.Laying.{together}
use Rattle.fields.specs.Form.{split}
use Rattle.packet.specs.Format.{fixed_octets, front_octets, back_octets, header_octets}
use Rattle.packet.specs.Numbers.{next_counter}
use Rattle.write.specs.Given.{head_of}
use Rattle.cells.specs.Segments.{carries, same_rest}
use Rattle.cells.specs.Order.{cell_size}
use Rattle.cells.specs.Messages.{look, role_of, bodies, rest_from, run_from, pick_in}
use Rattle.taking.specs.Taking.{message, unable}
use Rattle.demand3.specs.Cells.{put, has_free, recorded}
use Rattle.demand3.specs.Traffic.{empty, taken_from, stepped, after}
use Rattle.demand3.specs.Calls.{Call, joining, Plain, packets_in, took_by, store_after}
use Rattle.demand3.specs.Sendings.{header_size, body_size}
use Rattle.demand3.specs.Presupposed.{AllCame, Untaken, Given, store_behind, fresh}
use Rattle.demand3.specs.Whole.{Delivers}
use Rattle.demand3.specs.Joins.{OnlyJoins, Completes}
use Rattle.demand3.proofs.ReadAs.{repeat_reads}
use Rattle.demand3.proofs.Events.{one_split}
use Rattle.demand3.proofs.Plain.{plain_none, plain_left}
use Rattle.demand3.proofs.Joins.{joining·whole, only_joins·whole}
use Rattle.demand3.proofs.Acts.{EachPacket, each_packet, act_events}
use Rattle.demand3.proofs.Roomy.{room·whole}
use Rattle.demand3.proofs.Day.{settings, two, messages, of_two, two_cut, seg, is_two_first}
use Rattle.demand3.proofs.DayComes.{Fine, two_fine}
use Rattle.demand3.proofs.DayRun.{lent_out, in_use_lem, joined_takes}
use Rattle.demand3.proofs.DayGiven.{traffic}

abbrev Z : ℕ
Z = cell_size

-- the first segment, and then the last
abbrev pub stores : Call
stores = joining (of_two 0 3) (lent_out 33)

abbrev pub completes : Call
completes = joining (of_two 1 4) (lent_out 33)

abbrev calls : List Call
calls = stores ∷ completes ∷ []

fine : EachPacket Fine calls
fine = (two_fine 0 (omega arith) 3 (omega arith), (two_fine 1 (omega arith) 4 (omega arith), tt))

few : packets_in calls ≤ 4
unfolding packets_in
few = omega arith

plain : Plain calls
plain p h = (each_packet Fine calls fine p h).0

given : Given settings Z 4 messages calls
given =
    record {
      traffic =
          record {
            cut = traffic.cut;
            apart = traffic.apart;
            octets = plain;
            packets = λ p h. (each_packet Fine calls fine p h).1;
          };
      room = room·whole settings 4 in_use_lem calls plain few;
    }

-- nothing is complete with the first segment alone
takes_none : took_by settings Z (store_behind settings Z 4 []) stores ≡ some (unable 20)
unfolding act_events after stepped taken_from look carries same_rest alike put has_free pick_in run_from rest_from role_of bodies next_counter recorded
takes_none = joined_takes [] plain_none [] refl (empty 4) refl (of_two 0 3) (lent_out 33) fine.0.0 (seg 1 1 (21 ∷ 22 ∷ 23 ∷ [])) (is_two_first 3 (omega arith)) refl

untaken : Untaken settings Z two (store_behind settings Z 4 []) (stores ∷ [])
unfolding store_after
untaken x y c e t =
    let a = one_split stores c x y e in
    let f : some (unable 20) ≡ some (message t.0) =
    sym takes_none ∙ ap (took_by settings Z (store_behind settings Z 4 [])) a.1
    ∙ ap (λ (l : List Call). took_by settings Z (store_behind settings Z 4 l) c) (sym a.0)
    ∙ t.1 in
    let z : ◌≡◌ {A = ℕ} 0 1 = cc f in
    omega arith

only : OnlyJoins settings Z 4 (stores ∷ [])
only =
    record {
      octets = plain_left (stores ∷ []) (completes ∷ []) plain;
      joins = λ x y c e. let a = one_split stores c x y e in inl (of_two 0 3, lent_out 33, sym a.1);
      long =
          λ x y c e d.
          let a = one_split stores c x y e in
          let f : some (unable 20) ≡ some (unable 21) =
          sym takes_none ∙ ap (took_by settings Z (store_behind settings Z 4 [])) a.1
          ∙ ap (λ (l : List Call). took_by settings Z (store_behind settings Z 4 l) c) (sym a.0)
          ∙ d in
          let z : ◌≡◌ {A = ℕ} 20 21 = cc f in
          omega arith;
    }

all : AllCame settings two calls
all zero l = (of_two 0 3, (stores, Memᴰ.head refl, inr (lent_out 33, refl)), repeat_reads settings Z two two_cut 0 (omega arith) 3 (omega arith))
all (suc zero) l = (
  of_two 1 4,
  (completes, Memᴰ.tail (Memᴰ.head refl), inr (lent_out 33, refl)),
  repeat_reads settings Z two two_cut 1 (omega arith) 4 (omega arith),
)
all (suc (suc i)) l = absurd (omega arith)

-- identification, 21 octets of header and 10 of body
two_long : 2 + header_size settings two + body_size settings two ≡ 33
unfolding together header_octets fixed_octets front_octets back_octets wide head_of split
two_long = refl

pub day_completes : Completes settings Z 4 messages two [] (stores ∷ []) (of_two 1 4) (lent_out 33)
day_completes =
    record {
      given = given;
      sent = Memᴰ.tail (Memᴰ.head refl);
      anew = fresh;
      untaken = untaken;
      nothing = only_joins·whole settings 4 in_use_lem (stores ∷ []) only;
      all = all;
      enough = omega (arith, two_long);
    }

pub day_joins : Delivers settings Z 4 two (store_behind settings Z 4 (stores ∷ [])) completes
day_joins = joining·whole settings 4 in_use_lem messages two [] (stores ∷ []) (of_two 1 4) (lent_out 33) day_completes
