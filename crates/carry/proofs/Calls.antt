-- The laws over the generated contracts of `carry::to_pdu` and `carry::to_message`: each refuses nothing exactly if what it is given crosses;
-- a message that was carried to the office returns unchanged, and so does a PDU that was carried to a message. That what is given is octets
-- is the contract's own second clause. And two outcomes that a contract allows for the same arguments have the same answer and output.
-- Assumes nothing.
use Prim.Native.Nat.{ℕ, ◌≤◌}
use mathlib.Core.Path.{◌≡◌, sym, ◌∙◌, subst}
use mathlib.Core.Logic.{◌↔◌}
use mathlib.Core.Bool.{false}
use mathlib.Core.List.{List, ◌++◌}
use contract.Lifetimes as L
use lib.ListN.{length, take, drop}
use Rattle.octets.specs.Octets.{Octets}
use Rattle.walk.specs.declared.Settings.{Settings}
use Rattle.walk.specs.Walk.{no_refusal}
use Rattle.packet.specs.Format.{header_octets}
use Rattle.pdu.specs.declared.Written.{Written}
use Rattle.carry.specs.declared.Route.{Route}
use Rattle.carry.specs.declared.Carried.{Carried}
use Rattle.carry.specs.There.{to_pdu_answer, to_pdu_output}
use Rattle.carry.specs.Back.{to_message_answer, to_message_output}
use Rattle.carry.specs.Crossing.{route_of, Crosses, Returns}
use Rattle.carry.proofs.There.{crosses_exactly}
use Rattle.carry.proofs.Back.{returns_exactly}
use Rattle.carry.proofs.Journey.{there_and_back}
use Rattle.carry.proofs.to_pdu.Reads as there
use Rattle.carry.proofs.to_message.Reads as back

-- ---- over plain values

plain_there :
    (s : Settings) (e : ℕ) (m : List ℕ) (room : ℕ) (r : Written) → r ≡ to_pdu_answer s e m room → Octets m → r.refusal.number ≡ 0 ↔ Crosses s e m room
plain_there s e m room r q o =
    subst (λ (x : Written). x.refusal.number ≡ 0 ↔ Crosses s e m room) (sym q) (crosses_exactly s e m room o)

plain_back :
    (s : Settings) (l : Route) (p : List ℕ) (room : ℕ) (r : Carried) → r ≡ to_message_answer s l p room → Octets p →
    r.refusal.number ≡ 0 ↔ Returns s l p room
plain_back s l p room r q o =
    subst (λ (x : Carried). x.refusal.number ≡ 0 ↔ Returns s l p room) (sym q) (returns_exactly s l p room o)

-- ---- exactly what crosses

pub to_pdu_exactly :
    (κs : L.Lfts 2) (a : _) (r : _) (x : _) → there.Post κs a r x →
    r.refusal.number ≡ 0 ↔ Crosses a.0 a.1.1.0 a.1.0.now (length a.1.1.1.0.now)
to_pdu_exactly κs a r x k = plain_there a.0 a.1.1.0 a.1.0.now (length a.1.1.1.0.now) r k.0.0 k.1

pub to_message_exactly :
    (κs : L.Lfts 2) (a : _) (r : _) (x : _) → back.Post κs a r x →
    r.refusal.number ≡ 0 ↔ Returns a.0 a.1.1.0 a.1.0.now (length a.1.1.1.0.now)
to_message_exactly κs a r x k = plain_back a.0 a.1.1.0 a.1.0.now (length a.1.1.1.0.now) r k.0.0 k.1

-- ---- there and back

plain_journey :
    (s : Settings) (e : ℕ) (m out : List ℕ) (c : Crosses s e m (length out)) → Octets m → c.head.has_zone ≡ false →
    (r : Written) (x : List ℕ) → r ≡ to_pdu_answer s e m (length out) → x ≡ to_pdu_output s e m out →
    (p : List ℕ) (l : Route) (b : List ℕ) → p ≡ take r.length x → l ≡ route_of c.head → length m ≤ length b →
    (q : Carried) (y : List ℕ) → q ≡ to_message_answer s l p (length b) → y ≡ to_message_output s l p b →
    (q ≡ record { refusal = no_refusal; header = length (header_octets s c.head); body = length c.body; encoding = e })
    × (y ≡ m ++ drop (length m) b)
plain_journey s e m out c o z r x er ex p l b ep el n q y eq ey =
    let k = rw (er, ex) at ep in
    let d = there_and_back s e out c o z b n k in
    let f = rw el at eq in
    let g = rw el at ey in
    (f ∙ d.0, g ∙ d.1)

-- a message that was carried to the office, and back with the values of its own header lent: its identification, header and body are unchanged
pub journey :
    (κs : L.Lfts 2) (a : _) (r : _) (x : _) (λs : L.Lfts 2) (b : _) (q : _) (y : _) → there.Post κs a r x → back.Post λs b q y →
    (c : Crosses a.0 a.1.1.0 a.1.0.now (length a.1.1.1.0.now)) → c.head.has_zone ≡ false →
    b.0 ≡ a.0 → b.1.0.now ≡ take r.length x.1.1.1.0.now → b.1.1.0 ≡ route_of c.head →
    length a.1.0.now ≤ length b.1.1.1.0.now →
    (q ≡ record { refusal = no_refusal; header = length (header_octets a.0 c.head); body = length c.body; encoding = a.1.1.0 })
    × (y.1.1.1.0.now ≡ a.1.0.now ++ drop (length a.1.0.now) b.1.1.1.0.now)
journey κs a r x λs b q y k j c z es ep el n =
    let f =
    subst (λ (s : Settings). q ≡ to_message_answer s b.1.1.0 b.1.0.now (length b.1.1.1.0.now)) es j.0.0 in
    let g = subst (λ (s : Settings). y.1.1.1.0.now ≡ to_message_output s b.1.1.0 b.1.0.now b.1.1.1.0.now) es j.0.1 in
    plain_journey a.0 a.1.1.0 a.1.0.now a.1.1.1.0.now c k.1 z r x.1.1.1.0.now k.0.0 k.0.1
    b.1.0.now b.1.1.0 b.1.1.1.0.now ep el n q y.1.1.1.0.now f g

-- ---- the same arguments, the same answer and output

pub to_pdu_same_answer : (κs : L.Lfts 2) (a : _) (r q : _) (s t : _) → there.Post κs a r s → there.Post κs a q t → r ≡ q
to_pdu_same_answer κs a r q s t k j = k.0.0 ∙ sym j.0.0

pub to_pdu_same_lent :
    (κs : L.Lfts 2) (a : _) (r q : _) (s t : _) → there.Post κs a r s → there.Post κs a q t → s.1.1.1.0.now ≡ t.1.1.1.0.now
to_pdu_same_lent κs a r q s t k j = k.0.1 ∙ sym j.0.1

pub to_message_same_answer : (κs : L.Lfts 2) (a : _) (r q : _) (s t : _) → back.Post κs a r s → back.Post κs a q t → r ≡ q
to_message_same_answer κs a r q s t k j = k.0.0 ∙ sym j.0.0

pub to_message_same_lent :
    (κs : L.Lfts 2) (a : _) (r q : _) (s t : _) → back.Post κs a r s → back.Post κs a q t → s.1.1.1.0.now ≡ t.1.1.1.0.now
to_message_same_lent κs a r q s t k j = k.0.1 ∙ sym j.0.1
