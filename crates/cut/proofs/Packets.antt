-- Packet number i as the code makes it is the definition's, and its answer and output follow.
-- Assumes nothing.
use Prim.Native.Nat.{ℕ, suc, ◌+◌, ◌-◌, ◌*◌, ◌≤◌, ◌<◌}
use mathlib.Core.Path.{◌≡◌, refl, ap, ap₂, sym, ◌∙◌}
use mathlib.Core.Bool.{Bool, true, false}
use mathlib.Core.List.{List, ◌++◌}
use native.Mathlib.Omega.{arith}
use lib.ListN.{length, take, drop, length-take}
use lib.Seq.{take_all}
use lib.Dec.{leb, ltb, eqb}
use borrow.Author.Tests.{leb-true, ltb-true, eq-eqb, ne_eqb}
use Rattle.octets.specs.Octets.{pick, part}
use Rattle.octets.specs.Laying.{laid, Lays}
use Rattle.walk.specs.declared.Settings.{Settings}
use Rattle.walk.specs.declared.Tested.{Tested}
use Rattle.walk.specs.Walk.{refusal, unless}
use Rattle.fields.specs.Inner.{capped}
use Rattle.octets.proofs.Places.{part_at}
use Rattle.packet.specs.Format.{Values, segment, octets_of}
use Rattle.packet.specs.Numbers.{count_at}
use Rattle.sender.specs.declared.Sender.{Sender}
use Rattle.write.specs.declared.HeaderValues.{HeaderValues}
use Rattle.write.specs.declared.PacketValues.{PacketValues}
use Rattle.write.specs.Given.{Lent, head_of, packet_of}
use Rattle.write.specs.Writing.{given_packet, fine}
use Rattle.write.specs.Inner.{packet_pieces}
use Rattle.write.proofs.Tests.{unless_fine}
use Rattle.write.proofs.Answers.{unless_same, size_is, packet_laid, packet_length, secondary_length, packet_least}
use Rattle.cut.specs.declared.Plan.{Plan}
use Rattle.cut.specs.Cutting.{counter_at, single, chunk, packets, header_length, count_refusal, flags_at, body_start, packet_at, given_at, packet_refusal, packet_answer, packet_output}
use Rattle.cut.specs.Inner.{plan_of, counter_of, from_of, to_of, values_of}
use Rattle.cut.proofs.Plans.{before, planned, refusal_same}

-- ---- the part of the body

from_most : (one : Bool) (C i B : ℕ) → from_of one C i B ≤ B
from_most true C i B = omega arith
from_most false C i B = omega arith

pub part_inside :
    (one : Bool) (C i B : ℕ) {from to : ℕ} → from ≡ from_of one C i B → to ≡ to_of one from C B → (from ≤ to) × (to ≤ B)
part_inside true C i B ef et = (omega arith, omega arith)
part_inside false C i B ef et = (omega arith, omega arith)

body_part :
    (one : Bool) (C i : ℕ) (body : List ℕ) {from to : ℕ} → from ≡ from_of one C i (length body) → to ≡ to_of one from C (length body) →
    take (to - from) (drop from body) ≡ pick one body (part body (i * C) C)
body_part true C i body {from} {to} ef et =
    let a : to - from ≡ length body = omega arith in
    rw (a, ef) (take_all (length body) body (omega arith))
body_part false C i body ef et = part_at body (i * C) C ef et

-- ---- the numbers of the packet

-- how long it is: at most P
pub counter_flag : (P H B i : ℕ) → ◌≡◌ {A = ℕ} (pick (segment (flags_at P H B i)) 4 0) (pick (single P H B) 0 4)
unfolding flags_at
counter_flag P H B i = go (single P H B) (eqb i 0) (eqb (suc i) (packets P H B))
  where
    go : (a b c : Bool) → ◌≡◌ {A = ℕ} (pick (segment (pick a 3 (pick b 1 (pick c 2 0)))) 4 0) (pick a 0 4)
    go true b c = refl
    go false true c = refl
    go false false true = refl
    go false false false = refl

part_most : (C : ℕ) (x : List ℕ) → length (take C x) ≤ C
part_most C x = omega (arith, length-take C x)

pick_length : (one : Bool) (x y : List ℕ) → length (pick one x y) ≡ pick one (length x) (length y)
pick_length true x y = refl
pick_length false x y = refl

fits_limit :
    (one : Bool) (P H B n : ℕ) → leb (6 + H + B) P ≡ one → pick one true (leb 1 (P - H - 10)) ≡ true → n ≤ P - H - 10 →
    6 + (H + pick one 0 4) + pick one B n ≤ P
fits_limit true P H B n e g l = omega (arith, leb-true (6 + H + B) P e)
fits_limit false P H B n e g l = omega (arith, leb-true 1 (P - H - 10) g)

-- a packet of the message is at most P octets
pub packet_most_lem :
    (s : Settings) (P : ℕ) (v : HeaderValues) (t : Lent) (body : List ℕ) (d : Sender) (i : ℕ) →
    pick (single P (header_length s v t) (length body)) true (leb 1 (chunk P (header_length s v t))) ≡ true →
    length (octets_of s (given_at s P v t body d i)) ≤ P
unfolding packet_at body_start
packet_most_lem s P v t body d i g =
    let H = header_length s v t in
    let w = given_at s P v t body d i in
    let a = fits_limit (single P H (length body)) P H (length body) (length (part body (i * chunk P H) (chunk P H))) refl g (part_most (chunk P H) _) in
    let l = pick_length (single P H (length body)) body (part body (i * chunk P H) (chunk P H)) in
    omega (arith, packet_length s w, secondary_length s w, counter_flag P H (length body) i)

-- ---- the code's packet

module _ (old : Bool) (s : Settings) (P : ℕ) (v : HeaderValues) (t : Lent) (body : List ℕ) (d : Sender) (i : ℕ) {h : ℕ} {r : Tested} {q : Plan} {o : PacketValues} {from to : ℕ}
    (er : r ≡ before old s P v t d) (eh : h ≡ capped (header_length s v t)) (eq : q ≡ plan_of P h (length body) r)
    (eo : o ≡ values_of q.single q.count d i) (ef : from ≡ from_of q.single q.chunk i (length body)) (et : to ≡ to_of q.single from q.chunk (length body)) where
  abbrev piece : List ℕ
  piece = take (to - from) (drop from body)

  abbrev made : Values
  made = given_packet v o t piece

  pub made_same : fine q.tested ≡ true → i < q.count → made ≡ given_at s P v t body d i
  unfolding packet_of packet_at values_of flags_at body_start
  made_same g l =
      let k = planned old s P v t (length body) d er eh eq g in
      let H = header_length s v t in
      let one = k.single_is in
      let f : o.flags ≡ flags_at P H (length body) i =
      ap (λ (x : PacketValues). x.flags) eo ∙ ap₂ (λ (b : Bool) (n : ℕ). pick b 3 (pick (eqb i 0) 1 (pick (eqb (suc i) n) 2 0))) one k.count_is in
      let c : o.sequence_count.0 ≡ count_at d.sequence_count.0 i = ap (λ (x : PacketValues). x.sequence_count.0) eo in
      let n : o.counter.0 ≡ pick (single P H (length body)) 0 (counter_at d.counter i) =
      ap (λ (x : PacketValues). x.counter.0) eo ∙ ap (λ (b : Bool). counter_of b d.counter i) one in
      let b : piece ≡ pick (single P H (length body)) body (part body (i * chunk P H) (chunk P H)) =
      body_part q.single q.chunk i body ef et
      ∙ ap₂ (λ (x : Bool) (y : ℕ). pick x body (part body (i * y) y)) one k.chunk_is in
      λ j. record { head = head_of v t; flags = f j; sequence_count = c j; counter = n j; body = b j }

  module _ {second size : ℕ} (es : second ≡ capped (h + pick (segment o.flags) 4 0)) (ez : size ≡ capped (6 + second + length piece)) where
    pub size_exact : fine q.tested ≡ true → i < q.count → size ≡ length (octets_of s (given_at s P v t body d i))
    size_exact g l =
        let k = planned old s P v t (length body) d er eh eq g in
        let a = size_is s v o t piece eh es ez in
        let b = ap (λ (w : Values). length (octets_of s w)) (made_same g l) in
        let m = packet_most_lem s P v t body d i k.cuts_well.some in
        omega (arith, k.good_values.top)

    module _ {x y : Tested} (room : ℕ) (ex : x ≡ unless (ltb i q.count) 26 q.tested) (ey : y ≡ unless (leb size room) 21 x) where
      first_same : x ≡ unless (ltb i (packets P (header_length s v t) (length body))) 26 (count_refusal old s P v t (length body) d)
      first_same =
          ex
          ∙ unless_same 26 q.tested (λ g. ap (ltb i) (planned old s P v t (length body) d er eh eq g).count_is)
          ∙ ap (unless (ltb i (packets P (header_length s v t) (length body))) 26) (refusal_same old s P v t (length body) d er eh eq)

      pub reached : fine x ≡ true → (fine q.tested ≡ true) × (i < q.count)
      reached g =
          let a = unless_fine (ltb i q.count) 25 q.tested (ap fine (sym ex) ∙ g) in
          (a.before, ltb-true i q.count a.held)

      pub packet_refusal_lem : y ≡ packet_refusal old s P v t body d i room
      unfolding packet_refusal
      packet_refusal_lem =
          ey
          ∙ unless_same 21 x (λ g. let k = reached g in ap (λ (n : ℕ). leb n room) (size_exact k.0 k.1))
          ∙ ap (unless (leb (length (octets_of s (given_at s P v t body d i))) room) 21) first_same

      pub refused_packet_lem : (y.number ≡ 0 → ⊥) → record { refusal = refusal y.number; length = 0; sender = d } ≡ packet_answer old s P v t body d i room
      unfolding packet_answer
      refused_packet_lem n =
          let f : fine (packet_refusal old s P v t body d i room) ≡ false = ap fine (sym packet_refusal_lem) ∙ ne_eqb y.number 0 n in
          λ j. record { refusal = refusal (packet_refusal_lem j).number; length = ap (λ (b : Bool). pick b (length (octets_of s (given_at s P v t body d i))) 0) (sym f) j; sender = d }

      -- where nothing refused
      pub record Done : Type 0 where
        pub size_is_length : size ≡ length (octets_of s (given_at s P v t body d i))
        pub fits_room : length (octets_of s (given_at s P v t body d i)) ≤ room
        pub same : made ≡ given_at s P v t body d i
        pub least : 27 ≤ size

      pub done : y.number ≡ 0 → Done
      done z =
          let a = unless_fine (leb size room) 20 x (ap fine (sym ey) ∙ eq-eqb y.number 0 z) in
          let k = reached a.before in
          let e = size_exact k.0 k.1 in
          let l = leb-true size room a.held in
          record {
            size_is_length = e;
            fits_room = omega arith;
            same = made_same k.0 k.1;
            least = omega (arith, packet_least s (given_at s P v t body d i));
          }

      pub made_packet : y.number ≡ 0 → record { refusal = refusal 0; length = size; sender = d } ≡ packet_answer old s P v t body d i room
      unfolding packet_answer
      made_packet z =
          let f : fine (packet_refusal old s P v t body d i room) ≡ true = ap fine (sym packet_refusal_lem) ∙ eq-eqb y.number 0 z in
          let n : 0 ≡ (packet_refusal old s P v t body d i room).number = sym z ∙ ap (λ (x : Tested). x.number) packet_refusal_lem in
          λ j.
          record {
            refusal = refusal (n j);
            length = ((done z).size_is_length ∙ ap (λ (b : Bool). pick b (length (octets_of s (given_at s P v t body d i))) 0) (sym f)) j;
            sender = d;
          }

    module _ {x y : Tested} (out : List ℕ) (ex : x ≡ unless (ltb i q.count) 26 q.tested) (ey : y ≡ unless (leb size (length out)) 21 x) where
      pub refused_output : (y.number ≡ 0 → ⊥) → out ≡ packet_output old s P v t body d i out
      unfolding packet_output
      refused_output n =
          let f : fine (packet_refusal old s P v t body d i (length out)) ≡ false = ap fine (sym (packet_refusal_lem (length out) ex ey)) ∙ ne_eqb y.number 0 n in
          rw f

      pub made_output_lem :
          y.number ≡ 0 → {l : List ℕ} {e : ℕ} → Lays (laid out 0) (packet_pieces s v o t (size - 7) piece) l e → l ≡ packet_output old s P v t body d i out
      unfolding packet_output
      made_output_lem z {l} {e} a =
          let f : fine (packet_refusal old s P v t body d i (length out)) ≡ true = ap fine (sym (packet_refusal_lem (length out) ex ey)) ∙ eq-eqb y.number 0 z in
          let k = done (length out) ex ey z in
          let n = ap (λ (w : Values). length (octets_of s w)) k.same in
          rw f
          (packet_laid s v o t piece out (omega (arith, k.size_is_length)) (omega (arith, k.fits_room)) a
          ∙ ap (λ (w : Values). octets_of s w ++ drop (length (octets_of s w)) out) k.same)
