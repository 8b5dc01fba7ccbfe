-- The same over the generated contracts of the public calls of `cut`: if the count succeeds, no list of packets that carries the
-- message is shorter than its answer; if a packet is written, its octets are packet number i, below the count, they read back as that,
-- and the sender is as it was. The same of the old cutter, `cut::count_by` and `cut::packet_by`. What is known of the lent texts, the
-- body and the transaction id is the contract's own. And two outcomes that a contract allows for the same arguments have the same answer,
-- and the same octets in the output (M-7).
-- Assumes nothing.
use Prim.Native.Nat.{ℕ, ◌≤◌}
use mathlib.Core.Path.{◌≡◌, refl, ap, ap₂, sym, ◌∙◌, subst}
use mathlib.Core.Bool.{Bool, true, false}
use mathlib.Core.List.{List, ◌++◌}
use native.Mathlib.Omega.{arith}
use contract.Lifetimes as L
use lib.ListN.{length, take, drop}
use lib.Seq.{take_at, drop_at}
use lib.Dec.{ltb, leb}
use borrow.Author.Tests.{eq-eqb, eqb-true, ltb-true}
use Rattle.octets.specs.Octets.{pick}
use Rattle.walk.specs.declared.Settings.{Settings}
use Rattle.sender.specs.declared.Sender.{Sender}
use Rattle.write.specs.declared.HeaderValues.{HeaderValues}
use Rattle.write.specs.Given.{Lent, head_of}
use Rattle.write.specs.Lending.{Lends}
use Rattle.write.specs.Writing.{fine}
use Rattle.write.proofs.Tests.{unless_fine}
use Rattle.cut.specs.declared.Counted.{Counted}
use Rattle.cut.specs.declared.Cut.{Cut}
use Rattle.cut.specs.Cutting.{packets, header_length, count_refusal, sender_after, count_answer, packet_refusal, packet_answer, packet_output}
use Rattle.cut.proofs.count.Reads as counts
use Rattle.cut.proofs.packet.Reads as cuts
use Rattle.cut.proofs.count_by.Reads as count-bys
use Rattle.cut.proofs.packet_by.Reads as cut-bys
use Rattle.cut.proofs.Arguments.{count_call, cut_call, cut_output, count_old, count_by_call, cut_old, cut_by_call, cut_by_output}
use Rattle.fewest.specs.Carrying.{Carries}
use Rattle.fewest.specs.Answers.{Counts, Wrote}
use Rattle.fewest.specs.Cutting.{octets_at, Back}
use Rattle.fewest.proofs.Fewest.{fewest}
use Rattle.fewest.proofs.ReadBack.{packets_read_back}

-- ---- over plain values

pub plain_counts :
    (old : Bool) (s : Settings) (P : ℕ) (v : HeaderValues) (t : Lent) (B : ℕ) (d : Sender) (r : Counted) → r ≡ count_answer old s P v t B d →
    r.refusal.number ≡ 0 → Counts old s P v t B d r
unfolding count_answer
plain_counts old s P v t B d r e z =
    let y : (count_refusal old s P v t B d).number ≡ 0 = ap (λ (x : Counted). x.refusal.number) (sym e) ∙ z in
    let f : fine (count_refusal old s P v t B d) ≡ true = eq-eqb (count_refusal old s P v t B d).number 0 y in
    record {
      no_refusal_lem = y;
      count = ap (λ (x : Counted). x.count) e ∙ ap (λ (b : Bool). pick b (packets P (header_length s v t) B) 0) f;
      sender = ap (λ (x : Counted). x.sender) e ∙ ap (λ (b : Bool). pick b (sender_after P (header_length s v t) B d) d) f;
    }

plain_fewest :
    (old : Bool) (s : Settings) (P : ℕ) (v : HeaderValues) (t : Lent) (B : ℕ) (d : Sender) (r : Counted) → r ≡ count_answer old s P v t B d →
    r.refusal.number ≡ 0 → (body : List ℕ) → length body ≡ B → (ps : List (List ℕ)) → Carries s (head_of v t) body P ps →
    r.count ≤ length ps
plain_fewest old s P v t B d r e z body n ps c =
    let k = (plain_counts old s P v t B d r e z).count in
    let m = ap (packets P (header_length s v t)) n in
    omega (arith, fewest s (head_of v t) P body ps c)

module _ (old : Bool) (s : Settings) (P : ℕ) (v : HeaderValues) (t : Lent) (body : List ℕ) (d : Sender) (i : ℕ) (r : Cut) (out after : List ℕ)
    (e : r ≡ packet_answer old s P v t body d i (length out)) (f : after ≡ packet_output old s P v t body d i out) (z : r.refusal.number ≡ 0) where
  abbrev packet : List ℕ
  packet = octets_at s P v t body d i

  none : (packet_refusal old s P v t body d i (length out)).number ≡ 0
  unfolding packet_answer
  none = ap (λ (x : Cut). x.refusal.number) (sym e) ∙ z

  all_fine : fine (packet_refusal old s P v t body d i (length out)) ≡ true
  all_fine = eq-eqb (packet_refusal old s P v t body d i (length out)).number 0 none

  length_is : r.length ≡ length packet
  unfolding packet_answer
  length_is = ap (λ (x : Cut). x.length) e ∙ ap (λ (b : Bool). pick b (length packet) 0) all_fine

  output_is : after ≡ packet ++ drop (length packet) out
  unfolding packet_output
  output_is = f ∙ ap (λ (b : Bool). pick b (packet ++ drop (length packet) out) out) all_fine

  pub plain_wrote : Wrote old s P v t body d i r out after
  unfolding packet_refusal packet_answer
  plain_wrote =
      let a = unless_fine (leb (length packet) (length out)) 20 _ all_fine in
      let b = unless_fine (ltb i (packets P (header_length s v t) (length body))) 25 (count_refusal old s P v t (length body) d) a.before in
      record {
        no_refusal_lem = eqb-true (count_refusal old s P v t (length body) d).number 0 b.before;
        below = ltb-true i (packets P (header_length s v t) (length body)) b.held;
        octets = ap₂ take length_is output_is ∙ take_at packet (drop (length packet) out) (length packet) refl;
        rest = ap₂ drop length_is output_is ∙ drop_at packet (drop (length packet) out) (length packet) refl ∙ ap (λ (n : ℕ). drop n out) (sym length_is);
        sender = ap (λ (x : Cut). x.sender) e;
      }

  plain_back : Lends v t body → Back s P v t body d i (take r.length after)
  plain_back w =
      let k = plain_wrote in
      subst (λ (p : List ℕ). Back s P v t body d i p) (sym k.octets)
      ((packets_read_back old s P v t body d w k.no_refusal_lem).each i k.below)

-- ---- `cut::count`

pub count_counts :
    (κs : L.Lfts 1) (a : _) (r : _) (x : _) → counts.Post κs a r x → r.refusal.number ≡ 0 →
    Counts false (count_call κs a).settings (count_call κs a).limit (count_call κs a).header (count_call κs a).texts (count_call κs a).long
    (count_call κs a).sender r
count_counts κs a r x k z = plain_counts false _ _ _ _ _ _ r k z

pub count_fewest :
    (κs : L.Lfts 1) (a : _) (r : _) (x : _) → counts.Post κs a r x → r.refusal.number ≡ 0 → (body : List ℕ) →
    length body ≡ (count_call κs a).long → (ps : List (List ℕ)) →
    Carries (count_call κs a).settings (head_of (count_call κs a).header (count_call κs a).texts) body (count_call κs a).limit ps →
    r.count ≤ length ps
count_fewest κs a r x k z body n ps c =
    plain_fewest false (count_call κs a).settings (count_call κs a).limit (count_call κs a).header _ _ _ r k z body n ps c

-- and the old cutter's, with a zone too
pub count_by_counts :
    (κs : L.Lfts 1) (a : _) (r : _) (x : _) → count-bys.Post κs a r x → r.refusal.number ≡ 0 →
    Counts (count_old κs a) (count_by_call κs a).settings (count_by_call κs a).limit (count_by_call κs a).header
    (count_by_call κs a).texts (count_by_call κs a).long (count_by_call κs a).sender r
count_by_counts κs a r x k z = plain_counts (count_old κs a) _ _ _ _ _ _ r k z

pub count_by_fewest :
    (κs : L.Lfts 1) (a : _) (r : _) (x : _) → count-bys.Post κs a r x → r.refusal.number ≡ 0 → (body : List ℕ) →
    length body ≡ (count_by_call κs a).long → (ps : List (List ℕ)) →
    Carries (count_by_call κs a).settings (head_of (count_by_call κs a).header (count_by_call κs a).texts) body
    (count_by_call κs a).limit ps →
    r.count ≤ length ps
count_by_fewest κs a r x k z body n ps c =
    plain_fewest (count_old κs a) (count_by_call κs a).settings (count_by_call κs a).limit (count_by_call κs a).header _ _ _ r k z body n
    ps c

-- ---- `cut::packet`

pub packet_wrote :
    (κs : L.Lfts 3) (a : _) (r : _) (x : _) → cuts.Post κs a r x → r.refusal.number ≡ 0 →
    Wrote false (cut_call κs a).settings (cut_call κs a).limit (cut_call κs a).header (cut_call κs a).texts (cut_call κs a).body
    (cut_call κs a).sender (cut_call κs a).index r (cut_call κs a).output (cut_output κs x)
packet_wrote κs a r x k z = plain_wrote false _ _ _ _ _ _ _ r _ _ k.0 k.1 z

-- what it wrote reads back as packet number i
pub packet_back :
    (κs : L.Lfts 3) (a : _) (r : _) (x : _) → cuts.Post κs a r x → r.refusal.number ≡ 0 →
    Back (cut_call κs a).settings (cut_call κs a).limit (cut_call κs a).header (cut_call κs a).texts (cut_call κs a).body
    (cut_call κs a).sender (cut_call κs a).index (take r.length (cut_output κs x))
packet_back κs a r x k z =
    let b = cut_call κs a in
    plain_back false b.settings b.limit b.header _ _ _ _ r _ _ k.0 k.1 z k.2

-- and the old cutter's, with a zone too
pub packet_by_wrote :
    (κs : L.Lfts 3) (a : _) (r : _) (x : _) → cut-bys.Post κs a r x → r.refusal.number ≡ 0 →
    Wrote (cut_old κs a) (cut_by_call κs a).settings (cut_by_call κs a).limit (cut_by_call κs a).header (cut_by_call κs a).texts
    (cut_by_call κs a).body (cut_by_call κs a).sender (cut_by_call κs a).index r (cut_by_call κs a).output (cut_by_output κs x)
packet_by_wrote κs a r x k z = plain_wrote (cut_old κs a) _ _ _ _ _ _ _ r _ _ k.0 k.1 z

pub packet_by_back :
    (κs : L.Lfts 3) (a : _) (r : _) (x : _) → cut-bys.Post κs a r x → r.refusal.number ≡ 0 →
    Back (cut_by_call κs a).settings (cut_by_call κs a).limit (cut_by_call κs a).header (cut_by_call κs a).texts
    (cut_by_call κs a).body (cut_by_call κs a).sender (cut_by_call κs a).index (take r.length (cut_by_output κs x))
packet_by_back κs a r x k z =
    let b = cut_by_call κs a in
    plain_back (cut_old κs a) b.settings b.limit b.header _ _ _ _ r _ _ k.0 k.1 z k.2

-- ---- the same arguments, the same answer and the same output

pub count_same_answer : (κs : L.Lfts 1) (a : _) (r q : _) (s t : _) → counts.Post κs a r s → counts.Post κs a q t → r ≡ q
count_same_answer κs a r q s t k j = k ∙ sym j

pub packet_same_answer : (κs : L.Lfts 3) (a : _) (r q : _) (s t : _) → cuts.Post κs a r s → cuts.Post κs a q t → r ≡ q
packet_same_answer κs a r q s t k j = k.0 ∙ sym j.0

pub packet_same_lent :
    (κs : L.Lfts 3) (a : _) (r q : _) (s t : _) → cuts.Post κs a r s → cuts.Post κs a q t → cut_output κs s ≡ cut_output κs t
packet_same_lent κs a r q s t k j = k.1 ∙ sym j.1
