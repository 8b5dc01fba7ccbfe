-- The packets that read as segment i of a message are its packet i, with any sequence count, and no others.
-- Assumes nothing.
use Prim.Native.Nat.{ℕ, ◌<◌}
use mathlib.Core.Path.{◌≡◌, ap, sym, ◌∙◌, subst}
use mathlib.Core.Logic.{◌↔◌}
use mathlib.Core.List.{List}
use native.Mathlib.Omega.{arith}
use Rattle.octets.specs.Octets.{Octets}
use Rattle.walk.specs.declared.Settings.{Settings}
use Rattle.packet.specs.Format.{Head, Values, octets_of}
use Rattle.packet.specs.Reading.{read_packet}
use Rattle.format.specs.Told.{values_of}
use Rattle.format.proofs.TwoWay.{only_writing}
use Rattle.format.proofs.Accepting.{accepted}
use Rattle.format.proofs.Keys.{one_head}
use Rattle.cells.specs.Segments.{Seg, seg_of}
use Rattle.demand3.specs.Sendings.{Sending, ReadsAs, many_of, values_at, packet_with, segment_at, IsCut}
use Rattle.demand3.proofs.ReadAs.{repeat_reads}

same_values : {h g : Head} {f e c d : ℕ} {b a : List ℕ} (n : ℕ) → h ≡ g → f ≡ e → c ≡ d → b ≡ a →
    ◌≡◌ {A = Values} (record { head = h; flags = f; sequence_count = n; counter = c; body = b }) (record { head = g; flags = e; sequence_count = n; counter = d; body = a })
same_values n p q r t = λ i. record { head = p i; flags = q i; sequence_count = n; counter = r i; body = t i }

module _ (s : Settings) (Z : ℕ) (m : Sending) (k : IsCut s Z m) (i : ℕ) (l : i < many_of s m) where
  -- the values that such a packet tells
  told_given : (p : List ℕ) → Octets p → (r : ReadsAs s p (segment_at s m i)) →
      values_of p (read_packet s p) ≡ values_at s m i (values_of p (read_packet s p)).sequence_count
  unfolding seg_of values_of
  told_given p o r =
      let a = accepted s p o r.accepted in
      let u = (only_writing s p o r.accepted).0 in
      let w = k.range i l in
      let e : seg_of p (read_packet s p) ≡ segment_at s m i = r.segment in
      let h : (values_of p (read_packet s p)).head ≡ m.head =
      one_head s (values_of p (read_packet s p)).head m.head u.settings u.head w.head (omega (arith, a.h_is, a.h_top))
      (sym a.key ∙ ap (λ (t : Seg). t.key) e) in
      same_values (values_of p (read_packet s p)).sequence_count h (ap (λ (t : Seg). t.flags) e) (ap (λ (t : Seg). t.counter) e)
      (ap (λ (t : Seg). t.body) e)

  pub own_packets : (p : List ℕ) → Octets p → ReadsAs s p (segment_at s m i) ↔ ((c : ℕ) × (c < 16384) × (p ≡ packet_with s m i c))
  own_packets p o = (to, λ v. subst (λ (q : List ℕ). ReadsAs s q (segment_at s m i)) (sym v.2) (repeat_reads s Z m k i l v.0 v.1))
    where
      to : ReadsAs s p (segment_at s m i) → (c : ℕ) × (c < 16384) × (p ≡ packet_with s m i c)
      to r =
          let u = only_writing s p o r.accepted in
          ((values_of p (read_packet s p)).sequence_count, u.0.sequence_count, sym u.1 ∙ ap (octets_of s) (told_given p o r))
