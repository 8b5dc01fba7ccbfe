-- A key tells what the packets of a message share, and nothing else: two heads in range with the same key are the same, and two
-- accepted packets have the same key exactly if they tell the same head.
-- Assumes nothing.
use Prim.Native.Nat.{ℕ, ◌-◌, ◌≤◌}
use mathlib.Core.Path.{◌≡◌, refl, ap, sym, ◌∙◌}
use mathlib.Core.Logic.{◌↔◌}
use mathlib.Core.List.{List, [], ◌++◌}
use mathlib.Core.Bool.{true}
use native.Mathlib.Omega.{arith}
use lib.ListN.{length, take, drop}
use lib.Seq.{take_at, drop_at}
use Rattle.octets.specs.Octets.{Octets, wide}
use Rattle.octets.proofs.Has.{octets_nil}
use Rattle.octets.proofs.Lists.{alike_exactly}
use Rattle.walk.specs.declared.Settings.{Settings}
use Rattle.packet.specs.Format.{Head, Values, identification, counter_octets, header_octets, secondary_octets, data_octets, octets_of, header_most, SettingsInRange, HeadInRange, InRange}
use Rattle.packet.specs.Reading.{read_packet}
use Rattle.packet.specs.Key.{key_of, same_key}
use Rattle.format.specs.Told.{values_of}
use Rattle.format.proofs.Frame.{identification_long, packet_long}
use Rattle.format.proofs.Back.{data_long}
use Rattle.format.proofs.TwoWay.{only_writing, one_value}
use Rattle.format.proofs.Accepting.{accepted}

-- a head as a whole packet with no body
abbrev pub alone : Head → Values
alone h = record { head = h; flags = 3; sequence_count = 0; counter = 0; body = [] }

alone_header : (s : Settings) (h : Head) → secondary_octets s (alone h) ≡ header_octets s h
unfolding secondary_octets header_octets counter_octets
alone_header s h = refl

alone_data : (s : Settings) (h : Head) → data_octets s (alone h) ≡ header_octets s h ++ []
unfolding data_octets
alone_data s h = ap (λ (l : List ℕ). l ++ []) (alone_header s h)

-- its octets by its key's two parts
abbrev shape : List ℕ → List ℕ → List ℕ
shape i l = i ++ (wide 2 49152 ++ (wide 2 (length (l ++ []) - 1) ++ (l ++ [])))

alone_octets : (s : Settings) (h : Head) → octets_of s (alone h) ≡ shape (identification h) (header_octets s h)
unfolding octets_of
alone_octets s h = rw (alone_data s h)

alone_in_range :
    (s : Settings) (h : Head) → SettingsInRange s → HeadInRange s h → length (header_octets s h) ≤ header_most → InRange s (alone h)
alone_in_range s h z r l =
    let e : length (secondary_octets s (alone h)) ≡ length (header_octets s h) = ap length (alone_header s h) in
    record {
      settings = z;
      head = r;
      flags = omega arith;
      sequence_count = omega arith;
      counter = refl;
      body = octets_nil;
      packet = omega (arith, packet_long s (alone h), data_long s (alone h));
      header = omega arith;
      some = λ q. let y : ◌≡◌ {A = ℕ} 0 1 = cc q in absurd (omega arith);
    }

-- a key's two parts
key_first : (s : Settings) (h : Head) → take 2 (identification h ++ header_octets s h) ≡ identification h
key_first s h = take_at (identification h) (header_octets s h) 2 (identification_long h)

key_second : (s : Settings) (h : Head) → drop 2 (identification h ++ header_octets s h) ≡ header_octets s h
key_second s h = drop_at (identification h) (header_octets s h) 2 (identification_long h)

-- no two different heads have the same key
pub one_head :
    (s : Settings) (h g : Head) → SettingsInRange s → HeadInRange s h → HeadInRange s g → length (header_octets s h) ≤ header_most →
    identification h ++ header_octets s h ≡ identification g ++ header_octets s g → h ≡ g
one_head s h g z r q l e =
    let i : identification h ≡ identification g = sym (key_first s h) ∙ ap (take 2) e ∙ key_first s g in
    let d : header_octets s h ≡ header_octets s g = sym (key_second s h) ∙ ap (drop 2) e ∙ key_second s g in
    let m : length (header_octets s g) ≤ header_most = rw d at l in
    let o : octets_of s (alone h) ≡ octets_of s (alone g) = alone_octets s h ∙ rw (i, d) (sym (alone_octets s g)) in
    ap (λ (v : Values). v.head) (one_value s (alone h) (alone g) (alone_in_range s h z r l) (alone_in_range s g z q m) o)

-- two accepted packets have the same key exactly if they tell the same head
pub same_key_lem :
    (s : Settings) (p q : List ℕ) → Octets p → Octets q → (read_packet s p).refusal.number ≡ 0 → (read_packet s q).refusal.number ≡ 0 →
    same_key p (read_packet s p) q (read_packet s q) ≡ true ↔ ((values_of p (read_packet s p)).head ≡ (values_of q (read_packet s q)).head)
same_key_lem s p q o u a b = (to, from)
  where
    to : same_key p (read_packet s p) q (read_packet s q) ≡ true → (values_of p (read_packet s p)).head ≡ (values_of q (read_packet s q)).head
    to t =
        let x = accepted s p o a in
        let y = accepted s q u b in
        let v = (only_writing s p o a).0 in
        let w = (only_writing s q u b).0 in
        let k : key_of p (read_packet s p) ≡ key_of q (read_packet s q) = (alike_exactly (key_of p (read_packet s p)) (key_of q (read_packet s q))).0 t in
        one_head s _ _ v.settings v.head w.head (omega (arith, x.h_is, x.h_top)) (sym x.key ∙ k ∙ y.key)

    from : (values_of p (read_packet s p)).head ≡ (values_of q (read_packet s q)).head → same_key p (read_packet s p) q (read_packet s q) ≡ true
    from e =
        let x = accepted s p o a in
        let y = accepted s q u b in
        (alike_exactly (key_of p (read_packet s p)) (key_of q (read_packet s q))).1
        (x.key ∙ ap (λ (h : Head). identification h ++ header_octets s h) e ∙ sym y.key)
