-- An undamaged recording loses nothing: every packet is kept and no stretch is listed, and a place is tested for each packet.
-- Assumes nothing.
use Prim.Native.Nat.{ℕ, ◌+◌, ◌-◌, ◌*◌, ◌<◌}
use mathlib.Core.Path.{◌≡◌, refl, ap, ap₂, sym, ◌∙◌, subst}
use mathlib.Core.Bool.{true}
use mathlib.Core.List.{List, [], ◌∷◌, ◌++◌, append_assoc}
use native.Mathlib.Omega.{arith}
use lib.ListN.{length, length-append}
use borrow.Author.Tests.{eq-eqb}
use Rattle.octets.specs.Octets.{octet_at, part}
use Rattle.octets.proofs.Has.{Has, has_second, has_first, has_at_lem, has_inside, has_self, part_has}
use Rattle.walk.specs.declared.Settings.{Settings}
use Rattle.packet.specs.Reading.{read_packet}
use Rattle.format.proofs.Start.{Opens, answered}
use Rattle.format.proofs.Frame.{word_is}
use Rattle.format.proofs.Only.{good}
use Rattle.salvage.specs.Listing.{marked, size_at, width_at, kept, kept_entry, Entry, Stop, stop, tests_at, list_of, tests_of}
use Rattle.salvage.specs.Covering.{Follow, Says, AllSay, begins, Apart, Covers}
use Rattle.salvage.specs.Undamaged.{recording_of, Readable, AllReadable, entries_from}
use Rattle.salvage.proofs.Testing.{read_at, kept_so, onward_kept}
use Rattle.salvage.proofs.Resuming.{tests_next, tests_end}
use Rattle.salvage.proofs.Only.{only}

abbrev mark : List ℕ
mark = 0x4d ∷ 0x50 ∷ []

-- a mark and a packet that reading accepts, anywhere in a file: the place is kept, and as wide as both
module _ (s : Settings) (x p : List ℕ) (at : ℕ) (h : Has x at (mark ++ p)) (r : Readable s p) where
  after : Has x (at + 2) p
  after = has_second mark p h

  opens : Opens s p
  opens = (good s p r.octets (answered s p r.reads)).opens

  octet_is : (k : ℕ) → k < length p → octet_at x (at + 2 + k) ≡ octet_at p k
  octet_is k l = has_at_lem p k after l

  size_is : size_at x at ≡ length p
  size_is =
      let o = opens in
      let a : at + 2 + 4 ≡ at + 6 = omega arith in
      let b : at + 2 + 5 ≡ at + 6 + 1 = omega arith in
      let four = ap (octet_at x) (sym a) ∙ octet_is 4 (omega (arith, o.six)) in
      let five = ap (octet_at x) (sym b) ∙ octet_is 5 (omega (arith, o.six)) in
      ap (λ (n : ℕ). n + 7) (word_is x (at + 6) ∙ ap₂ (λ (i j : ℕ). i * 256 + j) four five ∙ sym (word_is p 4)) ∙ sym o.long

  pub width_is : width_at x at ≡ 2 + length p
  width_is = ap (λ (n : ℕ). 2 + n) size_is

  mark_is : marked x at ≡ true
  unfolding marked
  mark_is =
      let a : at + 0 ≡ at = omega arith in
      let m = has_first mark p h in
      let first : octet_at x at ≡ 0x4d = ap (octet_at x) (sym a) ∙ has_at_lem mark 0 m (omega arith) in
      let second : octet_at x (at + 1) ≡ 0x50 = has_at_lem mark 1 m (omega arith) in
      rw (eq-eqb _ _ first, eq-eqb _ _ second)

  reads_is : read_at s x at ≡ 0
  reads_is =
      ap (λ (n : ℕ). (read_packet s (part x (at + 2) n)).refusal.number) size_is
      ∙ ap (λ (q : List ℕ). (read_packet s q).refusal.number) (part_has p after)
      ∙ r.reads

  pub packet_kept : kept s x at ≡ true
  packet_kept =
      kept_so s x at (record { mark = mark_is; inside = omega (arith, has_inside p after, size_is); reads = reads_is })

-- ---- packet after packet

module _ (s : Settings) (x : List ℕ) where
  -- a recording that stands in a file: its first packet, and the others
  module _ (p : List ℕ) (ps : List (List ℕ)) (at : ℕ) (h : Has x at (recording_of (p ∷ ps))) where
    head_has : Has x at (mark ++ p)
    unfolding recording_of
    head_has = has_first (mark ++ p) (recording_of ps) (subst (Has x at) (sym (append_assoc mark p (recording_of ps))) h)

    tail_has : Has x (at + (2 + length p)) (recording_of ps)
    unfolding recording_of
    tail_has =
        let n : at + 2 + length p ≡ at + (2 + length p) = omega arith in
        subst (λ (i : ℕ). Has x i (recording_of ps)) n (has_second p (recording_of ps) (has_second mark (p ++ recording_of ps) h))

  kept_apart : (at n : ℕ) (es : List Entry) → begins (kept_entry at n).kind es ≡ true
  unfolding begins
  kept_apart at n [] = refl
  kept_apart at n (e ∷ es) = refl

  packets_cover :
      (ps : List (List ℕ)) (at : ℕ) → AllReadable s ps → Has x at (recording_of ps) → at + length (recording_of ps) ≡ length x →
      Covers s x at (length x) (entries_from at ps)
  unfolding recording_of AllReadable entries_from Follow AllSay Says Apart
  packets_cover [] at r h l = record { follow = omega arith; say = tt; apart = tt }
  packets_cover (p ∷ ps) at r h l =
      let f = head_has p ps at h in
      let n : at + (2 + length p) + length (recording_of ps) ≡ length x = omega (arith, l, length-append p (recording_of ps)) in
      let c = packets_cover ps (at + (2 + length p)) r.1 (tail_has p ps at h) n in
      record {
        follow = (refl, c.follow);
        say = ((packet_kept s x p at f r.0, sym (width_is s x p at f r.0)), c.say);
        apart = (kept_apart at (2 + length p) (entries_from (at + (2 + length p)) ps), c.apart);
      }

  packets_tests :
      (ps : List (List ℕ)) (at : ℕ) → AllReadable s ps → Has x at (recording_of ps) → at + length (recording_of ps) ≡ length x →
      tests_at s x (stop at at) ≡ length ps
  unfolding recording_of AllReadable
  packets_tests [] at r h l = tests_end s x (length x - at) (stop at at) (omega arith)
  packets_tests (p ∷ ps) at r h l =
      let f = head_has p ps at h in
      let m = at + (2 + length p) in
      let n : m + length (recording_of ps) ≡ length x = omega (arith, l, length-append p (recording_of ps)) in
      let w : at + width_at x at ≡ m = ap (λ (i : ℕ). at + i) (width_is s x p at f r.0) in
      let k = onward_kept s x at at (packet_kept s x p at f r.0) ∙ ap (λ (i : ℕ). stop i i) w in
      tests_next s x (stop at at) (omega arith) (omega (arith, n))
      ∙ ap (λ (v : Stop). 1 + tests_at s x v) k
      ∙ ap (λ (i : ℕ). 1 + i) (packets_tests ps m r.1 (tail_has p ps at h) n)
      ∙ omega arith

-- every packet of an undamaged recording is kept, and nothing else is listed; one place is tested for each
pub undamaged :
    (s : Settings) (ps : List (List ℕ)) → AllReadable s ps →
    (list_of s (recording_of ps) ≡ entries_from 0 ps) × (tests_of s (recording_of ps) ≡ length ps)
undamaged s ps r =
    let x = recording_of ps in (
      sym (only s x (entries_from 0 ps) (packets_cover s x ps 0 r (has_self x) (omega arith))),
      packets_tests s x ps 0 r (has_self x) (omega arith),
    )
