-- Packets that are laid one after the other, each after its mark, are the packets of the recording.
-- Assumes nothing.
use Prim.Native.Nat.{ℕ, zero, suc, ◌+◌, ◌*◌, ◌≤◌}
use mathlib.Core.Path.{◌≡◌, refl, ap, ap₂, sym, ◌∙◌}
use mathlib.Core.Bool.{true}
use mathlib.Core.List.{List, [], ◌∷◌, ◌++◌, append_assoc, Memᴰ}
use native.Mathlib.Omega.{arith}
use lib.ListN.{length, take, drop, length-append, get_or-append}
use lib.Seq.{take_all, take-append_seam, drop-append_seam}
use Rattle.octets.specs.Octets.{octet_at, number, alike}
use Rattle.cells.specs.Rows.{size_in}
use Rattle.packet.specs.Mark.{packet_mark}
use Rattle.steps.specs.Stepping.{Found, whole, begins, found_in}
use Rattle.steps.proofs.Places.{found_whole}
use Rattle.recording.specs.Ending.{past}
use Rattle.tiles.specs.Along.{in_front, packets_from, marked, Sized}
use Rattle.tiles.specs.Written.{RecordingPackets}
use Rattle.tiles.proofs.Framing.{stop_none}

module _ (p t : List ℕ) (n : Sized p) where
  abbrev x : List ℕ
  x = packet_mark ++ (p ++ t)

  -- its length field, by the recording
  size_is : size_in x ≡ length p
  unfolding number
  size_is =
      let a : octet_at (p ++ t) 4 ≡ octet_at p 4 = get_or-append p t 0 4 (omega arith) in
      let b : octet_at (p ++ t) 5 ≡ octet_at p 5 = get_or-append p t 0 5 (omega arith) in
      ap₂ (λ (y z : ℕ). (0 * 256 + y) * 256 + z + 7) a b ∙ sym n

  begins_so : begins x ≡ true
  unfolding alike
  begins_so = ap (alike []) (take_all {A = ℕ} (length (p ++ t)) [] (omega arith))

  pub found_marked : found_in x ≡ whole p
  found_marked =
      found_whole x (λ e. omega arith) begins_so (omega (arith, size_is, length-append p t))
      ∙ ap (λ (k : ℕ). whole (take k (p ++ t))) size_is
      ∙ ap whole (take-append_seam p t)

-- with fuel enough
packets_fuel : (ps : List (List ℕ)) (rest : List ℕ) (f : ℕ) → ((p : List ℕ) → Memᴰ p ps → Sized p) → past (found_in rest) ≡ 0 → length ps ≤ f →
    packets_from f (marked ps ++ rest) ≡ ps
unfolding packets_from marked
packets_fuel [] rest f n e l = stop_none f rest (found_in rest) refl e
packets_fuel (p ∷ ps) rest zero n e l = absurd (omega arith)
packets_fuel (p ∷ ps) rest (suc f) n e l =
    let two : 2 + length p ≡ suc (suc (length p)) = omega arith in
    ap (λ (k : List ℕ). packets_from (suc f) (packet_mark ++ k)) (append_assoc p (marked ps) rest)
    ∙ ap (λ (d : Found). in_front d (packets_from f (drop (past d) (packet_mark ++ (p ++ (marked ps ++ rest))))))
    (found_marked p (marked ps ++ rest) (n p (Memᴰ.head refl)))
    ∙ ap (λ (k : ℕ). p ∷ packets_from f (drop k (packet_mark ++ (p ++ (marked ps ++ rest))))) two
    ∙ ap (λ (y : List ℕ). p ∷ packets_from f y) (drop-append_seam p (marked ps ++ rest))
    ∙ ap (λ (y : List (List ℕ)). p ∷ y) (packets_fuel ps rest f (λ q h. n q (Memᴰ.tail h)) e (omega arith))

marked_long : (ps : List (List ℕ)) → length ps ≤ length (marked ps)
unfolding marked
marked_long [] = omega arith
marked_long (p ∷ ps) = omega (arith, length-append p (marked ps), marked_long ps)

pub recording_packets : RecordingPackets
recording_packets ps rest n e =
    packets_fuel ps rest (length (marked ps ++ rest)) n e (omega (arith, marked_long ps, length-append (marked ps) rest))
