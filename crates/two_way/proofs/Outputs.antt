-- Where the writer does not refuse, it answers the packet's length, and the output is the packet and the rest as it was.
-- Assumes nothing.
use Prim.Native.Nat.{ℕ}
use mathlib.Core.Path.{◌≡◌, refl, ap, ap₂, ◌∙◌}
use mathlib.Core.Bool.{Bool, true}
use mathlib.Core.List.{List, ◌++◌}
use lib.ListN.{length, take, drop}
use lib.Seq.{take_at}
use borrow.Author.Tests.{eq-eqb}
use Rattle.octets.specs.Octets.{pick}
use Rattle.walk.specs.declared.Settings.{Settings}
use Rattle.walk.specs.Walk.{refusal, no_refusal}
use Rattle.packet.specs.Format.{octets_of}
use Rattle.write.specs.declared.HeaderValues.{HeaderValues}
use Rattle.write.specs.declared.PacketValues.{PacketValues}
use Rattle.write.specs.Answer.{Written}
use Rattle.write.specs.Given.{Lent}
use Rattle.write.specs.Writing.{given_packet, write_refusal, fine, write_answer, write_output}
use Rattle.two_way.specs.Same.{written}

module _ (old : Bool) (s : Settings) (v : HeaderValues) (o : PacketValues) (t : Lent) (body out : List ℕ) (z : (write_refusal old s v o t body (length out)).number ≡ 0) where
  abbrev packet : List ℕ
  packet = octets_of s (given_packet v o t body)

  all_fine : fine (write_refusal old s v o t body (length out)) ≡ true
  all_fine = eq-eqb (write_refusal old s v o t body (length out)).number 0 z

  pub answer_is : write_answer old s v o t body (length out) ≡ record { refusal = no_refusal; length = length packet }
  unfolding write_answer
  answer_is =
      λ i.
      record {
        refusal = refusal (z i);
        length = ap (λ (b : Bool). pick b (length packet) 0) all_fine i;
      }

  pub output_is : write_output old s v o t body out ≡ packet ++ drop (length packet) out
  unfolding write_output
  output_is = ap (λ (b : Bool). pick b (packet ++ drop (length packet) out) out) all_fine

  -- so what was written is the packet
  pub written_is : written old s v o t body out ≡ packet
  written_is =
      ap₂ (λ (r : Written) (l : List ℕ). take r.length l) answer_is output_is
      ∙ take_at packet (drop (length packet) out) (length packet) refl
