-- What is accepted is what the writer could have written (M-4), over the definitions: given the values that reading told, texts from
-- their places, the same settings and room, the writer writes exactly that slice; the old writer if there is a zone.
-- Assumes nothing.
use Prim.Native.Nat.{ℕ, ◌≤◌, ◌<◌}
use mathlib.Core.Path.{◌≡◌, refl, ap, sym, ◌∙◌, subst}
use mathlib.Core.Bool.{Bool, true, false, not}
use mathlib.Core.List.{List, ◌++◌}
use native.Mathlib.Omega.{arith}
use lib.ListN.{length, drop, length-take}
use lib.Seq.{get_or-take}
use Rattle.octets.specs.Octets.{pick, Octets}
use Rattle.walk.specs.declared.Settings.{Settings}
use Rattle.walk.specs.Walk.{no_refusal}
use Rattle.fields.specs.Fields.{nowhere}
use Rattle.packet.specs.Answer.{Header}
use Rattle.packet.specs.declared.Present.{Present}
use Rattle.packet.specs.Format.{Values, octets_of, InRange}
use Rattle.packet.specs.Reading.{read_packet}
use Rattle.write.specs.Given.{head_of as given_head, packet_of, sum}
use Rattle.write.specs.Writing.{zone_fits, given_packet, write_refusal, write_answer, write_output}
use Rattle.format.specs.Told.{head_of as told_head, values_of}
use Rattle.format.specs.Accepted.{Accepted}
use Rattle.format.proofs.TwoWay.{only_writing}
use Rattle.format.proofs.Accepting.{accepted}
use Rattle.two_way.specs.Again.{again_header, again_packet, part_places, again_domain, again_lengths, again_texts, again_body}
use Rattle.two_way.specs.Writable.{Writable}
use Rattle.two_way.proofs.Lists.{Inside, split_joined, sum_joined}
use Rattle.two_way.proofs.Accepts.{accepts}
use Rattle.two_way.proofs.Outputs.{answer_is, output_is}

module _ (s : Settings) (p : List ℕ) (h : Header) (a : Accepted s p h) where
  pub inside : Inside p (part_places h)
  unfolding Inside
  inside k b =
      let l = length-take h.texts.count h.texts.parts in
      let c : k < h.texts.count = omega arith in
      let d = a.parts k c in
      rw (get_or-take h.texts.count h.texts.parts k nowhere c) (omega (arith, d.top, a.body_end))

  abbrev again : Values
  again = given_packet (again_header h) (again_packet h) (again_texts p h) (again_body p h)

  -- they are the values that were told
  pub again_values : again ≡ values_of p h
  unfolding packet_of given_head again_header again_packet again_texts again_domain again_lengths values_of told_head
  again_values = rw (split_joined p (part_places h) inside)

  adds_up : sum (again_texts p h).lengths ≡ length (again_texts p h).domain
  unfolding again_texts again_domain again_lengths
  adds_up = sum_joined p (part_places h) inside

  pub again_writable :
      (old : Bool) → zone_fits old h.has ≡ true → InRange s (values_of p h) → octets_of s (values_of p h) ≡ p → (room : ℕ) → length p ≤ room →
      Writable old s (again_header h) (again_packet h) (again_texts p h) (again_body p h) room
  unfolding again_header
  again_writable old f r w room l =
      record {
        range = subst (InRange s) (sym again_values) r;
        zone = f;
        adds = adds_up;
        fits = omega (arith, ap length (ap (octets_of s) again_values ∙ w));
      }

  module _
      (old : Bool)
      (f : zone_fits old h.has ≡ true)
      (r : InRange s (values_of p h))
      (w : octets_of s (values_of p h) ≡ p)
      (out : List ℕ)
      (l : length p ≤ length out) where
    same_octets : octets_of s again ≡ p
    same_octets = ap (octets_of s) again_values ∙ w

    no_refusal_lem : (write_refusal old s (again_header h) (again_packet h) (again_texts p h) (again_body p h) (length out)).number ≡ 0
    no_refusal_lem = accepts old s (again_header h) (again_packet h) (again_texts p h) (again_body p h) (length out) (again_writable old f r w (length out) l)

    pub again_answer :
        write_answer old s (again_header h) (again_packet h) (again_texts p h) (again_body p h) (length out)
        ≡ record { refusal = no_refusal; length = length p }
    again_answer =
        answer_is old s (again_header h) (again_packet h) (again_texts p h) (again_body p h) out no_refusal_lem
        ∙ ap (λ (q : List ℕ). record { refusal = no_refusal; length = length q }) same_octets

    pub again_output :
        write_output old s (again_header h) (again_packet h) (again_texts p h) (again_body p h) out ≡ p ++ drop (length p) out
    again_output =
        output_is old s (again_header h) (again_packet h) (again_texts p h) (again_body p h) out no_refusal_lem
        ∙ ap (λ (q : List ℕ). q ++ drop (length q) out) same_octets

-- the writer that may write a header: the old one if it has a zone
pub its_writer : (has : Present) → zone_fits has.zone has ≡ true
its_writer has = own has.zone
  where
    own : (b : Bool) → pick b true (not b) ≡ true
    own true = refl
    own false = refl

-- what reading accepts, the writer writes
module _
    (old : Bool)
    (s : Settings)
    (p : List ℕ)
    (o : Octets p)
    (z : (read_packet s p).refusal.number ≡ 0)
    (f : zone_fits old (read_packet s p).has ≡ true)
    (out : List ℕ)
    (l : length p ≤ length out) where
  abbrev told : Header
  told = read_packet s p

  pub writes_again :
      write_answer old s (again_header told) (again_packet told) (again_texts p told) (again_body p told) (length out)
      ≡ record { refusal = no_refusal; length = length p }
  writes_again = again_answer s p told (accepted s p o z) old f (only_writing s p o z).0 (only_writing s p o z).1 out l

  pub writes_slice :
      write_output old s (again_header told) (again_packet told) (again_texts p told) (again_body p told) out ≡ p ++ drop (length p) out
  writes_slice = again_output s p told (accepted s p o z) old f (only_writing s p o z).0 (only_writing s p o z).1 out l
