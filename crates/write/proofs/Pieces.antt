-- The pieces of a packet, laid one after another, are its octets.
-- Assumes nothing.
use Prim.Native.Nat.{ℕ, ◌+◌, ◌-◌, ◌*◌}
use mathlib.Core.Path.{◌≡◌, refl, ap, ap₂, ◌∙◌}
use mathlib.Core.Bool.{Bool, true, false}
use mathlib.Core.List.{List, [], ◌∷◌, ◌++◌, append_assoc, append-nil}
use native.Mathlib.Omega.{arith}
use lib.ListN.{length}
use Rattle.octets.specs.Octets.{wide}
use Rattle.octets.specs.Laying.{together}
use Rattle.octets.proofs.Laying.{together_append, one_together}
use Rattle.walk.specs.declared.Settings.{Settings}
use Rattle.fields.specs.Form.{uinteger_octets, blob_octets, text_octets, part_octets, joined, domain_octets}
use Rattle.fields.specs.Inner.{blob_pieces, text_pieces, part_pieces, parts_pieces, domain_pieces}
use Rattle.packet.specs.Format.{when, identification, presence, fixed_octets, front_octets, counter_octets, back_octets, secondary_octets, data_octets, octets_of}
use Rattle.write.specs.declared.HeaderValues.{HeaderValues}
use Rattle.write.specs.declared.PacketValues.{PacketValues}
use Rattle.write.specs.Given.{Lent, head_of, packet_of}
use Rattle.write.specs.Writing.{given_packet}
use Rattle.write.specs.Inner.{primary_pieces, name_pieces, present_octet, routing_pieces, front_pieces, middle_pieces, end_pieces, packet_pieces}

-- ---- as the code has them

pub routing_word : (a b c d : ℕ) → wide 2 (a * 32768 + b * 8192 + (c * 2048 + d)) ≡ wide 2 (a * 32768 + b * 8192 + c * 2048 + d)
routing_word a b c d =
    let n : a * 32768 + b * 8192 + (c * 2048 + d) ≡ a * 32768 + b * 8192 + c * 2048 + d = omega arith in
    ap (wide 2) n

-- ---- the fields with a length

pub if_together : (b : Bool) (xs : List (List ℕ)) → together (when b xs) ≡ when b (together xs)
unfolding together
if_together true xs = refl
if_together false xs = refl

pub blob_together : (s : Settings) (x : List ℕ) → together (blob_pieces s x) ≡ blob_octets s x
unfolding blob_pieces blob_octets together
blob_together s x = simp append-nil

pub text_together : (s : Settings) (x : List ℕ) → together (text_pieces s x) ≡ text_octets s x
unfolding text_pieces text_octets
text_together s x = blob_together s x

part_together : (s : Settings) (x : List ℕ) → together (part_pieces s x) ≡ part_octets s x
unfolding part_pieces part_octets together
part_together s x = ap (λ (y : List ℕ). (1 ∷ []) ++ y) (text_together s x)

parts_together : (s : Settings) (ts : List (List ℕ)) → together (parts_pieces s ts) ≡ joined (part_octets s) ts
unfolding parts_pieces joined together
parts_together s [] = refl
parts_together s (t ∷ ts) =
    together_append (part_pieces s t) (parts_pieces s ts) ∙ ap₂ ◌++◌ (part_together s t) (parts_together s ts)

pub domain_together : (s : Settings) (ts : List (List ℕ)) → together (domain_pieces s ts) ≡ domain_octets s ts
unfolding domain_pieces domain_octets together
domain_together s ts = ap (λ (y : List ℕ). uinteger_octets s (length ts) ++ y) (parts_together s ts)

-- ---- the groups

grouped :
    (p i s l n r f x g c m e b y : List ℕ) → p ≡ i ++ (s ++ l) → n ++ r ≡ x → f ≡ g ++ c → m ++ e ≡ b →
    p ++ (n ++ (r ++ (f ++ (m ++ (e ++ y))))) ≡ i ++ (s ++ (l ++ ((x ++ (g ++ (c ++ b))) ++ y)))
grouped p i s l n r f x g c m e b y h j k d = rw (h, k, ← j, ← d) (simp append_assoc)

module _ (s : Settings) (v : HeaderValues) (o : PacketValues) (t : Lent) where
  primary_together : (n : ℕ) → together (primary_pieces v o n) ≡ identification (head_of v t) ++ (wide 2 (o.flags * 16384 + o.sequence_count.0) ++ wide 2 n)
  unfolding primary_pieces identification head_of together
  primary_together n = simp append-nil

  fixed_together : together (name_pieces v) ++ together (routing_pieces v) ≡ fixed_octets (head_of v t)
  unfolding name_pieces routing_pieces present_octet fixed_octets presence head_of together
  fixed_together = simp (append-nil, append_assoc)

  front_together : (body : List ℕ) → together (front_pieces v o) ≡ front_octets (head_of v t) ++ counter_octets (packet_of (head_of v t) o body)
  unfolding front_pieces front_octets counter_octets head_of packet_of
  front_together body = simp (together_append, if_together, one_together, append_assoc)

  back_together :
      together (middle_pieces s v.has v.priority t)
      ++ together (end_pieces s v.has t)
      ≡ back_octets s (head_of v t)
  unfolding middle_pieces end_pieces back_octets head_of
  back_together = simp (together_append, if_together, one_together, text_together, domain_together, blob_together, append_assoc)

  pub packet_together :
      (body : List ℕ) →
      together (packet_pieces s v o t (length (data_octets s (given_packet v o t body)) - 1) body) ≡ octets_of s (given_packet v o t body)
  unfolding octets_of packet_pieces secondary_octets data_octets packet_of
  packet_together body =
      let n = length (data_octets s (given_packet v o t body)) - 1 in
      simp (together_append, one_together)
      (grouped
      (together (primary_pieces v o n))
      (identification (head_of v t))
      (wide 2 (o.flags * 16384 + o.sequence_count.0))
      (wide 2 n)
      (together (name_pieces v))
      (together (routing_pieces v))
      (together (front_pieces v o))
      (fixed_octets (head_of v t))
      (front_octets (head_of v t))
      (counter_octets (packet_of (head_of v t) o body))
      (together (middle_pieces s v.has v.priority t))
      (together (end_pieces s v.has t))
      (back_octets s (head_of v t))
      body
      (primary_together n)
      fixed_together
      (front_together body)
      back_together)
