-- The pieces of a PDU, laid one after another, are its octets; and its sizes, as the code adds them up.
-- Assumes nothing.
use Prim.Native.Nat.{ℕ, ◌+◌, ◌-◌, ◌≤◌}
use mathlib.Core.Path.{◌≡◌, refl, ap, sym, ◌∙◌}
use mathlib.Core.Logic.{⊎_elim}
use mathlib.Core.Bool.{Bool, true, false}
use mathlib.Core.List.{List, [], ◌++◌, append_assoc, append-nil}
use native.Mathlib.Omega.{arith}
use lib.ListN.{length, length-append}
use lib.Dec.{leb}
use borrow.Author.Tests.{le-leb, lt-leb}
use Rattle.octets.specs.Octets.{pick}
use Rattle.octets.specs.Laying.{together}
use Rattle.octets.proofs.Lists.{below_or}
use Rattle.octets.proofs.Laying.{together_append, one_together}
use Rattle.fields.specs.Form.{uinteger_octets, domain_octets, split}
use Rattle.fields.proofs.Sized.{text_long, blob_long}
use Rattle.write.specs.Given.{Lent}
use Rattle.write.specs.Inner.{middle_pieces, end_pieces}
use Rattle.write.proofs.Pieces.{if_together, blob_together, text_together, domain_together}
use Rattle.write.proofs.Sizes.{when_length}
use Rattle.pdu.specs.declared.PduValues.{PduValues}
use Rattle.pdu.specs.Format.{Pdu, pdu_settings, fixed_octets, variable_octets, rest_octets, octets_of}
use Rattle.pdu.specs.Given.{pdu_of}
use Rattle.pdu.specs.Inner.{name_pieces, flag_pieces, id_pieces, pdu_pieces, small, rest_most, front_size, middle_size, end_size, variable_size}

grouped :
    (n f i m e b x y : List ℕ) → n ++ f ≡ x → i ++ (m ++ e) ≡ y → n ++ (f ++ (i ++ (m ++ (e ++ b)))) ≡ x ++ (y ++ b)
grouped n f i m e b x y h k = rw (← h, ← k) (simp append_assoc)

-- ---- sizes told up to a largest one

cap_pick : (b : Bool) (n : ℕ) → pick b (small n) 0 ≡ small (pick b n 0)
cap_pick true n = refl
cap_pick false n = omega arith

cap_front : (a b c : ℕ) → small (small a + small (small b + c)) ≡ small (a + (b + c))
cap_front a b c = omega arith

cap_middle : (a b c : ℕ) → small (a + small (small b + small c)) ≡ small (a + (b + c))
cap_middle a b c = omega arith

cap_end : (a b : ℕ) → small (small a + small b) ≡ small (a + b)
cap_end a b = omega arith

cap_all : (a b c : ℕ) → small (small a + small (small b + small c)) ≡ small (a + (b + c))
cap_all a b c = omega arith

-- whether the fixed part and so many octets fit
pub fits_same : (rest room : ℕ) → 23 ≤ room → leb rest (room - 23) ≡ leb (23 + rest) room
fits_same rest room h =
    ⊎_elim
    (λ k. lt-leb rest (room - 23) (omega arith) ∙ sym (lt-leb (23 + rest) room k))
    (λ k. le-leb rest (room - 23) (omega arith) ∙ sym (le-leb (23 + rest) room k))
    (below_or room (23 + rest))

regroup : (a b c d e f g h : ℕ) → a + (b + (c + (d + (e + (f + (g + h)))))) ≡ a + (b + c) + (d + (e + f) + (g + h))
regroup a b c d e f g h = omega arith

module _ (v : PduValues) (source destination : List ℕ) (t : Lent) (body : List ℕ) where
  abbrev pub given : Pdu
  given = pdu_of v source destination t body

  fixed_together : (n : ℕ) → together (name_pieces v) ++ together (flag_pieces v n) ≡ fixed_octets given n
  unfolding name_pieces flag_pieces fixed_octets pdu_of together
  fixed_together n = simp (append-nil, append_assoc)

  variable_together :
      together (id_pieces v.has source destination)
      ++ (together (middle_pieces pdu_settings v.has v.priority t)
      ++ together (end_pieces pdu_settings v.has t))
      ≡ variable_octets given
  unfolding id_pieces middle_pieces end_pieces variable_octets pdu_of
  variable_together = simp (together_append, if_together, one_together, text_together, domain_together, blob_together, append_assoc)

  pub pdu_together : together (pdu_pieces v source destination t (length (rest_octets given)) body) ≡ octets_of given
  unfolding octets_of rest_octets pdu_pieces pdu_of
  pdu_together =
      let n = length (rest_octets given) in
      simp (together_append, one_together)
      (grouped
      (together (name_pieces v))
      (together (flag_pieces v n))
      (together (id_pieces v.has source destination))
      (together (middle_pieces pdu_settings v.has v.priority t))
      (together (end_pieces pdu_settings v.has t))
      body
      (fixed_octets given n)
      (variable_octets given)
      (fixed_together n)
      variable_together)

  -- ---- the optional fields' size

  abbrev text_length : List ℕ → ℕ
  text_length x = length (uinteger_octets pdu_settings (length x)) + length x

  abbrev front_length : ℕ
  front_length =
      pick v.has.source (text_length source) 0
      + (pick v.has.destination (text_length destination) 0
      + pick v.has.priority (length (uinteger_octets pdu_settings v.priority)) 0)

  abbrev middle_length : ℕ
  middle_length =
      pick v.has.timestamp (length t.timestamp) 0
      + (pick v.has.zone (text_length t.zone) 0 + pick v.has.session_name (text_length t.session_name) 0)

  abbrev end_length : ℕ
  end_length =
      pick v.has.domain (length (domain_octets pdu_settings (split t.lengths t.domain))) 0
      + pick v.has.authentication (text_length t.authentication) 0

  variable_long : length (variable_octets given) ≡ front_length + (middle_length + end_length)
  unfolding variable_octets pdu_of
  variable_long = simp (length-append, when_length, text_long, blob_long) (regroup _ _ _ _ _ _ _ _)

  front_is : front_size v.has (length source) (length destination) v.priority ≡ small front_length
  unfolding front_size
  front_is =
      rw (cap_pick v.has.source (text_length source), cap_pick v.has.destination (text_length destination)) (cap_front _ _ _)

  middle_is : middle_size v.has t ≡ small middle_length
  unfolding middle_size
  middle_is =
      rw (cap_pick v.has.zone (text_length t.zone), cap_pick v.has.session_name (text_length t.session_name)) (cap_middle _ _ _)

  end_is : end_size v.has t ≡ small end_length
  unfolding end_size
  end_is =
      rw (
        cap_pick v.has.domain (length (domain_octets pdu_settings (split t.lengths t.domain))),
        cap_pick v.has.authentication (text_length t.authentication),
      ) (cap_end _ _)

  pub variable_size_lem : variable_size v source destination t ≡ small (length (variable_octets given))
  unfolding variable_size
  variable_size_lem = rw (front_is, middle_is, end_is) (cap_all _ _ _) ∙ ap small (sym variable_long)

  pub variable_top : variable_size v source destination t ≤ rest_most
  variable_top = omega (arith, variable_size_lem)

pub variable_small :
    (v : PduValues) (source destination : List ℕ) (t : Lent) {n : ℕ} → n ≡ variable_size v source destination t → n ≤ rest_most
variable_small v source destination t e = omega (arith, e, variable_top v source destination t [])
