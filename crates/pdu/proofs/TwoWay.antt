-- Reading a PDU and its format tell each other: what is written reads back, what is accepted could have been written, and no two PDUs read as
-- the same values. Over the definitions.
-- Assumes nothing.
use Prim.Native.Nat.{ℕ}
use mathlib.Core.Path.{◌≡◌, refl, ap, sym, ◌∙◌}
use mathlib.Core.Logic.{⊎_elim}
use mathlib.Core.List.{List}
use mathlib.Core.Bool.{true}
use borrow.Author.Tests.{eqb-false}
use Rattle.octets.specs.Octets.{Octets}
use Rattle.octets.proofs.Lists.{bool}
use Rattle.octets.proofs.Has.{has_self}
use Rattle.walk.specs.Walk.{going}
use Rattle.pdu.specs.Format.{Pdu, octets_of, InRange}
use Rattle.pdu.specs.Reading.{ended, refusal_of, refused_header, accepted_header, read_pdu}
use Rattle.pdu.specs.Told.{values_of}
use Rattle.pdu.proofs.Whole.{accepts}
use Rattle.pdu.proofs.Only.{good, told_written, told_range}
use Rattle.pdu.proofs.Back.{reads, values_back}

-- an answer that is no refusal: the reading goes on to its end
answered : (p : List ℕ) → (read_pdu p).refusal.number ≡ 0 → going (ended p) ≡ true
unfolding read_pdu refused_header refusal_of
answered p h = ⊎_elim (λ e. e) (λ e. absurd (eqb-false _ _ e (rw e at h))) (bool (going (ended p)))

-- what is written reads back
pub reads_back : (v : Pdu) → InRange v → ((read_pdu (octets_of v)).refusal.number ≡ 0) × (values_of (octets_of v) (read_pdu (octets_of v)) ≡ v)
unfolding accepted_header
reads_back v r =
    let e = reads (octets_of v) v r (has_self (octets_of v)) refl in
    (rw e refl, ap (values_of (octets_of v)) e ∙ values_back (octets_of v) v r (has_self (octets_of v)) refl)

-- what is accepted could have been written
pub only_writing :
    (p : List ℕ) → Octets p → (read_pdu p).refusal.number ≡ 0 → InRange (values_of p (read_pdu p)) × (octets_of (values_of p (read_pdu p)) ≡ p)
only_writing p o h =
    let g = answered p h in
    let k = good p o g in
    rw (accepts p g) (told_range p o k, told_written p o k)

-- no two PDUs read as the same values
pub one_slice :
    (p q : List ℕ) → Octets p → Octets q → (read_pdu p).refusal.number ≡ 0 → (read_pdu q).refusal.number ≡ 0 →
    values_of p (read_pdu p) ≡ values_of q (read_pdu q) → p ≡ q
one_slice p q o u h k e = sym (only_writing p o h).1 ∙ ap octets_of e ∙ (only_writing q u k).1

-- and no two values are written as the same PDU
pub one_value : (v w : Pdu) → InRange v → InRange w → octets_of v ≡ octets_of w → v ≡ w
one_value v w r s e =
    sym (reads_back v r).1 ∙ ap (λ (p : List ℕ). values_of p (read_pdu p)) e ∙ (reads_back w s).1
