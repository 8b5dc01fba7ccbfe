-- A refusal that tells no place: one that any field of several steps can hand on.
-- Assumes nothing.
use Prim.Native.Nat.{ℕ, ◌-◌}
use mathlib.Core.Path.{◌≡◌, refl, ap, sym, ◌∙◌}
use mathlib.Core.Bool.{Bool, false}
use native.Mathlib.Omega.{arith}
use lib.Dec.{eqb}
use Rattle.octets.specs.Octets.{pick}
use Rattle.walk.specs.declared.Refused.{Refused}
use Rattle.walk.specs.declared.Refused.TheVariants.{FewOctets, Version, NoSecondary, Idle, Short, HeaderEnds, Binding, SduType, Session, Varint, DomainPart, HeaderLong, ManyParts, EmptySegment, Settings, Order, Cell, Contradicts, Full, Incomplete, Output, Value, Large, NoRoom, Number, Long, Text, ManySegments, Withdrawn, NoRecord, PacketLong, Id, Timestamp, Range, State}
use Rattle.walk.specs.Told.{told}

pub record Placeless (e : Refused) : Type 0 where
  pub other : eqb (told e).number 6 ≡ false
  pub nowhere : (told e).place ≡ 0

pub no_place : (e : Refused) → ((at : ℕ) → e ≡ HeaderEnds at → ⊥) → Placeless e
no_place FewOctets h = record { other = refl; nowhere = refl }
no_place Version h = record { other = refl; nowhere = refl }
no_place NoSecondary h = record { other = refl; nowhere = refl }
no_place Idle h = record { other = refl; nowhere = refl }
no_place (Short n) h = record { other = refl; nowhere = refl }
no_place (HeaderEnds at) h = absurd (h at refl)
no_place Binding h = record { other = refl; nowhere = refl }
no_place SduType h = record { other = refl; nowhere = refl }
no_place Session h = record { other = refl; nowhere = refl }
no_place Varint h = record { other = refl; nowhere = refl }
no_place DomainPart h = record { other = refl; nowhere = refl }
no_place HeaderLong h = record { other = refl; nowhere = refl }
no_place ManyParts h = record { other = refl; nowhere = refl }
no_place EmptySegment h = record { other = refl; nowhere = refl }
no_place Settings h = record { other = refl; nowhere = refl }
no_place Order h = record { other = refl; nowhere = refl }
no_place Cell h = record { other = refl; nowhere = refl }
no_place Contradicts h = record { other = refl; nowhere = refl }
no_place Full h = record { other = refl; nowhere = refl }
no_place Incomplete h = record { other = refl; nowhere = refl }
no_place Output h = record { other = refl; nowhere = refl }
no_place Value h = record { other = refl; nowhere = refl }
no_place Large h = record { other = refl; nowhere = refl }
no_place NoRoom h = record { other = refl; nowhere = refl }
no_place Number h = record { other = refl; nowhere = refl }
no_place (Long n) h = record { other = refl; nowhere = refl }
no_place Text h = record { other = refl; nowhere = refl }
no_place ManySegments h = record { other = refl; nowhere = refl }
no_place Withdrawn h = record { other = refl; nowhere = refl }
no_place NoRecord h = record { other = refl; nowhere = refl }
no_place PacketLong h = record { other = refl; nowhere = refl }
no_place Id h = record { other = refl; nowhere = refl }
no_place Timestamp h = record { other = refl; nowhere = refl }
no_place Range h = record { other = refl; nowhere = refl }
no_place State h = record { other = refl; nowhere = refl }

module _ (e : Refused) (h : (at : ℕ) → e ≡ HeaderEnds at → ⊥) (place : ℕ) where
  -- so it stays where its field began, and wherever places are counted from
  pub began_same : told e ≡ record (told e) { place = pick (eqb (told e).number 6) place 0 }
  began_same =
      let q = no_place e h in
      λ i. record (told e) { place = (q.nowhere ∙ ap (λ (b : Bool). pick b place 0) (sym q.other)) i }

  pub counted_same : told e ≡ record (told e) { place = (told e).place - place }
  counted_same =
      let q = no_place e h in
      let z : (told e).place ≡ (told e).place - place = omega (arith, q.nowhere) in
      λ i. record (told e) { place = z i }
