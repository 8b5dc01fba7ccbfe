-- Numbers that fit go to the call, and any other are refused: the answer and the output, on either side.
-- Assumes nothing.
use Prim.Native.Nat.{ℕ}
use mathlib.Core.Path.{◌≡◌, sym}
use mathlib.Core.Bool.{true, false}
use mathlib.Core.List.{List, [], ◌∷◌}
use Rattle.write.specs.Given.{Lent}
use Rattle.pdu.specs.declared.PduValues.{PduValues}
use Rattle.pdu.specs.declared.Written.{Written}
use Rattle.pdu.specs.Writing.{write_answer, write_output}
use Rattle.flat_pdu.specs.Numbers.{pdu_fits, values_of, written_numbers, write_numbers, write_out}

module _ (h source destination : List ℕ) (x : Lent) (body : List ℕ) where
  module _ (f : pdu_fits h ≡ false) where
    pub write_refused_lem : (room : ℕ) → 22 ∷ 0 ∷ 0 ∷ [] ≡ write_numbers h source destination x body room
    unfolding write_numbers
    write_refused_lem room = rw f

    pub write_kept : (out : List ℕ) → out ≡ write_out h source destination x body out
    unfolding write_out
    write_kept out = rw f

  module _ (f : pdu_fits h ≡ true) (v : PduValues) (g : v ≡ values_of h) where
    pub write_told :
        (room : ℕ) (w : Written) (r : List ℕ) → w ≡ write_answer v source destination x body room → r ≡ written_numbers w →
        r ≡ write_numbers h source destination x body room
    unfolding write_numbers
    write_told room w r m n = rw (f, sym g, sym m) n

    pub write_laid :
        (out after : List ℕ) → after ≡ write_output v source destination x body out → after ≡ write_out h source destination x body out
    unfolding write_out
    write_laid out after m = rw (f, sym g) m
