-- Numbers that fit go to the call, and any other are refused: the answer and the output, on either side.
-- Assumes nothing.
use Prim.Native.Nat.{ℕ}
use mathlib.Core.Path.{◌≡◌, refl, sym, ◌∙◌}
use mathlib.Core.Bool.{Bool, true, false}
use mathlib.Core.List.{List, ◌∷◌}
use Rattle.octets.specs.Octets.{pick}
use Rattle.write.specs.Given.{Lent}
use Rattle.write.specs.Writing.{write_answer, write_output}
use Rattle.write.specs.declared.HeaderValues.{HeaderValues}
use Rattle.write.specs.declared.PacketValues.{PacketValues}
use Rattle.write.specs.Answer.{Written}
use Rattle.cut.specs.declared.Counted.{Counted}
use Rattle.cut.specs.declared.Cut.{Cut}
use Rattle.cut.specs.Cutting.{count_answer, packet_answer, packet_output}
use Rattle.walk.specs.declared.Settings.{Settings}
use Rattle.sender.specs.declared.Sender.{Sender}
use Rattle.flat.specs.Given.{header_fits, header_of, packet_fits, packet_of, sender_fits, sender_of}
use Rattle.flat.specs.Told.{written_numbers, sender_numbers, counted_numbers, cut_numbers}
use Rattle.flat.specs.Answers.{write_fits, write_refused, write_numbers, write_out, given, cut_fits, cut_refused, count_numbers, packet_numbers, packet_out}

-- ---- writing

module _ (s : Settings) (h : List ℕ) (x : Lent) (flags count counter : ℕ) (body : List ℕ) where
  module _ (f : write_fits h flags count counter ≡ false) where
    pub write_refused_lem :
        (room : ℕ) (r : List ℕ) → r ≡ write_refused s → r ≡ write_numbers s h x flags count counter body room
    unfolding write_numbers
    write_refused_lem room r g = rw f g

    pub write_kept : (out : List ℕ) → out ≡ write_out s h x flags count counter body out
    unfolding write_out
    write_kept out = rw f

  module _ (e : header_fits h ≡ true) (f : packet_fits flags count counter ≡ true) (v : HeaderValues) (o : PacketValues)
      (g : v ≡ header_of h) (k : o ≡ packet_of flags count counter) where
    pub write_told :
        (room : ℕ) (w : Written) (r : List ℕ) → w ≡ write_answer false s v o x body room → r ≡ written_numbers w →
        r ≡ write_numbers s h x flags count counter body room
    unfolding write_numbers
    write_told room w r m n = rw (e, f, sym g, sym k, sym m) n

    pub write_laid :
        (out after : List ℕ) → after ≡ write_output false s v o x body out → after ≡ write_out s h x flags count counter body out
    unfolding write_out
    write_laid out after m = rw (e, f, sym g, sym k) m

pub header_unfit : (h : List ℕ) (flags count counter : ℕ) → header_fits h ≡ false → write_fits h flags count counter ≡ false
header_unfit h flags count counter e = rw e

pub packet_unfit :
    (h : List ℕ) (flags count counter : ℕ) → header_fits h ≡ true → packet_fits flags count counter ≡ false →
    write_fits h flags count counter ≡ false
packet_unfit h flags count counter e f = rw (e, f)

-- ---- cutting

module _ (s : Settings) (P : ℕ) (h : List ℕ) (x : Lent) (d : List ℕ) where
  module _ (f : cut_fits h d ≡ false) where
    module _ (r : List ℕ) (g : r ≡ cut_refused s P d) where
      pub count_refused : (B : ℕ) → r ≡ count_numbers s P h x B d
      unfolding count_numbers
      count_refused B = rw f g

      pub packet_refused : (body : List ℕ) (i room : ℕ) → r ≡ packet_numbers s P h x body d i room
      unfolding packet_numbers
      packet_refused body i room = rw f g

    pub packet_kept : (body : List ℕ) (i : ℕ) (out : List ℕ) → out ≡ packet_out s P h x body d i out
    unfolding packet_out
    packet_kept body i out = rw f

  module _ (e : header_fits h ≡ true) (f : sender_fits d ≡ true) (v : HeaderValues) (a : Sender) (g : v ≡ header_of h) (k : a ≡ sender_of d) where
    pub count_told :
        (B : ℕ) (w : Counted) (r : List ℕ) → w ≡ count_answer false s P v x B a → r ≡ counted_numbers w →
        r ≡ count_numbers s P h x B d
    unfolding count_numbers
    count_told B w r m n = rw (e, f, sym g, sym k, sym m) n

    pub packet_told :
        (body : List ℕ) (i room : ℕ) (w : Cut) (r : List ℕ) → w ≡ packet_answer false s P v x body a i room → r ≡ cut_numbers w →
        r ≡ packet_numbers s P h x body d i room
    unfolding packet_numbers
    packet_told body i room w r m n = rw (e, f, sym g, sym k, sym m) n

    pub packet_laid :
        (body : List ℕ) (i : ℕ) (out after : List ℕ) → after ≡ packet_output false s P v x body a i out →
        after ≡ packet_out s P h x body d i out
    unfolding packet_out
    packet_laid body i out after m = rw (e, f, sym g, sym k) m

pub header_uncut : (h d : List ℕ) → header_fits h ≡ false → cut_fits h d ≡ false
header_uncut h d e = rw e

pub sender_uncut : (h d : List ℕ) → header_fits h ≡ true → sender_fits d ≡ false → cut_fits h d ≡ false
sender_uncut h d e f = rw (e, f)

-- ---- a sender's numbers

module _ (d n : List ℕ) (step : Sender → Sender) where
  pub moved_on :
      (sender_fits d ≡ true → (a : Sender) × (Sender × (a ≡ step (sender_of d))) × (n ≡ 0 ∷ sender_numbers a)) →
      (sender_fits d ≡ false → n ≡ 22 ∷ given d) → n ≡ pick (sender_fits d) (0 ∷ sender_numbers (step (sender_of d))) (22 ∷ given d)
  moved_on f g = go (sender_fits d) refl
    where
      go : (b : Bool) → sender_fits d ≡ b → n ≡ pick b (0 ∷ sender_numbers (step (sender_of d))) (22 ∷ given d)
      go true e = let h = f e in h.2 ∙ rw h.1.1
      go false e = g e
