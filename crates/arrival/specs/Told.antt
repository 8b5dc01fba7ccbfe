-- What an arrival answers: the refusal and SPEC's word (S-7) for each case of an answer, and the answer for what an arrival comes to.
-- SPEC A-2: beside a refusal all else is 0.
-- Assumes nothing: these are definitions.
use Rattle.std.specs.Prelude.{ℕ}
use Rattle.walk.specs.declared.Refusal.{Refusal}
use Rattle.walk.specs.Walk.{no_refusal}
use Rattle.arrival.specs.declared.Kind.{Kind}
use Rattle.arrival.specs.declared.Kind.TheVariants.{Whole, Stored, Held, Taken}
use Rattle.arrival.specs.Answer.{Arrival, Answer, Refused}
use Rattle.arrival.specs.Arriving.{Arrived, whole, stored, again, late, refused}

-- the refusal of an answer, none if it is no refusal, and its word, which is a number too, so that every language is told the same
pub record Said : Type 0 where
  pub refusal : Refusal
  pub word : ℕ

-- SPEC's words for an arrival; 0 is none
abbrev pub word_of : Kind → ℕ
word_of Whole = 1
word_of Stored = 2
word_of Held = 3
word_of Taken = 4

-- the refusal and the word of each case of an answer
abbrev pub said : Arrival → Said
said (Answer k) = record { refusal = no_refusal; word = word_of k }
said (Refused r) = record { refusal = r; word = 0 }

-- the case for what an arrival comes to
abbrev pub arrival_of : Arrived → Arrival
arrival_of whole = Answer Whole
arrival_of (stored i) = Answer Stored
arrival_of again = Answer Held
arrival_of late = Answer Taken
arrival_of (refused r) = Refused r
