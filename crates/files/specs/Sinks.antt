-- Where a sink goes, as far as the programs ask, and why its last call that failed did.
use Rattle.std.specs.Prelude.{ℕ, Bool, true, false, ℤ, Option, Some, None}
use Rattle.files.specs.declared.Sink.{Sink}
use Rattle.files.specs.declared.Target.{Target}
use Rattle.files.specs.declared.Target.TheVariants.{Nowhere, Output, Error, Opened, Numbered}

abbrev pub is_nothing : Target → Bool
is_nothing Nowhere = true
is_nothing (Output f) = false
is_nothing (Error f) = false
is_nothing (Opened f) = false
is_nothing (Numbered rt n) = false

abbrev pub is_words : Target → Bool
is_words Nowhere = false
is_words (Output f) = false
is_words (Error f) = true
is_words (Opened f) = false
is_words (Numbered rt n) = false

-- what is written there is dropped
abbrev pub goes_nowhere : Sink → Bool
goes_nowhere s = is_nothing s.to

-- it is standard error
abbrev pub goes_to_error : Sink → Bool
goes_to_error s = is_words s.to

abbrev pub descriptor_of : Target → Option ℕ
descriptor_of Nowhere = Some 0
descriptor_of (Output f) = Some 1
descriptor_of (Error f) = Some 2
descriptor_of (Opened f) = None
descriptor_of (Numbered rt n) = Some n

-- the descriptor that it writes, by the number that names it: 0 is none; a file that was opened by its name has no such number
abbrev pub goes_to : Sink → Option ℕ
goes_to s = descriptor_of s.to

-- the system's number of the last failure
abbrev pub why_of : Sink → ℤ
why_of s = s.why
