-- What the types of a call's arguments say of them: lent texts and a body are octets, and a transaction id has 64 bits.
-- Assumes nothing: these are definitions.
use Rattle.std.specs.Prelude.{ℕ, ◌<◌, List}
use Rattle.octets.specs.Octets.{Octets}
use Rattle.write.specs.declared.HeaderValues.{HeaderValues}
use Rattle.write.specs.Given.{Lent}

-- a number of 64 bits
abbrev pub Bits64 : ℕ → Type 0
Bits64 x = x < 18446744073709551616

-- lent texts and a body are octets
pub record LentOctets (t : Lent) (b : List ℕ) : Type 0 where
  pub timestamp : Octets t.timestamp
  pub zone : Octets t.zone
  pub session_name : Octets t.session_name
  pub domain : Octets t.domain
  pub authentication : Octets t.authentication
  pub body : Octets b

pub record Lends (v : HeaderValues) (t : Lent) (b : List ℕ) : Type 0 where
  pub octets : LentOctets t b
  pub transaction : Bits64 v.transaction
