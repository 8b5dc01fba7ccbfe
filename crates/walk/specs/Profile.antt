-- The profiles of the settings: how a UInteger (a length, a count or a priority) is written.
-- SPEC P-16, A-5: 0 is Varints, 1 four octets, and any other number is refused by 15.
-- Assumes nothing: these are definitions.
use Rattle.std.specs.Prelude.{ℕ, eqb}
use Rattle.octets.specs.Octets.{pick}
use Rattle.walk.specs.declared.Settings.{Settings}

abbrev pub varint_profile : ℕ
varint_profile = 0

-- the last one
abbrev pub fixed_profile : ℕ
fixed_profile = 1

-- the one choice by the settings: what holds for Varints, or what holds for four octets
abbrev pub by_profile : {A : Type 0} → Settings → A → A → A
by_profile s varint fixed = pick (eqb s.profile fixed_profile) fixed varint

-- the octets of a UInteger that is no Varint
abbrev pub uinteger_size : ℕ
uinteger_size = 4
