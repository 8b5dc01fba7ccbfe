-- The sender of SPEC's figures on cutting: the sequence count 0, and a counter to start from.
-- Assumes nothing: these are definitions.
use Rattle.std.specs.Prelude.{ℕ}
use Rattle.sender.specs.declared.Sender.{Sender}

abbrev pub sender : ℕ → Sender
sender c = record { sequence_count = record { 0 = 0 }; counter = record { 0 = c } }
