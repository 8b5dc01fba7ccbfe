-- The answer of an arrival says SPEC's number and word for what the arrival comes to (S-12), also over its contract.
-- Assumes nothing.
use mathlib.Core.Path.{◌≡◌, ap}
use contract.Lifetimes as L
use Rattle.arrival.specs.Arriving.{arrived}
use Rattle.arrival.specs.Answer.{arrival_answer}
use Rattle.arrival.specs.Told.{said, arrival_of}
use Rattle.store.proofs.arrive.Reads as arrives
use Rattle.cells.specs.Order.{cell_size}

pub arrive_says : (κs : L.Lfts 2) (a : _) (r : _) (x : _) → arrives.Post κs a r x → said (arrival_answer r) ≡ said (arrival_of (arrived a.0 cell_size a.1.0.now a.1.1.0.now))
arrive_says κs a r x p = ap said p.0
