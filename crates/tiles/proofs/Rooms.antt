-- A recording of at most 32 packets always has room, by the same of the joinings.
-- Assumes nothing.
use Prim.Native.Nat.{ℕ, ◌≤◌}
use mathlib.Core.Path.{refl, ap, sym, ◌∙◌}
use mathlib.Core.Logic.{inr}
use mathlib.Core.Bool.{Bool, true, false}
use mathlib.Core.List.{List, [], ◌∷◌, ◌++◌}
use native.Mathlib.Omega.{arith}
use lib.ListN.{length}
use borrow.Author.Tests.{le-leb}
use Rattle.octets.specs.Octets.{pick}
use Rattle.walk.specs.declared.Settings.{Settings}
use Rattle.packet.specs.Reading.{read_packet}
use Rattle.cells.specs.Segments.{seg_of}
use Rattle.cells.specs.Order.{count_in, untaken_to}
use Rattle.taking.specs.Forgetting.{lowest_record}
use Rattle.join.specs.Joining.{joining as joining_of}
use Rattle.cells.specs.Messages.{look}
use Rattle.demand3.specs.Cells.{has_free}
use Rattle.steps.specs.Stepping.{longest, room, is_full, store_after as step_store}
use Rattle.recording.specs.Recording.{cell_count, empty_store}
use Rattle.demand3.specs.Calls.{Call, joining, forgetting, packets_in}
use Rattle.demand3.specs.Presupposed.{cells_in}
use Rattle.demand3.proofs.Roomy.{room·whole}
use Rattle.tiles.specs.Along.{packets_of, store_from}
use Rattle.tiles.specs.Written.{RecordingRoom}
use Rattle.tiles.proofs.Framing.{Z, packets_octets}
use Rattle.tiles.proofs.Joinings.{output, short, calls_from, calls_of, calls_to, to_store, at_call}
use Rattle.tiles.proofs.Comes.{in_use_lem, plain_calls}

-- no more joinings than packets
pub calls_most : (s : Settings) (ps : List (List ℕ)) (st : List ℕ) → packets_in (calls_from s st ps) ≤ length ps
unfolding calls_from packets_in
calls_most s [] st = omega arith
calls_most s (p ∷ ps) st = go (calls_most s ps (step_store s Z st p)) (short p) (is_full (joining_of s Z st p room))
  where
    rest : List Call
    rest = calls_from s (step_store s Z st p) ps

    go : packets_in rest ≤ length ps → (b d : Bool) →
        packets_in (pick b (pick d (forgetting (lowest_record s Z st (count_in Z st)) ∷ []) [] ++ joining p output ∷ []) [] ++ rest) ≤ length (p ∷ ps)
    go ih true true = omega arith
    go ih true false = omega arith
    go ih false d = omega arith

pub recording_room : RecordingRoom
recording_room s range x o l before after p e ok seg fit out new =
    ap (λ (st : List ℕ). has_free (cells_in s Z cell_count st)) (sym (to_store s before p))
    ∙ room·whole s cell_count (in_use_lem s range) (calls_of s (packets_of x)) (plain_calls s (packets_of x) (packets_octets (length x) x o))
    (omega (arith, calls_most s (packets_of x) empty_store))
    (calls_to s before p) (calls_from s (step_store s Z (store_from s empty_store before) p) after) (joining p output) p
    (ap (calls_of s) e ∙ at_call s before p after (le-leb (length p) longest (omega arith))) (inr (output, refl)) ok seg fit
    (ap (λ (st : List ℕ). untaken_to s Z st cell_count (seg_of p (read_packet s p)).key (seg_of p (read_packet s p)).counter) (to_store s before p) ∙ out)
    (ap (λ (st : List ℕ). look (cells_in s Z cell_count st) (seg_of p (read_packet s p)).key (seg_of p (read_packet s p)).counter) (to_store s before p) ∙ new)
