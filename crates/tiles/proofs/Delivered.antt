-- A call that hands out a message takes a run with the message's key, first counter and body.
-- Assumes nothing.
use Prim.Native.Nat.{ℕ, ◌+◌}
use mathlib.Core.Path.{◌≡◌, ap, sym, ◌∙◌}
use mathlib.Core.Option.{some, map, some-injective}
use mathlib.Core.List.{List, ◌++◌, append_cancel_left}
use native.Mathlib.Omega.{arith}
use lib.ListN.{length, take, drop, length-append}
use lib.Seq.{sets-eq, take-append_seam}
use Rattle.taking.specs.Answer.{Taken}
use Rattle.cells.specs.Messages.{Run, body_of}
use Rattle.cells.proofs.Picking.{pick_yes}
use Rattle.taking.specs.Taking.{message, writing, took, out_with}
use Rattle.taking.specs.Told.{taken_of}
use Rattle.taking.proofs.Tells.{taken_tells}
use Rattle.walk.specs.declared.Settings.{Settings}
use Rattle.walk.specs.Walk.{refusal}
use Rattle.demand3.specs.Calls.{Call, out_of, draws, store_at, took_by, out_by}
use Rattle.demand3.specs.Sendings.{Sending, whole_body, key_in, start_of, header_size, body_size}
use Rattle.demand3.specs.Whole.{Delivers}
use Rattle.demand3.proofs.Called.{out_by_lem}
use Rattle.demand3.proofs.Simulates.{by_took}
use Rattle.recording.specs.Recording.{cell_count}
use Rattle.tiles.specs.Along.{joined}
use Rattle.tiles.specs.Written.{frame_of}
use Rattle.tiles.proofs.Framing.{Z}

-- equally long fronts of one list
front_same : (a b c d : List ℕ) → a ++ b ≡ c ++ d → length a ≡ length c → a ≡ c
front_same a b c d e h =
    sym (take-append_seam a b) ∙ ap (take (length a)) e ∙ ap (λ (n : ℕ). take n (c ++ d)) h ∙ take-append_seam c d

same_frame : (k l : List ℕ) (c d : ℕ) (a b : List ℕ) → k ≡ l → c ≡ d → a ≡ b → joined k c a ≡ joined l d b
same_frame k l c d a b p q r = λ i. joined (p i) (q i) (r i)

module _ (s : Settings) (w : Sending) (st : List ℕ) (c : Call) (r : Run) (e : took_by s Z st c ≡ some (message r)) (key : r.head.key ≡ key_in s w)
    (d : Delivers s Z cell_count w st c) where
  -- what it tells
  told : taken_of (message r) ≡
      record { refusal = refusal 0; header = header_size s w; body = body_size s w; counter = record { 0 = start_of s w } }
  told = some-injective _ _ (ap (map taken_of) (sym e) ∙ d.told)

  pub run_counter : r.head.counter ≡ start_of s w
  run_counter = ap (λ (t : Taken). t.counter.0) told

  -- and what it writes
  output_is : out_by s Z st c ≡ writing r ++ drop (length (writing r)) (out_of c)
  unfolding out_with
  output_is =
      let b = by_took s Z st c r e in
      let fits = (taken_tells s Z (store_at s Z st c) (length (out_of c)) r b.1).fits in
      let z : 0 + length (writing r) ≡ length (writing r) = omega arith in
      out_by_lem s Z st c
      ∙ pick_yes (draws s Z st c) (out_with (out_of c) (took s Z (store_at s Z st c) (length (out_of c)))) (out_of c) b.0
      ∙ ap (out_with (out_of c)) b.1
      ∙ sets-eq (writing r) (out_of c) 0 (omega arith)
      ∙ ap (λ (n : ℕ). writing r ++ drop n (out_of c)) z

  lengths : length (writing r) ≡ length (key_in s w ++ whole_body w)
  lengths =
      let a = ap (λ (t : Taken). t.body) told in
      let b = ap length key in
      omega (arith, length-append r.head.key (body_of r), length-append (key_in s w) (whole_body w))

  written_same : r.head.key ++ body_of r ≡ key_in s w ++ whole_body w
  written_same =
      front_same (writing r) (drop (length (writing r)) (out_of c)) (key_in s w ++ whole_body w)
      (drop (2 + header_size s w + body_size s w) (out_of c)) (sym output_is ∙ d.written) lengths

  run_body : body_of r ≡ whole_body w
  run_body =
      append_cancel_left r.head.key (body_of r) (whole_body w)
      (written_same ∙ ap (λ (k : List ℕ). k ++ whole_body w) (sym key))

  pub run_frame : joined r.head.key r.head.counter (body_of r) ≡ frame_of s w
  run_frame = same_frame r.head.key (key_in s w) r.head.counter (start_of s w) (body_of r) (whole_body w) key run_counter run_body
