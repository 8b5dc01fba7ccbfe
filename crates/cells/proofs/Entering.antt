-- A cell beside those below it, from where the body of its segment begins and the search for its key and counter.
-- Assumes nothing.
use Prim.Native.Nat.{ℕ, ◌+◌, ◌<◌}
use mathlib.Core.Path.{◌≡◌, refl, ap, ap₂, sym, ◌∙◌}
use mathlib.Core.Logic.{⊎_elim}
use mathlib.Core.Bool.{Bool, true, false}
use mathlib.Core.Option.{none}
use mathlib.Core.List.{List}
use native.Mathlib.Omega.{arith}
use lib.Dec.{eqb}
use borrow.Author.Tests.{eqb-true, eqb-false}
use Rattle.octets.specs.Octets.{Octets, number}
use Rattle.octets.proofs.Has.{octets_part}
use Rattle.octets.proofs.Lists.{bool}
use Rattle.walk.specs.declared.Settings.{Settings}
use Rattle.packet.specs.Reading.{read_packet}
use Rattle.packet.specs.Key.{key_of}
use Rattle.cells.specs.declared.Judged.{Judged}
use Rattle.cells.specs.Segments.{seg_of, both}
use Rattle.cells.specs.Rows.{segment_in, by_segment, row_at, packet_in, cell_of}
use Rattle.cells.specs.Order.{cells_most, carries_in, cell_at, new_to, new_at, found_in, untaken_to, untaken_in}
use Rattle.cells.specs.Inner.{counter_in, body_in, judged_of, told_held, body_start, Asked, told_body}
use Rattle.cells.specs.declared.Chains.{Chains}
use Rattle.cells.specs.Chains.{chains_all, bucket_of, key_in, bucket_in, bucket_at, pushed, Chained}
use Rattle.cells.proofs.Carries.{Holding, judged_one, judged_at, held_counter}
use Rattle.cells.proofs.Mixing.{key_asked}
use Rattle.cells.proofs.Lowest.{none_new, some_known}
use Rattle.cells.proofs.Chaining.{chained_skip, chained_push}
use Rattle.cells.proofs.Bodies.{row_plain, body_held, body_some, body_zero}

both_yes : (a : Bool) → both a true ≡ a
both_yes true = refl
both_yes false = refl

-- a segment that is held, as one that is looked for
asked_held :
    (s : Settings) (Z : ℕ) (r : List ℕ) → Octets r → Holding s Z r → {q : List ℕ} {body_at : ℕ} → q ≡ packet_in r →
    body_at ≡ (read_packet s (packet_in r)).body.at → Asked s q body_at
asked_held s Z r o h eq es =
    record {
      octets = rw eq (octets_part r 2 (number 2 r 6 + 7) o);
      accepted = rw eq h.accepted;
      segment = rw eq h.segment;
      body = es ∙ ap (λ (x : List ℕ). (read_packet s x).body.at) (sym eq);
    }

-- ---- a row that is judged held

module _ (s : Settings) (st : List ℕ) (Z i : ℕ) {r : List ℕ} (er : r ≡ row_at Z st i) {t : Judged} (et : t ≡ judged_of (body_in s r) (cell_of s Z r))
    (o : Octets st) (one : told_held t ≡ true) where
  there : Holding s Z r
  there = judged_one s Z r et one

  pub asked : {q : List ℕ} → q ≡ packet_in r → Asked s q (told_body t)
  asked eq = asked_held s Z r (rw er (row_plain s Z st i o)) there eq (judged_at s Z r et there).1.0

-- ---- a cell, told where the body of its segment begins

module _ (s : Settings) (st : List ℕ) (Z i : ℕ) (o : Octets st) {body_at : ℕ} (es : body_at ≡ body_start s Z st i) where
  module _ (z : body_at ≡ 0) where
    no_segment : segment_in (cell_at s Z st i) ≡ none
    no_segment = body_zero s Z st i o (sym es ∙ z)

    none_true : new_at s Z st i (cell_at s Z st i) ≡ true
    unfolding new_at
    none_true = ap (by_segment true (λ t. new_to s Z st i t.key t.counter)) no_segment

    pub none_apart : (a : Bool) → a ≡ both a (new_at s Z st i (cell_at s Z st i))
    none_apart a = sym (both_yes a) ∙ ap (both a) (sym none_true)

    pub none_untaken : (n : ℕ) → true ≡ untaken_in s Z st n (cell_at s Z st i)
    none_untaken n = sym (ap (by_segment true (λ t. untaken_to s Z st n t.key t.counter)) no_segment)

    -- it is on no chain
    pub none_off : {T : Chains} → Chained (bucket_at s Z st) T i → i < cells_most → Chained (bucket_at s Z st) T (i + 1)
    unfolding bucket_at
    none_off c l =
        let w : bucket_at s Z st i ≡ chains_all = ap (by_segment chains_all (λ t. bucket_of t.key t.counter)) no_segment in
        chained_skip c l (omega arith)

  module _ (some : body_at ≡ 0 → ⊥) {r q : List ℕ} (er : r ≡ row_at Z st i) (eq : q ≡ packet_in r) {c : ℕ} (ec : c ≡ counter_in q) where
    abbrev p : List ℕ
    p = packet_in (row_at Z st i)

    held_there : Holding s Z (row_at Z st i)
    held_there = body_some s Z st i (λ e. some (es ∙ e))

    packet_is : q ≡ p
    packet_is = eq ∙ ap packet_in er

    pub asked_at : Asked s q body_at
    asked_at = asked_held s Z (row_at Z st i) (row_plain s Z st i o) held_there packet_is (es ∙ body_held s Z st i held_there)

    key_is : key_of q (read_packet s q) ≡ key_of p (read_packet s p)
    key_is = ap (λ (x : List ℕ). key_of x (read_packet s x)) packet_is

    counter_is : c ≡ (read_packet s p).ids.counter.0
    counter_is = ec ∙ ap counter_in packet_is ∙ held_counter s Z (row_at Z st i) (row_plain s Z st i o) held_there

    pub some_apart : (a : Bool) {n : Bool} → n ≡ both a (new_to s Z st i (key_of q (read_packet s q)) c) → n ≡ both a (new_at s Z st i (cell_at s Z st i))
    unfolding new_at seg_of
    some_apart a e =
        e
        ∙ ap (both a)
        (ap₂ (λ (x : List ℕ) (n : ℕ). new_to s Z st i x n) key_is counter_is ∙ sym (ap (new_at s Z st i) held_there.cell))

    pub some_untaken : (n : ℕ) {b : Bool} → b ≡ untaken_to s Z st n (key_of q (read_packet s q)) c → b ≡ untaken_in s Z st n (cell_at s Z st i)
    unfolding seg_of
    some_untaken n e =
        e
        ∙ ap₂ (λ (x : List ℕ) (m : ℕ). untaken_to s Z st n x m) key_is counter_is
        ∙ sym (ap (untaken_in s Z st n) held_there.cell)

    -- its chain is the one that was walked
    chain_is : bucket_of (key_in q body_at) c ≡ bucket_at s Z st i
    unfolding bucket_at seg_of
    chain_is =
        ap₂ (λ (x : List ℕ) (n : ℕ). bucket_of x n) (key_asked s q body_at asked_at ∙ key_is) counter_is
        ∙ sym (ap bucket_in held_there.cell)

    pub some_on :
        {b : ℕ} {T T' : Chains} → Chained (bucket_at s Z st) T i → i < cells_most → b ≡ bucket_of (key_in q body_at) c → b < chains_all →
        T' ≡ pushed i b T → Chained (bucket_at s Z st) T' (i + 1)
    some_on {b} d l eb lb et =
        let e : b ≡ bucket_at s Z st i = eb ∙ chain_is in
        rw (et, e) (chained_push d l (rw e at lb))

-- ---- the search for a key and counter below a cell

module _ (s : Settings) (st : List ℕ) (Z i : ℕ) (k : List ℕ) (c : ℕ) {a : Bool} where
  pub new_found : {f : ℕ} → a ≡ true → f ≡ found_in s Z st i k c → eqb f i ≡ both a (new_to s Z st i k c)
  unfolding found_in new_to
  new_found {f} ea ef =
      rw ea
      (⊎_elim
      (λ e. e ∙ sym (none_new (λ j. carries_in k c (cell_at s Z st j)) i (sym ef ∙ eqb-true f i e)))
      (λ e. e ∙ sym (some_known (λ j. carries_in k c (cell_at s Z st j)) i (λ y. eqb-false f i e (ef ∙ y))))
      (bool (eqb f i)))

  pub new_not : a ≡ false → false ≡ both a (new_to s Z st i k c)
  new_not e = rw e refl
