-- A taking at a store's octets, from the taking at its cells: what it writes and tells, and what it leaves in the cells, octet by octet;
-- with enough output and with less; and takings one after the other.
-- Assumes nothing.
use Prim.Native.Nat.{ℕ, ◌+◌, ◌-◌, ◌≤◌, ◌<◌}
use mathlib.Core.Path.{◌≡◌, refl, ap, sym, ◌∙◌, subst}
use mathlib.Core.Bool.{Bool, true, false, true≢false}
use mathlib.Core.Option
use mathlib.Core.Option.{none, some}
use mathlib.Core.List.{List, [], ◌∷◌, ◌++◌, map, Memᴰ}
use native.Mathlib.Omega.{arith}
use lib.ListN.{length, drop, length-append, length-map}
use lib.Seq.{sets-eq}
use Rattle.octets.specs.Octets.{pick}
use Rattle.walk.specs.declared.Settings.{Settings}
use Rattle.packet.specs.Numbers.{next_counter, steps_most}
use Rattle.cells.specs.Rows.{Cell, held, row_at, zero_row}
use Rattle.cells.specs.Order.{count_in, cell_at}
use Rattle.taking.specs.Answer.{Taken}
use Rattle.cells.specs.Messages.{Run, body_of, segments, picked}
use Rattle.taking.specs.Taking.{Took, message, unable, writing, took, out_with, store_less, record_of}
use Rattle.walk.specs.Walk.{refusal}
use Rattle.taking.specs.Told.{taken_of}
use Rattle.cells.proofs.Picking.{pick_yes}
use Rattle.taking.proofs.Tells.{taken_tells, segment_held}
use Rattle.demand3.proofs.Zeroed.{recorded_row, zeroed_row, other_row}
use Rattle.demand3.proofs.Untouched.{unable_same, unable_output}
use Rattle.demand3.specs.Traffic.{body_in, run_of, takes, taken_from, after}
use Rattle.demand3.specs.Promise.{Original, Gives, Output, LongEnough as CellLongEnough, Handed}
use Rattle.join.specs.Joining.{less_taken}
use Rattle.demand3.specs.Calls.{Call, taking, out_of, draws, store_at, took_by, store_by, out_by, store_after}
use Rattle.demand3.specs.Sendings.{Sending, whole_body, many_of, segment_at, identification_of, header_of, key_in, header_size, body_size, start_of, record_sent, IsCut}
use Rattle.demand3.specs.Presupposed.{cells_in}
use Rattle.demand3.specs.Whole.{Holds, Delivers, Picks, Takes, HandsOut}
use Rattle.demand3.proofs.Called.{store_by_lem, out_by_lem}
use Rattle.demand3.proofs.Plain.{plain_takings}
use Rattle.demand3.proofs.Sents.{sent_of, first_is, own_in, in_own, body_is, end_is, key_long_lem}
use Rattle.demand3.proofs.Links.{opened_end, sent_opened, sent_key, sent_start, sent_length}
use Rattle.demand3.proofs.ReadAs.{start_fits}
use Rattle.sender.proofs.Stepping.{no_return}
use Rattle.demand3.proofs.Steps.{Kept, took_is}
use Rattle.demand3.proofs.Events.{events_takings}
use Rattle.demand3.proofs.Simulates.{by_took, run_keeps, run_cells}
use Rattle.sender.specs.Sending.{steps_of}

module _ {A B : Type 0} (f : A → B) where
  pub map_split : (l : List A) (x : List B) (e : B) (y : List B) → map f l ≡ x ++ e ∷ y →
      (p : List A) × (c : A) × (q : List A) × (l ≡ p ++ c ∷ q) × (map f p ≡ x) × (f c ≡ e)
  map_split [] [] e y h = absurd (let z : ◌≡◌ {A = ℕ} 0 1 = cc in omega arith)
  map_split [] (b ∷ x) e y h = absurd (let z : ◌≡◌ {A = ℕ} 0 1 = cc in omega arith)
  map_split (a ∷ l) [] e y h = ([], a, l, refl, refl, cc)
  map_split (a ∷ l) (b ∷ x) e y h =
      let t : map f l ≡ x ++ e ∷ y = cc in
      let g : f a ≡ b = cc in
      let v = map_split l x e y t in
      (a ∷ v.0, v.1, v.2, ap (λ (z : List A). a ∷ z) {y = v.0 ++ v.1 ∷ v.2} v.3, cc (v.4, g), v.5)

-- what is written, and after it the output as it was
pub written_out : (out w : List ℕ) (r : Run) → writing r ≡ w → length (writing r) ≤ length out → out_with out (message r) ≡ w ++ drop (length w) out
unfolding out_with
written_out out w r e l =
    let z : 0 + length (writing r) ≡ length (writing r) = omega arith in
    sets-eq (writing r) out 0 (omega arith) ∙ ap (λ (k : ℕ). writing r ++ drop k out) z
    ∙ ap (λ (x : List ℕ). x ++ drop (length x) out) e

same_taken : {h k b d c e : ℕ} → h ≡ k → b ≡ d → c ≡ e →
    ◌≡◌ {A = Taken} (record { refusal = refusal 0; header = h; body = b; counter = record { 0 = c } })
    (record { refusal = refusal 0; header = k; body = d; counter = record { 0 = e } })
same_taken p q r = λ i. record { refusal = refusal 0; header = p i; body = q i; counter = record { 0 = r i } }

-- the record of a message's run
sent_record : (s : Settings) (Z : ℕ) (m : Sending) → IsCut s Z m → record_of Z (run_of next_counter (sent_of s m)) ≡ record_sent s Z m
unfolding record_of
sent_record s Z m k =
    rw (
      sent_key next_counter (sent_of s m),
      opened_end next_counter (run_of next_counter (sent_of s m)) (sent_opened next_counter (sent_of s m)),
      sent_start next_counter (sent_of s m),
      sent_length next_counter (sent_of s m),
      end_is s Z m k,
    )

module _ (s : Settings) (Z n : ℕ) (m : Sending) (k : IsCut s Z m) where
  -- ---- what is handed out

  -- the key and the body are 2 + H + B octets
  all_long : length (key_in s m ++ whole_body m) ≡ 2 + header_size s m + body_size s m
  all_long = length-append (key_in s m) (whole_body m) ∙ ap (λ (x : ℕ). x + body_size s m) (key_long_lem s Z m k)

  module _ (st : List ℕ) (c : Call) (kept : Kept s Z n (store_at s Z st c)) where
    abbrev at : List ℕ
    at = store_at s Z st c

    abbrev long : ℕ
    long = length (out_of c)

    -- a call that takes the original
    pub delivers : draws s Z st c ≡ true → (r : Run) → took s Z at long ≡ message r → Original next_counter (sent_of s m) r → Delivers s Z n m st c
    unfolding took_by
    delivers d r e o =
        record { told = tells; written = writes; there = held_there; recorded = records; zeroed = zeroes; others = leaves }
      where
        body_same : body_of r ≡ whole_body m
        body_same = o.body ∙ body_is s Z m k

        all_same : writing r ≡ key_in s m ++ whole_body m
        all_same = ap (λ (x : List ℕ). x ++ body_of r) o.key ∙ ap (λ (x : List ℕ). key_in s m ++ x) body_same

        tells : Option.map taken_of (took_by s Z st c) ≡
            some (record { refusal = refusal 0; header = header_size s m; body = body_size s m; counter = record { 0 = start_of s m } })
        tells =
            let l : length r.head.key ≡ 2 + header_size s m = ap length o.key ∙ key_long_lem s Z m k in
            let h : length r.head.key - 2 ≡ header_size s m = omega arith in
            ap (λ (b : Bool). Option.map taken_of (pick b (some (took s Z at long)) none)) d
            ∙ ap (λ (x : Took). some (taken_of x)) e
            ∙ ap some (same_taken h (ap length body_same) o.counter)

        writes : out_by s Z st c ≡
            identification_of s m ++ header_of s m ++ whole_body m ++ drop (2 + header_size s m + body_size s m) (out_of c)
        writes =
            out_by_lem s Z st c ∙ pick_yes (draws s Z st c) (out_with (out_of c) (took s Z at long)) (out_of c) d ∙ ap (out_with (out_of c)) e
            ∙ written_out (out_of c) (key_in s m ++ whole_body m) r all_same (taken_tells s Z at long r e).fits
            ∙ ap (λ (x : ℕ). key_in s m ++ whole_body m ++ drop x (out_of c)) all_long

        mine : (i : ℕ) → i < many_of s m → Memᴰ (segment_at s m i) (segments r)
        mine i l = subst (Memᴰ (segment_at s m i)) (sym o.own) (own_in s Z m k i l)

        held_there : (i : ℕ) → i < many_of s m → (j : ℕ) × (j < n) × (cell_at s Z at j ≡ held (segment_at s m i))
        held_there i l =
            let v = segment_held s Z at long r e (segment_at s m i) (mine i l) in
            (v.0, subst (λ (x : ℕ). v.0 < x) kept.count v.1, v.2)

        behind : (j : ℕ) → row_at Z (store_by s Z st c) j ≡ row_at Z (store_less s Z at (count_in Z at) (message r)) j
        behind j =
            ap (λ (x : List ℕ). row_at Z x j) (store_by_lem s Z st c ∙ pick_yes (draws s Z st c) (less_taken s Z at long) at d)
            ∙ ap (λ (x : Took). row_at Z (store_less s Z at (count_in Z at) x) j) e

        its_run : r ≡ run_of next_counter (sent_of s m)
        its_run =
            let a : r.head ≡ (run_of next_counter (sent_of s m)).head = cc o.own in
            let b : r.rest ≡ (run_of next_counter (sent_of s m)).rest = cc o.own in
            λ i. record { head = a i; rest = b i }

        first_here : r.head ≡ segment_at s m 0
        first_here = ap (λ (x : Run). x.head) its_run ∙ first_is s Z m k

        not_first : (i : ℕ) → 0 < i → i < many_of s m → (segment_at s m i).counter ≡ r.head.counter → ⊥
        not_first i a b q =
            no_return i (start_of s m) (start_fits s Z m k) a (omega (arith, k.most)) (q ∙ o.counter)

        record_same : record_of Z r ≡ record_sent s Z m
        record_same = ap (record_of Z) its_run ∙ sent_record s Z m k

        records : (j : ℕ) → j < n → cell_at s Z at j ≡ held (segment_at s m 0) → row_at Z (store_by s Z st c) j ≡ record_sent s Z m
        records j l h =
            behind j
            ∙ recorded_row s Z at kept.octets long r e j (subst (λ (x : ℕ). j < x) (sym kept.count) l) (h ∙ ap held (sym first_here))
            ∙ record_same

        zeroes : (j : ℕ) → j < n → (i : ℕ) → 0 < i → i < many_of s m → cell_at s Z at j ≡ held (segment_at s m i) → row_at Z (store_by s Z st c) j ≡ zero_row Z
        zeroes j l i o' i' h =
            behind j
            ∙ zeroed_row s Z at kept.octets long r e j (subst (λ (x : ℕ). j < x) (sym kept.count) l) (segment_at s m i) (mine i i') (not_first i o' i') h

        leaves : (j : ℕ) → j < n → (Holds s Z n m at j → ⊥) → row_at Z (store_by s Z st c) j ≡ row_at Z at j
        leaves j l f =
            behind j
            ∙ other_row s Z at kept.octets long r e j (subst (λ (x : ℕ). j < x) (sym kept.count) l)
            (λ t h y.
            let v = in_own s Z m k t (subst (Memᴰ t) o.own h) in
            f (v.0, v.1, y ∙ ap held v.2))

    -- a taking at the cells is a taking at the octets
    pub takes_of : Gives next_counter steps_most (sent_of s m) (cells_in s Z n at) → Output next_counter steps_most (sent_of s m) (cells_in s Z n at) → Takes s Z n m st c
    unfolding took_by steps_of
    takes_of g u = record { gives = given; enough = plenty; short = brief }
      where
        size : length (key_in s m) + length (body_in (sent_of s m)) ≡ 2 + header_size s m + body_size s m
        size = ap (λ (x : List ℕ). length (key_in s m) + length x) (body_is s Z m k) ∙ ap (λ (x : ℕ). x + body_size s m) (key_long_lem s Z m k)

        hit : draws s Z st c ≡ true → (r : Run) → took s Z at long ≡ message r → r.head.key ≡ key_in s m →
            (i : ℕ) → i < many_of s m → r.head.counter ≡ (segment_at s m i).counter → Delivers s Z n m st c
        hit d r e a i l b =
            delivers d r e
            (g long r (segment_at s m i) (sym (took_is s Z n at kept long) ∙ e) (own_in s Z m k i l)
            a b)

        given : (r : Run) → took_by s Z st c ≡ some (message r) → r.head.key ≡ key_in s m →
            (i : ℕ) → i < many_of s m → r.head.counter ≡ (segment_at s m i).counter → Delivers s Z n m st c
        given r e = let b = by_took s Z st c r e in hit b.0 r b.1

        plenty : Picks s Z n m st c → 2 + header_size s m + body_size s m ≤ length (out_of c) → Delivers s Z n m st c
        plenty p l =
            let r = p.1.0 in
            let i = p.1.2 in
            let v = u.enough r p.1.1 i long (omega (arith, size)) in
            let z : 0 < many_of s m = omega (arith, k.many) in
            hit p.0 r (took_is s Z n at kept long ∙ v.0) i.0 0 z
            i.1

        brief : Picks s Z n m st c → length (out_of c) < 2 + header_size s m + body_size s m →
            (took_by s Z st c ≡ some (unable 21)) × (store_by s Z st c ≡ at) × (out_by s Z st c ≡ out_of c)
        brief p l =
            let v = u.short p.1.0 p.1.1 p.1.2 long (omega (arith, size)) in
            let w = took_is s Z n at kept long ∙ v.0 in (
              pick_yes (draws s Z st c) (some (took s Z at long)) none p.0 ∙ ap some w,
              store_by_lem s Z st c ∙ pick_yes (draws s Z st c) (less_taken s Z at long) at p.0 ∙ unable_same s Z at long 21 w,
              out_by_lem s Z st c ∙ pick_yes (draws s Z st c) (out_with (out_of c) (took s Z at long)) (out_of c) p.0 ∙ unable_output s Z at (out_of c) long 21 w,
            )

  -- a call that takes nothing
  pub idle_takes : (st : List ℕ) (c : Call) → draws s Z st c ≡ false → Takes s Z n m st c
  idle_takes st c d =
      record {
        gives = λ r e. absurd (true≢false (sym (by_took s Z st c r e).0 ∙ d));
        enough = λ p. absurd (true≢false (sym p.0 ∙ d));
        short = λ p. absurd (true≢false (sym p.0 ∙ d));
      }

  -- ---- takings one after the other

  module _ (st : List ℕ) (c : Kept s Z n st) where
    takings_cells : (outs : List (List ℕ)) →
        cells_in s Z n (store_after s Z st (map taking outs)) ≡ after next_counter steps_most (cells_in s Z n st) (map takes (map length outs))
    takings_cells outs = run_cells s Z n (map taking outs) st c (plain_takings outs) ∙ ap (after next_counter steps_most (cells_in s Z n st)) (events_takings s Z outs st)

    -- one of as many as there are cells hands out the message
    pub hands_of : Handed next_counter steps_most n (sent_of s m) (cells_in s Z n st) → HandsOut s Z n m st
    hands_of h outs l e = finish (h (map length outs) (omega (arith, length-map outs length)) enough)
      where
        enough : CellLongEnough next_counter steps_most (cells_in s Z n st) (map length outs)
        enough x y long r d p =
            let v = map_split length outs x long y d in
            let w : cells_in s Z n (store_after s Z st (map taking v.0)) ≡ after next_counter steps_most (cells_in s Z n st) (map takes x) =
            takings_cells v.0 ∙ ap (λ (z : List ℕ). after next_counter steps_most (cells_in s Z n st) (map takes z)) v.4 in
            subst (λ (z : ℕ). length (writing r) ≤ z) v.5
            (e v.0 v.2 v.1 r v.3 (ap (λ (z : List Cell). picked next_counter steps_most z) w ∙ p))

        finish : ((x : List ℕ) × (long : ℕ) × (y : List ℕ) × (map length outs ≡ x ++ long ∷ y) ×
            ((r : Run) × (taken_from next_counter steps_most (after next_counter steps_most (cells_in s Z n st) (map takes x)) long ≡ message r) × Original next_counter (sent_of s m) r)) →
            (x : List (List ℕ)) × (out : List ℕ) × (y : List (List ℕ)) × (outs ≡ x ++ out ∷ y) ×
            Delivers s Z n m (store_after s Z st (map taking x)) (taking out)
        finish a =
            let v = map_split length outs a.0 a.1 a.2 a.3 in
            let there = store_after s Z st (map taking v.0) in
            let kept = run_keeps s Z n (map taking v.0) st c (plain_takings v.0) in
            let w : cells_in s Z n there ≡ after next_counter steps_most (cells_in s Z n st) (map takes a.0) =
            takings_cells v.0 ∙ ap (λ (z : List ℕ). after next_counter steps_most (cells_in s Z n st) (map takes z)) v.4 in
            let t : took s Z there (length v.1) ≡ message a.4.0 =
            took_is s Z n there kept (length v.1) ∙ ap (λ (z : List Cell). taken_from next_counter steps_most z (length v.1)) w
            ∙ ap (taken_from next_counter steps_most (after next_counter steps_most (cells_in s Z n st) (map takes a.0))) v.5
            ∙ a.4.1 in
            (v.0, v.1, v.2, v.3, delivers there (taking v.1) kept refl a.4.0 t a.4.2)
