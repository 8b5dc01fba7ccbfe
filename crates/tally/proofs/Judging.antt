-- A cell as the code judges it: whether it is held, and whether it has a key.
-- Assumes nothing.
use Prim.Native.Nat.{ℕ, ◌+◌}
use mathlib.Core.Path.{◌≡◌, ap, ap₂, sym, ◌∙◌}
use mathlib.Core.Logic.{⊎_elim}
use mathlib.Core.Bool.{Bool, true, false}
use mathlib.Core.List.{List}
use mathlib.Core.Option.{none}
use Rattle.std.specs.Prelude.{Option, Some}
use Rattle.octets.specs.Octets.{Octets, number, alike}
use Rattle.octets.proofs.Has.{octets_part}
use Rattle.walk.specs.declared.Settings.{Settings}
use Rattle.packet.specs.Reading.{read_packet}
use Rattle.packet.specs.Answer.{Header}
use Rattle.packet.specs.Key.{key_of}
use Rattle.cells.specs.declared.Judged.{Judged}
use Rattle.cells.specs.Segments.{seg_of, Seg}
use Rattle.cells.specs.Rows.{Cell, held, row_at, packet_in, cell_of, segment_in, by_segment}
use Rattle.cells.specs.Order.{cell_at}
use Rattle.cells.specs.Inner.{spans_alike, body_in, judged_of, told_held, told_body, Asked}
use Rattle.cells.proofs.Carries.{not_held, Holding, kinds}
use Rattle.cells.proofs.CellSegments.{segment_or, judged_none}
use Rattle.cells.proofs.SameKeys.{keys_same}
use Rattle.cells.proofs.Entering.{asked}
use Rattle.tally.specs.Counting.{is_held, keyed, new_key_to, new_key_in}
use Rattle.tally.specs.declared.Told.{Told}
use Rattle.tally.specs.Telling.{key_at, untold, told_by, told_in, told_at}

-- ---- by what is told of it

module _ (at : ℕ) (d : Cell) {t : Judged} (e : t ≡ judged_of at d) where
  -- one that is held is judged so, and no other
  held_one : (u : Seg) → d ≡ held u → told_held t ≡ true
  held_one u x = ap told_held (e ∙ ap (judged_of at) x)

  none_other : segment_in d ≡ none → told_held t ≡ false
  none_other n = ap told_held e ∙ (judged_none at d n).0

  not_one : told_held t ≡ false → segment_in d ≡ none
  not_one h = ⊎_elim (λ w. absurd (not_held (held_one w.0 w.1) h)) (λ n. n) (segment_or d)

  pub held_told : told_held t ≡ is_held d
  held_told =
      ⊎_elim (λ w. held_one w.0 w.1 ∙ sym (ap is_held w.1)) (λ n. none_other n ∙ sym (ap (by_segment false (λ u. true)) n)) (segment_or d)

  other_key : (k : List ℕ) → told_held t ≡ false → false ≡ keyed k d
  other_key k h = sym (ap (by_segment false (λ u. alike k u.key)) (not_one h))

  other_first : (s : Settings) (Z : ℕ) (st : List ℕ) (i : ℕ) → told_held t ≡ false → false ≡ new_key_in s Z st i d
  other_first s Z st i h = sym (ap (by_segment false (λ u. new_key_to s Z st i u.key)) (not_one h))

  other_told : (s : Settings) (Z : ℕ) (st : List ℕ) (i : ℕ) → told_held t ≡ false → untold ≡ told_in s Z st i d
  other_told s Z st i h = sym (ap (by_segment untold (told_by s Z st i (read_packet s (packet_in (row_at Z st i))))) (not_one h))

-- ---- a row

module _ (s : Settings) (Z : ℕ) (r : List ℕ) {t : Judged} (et : t ≡ judged_of (body_in s r) (cell_of s Z r)) where
  pub key_none : (k : List ℕ) → told_held t ≡ false → false ≡ keyed k (cell_of s Z r)
  key_none k h = other_key (body_in s r) (cell_of s Z r) et k h

  module _ (one : told_held t ≡ true) where
    pub there : Holding s Z r
    there = ⊎_elim (λ h. h) (λ n. absurd (not_held one (none_other (body_in s r) (cell_of s Z r) et n))) (kinds s Z r)

    abbrev p : List ℕ
    p = packet_in r

    body_is : told_body t ≡ (read_packet s p).body.at
    body_is = ap (λ (x : Judged). told_body x) (et ∙ ap (judged_of (body_in s r)) there.cell)

    pub key_told :
        (o : Octets r) {q x : List ℕ} {body_at : ℕ} {b : Bool} → Asked s q body_at → x ≡ p → b ≡ spans_alike q body_at x (told_body t) →
        b ≡ keyed (key_of q (read_packet s q)) (cell_of s Z r)
    unfolding seg_of
    key_told o {q} {x} {body_at} {b} a ex eb =
        eb
        ∙ ap₂ (λ (y : List ℕ) (m : ℕ). spans_alike q body_at y m) ex body_is
        ∙ ap (λ (m : ℕ). spans_alike q m p (read_packet s p).body.at) a.body
        ∙ keys_same s q p a.octets (octets_part r 2 (number 2 r 6 + 7) o) a.accepted there.accepted a.segment there.segment
        ∙ sym (ap (keyed (key_of q (read_packet s q))) there.cell)

-- ---- a segment's answers, from what reading told

abbrev tellings : Header → ℕ → Option Told
tellings h k =
    Some (record {
      key = k;
      packet_type = h.primary.packet_type;
      apid = h.primary.apid.0;
      sdu = h.fixed.sdu;
      transaction = h.fixed.transaction;
      flags = h.primary.flags;
      counter = h.ids.counter.0;
    })

pub told_fields :
    (s : Settings) (Z : ℕ) (st : List ℕ) (i : ℕ) (q : List ℕ) {h : Header} {k : ℕ} → h ≡ read_packet s q → k ≡ key_at s Z st i (key_of q (read_packet s q)) →
    tellings h k ≡ told_by s Z st i (read_packet s q) (seg_of q (read_packet s q))
unfolding seg_of
told_fields s Z st i q eh ek = ap₂ tellings eh ek

-- ---- cell i of a store

module _ (s : Settings) (st : List ℕ) (Z i : ℕ) {r : List ℕ} (er : r ≡ row_at Z st i) {t : Judged} (et : t ≡ judged_of (body_in s r) (cell_of s Z r)) where
  cell_is : cell_at s Z st i ≡ cell_of s Z r
  cell_is = ap (cell_of s Z) (sym er)

  pub first_none : told_held t ≡ false → false ≡ new_key_in s Z st i (cell_at s Z st i)
  first_none h = other_first (body_in s r) (cell_of s Z r) et s Z st i h ∙ ap (new_key_in s Z st i) (sym cell_is)

  pub told_none : told_held t ≡ false → untold ≡ told_at s Z st i
  told_none h = other_told (body_in s r) (cell_of s Z r) et s Z st i h ∙ ap (told_in s Z st i) (sym cell_is)

  module _ (one : told_held t ≡ true) {q : List ℕ} (eq : q ≡ packet_in r) where
    pub first_asked : Octets st → Asked s q (told_body t)
    first_asked o = asked s st Z i er et o one eq

    pub first_told : {b : Bool} → b ≡ new_key_to s Z st i (key_of q (read_packet s q)) → b ≡ new_key_in s Z st i (cell_at s Z st i)
    unfolding seg_of
    first_told e =
        e
        ∙ ap (λ (x : List ℕ). new_key_to s Z st i (key_of x (read_packet s x))) eq
        ∙ sym (ap (new_key_in s Z st i) (cell_is ∙ (there s Z r et one).cell))

    pub told_told : {a : Option Told} → a ≡ told_by s Z st i (read_packet s q) (seg_of q (read_packet s q)) → a ≡ told_at s Z st i
    told_told e =
        e
        ∙ ap (λ (x : List ℕ). told_by s Z st i (read_packet s x) (seg_of x (read_packet s x))) eq
        ∙ ap (λ (x : List ℕ). told_by s Z st i (read_packet s (packet_in x)) (seg_of (packet_in r) (read_packet s (packet_in r)))) er
        ∙ sym (ap (told_in s Z st i) (cell_is ∙ (there s Z r et one).cell))
