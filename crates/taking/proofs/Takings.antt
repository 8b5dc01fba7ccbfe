-- Taking, case by case as the code tells them apart: nothing complete, an output too short, a message.
-- Assumes nothing.
use Prim.Native.Nat.{ℕ, ◌+◌, ◌*◌, ◌≤◌, ◌<◌}
use mathlib.Core.Path.{◌≡◌, refl, ap, sym, ◌∙◌}
use mathlib.Core.List.{List}
use mathlib.Core.Option.{Option, none, some}
use native.Mathlib.Omega.{arith}
use lib.ListN.{length, length-append}
use Rattle.octets.specs.Octets.{Octets, number}
use Rattle.octets.proofs.Has.{octets_part}
use Rattle.walk.specs.declared.Settings.{Settings}
use Rattle.packet.specs.Numbers.{next_counter, steps_most}
use Rattle.packet.specs.Answer.{Header}
use Rattle.packet.specs.Reading.{read_packet}
use Rattle.format.specs.Told.{values_of}
use Rattle.format.proofs.Accepting.{accepted}
use Rattle.format.proofs.Frame.{identification_long}
use Rattle.packet.specs.Format.{identification, header_octets}
use Rattle.cells.specs.Segments.{seg_of}
use Rattle.cells.specs.Rows.{row_at, packet_in}
use Rattle.cells.specs.Order.{lowest}
use Rattle.std.specs.Prelude.{Some, None}
use Rattle.std.specs.Prelude.{Option as CodeOption}
use Rattle.taking.specs.declared.Message.{Message}
use Rattle.cells.specs.Messages.{Run, body_of, cells_of, picked}
use Rattle.taking.specs.Taking.{unable, drawn, took_in}
use Rattle.taking.specs.Follow.{seg_at, answer, message_at, chosen, opens_at, ends_at, picked_of}
use Rattle.taking.proofs.Ends.{nothing_complete}
use Rattle.taking.proofs.Drawing.{Message as Message·of, the_message, message_held, picked_below, took_none, took_short}

-- what a message that was picked tells
chosen_tells : (i : ℕ) (o : Option Run) {cell body : ℕ} → message_at cell body ≡ chosen i o → (cell ≡ i) × ((Some body ≡ answer o) × (o ≡ none → ⊥))
chosen_tells i none e = let z : ◌≡◌ {A = ℕ} 0 1 = cc in absurd (omega arith)
chosen_tells i (some r) {cell} {body} e =
    let m : Message = record { cell = cell; body = body } in
    let d : m ≡ record { cell = i; body = length (body_of r) } = cc in
    let a : cell ≡ i = ap (λ (x : Message). x.cell) d in
    let b : body ≡ length (body_of r) = ap (λ (x : Message). x.body) d in
    (a, (ap (λ (x : ℕ). Some x) b, λ d. let z : ◌≡◌ {A = ℕ} 0 1 = cc in omega arith))

chosen_none : (i : ℕ) (o : Option Run) → None ≡ chosen i o → o ≡ none
chosen_none i none e = refl
chosen_none i (some r) e = let z : ◌≡◌ {A = ℕ} 0 1 = cc in absurd (omega arith)

module _ (s : Settings) (Z : ℕ) (st : List ℕ) (n : ℕ) {u : CodeOption Message} (eu : u ≡ picked_of next_counter steps_most s Z st n) where
  pub taking_none : (long : ℕ) → u ≡ None → took_in s Z st n long ≡ unable 20
  unfolding took_in picked_of
  taking_none long e = took_none next_counter steps_most s Z st n long (chosen_none _ _ (sym e ∙ eu))

  module _ {cell body : ℕ} (em : u ≡ message_at cell body) where
    told :
        (cell ≡ lowest (opens_at next_counter steps_most s Z st n) n 0)
        × ((Some body ≡ answer (picked next_counter steps_most (cells_of s Z st n))) × (picked next_counter steps_most (cells_of s Z st n) ≡ none → ⊥))
    unfolding picked_of
    told = chosen_tells _ _ (sym em ∙ eu)

    pub cell_is : cell ≡ lowest (opens_at next_counter steps_most s Z st n) n 0
    cell_is = told.0

    pub taking_body : Some body ≡ answer (picked next_counter steps_most (cells_of s Z st n))
    taking_body = told.1.0

    pub taking_below : cell < n
    taking_below = let h = picked_below next_counter steps_most s Z st n told.1.1 in omega (arith, cell_is)

    m : Message·of next_counter steps_most s Z st n cell
    m = the_message next_counter steps_most s Z st n cell_is taking_below

    module _ {r q : List ℕ} {h : Header} (er : r ≡ row_at Z st cell) (eq : q ≡ packet_in r) (eh : h ≡ read_packet s q) where
      read_is : h ≡ read_packet s (packet_in (row_at Z st cell))
      read_is = eh ∙ ap (read_packet s) (eq ∙ ap packet_in er)

      -- its packet is one that reading accepts
      pub taking_read : h.refusal.number ≡ 0
      taking_read =
          ap (λ (x : Header). x.refusal.number) read_is ∙ (message_held next_counter steps_most s Z st n cell_is taking_below).accepted

    module _ (o : Octets st) {r q : List ℕ} {h : Header} (er : r ≡ row_at Z st cell) (eq : q ≡ packet_in r) (eh : h ≡ read_packet s q) where
      -- the key is two octets of identification and H octets of header
      pub key_long_lem : length (seg_at s Z st cell).key ≡ 2 + h.h
      unfolding seg_of
      key_long_lem =
          let p = packet_in (row_at Z st cell) in
          let plain = octets_part (row_at Z st cell) 2 (number 2 (row_at Z st cell) 6 + 7) (octets_part st (cell * Z) Z o) in
          let a = accepted s p plain (message_held next_counter steps_most s Z st n cell_is taking_below).accepted in
          let v = (values_of p (read_packet s p)).head in
          let l = ap length a.key ∙ length-append (identification v) (header_octets s v) in
          omega (arith, a.h_is, identification_long v, ap (λ (x : Header). x.h) (read_is er eq eh))

      pub taking_short : (long : ℕ) → long < 2 + h.h + body → took_in s Z st n long ≡ unable 21
      unfolding took_in
      taking_short long k = let j : long < length (seg_at s Z st cell).key + body = omega (arith, key_long_lem) in took_short next_counter steps_most s Z st n m taking_body long j

      pub taking_room : (long : ℕ) → 2 + h.h + body ≤ long → length (seg_at s Z st cell).key + body ≤ long
      taking_room long k = omega (arith, key_long_lem)

-- where no cell holds a last, nothing is taken
pub took_nothing :
    (s : Settings) (Z : ℕ) (st : List ℕ) (n long : ℕ) → {r : ℕ} → r ≡ lowest (ends_at Z st) n 0 → n ≤ r →
    took_in s Z st n long ≡ unable 20
unfolding took_in
took_nothing s Z st n long e h = ap (λ (x : Option Run). drawn x long) (nothing_complete next_counter steps_most s Z st n e h)
