-- The message that opens in a cell, to the output: its key, the first's body, then the others'; and what is told of it.
-- Assumes nothing.
use Prim.Native.Nat.{ℕ, ◌+◌, ◌-◌, ◌*◌, ◌≤◌}
use mathlib.Core.Path.{◌≡◌, refl, ap, ap₂, sym, ◌∙◌, subst}
use mathlib.Core.Bool.{true}
use mathlib.Core.List.{List, ◌∷◌, ◌++◌}
use mathlib.Core.Option.{some}
use native.Mathlib.Omega.{arith}
use lib.ListN.{length, length-append}
use lib.Seq.{sets, length-sets}
use Rattle.octets.specs.Octets.{Octets, part, number}
use Rattle.octets.proofs.Has.{octets_part}
use Rattle.octets.proofs.Lists.{sets_append}
use Rattle.walk.specs.declared.Settings.{Settings}
use Rattle.packet.specs.Answer.{Header}
use Rattle.packet.specs.Format.{identification, header_octets}
use Rattle.packet.specs.Reading.{read_packet, segmented}
use Rattle.packet.specs.Key.{key_of}
use Rattle.format.specs.Told.{values_of}
use Rattle.format.proofs.Frame.{identification_long}
use Rattle.format.proofs.Accepting.{accepted}
use Rattle.cells.specs.Segments.{seg_of}
use Rattle.cells.specs.Rows.{held, row_at, packet_in}
use Rattle.cells.specs.Order.{cell_at}
use Rattle.cells.specs.Inner.{Asked}
use Rattle.cells.proofs.Carries.{Holding, held_is}
use Rattle.cells.specs.declared.messages.Piece.{Piece}
use Rattle.cells.specs.Pieces.{piece_of}
use Rattle.taking.specs.Follow.{seg_at, follow, places_of, places_from, bodies_at, copied_of, Ready, Opens}
use Rattle.taking.proofs.Bodies.{body_there}
use Rattle.taking.proofs.Copying.{key_places, key_long_lem}

-- one list after another from the front on
three_laid : (o a b d : List ℕ) → sets (sets (sets o 0 a) (length a) b) (length a + length b) d ≡ sets o 0 (a ++ (b ++ d))
three_laid o a b d =
    let z : length a ≡ 0 + length a = omega arith in
    sets_append (sets o 0 a) (length a) b d
    ∙ ap (λ (n : ℕ). sets (sets o 0 a) n (b ++ d)) z
    ∙ sets_append o 0 a (b ++ d)

-- H, by the key
pub header_of_lem : (s : Settings) (p : List ℕ) → Octets p → (read_packet s p).refusal.number ≡ 0 → (read_packet s p).h ≡ length (key_of p (read_packet s p)) - 2
header_of_lem s p o z =
    let a = accepted s p o z in
    let v = (values_of p (read_packet s p)).head in
    let l = ap length a.key ∙ length-append (identification v) (header_octets s v) in
    omega (arith, a.h_is, identification_long v)

-- a key has the two octets of identification
pub key_two : (s : Settings) (p : List ℕ) → Octets p → (read_packet s p).refusal.number ≡ 0 → 2 ≤ length (key_of p (read_packet s p))
key_two s p o z =
    let a = accepted s p o z in
    let v = (values_of p (read_packet s p)).head in
    let l = ap length a.key ∙ length-append (identification v) (header_octets s v) in
    omega (arith, identification_long v)

-- a segment's packet has eight octets more than its key: four of primary header, and the counter
pub key_fits : (s : Settings) (p : List ℕ) → Octets p → (read_packet s p).refusal.number ≡ 0 → segmented p ≡ true → length (key_of p (read_packet s p)) + 8 ≤ length p
key_fits s p o z g =
    let a = accepted s p o z in
    let q : Asked s p (read_packet s p).body.at = record { octets = o; accepted = z; segment = g; body = refl } in
    let c = key_places s p (read_packet s p).body.at q refl in
    omega (arith, key_long_lem s p (read_packet s p).body.at q refl, c.0, c.1.1, a.body_end)

-- the places of a run that is complete
places_are :
    (next : ℕ → ℕ) (span : ℕ) (s : Settings) (Z : ℕ) (st : List ℕ) (n : ℕ) (k : List ℕ) (c : ℕ) (js : List ℕ) →
    follow next span s Z st n k span c ≡ some js → places_from next span s Z st n k c ≡ js
unfolding places_from
places_are next span s Z st n k c js e = ap places_of e

module _ (next : ℕ → ℕ) (span : ℕ) (s : Settings) (Z : ℕ) (st : List ℕ) (n i : ℕ) (o : Octets st) (there : cell_at s Z st i ≡ held (seg_at s Z st i))
    {r q : List ℕ} {h : Header} {t : Piece} (er : r ≡ row_at Z st i) (eq : q ≡ packet_in r) (eh : h ≡ read_packet s q) (et : t ≡ piece_of (read_packet s (packet_in r))) where
  holds_it : Holding s Z (row_at Z st i)
  holds_it = held_is s Z (row_at Z st i) (seg_at s Z st i) there

  packet_is : q ≡ packet_in (row_at Z st i)
  packet_is = eq ∙ ap (λ (x : List ℕ). packet_in x) er

  pub head_asked : Asked s q h.body.at
  head_asked =
      record {
        octets = subst (λ (x : List ℕ). Octets x) (sym packet_is) (octets_part (row_at Z st i) 2 (number 2 (row_at Z st i) 6 + 7) (octets_part st (i * Z) Z o));
        accepted = ap (λ (x : List ℕ). (read_packet s x).refusal.number) packet_is ∙ holds_it.accepted;
        segment = rw packet_is holds_it.segment;
        body = ap (λ (x : Header). x.body.at) eh;
      }

  key_is : key_of q (read_packet s q) ≡ (seg_at s Z st i).key
  unfolding seg_of
  key_is = ap (λ (x : List ℕ). key_of x (read_packet s x)) packet_is

  counter_is : h.ids.counter.0 ≡ (seg_at s Z st i).counter
  unfolding seg_of
  counter_is = ap (λ (x : Header). x.ids.counter.0) eh ∙ ap (λ (x : List ℕ). (read_packet s x).ids.counter.0) packet_is

  next_is : next h.ids.counter.0 ≡ next (seg_at s Z st i).counter
  next_is = ap next counter_is

  -- the places of the others
  abbrev js : List ℕ
  js = places_from next span s Z st n (seg_at s Z st i).key (next (seg_at s Z st i).counter)

  others_are : places_from next span s Z st n (key_of q (read_packet s q)) (next h.ids.counter.0) ≡ js
  others_are = ap₂ (λ (k : List ℕ) (c : ℕ). places_from next span s Z st n k c) key_is next_is

  -- what is told
  pub head_told :
      {m : ℕ} → m ≡ length (places_from next span s Z st n (key_of q (read_packet s q)) (next h.ids.counter.0)) →
      record { header = h.h; counter = h.ids.counter; steps = m } ≡ copied_of (seg_at s Z st i) (length js)
  unfolding copied_of
  head_told em =
      let e : h.h ≡ length (seg_at s Z st i).key - 2 =
      ap (λ (x : Header). x.h) eh ∙ header_of_lem s q head_asked.octets head_asked.accepted ∙ ap (λ (x : List ℕ). length x - 2) key_is in
      let u = em ∙ ap length others_are in
      λ k. record { header = e k; counter = record { 0 = counter_is k }; steps = u k }

  abbrev x : List ℕ
  x = part (packet_in r) t.at t.length

  body_is : x ≡ (seg_at s Z st i).body
  body_is = body_there s Z st i er et

  whole_is : (seg_at s Z st i).key ++ bodies_at s Z st (i ∷ js) ≡ key_of q (read_packet s q) ++ (x ++ bodies_at s Z st js)
  unfolding bodies_at
  whole_is = ap₂ (λ (k b : List ℕ). k ++ (b ++ bodies_at s Z st js)) (sym key_is) (sym body_is)

  module _ {out : List ℕ} (w : Opens next span s Z st n i out) where
    places_is : js ≡ w.places
    places_is = places_are next span s Z st n (seg_at s Z st i).key (next (seg_at s Z st i).counter) w.places w.complete

    -- there is room for all of it
    room : length (key_of q (read_packet s q)) + (length x + length (bodies_at s Z st js)) ≤ length out
    room =
        let a = ap length whole_is ∙ length-append (key_of q (read_packet s q)) (x ++ bodies_at s Z st js) in
        let b = length-append x (bodies_at s Z st js) in
        let d = length-append (seg_at s Z st i).key (bodies_at s Z st (i ∷ js)) in
        let e = ap (λ (l : List ℕ). length (bodies_at s Z st (i ∷ l))) places_is in
        omega (arith, w.room)

    pub head_key_room : length (key_of q (read_packet s q)) ≤ length out
    head_key_room = omega (arith, room)

    module _ {key : ℕ} {one : List ℕ} (ek : key ≡ length (key_of q (read_packet s q))) (eo : one ≡ sets out 0 (key_of q (read_packet s q))) where
      pub head_body_room : key + length x ≤ length one
      head_body_room = omega (arith, room, ap length eo, length-sets out 0 (key_of q (read_packet s q)))

      module _ {at : ℕ} {two : List ℕ} (ea : at ≡ key + length x) (ew : two ≡ sets one key x) where
        pub head_ready : Ready next span s Z st n (key_of q (read_packet s q)) (next h.ids.counter.0) at two
        head_ready =
            let f : follow next span s Z st n (key_of q (read_packet s q)) span (next h.ids.counter.0) ≡ some w.places =
            ap₂ (λ (k : List ℕ) (c : ℕ). follow next span s Z st n k span c) key_is next_is ∙ w.complete in
            let l = ap (λ (y : List ℕ). length (bodies_at s Z st y)) others_are in
            record {
              complete = f ∙ ap some (sym (others_are ∙ places_is));
              room =
                  omega
                  (arith, room, ap length eo, length-sets out 0 (key_of q (read_packet s q)), ap length ew, length-sets one key x);
            }

        pub head_written :
            {m : List ℕ} → m ≡ sets two at (bodies_at s Z st (places_from next span s Z st n (key_of q (read_packet s q)) (next h.ids.counter.0))) →
            m ≡ sets out 0 ((seg_at s Z st i).key ++ bodies_at s Z st (i ∷ js))
        head_written em =
            em
            ∙ ap (λ (y : List ℕ). sets two at (bodies_at s Z st y)) others_are
            ∙ ap₂ (λ (y : List ℕ) (p : ℕ). sets y p (bodies_at s Z st js))
            (ew ∙ ap₂ (λ (y : List ℕ) (p : ℕ). sets y p x) eo ek)
            (ea ∙ ap (λ (p : ℕ). p + length x) ek)
            ∙ three_laid out (key_of q (read_packet s q)) x (bodies_at s Z st js)
            ∙ ap (sets out 0) (sym whole_is)
