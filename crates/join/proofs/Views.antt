-- The view of what joining tells is the body: that of the arrived packet where it came whole, else that of the message which was taken;
-- and no octets after a refusal.
-- Assumes nothing.
use Prim.Native.Nat.{ℕ, ◌+◌, ◌-◌, ◌≤◌}
use mathlib.Core.Path.{◌≡◌, refl, ap, ap₂, sym, ◌∙◌, subst}
use mathlib.Core.Bool.{Bool, false}
use mathlib.Core.List.Memᴰ
use mathlib.Core.List.{List, [], ◌++◌}
use native.Mathlib.Omega.{arith}
use lib.ListN.{length, take, drop, length-append, length-take}
use lib.Seq.{sets, length-sets, sets-eq, drop-append-le, drop-append_seam, take-append_seam}
use borrow.Author.Tests.{le-leb}
use Rattle.octets.specs.Octets.{pick, part, Octets}
use Rattle.walk.specs.declared.Settings.{Settings}
use Rattle.packet.specs.Reading.{read_packet, segmented}
use Rattle.packet.specs.Key.{key_of}
use Rattle.format.proofs.Accepting.{accepted}
use Rattle.cells.specs.Segments.{Seg, seg_of}
use Rattle.cells.specs.Rows.{held, row_at, packet_in, cell_of}
use Rattle.cells.proofs.Carries.{held_is}
use Rattle.cells.specs.Messages.{body_of}
use Rattle.arrival.specs.Arriving.{Arrived, whole, stored, again, late, refused, arrived, store_with}
use Rattle.taking.specs.Taking.{Took, message, unable, took, out_with}
use Rattle.cells.proofs.Opens.{opens}
use Rattle.taking.proofs.Tells.{taken_tells, segment_held}
use Rattle.join.specs.declared.Which.TheVariants.{Packet}
use Rattle.join.specs.Viewing.{inside, viewed}
use Rattle.join.specs.Joining.{Joining, in_packet, in_output, unjoined, body_from, took_as, joined_by, out_by, joining, out_joined}
use Rattle.join.specs.Told.{joined_of}
use Rattle.join.proofs.Parts.{nothing}
use Rattle.join.proofs.Coming.{whole_tells, whole_place}

-- the body that is joined: as reading tells it of a whole packet, or of the segments of a message
abbrev pub body_joined : Settings → List ℕ → Joining → List ℕ
body_joined s p (in_packet place long) = part p (read_packet s p).body.at (read_packet s p).body.length
body_joined s p (in_output r) = body_of r
body_joined s p (unjoined k) = []

-- the view by joining's answer
abbrev pub view_joined : List ℕ → List ℕ → Joining → List ℕ
view_joined p out j = viewed (joined_of j).which p out (joined_of j).place (joined_of j).length

inside_is : (b : List ℕ) (place long : ℕ) → place + long ≤ length b → inside b place long ≡ part b place long
unfolding inside
inside_is b place long h = ap (λ (t : Bool). pick t (part b place long) []) (le-leb (place + long) (length b) h)

-- ---- a message

-- a body laid after its key, where both fit
laid_body :
    (k b out : List ℕ) (at : ℕ) → at ≡ length k → length (k ++ b) ≤ length out → inside (sets out 0 (k ++ b)) at (length b) ≡ b
laid_body k b out at e h =
    let l = length-append k b in
    let a : at + length b ≤ length (sets out 0 (k ++ b)) = omega (arith, l, length-sets out 0 (k ++ b)) in
    let n : length k ≤ length (k ++ b) = omega (arith, l) in
    let f : 0 + length (k ++ b) ≤ length out = omega arith in
    inside_is (sets out 0 (k ++ b)) at (length b) a
    ∙ ap₂ (λ (x : List ℕ) (i : ℕ). take (length b) (drop i x)) (sets-eq (k ++ b) out 0 f) e
    ∙ ap (take (length b)) (drop-append-le (length k) (k ++ b) (drop (0 + length (k ++ b)) out) n)
    ∙ ap (λ (x : List ℕ). take (length b) (x ++ drop (0 + length (k ++ b)) out)) (drop-append_seam k b)
    ∙ take-append_seam b (drop (0 + length (k ++ b)) out)

front_two : (x y : List ℕ) → 2 ≤ length x → 2 ≤ length (x ++ y)
front_two x y h = omega (arith, length-append x y)

-- a key begins with the two octets of identification
key_two : (s : Settings) (p : List ℕ) → (read_packet s p).refusal.number ≡ 0 → 2 ≤ length (key_of p (read_packet s p))
unfolding key_of
key_two s p z =
    let h : 2 ≤ length (part p 0 2) = omega (arith, (opens s p z).six, length-take 2 p) in
    front_two (part p 0 2) _ h

key_seg : (s : Settings) (p : List ℕ) → (read_packet s p).refusal.number ≡ 0 → 2 ≤ length (seg_of p (read_packet s p)).key
unfolding seg_of
key_seg s p z = key_two s p z

pub held_two : (s : Settings) (Z : ℕ) (r : List ℕ) (t : Seg) → cell_of s Z r ≡ held t → 2 ≤ length t.key
held_two s Z r t e =
    let h = held_is s Z r t e in
    let d : held (seg_of (packet_in r) (read_packet s (packet_in r))) ≡ held t = sym h.cell ∙ e in
    let f : seg_of (packet_in r) (read_packet s (packet_in r)) ≡ t = cc d in
    subst (λ (u : Seg). 2 ≤ length u.key) f (key_seg s (packet_in r) h.accepted)

module _ (s : Settings) (Z : ℕ) (p x out : List ℕ) where
  message_viewed :
      (t : Took) → took s Z x (length out) ≡ t →
      view_joined p (out_with out t) (took_as t) ≡ body_joined s p (took_as t)
  unfolding out_with viewed
  message_viewed (message r) e =
      let c = segment_held s Z x (length out) r e r.head (Memᴰ.head refl) in
      let k = held_two s Z (row_at Z x c.0) r.head c.2 in
      laid_body r.head.key (body_of r) out (2 + (length r.head.key - 2)) (omega arith)
      (taken_tells s Z x (length out) r e).fits
  message_viewed (unable k) e = sym (nothing p out 0 0)

-- ---- whole

whole_viewed :
    (s : Settings) (p out : List ℕ) → Octets p → (read_packet s p).refusal.number ≡ 0 → segmented p ≡ false →
    viewed Packet p out (body_from s p) (length p - body_from s p) ≡ part p (read_packet s p).body.at (read_packet s p).body.length
unfolding viewed
whole_viewed s p out o z u =
    let w = whole_place s p o z u in
    let k = accepted s p o z in
    let h : body_from s p + (length p - body_from s p) ≤ length p = omega (arith, k.body_end, w.0) in
    inside_is p (body_from s p) (length p - body_from s p) h ∙ ap₂ (part p) (sym w.0) (sym w.1)

-- ---- joining

module _ (s : Settings) (Z : ℕ) (st p out : List ℕ) (o : Octets p) where
  viewed_by :
      (b : Arrived) → arrived s Z st p ≡ b →
      view_joined p (out_by s Z st p out b) (joined_by s Z st p (length out) b) ≡ body_joined s p (joined_by s Z st p (length out) b)
  viewed_by whole e = let t = whole_tells s Z st p e in whole_viewed s p out o t.0 t.1
  viewed_by (stored i) e =
      let x = store_with Z st p (stored i) in message_viewed s Z p x out (took s Z x (length out)) refl
  viewed_by again e = let x = store_with Z st p again in message_viewed s Z p x out (took s Z x (length out)) refl
  viewed_by late e = let x = store_with Z st p late in message_viewed s Z p x out (took s Z x (length out)) refl
  viewed_by (refused k) e = sym (nothing p out 0 0)

  pub joining_viewed :
      view_joined p (out_joined s Z st p out) (joining s Z st p (length out)) ≡ body_joined s p (joining s Z st p (length out))
  unfolding joining out_joined
  joining_viewed = viewed_by (arrived s Z st p) refl
