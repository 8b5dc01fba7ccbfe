-- A store of octets is one of octets after an arrival, a taking and a forgetting: what is laid over its cells are packets, keys and counters, and
-- zeros.
-- Assumes nothing.
use Prim.Native.Nat.{ℕ, zero, suc, ◌-◌, ◌*◌, ◌+◌, ◌<◌}
use mathlib.Core.Path.{◌≡◌, refl, sym, ◌∙◌, subst}
use mathlib.Core.Bool.{Bool, true, false}
use mathlib.Core.List.Memᴰ
use mathlib.Core.List.{List, [], ◌∷◌, ◌++◌}
use mathlib.Core.Option.{Option, none, some}
use native.Mathlib.Omega.{arith}
use lib.ListN.{length, set, replicate}
use lib.Seq.{sets}
use lib.Dec.{eqb}
use Rattle.octets.specs.Octets.{pick, part, wide, Octets}
use Rattle.octets.proofs.Has.{octets_nil, octets_one, octets_append, octets_part}
use Rattle.octets.proofs.Numbers.{wide_octets}
use Rattle.walk.specs.declared.Settings.{Settings}
use Rattle.packet.specs.Answer.{Header}
use Rattle.packet.specs.Format.{primary_size}
use Rattle.packet.specs.Reading.{read_packet, counter_size}
use Rattle.packet.specs.Key.{key_of, counter_place}
use Rattle.cells.specs.Segments.{Seg, seg_of, carries}
use Rattle.cells.specs.Rows.{held, row_at, size_in, packet_in, cell_of, segment_in, by_segment, held_row, zero_row, record_row}
use Rattle.cells.specs.Order.{cell_at, count_in}
use Rattle.cells.specs.Messages.{Run, segments, among}
use Rattle.cells.proofs.Carries.{held_is}
use Rattle.arrival.specs.Arriving.{Arrived, whole, stored, again, late, refused, store_with}
use Rattle.taking.specs.Cleared.{laid_at, cleared_to}
use Rattle.taking.specs.Taking.{Took, message, unable, took, last_of, record_of, left_by, left_in, store_less}
use Rattle.taking.specs.Forgetting.{forgot, store_forgotten}
use Rattle.taking.proofs.Tells.{segment_held}

-- ---- lists

octets_set : (l : List ℕ) (i v : ℕ) → Octets l → v < 256 → Octets (set l i v)
octets_set [] i v f h j = f j
octets_set (x ∷ l) zero v f h zero = h
octets_set (x ∷ l) zero v f h (suc j) = f (suc j)
octets_set (x ∷ l) (suc i) v f h zero = f 0
octets_set (x ∷ l) (suc i) v f h (suc j) = octets_set l i v (λ k. f (suc k)) h j

octets_sets : (l : List ℕ) (i : ℕ) (m : List ℕ) → Octets l → Octets m → Octets (sets l i m)
octets_sets l i [] f g = f
octets_sets l i (v ∷ m) f g = octets_sets (set l i v) (suc i) m (octets_set l i v f (g 0)) (λ j. g (suc j))

pub zeros_octets : (n : ℕ) → Octets (replicate n 0)
zeros_octets zero = octets_nil
zeros_octets (suc n) = octets_append (0 ∷ []) (replicate n 0) (octets_one 0 (omega arith)) (zeros_octets n)

-- ---- rows

held_octets : (Z : ℕ) (p : List ℕ) → Octets p → Octets (held_row Z p)
held_octets Z p o =
    octets_append (0x4d ∷ []) (0x53 ∷ (p ++ replicate (Z - (2 + length p)) 0)) (octets_one 0x4d (omega arith))
    (octets_append (0x53 ∷ []) (p ++ replicate (Z - (2 + length p)) 0) (octets_one 0x53 (omega arith))
    (octets_append p (replicate (Z - (2 + length p)) 0) o (zeros_octets (Z - (2 + length p)))))

record_octets : (Z : ℕ) (k : List ℕ) (c d : ℕ) → Octets k → Octets (record_row Z k c d)
record_octets Z k c d o =
    let n = Z - (2 + length k + 2 * 4) in
    octets_append (0x4d ∷ []) (0x54 ∷ (k ++ wide 4 c ++ wide 4 d ++ replicate n 0)) (octets_one 0x4d (omega arith))
    (octets_append (0x54 ∷ []) (k ++ wide 4 c ++ wide 4 d ++ replicate n 0) (octets_one 0x54 (omega arith))
    (octets_append (k ++ wide 4 c ++ wide 4 d) (replicate n 0)
    (octets_append (k ++ wide 4 c) (wide 4 d) (octets_append k (wide 4 c) o (wide_octets 4 c)) (wide_octets 4 d))
    (zeros_octets n)))

-- a key is made of parts of its packet
key_octets : (p : List ℕ) (h : Header) → Octets p → Octets (key_of p h)
unfolding key_of
key_octets p h o =
    let at = counter_place h in
    let to = at + counter_size p in
    let x = part p primary_size (at - primary_size) in
    let y = part p to (h.body.at - to) in
    octets_append (part p 0 2) (x ++ y) (octets_part p 0 2 o)
    (octets_append x y (octets_part p primary_size (at - primary_size) o) (octets_part p to (h.body.at - to) o))

segment_octets : (p : List ℕ) (h : Header) → Octets p → Octets (seg_of p h).key
unfolding seg_of
segment_octets p h o = key_octets p h o

held_key : (s : Settings) (Z : ℕ) (r : List ℕ) (t : Seg) → Octets r → cell_of s Z r ≡ held t → Octets t.key
held_key s Z r t o e =
    let d : held (seg_of (packet_in r) (read_packet s (packet_in r))) ≡ held t = sym (held_is s Z r t e).cell ∙ e in
    let f : seg_of (packet_in r) (read_packet s (packet_in r)) ≡ t = cc d in
    subst (λ (u : Seg). Octets u.key) f (segment_octets (packet_in r) (read_packet s (packet_in r)) (octets_part r 2 (size_in r) o))

-- ---- the store after each call

pub arrive_octets : (Z : ℕ) (st p : List ℕ) (a : Arrived) → Octets st → Octets p → Octets (store_with Z st p a)
unfolding store_with
arrive_octets Z st p whole o q = o
arrive_octets Z st p (stored i) o q = octets_sets st (i * Z) (held_row Z p) o (held_octets Z p q)
arrive_octets Z st p again o q = o
arrive_octets Z st p late o q = o
arrive_octets Z st p (refused r) o q = o

cleared_octets :
    (f : ℕ → Option (List ℕ)) (Z n : ℕ) (st : List ℕ) → ((i : ℕ) (r : List ℕ) → f i ≡ some r → Octets r) → Octets st → Octets (cleared_to f Z n st)
unfolding cleared_to
cleared_octets f Z zero st h o = o
cleared_octets f Z (suc i) st h o = go (f i) refl (cleared_to f Z i st) (cleared_octets f Z i st h o)
  where
    go : (q : Option (List ℕ)) → f i ≡ q → (x : List ℕ) → Octets x → Octets (laid_at Z i q x)
    go none e x k = k
    go (some r) e x k = octets_sets x (i * Z) r k (h i r e)

module _ (Z : ℕ) (r : Run) (k : Octets r.head.key) where
  left_by_lem : (t : Seg) → Octets (left_by Z r t)
  unfolding record_of
  left_by_lem t = go (carries r.head.key r.head.counter t)
    where
      go : (b : Bool) → Octets (pick b (record_row Z r.head.key r.head.counter (last_of r.head.counter r.rest)) (zero_row Z))
      go true = record_octets Z r.head.key r.head.counter (last_of r.head.counter r.rest) k
      go false = zeros_octets Z

  left_octets : (o : Option Seg) (q : List ℕ) → by_segment none (λ t. pick (among (segments r) t) (some (left_by Z r t)) none) o ≡ some q → Octets q
  left_octets none q e = let z : ◌≡◌ {A = ℕ} 0 1 = cc e in absurd (omega arith)
  left_octets (some t) q e = go (among (segments r) t) e
    where
      go : (b : Bool) → pick b (some (left_by Z r t)) none ≡ some q → Octets q
      go true d = let f : left_by Z r t ≡ q = cc d in subst Octets f (left_by_lem t)
      go false d = let z : ◌≡◌ {A = ℕ} 0 1 = cc d in absurd (omega arith)

module _ (s : Settings) (Z : ℕ) (st : List ℕ) where
  pub took_octets : (long : ℕ) → Octets st → Octets (store_less s Z st (count_in Z st) (took s Z st long))
  unfolding store_less
  took_octets long o = go (took s Z st long) refl
    where
      go : (t : Took) → took s Z st long ≡ t → Octets (store_less s Z st (count_in Z st) t)
      go (message r) e =
          let c = segment_held s Z st long r e r.head (Memᴰ.head refl) in
          let k = held_key s Z (row_at Z st c.0) r.head (octets_part st (c.0 * Z) Z o) c.2 in
          cleared_octets (λ i. left_in Z r (cell_at s Z st i)) Z (count_in Z st) st (λ i q d. left_octets Z r k (segment_in (cell_at s Z st i)) q d) o
      go (unable n) e = o

  pub forget_octets : (i : ℕ) → Octets st → Octets (store_forgotten s Z st i)
  forget_octets i o = go (eqb (forgot s Z st i) 0)
    where
      go : (b : Bool) → Octets (pick b (sets st (i * Z) (zero_row Z)) st)
      go true = octets_sets st (i * Z) (zero_row Z) o (zeros_octets Z)
      go false = o
