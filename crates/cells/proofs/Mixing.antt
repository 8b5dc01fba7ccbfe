-- A key mixed in its three parts is mixed whole, and chooses one of the chains.
-- Assumes nothing.
use Prim.Native.Nat.{ℕ, ◌+◌, ◌-◌, ◌<◌}
use mathlib.Core.Path.{◌≡◌, ap, sym, ◌∙◌}
use mathlib.Core.Bool.{Bool}
use mathlib.Core.List.{List, ◌++◌}
use native.Mathlib.Omega.{arith}
use Rattle.std.proofs.lemmas.List.Sums.{fold-append}
use Rattle.octets.specs.Octets.{pick, part}
use Rattle.walk.specs.declared.Settings.{Settings}
use Rattle.packet.specs.Reading.{read_packet}
use Rattle.packet.specs.Key.{key_of}
use Rattle.cells.specs.Inner.{place_in, Asked}
use Rattle.cells.specs.Chains.{mix_in, mixed, mix_start, chain_in, chains_all, bucket_of, key_in}
use Rattle.cells.proofs.Counters.{place_told}
use Rattle.cells.proofs.SameKeys.{key_told}

-- ---- one list after the other

pub key_mixed :
    (q : List ℕ) (body_at : ℕ) {a f t : ℕ} → a ≡ mixed mix_start (part q 0 2) → f ≡ mixed a (part q 6 (place_in q - 6)) →
    t ≡ mixed f (part q (place_in q + 4) (body_at - (place_in q + 4))) → t ≡ mixed mix_start (key_in q body_at)
unfolding key_in
key_mixed q body_at {a} {f} {t} ea ef et =
    let u : List ℕ = part q 0 2 in
    let v : List ℕ = part q 6 (place_in q - 6) in
    let w : List ℕ = part q (place_in q + 4) (body_at - (place_in q + 4)) in
    et
    ∙ ap (λ (n : ℕ). mixed n w) (ef ∙ ap (λ (n : ℕ). mixed n v) ea)
    ∙ sym (fold-append mix_in (mixed mix_start u) v w)
    ∙ sym (fold-append mix_in mix_start u (v ++ w))

pub bucket_told : (k : List ℕ) (c : ℕ) {m r : ℕ} → m ≡ mixed mix_start k → r ≡ chain_in (mix_in m c) → r ≡ bucket_of k c
unfolding bucket_of
bucket_told k c em er = er ∙ ap (λ (n : ℕ). chain_in (mix_in n c)) em

-- it is one of the chains
pub bucket_low : (k : List ℕ) (c : ℕ) → bucket_of k c < chains_all
unfolding bucket_of
bucket_low k c = omega arith

-- ---- the key of a segment that is looked for

pub key_asked : (s : Settings) (q : List ℕ) (body_at : ℕ) → Asked s q body_at → key_in q body_at ≡ key_of q (read_packet s q)
unfolding key_in place_in
key_asked s q body_at a =
    sym (key_told q (read_packet s q) (place_in q) body_at (place_told s q a.octets a.accepted) (ap (λ (b : Bool). pick b 4 0) a.segment) (sym a.body))
