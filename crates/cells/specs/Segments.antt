-- A segment as the store's rules read it, and when two are the same or contradict.
-- SPEC S-5: of two with one key and counter, equal flags and bodies make them the same, anything else contradicts; sequence counts
-- are not looked at.
-- Assumes nothing: these are definitions.
use Rattle.std.specs.Prelude.{ℕ, zero, suc, List, Bool, true, false, eqb}
use Rattle.octets.specs.Octets.{pick, part, alike}
use Rattle.packet.specs.Answer.{Header}
use Rattle.packet.specs.Key.{key_of}

pub record Seg : Type 0 where
  pub key : List ℕ
  pub counter : ℕ
  pub flags : ℕ
  pub body : List ℕ

-- the segment of a packet, with what reading answered of it
unfoldable pub seg_of : List ℕ → Header → Seg
seg_of p h =
    record {
      key = key_of p h;
      counter = h.ids.counter.0;
      flags = h.primary.flags;
      body = part p h.body.at h.body.length;
    }

-- both tests
abbrev pub both : Bool → Bool → Bool
both a b = pick a b false

-- it has this key and counter
unfoldable pub carries : List ℕ → ℕ → Seg → Bool
carries k c t = both (eqb c t.counter) (alike k t.key)

-- of two with equal key and counter: whether they are the same, else they contradict
unfoldable pub same_rest : Seg → Seg → Bool
same_rest t u = both (eqb t.flags u.flags) (alike t.body u.body)

module _ (next : ℕ → ℕ) where
  -- the counter x is c or one of m steps after it
  unfoldable pub reaches : ℕ → ℕ → ℕ → Bool
  reaches zero c x = eqb c x
  reaches (suc m) c x = let r = reaches m (next c) x in pick (eqb c x) true r
