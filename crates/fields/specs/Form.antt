-- The format of the fields that have a length: the octets of their values. No reader and no walk in it.
-- Assumes nothing: these are definitions.
use Rattle.std.specs.Prelude.{ℕ, List, [], ◌∷◌, ◌++◌, Bool, true, length, take, drop}
use Rattle.octets.specs.Octets.{wide}
use Rattle.utf8.specs.Test.{both, is_text}
use Rattle.varint.specs.Varint.{write}
use Rattle.walk.specs.declared.Settings.{Settings}
use Rattle.walk.specs.Profile.{by_profile, uinteger_size}

-- an unsigned number of at most 32 bits under the settings: a Varint, or four octets
unfoldable pub uinteger_octets : Settings → ℕ → List ℕ
uinteger_octets s n = by_profile s write (wide uinteger_size) n

-- a length and as many octets
unfoldable pub blob_octets : Settings → List ℕ → List ℕ
blob_octets s x = uinteger_octets s (length x) ++ x

-- a text: the same today
unfoldable pub text_octets : Settings → List ℕ → List ℕ
text_octets s x = blob_octets s x

-- a domain part: a presence octet of 1 and a text
unfoldable pub part_octets : Settings → List ℕ → List ℕ
part_octets s x = (1 ∷ []) ++ text_octets s x

unfoldable pub joined : {A : Type 0} → (A → List ℕ) → List A → List ℕ
joined W [] = []
joined W (t ∷ ts) = W t ++ joined W ts

-- a count of parts, and the parts
unfoldable pub domain_octets : Settings → List (List ℕ) → List ℕ
domain_octets s ts = uinteger_octets s (length ts) ++ joined (part_octets s) ts

-- a lent text cut into parts of the lengths given
unfoldable pub split : List ℕ → List ℕ → List (List ℕ)
split [] x = []
split (n ∷ ns) x = take n x ∷ split ns (drop n x)

-- each of the parts is text by itself
unfoldable pub all_text : List (List ℕ) → Bool
all_text [] = true
all_text (t ∷ ts) = both (is_text t) (all_text ts)
