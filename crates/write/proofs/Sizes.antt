-- The lengths of a packet's parts, and the sizes that the code tells of them.
-- Assumes nothing.
use Prim.Native.Nat.{ℕ, ◌+◌}
use mathlib.Core.Path.{◌≡◌, refl, ap, ap₂, sym, ◌∙◌}
use mathlib.Core.Bool.{Bool, true, false}
use mathlib.Core.List.{List, ◌++◌}
use native.Mathlib.Omega.{arith}
use lib.ListN.{length, length-append}
use Rattle.octets.specs.Octets.{pick}
use Rattle.octets.proofs.Numbers.{wide_length}
use Rattle.walk.specs.declared.Settings.{Settings}
use Rattle.fields.specs.Form.{uinteger_octets, domain_octets, split}
use Rattle.fields.specs.Inner.{capped, size_most}
use Rattle.fields.proofs.Sized.{text_long, blob_long, cap_right, cap_both}
use Rattle.packet.specs.Format.{Head, when, fixed_octets, front_octets, back_octets, header_octets}
use Rattle.format.proofs.Stretches.{front_long}
use Rattle.write.specs.declared.HeaderValues.{HeaderValues}
use Rattle.write.specs.Given.{Lent, head_of}
use Rattle.write.specs.Inner.{middle_size, end_size}

-- the length of what may be absent
pub when_length : (b : Bool) (x : List ℕ) → length (when b x) ≡ pick b (length x) 0
when_length true x = refl
when_length false x = refl

cap_pick : (b : Bool) (n : ℕ) → pick b (capped n) 0 ≡ capped (pick b n 0)
cap_pick true n = refl
cap_pick false n = omega arith

pub fixed_length : (h : Head) → length (fixed_octets h) ≡ 21
unfolding fixed_octets
fixed_length h = simp (length-append, wide_length)

cap_three : (a b c : ℕ) → capped (capped a + capped (capped b + capped c)) ≡ capped (a + (b + c))
cap_three a b c = ap (λ (n : ℕ). capped (capped a + n)) (cap_both size_most b c) ∙ cap_both size_most a (b + c)

-- priority, timestamp and zone; session name, domain and authentication id
abbrev middle_length : Settings → Head → ℕ
middle_length s h =
    pick h.has_priority (length (uinteger_octets s h.priority)) 0
    + (pick h.has_timestamp (length h.timestamp) 0 + pick h.has_zone (length (uinteger_octets s (length h.zone)) + length h.zone) 0)

abbrev end_length : Settings → Head → ℕ
end_length s h =
    pick h.has_session_name (length (uinteger_octets s (length h.session_name)) + length h.session_name) 0
    + (pick h.has_domain (length (domain_octets s h.domain)) 0
    + pick h.has_authentication (length (uinteger_octets s (length h.authentication)) + length h.authentication) 0)

regroup : (a b c d e f : ℕ) → a + (b + (c + (d + (e + f)))) ≡ (a + (b + c)) + (d + (e + f))
regroup a b c d e f = omega arith

back_length : (s : Settings) (h : Head) → length (back_octets s h) ≡ middle_length s h + end_length s h
unfolding back_octets
back_length s h = simp (length-append, when_length, text_long, blob_long) (regroup _ _ _ _ _ _)

pub header_length_lem :
    (s : Settings) (h : Head) →
    length (header_octets s h) ≡ 21 + (pick h.has_source 1 0 + pick h.has_destination 1 0) + (middle_length s h + end_length s h)
unfolding header_octets
header_length_lem s h =
    omega (
      arith,
      length-append (fixed_octets h) (front_octets h ++ back_octets s h),
      length-append (front_octets h) (back_octets s h),
      fixed_length h,
      front_long h,
      back_length s h,
    )

middle_size_lem :
    (s : Settings) (v : HeaderValues) (t : Lent) →
    middle_size s v t ≡ capped (middle_length s (head_of v t))
unfolding middle_size head_of
middle_size_lem s v t =
    ap (λ (n : ℕ). capped (pick v.has.priority (length (uinteger_octets s v.priority)) 0 + capped (pick v.has.timestamp (length t.timestamp) 0 + n)))
    (cap_pick v.has.zone (length (uinteger_octets s (length t.zone)) + length t.zone))
    ∙ ap (λ (n : ℕ). capped (pick v.has.priority (length (uinteger_octets s v.priority)) 0 + n)) (cap_right size_most _ _)
    ∙ cap_right size_most _ _

end_size_lem :
    (s : Settings) (v : HeaderValues) (t : Lent) →
    end_size s v.has t ≡ capped (end_length s (head_of v t))
unfolding end_size head_of
end_size_lem s v t =
    let a = cap_pick v.has.session_name (length (uinteger_octets s (length t.session_name)) + length t.session_name) in
    let b = cap_pick v.has.domain (length (domain_octets s (split t.lengths t.domain))) in
    let c = cap_pick v.has.authentication (length (uinteger_octets s (length t.authentication)) + length t.authentication) in
    rw (a, b, c) (cap_three _ _ _)

-- H, as the code adds it up
pub header_size_lem :
    (s : Settings) (v : HeaderValues) (t : Lent) {f m e x r : ℕ} → f ≡ pick v.has.source 1 0 + pick v.has.destination 1 0 →
    m ≡ middle_size s v t →
    e ≡ end_size s v.has t → x ≡ capped (m + e) →
    r ≡ capped (21 + f + x) → r ≡ capped (length (header_octets s (head_of v t)))
unfolding head_of
header_size_lem s v t {f} {m} {e} {x} {r} ef em ee ex er =
    let a : x ≡ capped (middle_length s (head_of v t) + end_length s (head_of v t)) =
    ex ∙ ap₂ (λ (i j : ℕ). capped (i + j)) (em ∙ middle_size_lem s v t) (ee ∙ end_size_lem s v t) ∙ cap_both size_most _ _ in
    er ∙ ap (λ (i : ℕ). capped (21 + f + i)) a ∙ cap_right size_most (21 + f) _
    ∙ ap capped (ap (λ (i : ℕ). 21 + i + (middle_length s (head_of v t) + end_length s (head_of v t))) ef ∙ sym (header_length_lem s (head_of v t)))
