-- A field laid into the answer: handed over to the long way, absent, and each kind of field that is there.
-- Assumes nothing.
use Prim.Native.Nat.{ℕ, suc, ◌+◌, ◌≤◌, ◌<◌}
use mathlib.Core.Path.{◌≡◌, refl, ap, sym, ◌∙◌}
use mathlib.Core.Bool.{Bool, true, false}
use mathlib.Core.List.{List, [], ◌∷◌}
use native.Mathlib.Omega.{arith}
use Rattle.std.specs.Prelude.{Option, Some, None}
use Rattle.std.specs.Option.{IfSome}
use native.Mathlib.Numerals.{add-one}
use lib.Dec.{eqb}
use lib.ListN.{length, take, drop, set, length-take}
use lib.Seq.{sets, drop-cons, get_or-take}
use borrow.Author.Tests.{eq-eqb}
use Rattle.octets.specs.Octets.{octet_at, number as number_of, part as stretch}
use Rattle.utf8.specs.Test.{is_text}
use Rattle.varint.specs.Varint.{value, read, final, read_at}
use Rattle.varint.proofs.Steps.{step_final}
use Rattle.walk.specs.declared.Settings.{Settings}
use Rattle.walk.specs.declared.Bound.{Bound}
use Rattle.walk.specs.declared.Reader.{Reader}
use Rattle.walk.specs.Read.{Went}
use Rattle.walk.specs.Walk.{Reading, Step, goes, header_bound, header_end, octets, varint_step, varint_field, wide_field, uinteger}
use Rattle.walk.proofs.Steps.{octets_goes, check_ok, field_goes, number_found}
use Rattle.fields.specs.Fields.{place, opt, block, blob, text, marked_text, part}
use Rattle.packet.specs.FixedPart.{octet_field}
use Rattle.flat.specs.Told.{place_numbers}
use Rattle.filling.specs.Filling.{Within, Found, Into, one}

-- what the last step answers, if it answers
pub if_more : {A : Type 0} (r : Option A) (P Q : A → Type 0) → ((x : A) → P x → Q x) → IfSome r P → IfSome r Q
if_more None P Q f h = tt
if_more (Some x) P Q f h = f x h

-- another place before the same limit
pub moved : {p : List ℕ} {lim at : ℕ} (r : ℕ) → Within p lim at → r ≤ lim → Within p lim r
moved r w h = record { limit = w.limit; inside = w.inside; here = h }

module _ {p : List ℕ} {lim at : ℕ} (w : Within p lim at) where
  pub absent :
      {A : Type 0} {told : A → List ℕ} {k : ℕ} {l : List ℕ} (none : A) (step : Reading → Step A) {there : Bool} {m : List ℕ} →
      there ≡ false → m ≡ sets l k (told none) → Into p (opt there none step (goes at)) told k lim l m at
  absent none step e q = record { within = w; walk = rw e refl; same = rw e q }

module _ {A : Type 0} {told : A → List ℕ} {p : List ℕ} {k lim : ℕ} {l : List ℕ} where
  pub present :
      (none : A) (step : Reading → Step A) (at : ℕ) {there : Bool} {r : ℕ} {m : List ℕ} → there ≡ true →
      Into p (step (goes at)) told k lim l m r → Into p (opt there none step (goes at)) told k lim l m r
  present none step at e i = rw e i

  -- a step that is known
  pub into_by :
      {step : Step A} {r : ℕ} {v : A} {m : List ℕ} → Within p lim r → step ≡ record { walk = goes r; value = v } →
      m ≡ sets l k (told v) → Into p step told k lim l m r
  into_by w e q = record { within = w; walk = rw e refl; same = rw e q }

-- ---- numbers

-- a Varint of one octet
one_octet : (max at b : ℕ) (l : List ℕ) → b < 128 → b ≤ max → read max true at (b ∷ l) ≡ value b (at + 1)
unfolding final
one_octet max at b l h k = step_final max true at b l h k

module _ (p : List ℕ) {lim at : ℕ} (w : Within p lim at) (b : at < lim) where
  inside : at < length p
  inside = omega (arith, w.inside)

  limit : at < header_end
  limit = omega (arith, w.limit)

  pub one_there : octets header_bound p 1 (goes at) ≡ goes (at + 1)
  one_there = octets_goes header_bound p 1 (goes at) refl (omega (arith, limit)) (omega (arith, inside))

  pub octet_there :
      {k v : ℕ} {l : List ℕ} → v ≡ octet_at p at → Into p (octet_field header_bound p (goes at)) one k lim l (set l k v) (at + 1)
  unfolding octet_field
  octet_there {k} {v} {l} e =
      record { within = moved (at + 1) w (omega arith); walk = one_there; same = ap (set l k) e }

  varint_one : {v : ℕ} → v ≡ octet_at p at → v < 128 → varint_field header_bound p (goes at) ≡ record { walk = goes (at + 1); value = v }
  unfolding varint_step
  varint_one {v} e h =
      let t = take header_end p in
      let cons : drop at t ≡ v ∷ drop (suc at) t =
      drop-cons t at 0 (omega (arith, length-take header_end p, inside, limit))
      ∙ ap (λ (y : ℕ). y ∷ drop (suc at) t) (get_or-take header_end p at 0 limit ∙ sym e) in
      let first : read_at 32 t at ≡ value v (at + 1) =
      ap (read 4294967295 true at) cons ∙ one_octet 4294967295 at v (drop (suc at) t) h (omega arith) in
      number_found header_bound p (goes at) refl first

pub wide_there :
    (n : ℕ) (p : List ℕ) {lim at : ℕ} → Within p lim at → at + n ≤ lim →
    wide_field n header_bound p (goes at) ≡ record { walk = goes (at + n); value = number_of n p at }
unfolding wide_field
wide_there n p {lim} {at} w t =
    let e = octets_goes header_bound p n (goes at) refl (omega (arith, w.limit)) (omega (arith, w.inside)) in
    λ i. record { walk = e i; value = number_of n p at }

module _ (s : Settings) (p : List ℕ) {lim at : ℕ} (w : Within p lim at) where
  pub number_one :
      {v : ℕ} → eqb s.profile 1 ≡ false → at < lim → v ≡ octet_at p at → v < 128 →
      uinteger s header_bound p (goes at) ≡ record { walk = goes (at + 1); value = v }
  unfolding uinteger
  number_one q b e h = rw q (varint_one p w b e h)

  pub number_four :
      {v : ℕ} → eqb s.profile 1 ≡ true → at + 4 ≤ lim → v ≡ number_of 4 p at →
      uinteger s header_bound p (goes at) ≡ record { walk = goes (at + 4); value = v }
  unfolding uinteger
  number_four q t e = rw q (wide_there 4 p w t ∙ ap (λ (x : ℕ). record { walk = goes (at + 4); value = x }) (sym e))

  -- a number told by its reader
  pub number_read :
      {r q : Reader} {b : Bound} {v : ℕ} → b ≡ header_bound → Went (uinteger s b p (goes at)) r q v → q.at ≤ lim →
      Found p (uinteger s header_bound p (goes at)) lim q.at v
  number_read {q = q} e h t =
      record {
        within = moved q.at w t;
        same = ap (λ (b : Bound). uinteger s b p (goes at)) (sym e) ∙ (λ i. record { walk = h.walk i; value = h.value i });
      }

-- a number found is laid
pub number_laid :
    {p : List ℕ} {step : Step ℕ} {k lim n v : ℕ} {l : List ℕ} → Found p step lim n v → Into p step one k lim l (set l k v) n
number_laid {k = k} {l = l} f =
    record {
      within = f.within;
      walk = ap (λ (x : Step ℕ). x.walk) f.same;
      same = ap (λ (x : Step ℕ). set l k x.value) (sym f.same);
    }

-- ---- octets of a known length

module _ (p : List ℕ) {lim at : ℕ} (w : Within p lim at) where
  pub counter_there :
      {k v : ℕ} {l : List ℕ} → v ≡ number_of 4 p at → at + 4 ≤ lim →
      Into p (wide_field 4 header_bound p (goes at)) one k lim l (set l k v) (at + 4)
  counter_there {k} {v} {l} e t = into_by (moved (at + 4) w t) (wide_there 4 p w t) (ap (set l k) e)

  pub block_there :
      (n : ℕ) {k : ℕ} {l m : List ℕ} → at + n ≤ lim → m ≡ sets l k (at ∷ n ∷ []) →
      Into p (block n header_bound p (goes at)) place_numbers k lim l m (at + n)
  unfolding block
  block_there n t q =
      record {
        within = moved (at + n) w t;
        walk = octets_goes header_bound p n (goes at) refl (omega (arith, w.limit)) (omega (arith, w.inside));
        same = q;
      }

-- ---- a length and so many octets

module _ (s : Settings) (p : List ℕ) (at : ℕ) {lim n v : ℕ} (f : Found p (uinteger s header_bound p (goes at)) lim n v) (t : n + v ≤ lim) where
  pub blob_is : blob s header_bound p (goes at) ≡ record { walk = goes (n + v); value = place n v }
  unfolding blob
  blob_is =
      let e = octets_goes header_bound p v (goes n) refl (omega (arith, f.within.limit)) (omega (arith, f.within.inside)) in
      rw (f.same, e) (ap (λ (x : Reading). record { walk = x; value = place n v }) (field_goes (goes at) (goes (n + v)) refl))

  pub text_is :
      is_text (stretch p n v) ≡ true → text s header_bound p (goes at) ≡ record { walk = goes (n + v); value = place n v }
  unfolding text
  text_is h =
      rw blob_is (ap (λ (x : Reading). record { walk = x; value = place n v }) (check_ok (is_text (stretch p n v)) 28 (goes (n + v)) h))

-- ---- a domain part

module _ (s : Settings) (p : List ℕ) {lim at : ℕ} (w : Within p lim at) (b : at < lim) (h : octet_at p at ≡ 1) where
  marked_is : marked_text s header_bound p (goes at) ≡ text s header_bound p (goes (at + 1))
  unfolding marked_text
  marked_is =
      ap (text s header_bound p) (check_ok _ 11 _ (eq-eqb (octet_at p at) 1 h) ∙ one_there p w b)

  pub part_is :
      {r : ℕ} {x : _} → text s header_bound p (goes (at + 1)) ≡ record { walk = goes r; value = x } →
      part s header_bound p (goes at) ≡ record { walk = goes r; value = x }
  unfolding part
  part_is {r} {x} e =
      rw (marked_is, e) (ap (λ (v : Reading). record { walk = v; value = x }) (field_goes (goes at) (goes r) refl))

  pub part_there :
      {k : ℕ} {l m : List ℕ} {r : ℕ} → Into p (text s header_bound p (goes (at + 1))) place_numbers k lim l m r →
      Into p (part s header_bound p (goes at)) place_numbers k lim l m r
  unfolding part
  part_there {r = r} i =
      record {
        within = i.within;
        walk = rw (marked_is, i.walk) (field_goes (goes at) (goes r) refl);
        same = rw marked_is i.same;
      }

-- two numbers, one after the other
pub two : (l : List ℕ) (k a b : ℕ) → set (set l k a) (k + 1) b ≡ sets l k (a ∷ b ∷ [])
two l k a b = rw add-one
