-- A packet that ends inside its secondary header, field by field: each of the format's fields, and all of them.
-- Assumes nothing.
use Prim.Native.Nat.{ℕ, ◌+◌, ◌-◌, ◌/◌, ◌%◌, ◌≤◌, ◌<◌}
use mathlib.Core.Path.{◌≡◌, refl, ap, sym}
use mathlib.Core.List.{List, [], ◌∷◌, ◌++◌, map}
use mathlib.Core.Bool.{Bool, true}
use lib.ListN.{length}
use lib.Dec.{leb, ltb, eqb}
use Rattle.octets.specs.Octets.{pick, Octets, octet_at, wide}
use Rattle.utf8.specs.Text.{Text}
use Rattle.utf8.specs.Test.{is_text}
use Rattle.walk.specs.declared.Settings.{Settings}
use Rattle.walk.specs.declared.Bound.{Bound}
use Rattle.walk.specs.Walk.{Reading, goes, refused, uinteger}
use Rattle.fields.specs.Fields.{nowhere, block, blob, text, domain, no_parts, parts_most}
use Rattle.fields.specs.Form.{uinteger_octets, blob_octets, text_octets, part_octets, domain_octets}
use Rattle.packet.specs.declared.Present.{Present}
use Rattle.packet.specs.FixedPart.{octet_field, wide_field}
use Rattle.packet.specs.Format.{Values, segment, presence}
use Rattle.packet.specs.Began.{fixed_fields, domain_fields, optional_fields, secondary_fields, began}
use Rattle.format.specs.Told.{content}
use Rattle.format.proofs.Field.{Room, Field}
use Rattle.format.proofs.Numbers.{wide_f, octet_f}
use Rattle.format.proofs.Contents.{sized, blob_form, blob_fit, blob_step, blob_f, tested_blob, text_form, text_fit, text_step, text_f}
use Rattle.format.proofs.Contents.{mark, marked_f, part_form, part_fit, part_step, part_f}
use Rattle.format.proofs.Domain.{counted, DomainFit, domain_form, domain_fit, domain_step, domain_f}
use Rattle.format.proofs.FixedPart.{Fixed, word, pack, PackedFit, first_octet, sdu_fit, sdu_f, high_octet, packed_via, packed_form, packed_fit, packed_f, present_f, fixed_f}
use Rattle.format.proofs.Flags.{flag_octet, flag_top}
use Rattle.format.proofs.Secondary.{Optional, opt_step, octet_step, wide_step, block_step, id_f, counter_f, priority_f, timestamp_f, name_f, authentication_f, parts_f}
use Rattle.format.proofs.Secondary.{optionals_f, secondary_f}
use Rattle.format.proofs.Pairs.{pair_of}
use Rattle.format.proofs.Cut.{all, Ends, Cuts, Cut, cut_as, then_cut}
use Rattle.format.proofs.Encoding.{number_f, number_cut}
use Rattle.format.proofs.CutWays.{wide_cut, block_cut, whole_cut, tested_cut, told_cut, formed_cut, via_cut, maybe_cut, guard_cut, many_fields, many_cut}

module _ (s : Settings) (bound : Bound) (p : List ℕ) where
  -- ---- contents

  pub blob_cut : Cut bound p (blob_f s bound p) (λ x. blob_octets s x ∷ [])
  blob_cut =
      let both = via_cut bound p (then_cut bound p (number_f bound p s) (number_cut bound p s) (block_cut bound p)) (λ (x : List ℕ). (length x, x)) (sized s bound p).Fit (λ x t. t.0) in
      cut_as bound p (λ x. blob_octets s x ∷ []) (λ x. ap (λ (l : List ℕ). l ∷ []) (sym (blob_form s bound p x)))
      (told_cut bound p (formed_cut bound p (whole_cut bound p both) (blob_octets s) Octets (blob_form s bound p) (blob_fit s bound p)) _ (blob_step s bound p))

  pub text_cut : Cut bound p (text_f s bound p) (λ x. text_octets s x ∷ [])
  text_cut =
      let tests = tested_cut bound p blob_cut (λ w. is_text (content p (blob s bound p w).value)) 28 (tested_blob s bound p).Fit (λ x t. t.0) in
      cut_as bound p (λ x. text_octets s x ∷ []) (λ x. ap (λ (l : List ℕ). l ∷ []) (sym (text_form s bound p x)))
      (told_cut bound p (formed_cut bound p tests (text_octets s) Text (text_form s bound p) (text_fit s bound p)) _ (text_step s bound p))

  mark_cut : Cut bound p (mark s bound p) (λ x. wide 1 x ∷ [])
  mark_cut = tested_cut bound p (wide_cut bound p 1) (λ w. eqb (octet_at p w.at) 1) 11 (mark s bound p).Fit (λ x t. t.0)

  pub part_cut : Cut bound p (part_f s bound p) (λ x. part_octets s x ∷ [])
  part_cut =
      let marked = via_cut bound p (then_cut bound p (mark s bound p) mark_cut (λ x. text_cut)) (λ (x : List ℕ). (1, x)) (marked_f s bound p).Fit (λ x t. t.0) in
      cut_as bound p (λ x. part_octets s x ∷ []) (λ x. ap (λ (l : List ℕ). l ∷ []) (sym (part_form s bound p x)))
      (told_cut bound p (formed_cut bound p (whole_cut bound p marked) (part_octets s) Text (part_form s bound p) (part_fit s bound p)) _ (part_step s bound p))

  parts_are : (x : List (List ℕ)) → many_fields bound p (part_f s bound p) part_cut x ≡ map (part_octets s) x
  unfolding many_fields
  parts_are [] = refl
  parts_are (t ∷ x) = ap (λ (l : List (List ℕ)). part_octets s t ∷ l) (parts_are x)

  domain_are : (x : List (List ℕ)) → (uinteger_octets s (length x) ∷ []) ++ many_fields bound p (part_f s bound p) part_cut x ≡ domain_fields s x
  unfolding domain_fields
  domain_are x = ap (λ (l : List (List ℕ)). uinteger_octets s (length x) ∷ l) (parts_are x)

  pub domain_cut : Cut bound p (domain_f s bound p) (domain_fields s)
  domain_cut =
      let parts =
      then_cut bound p (number_f bound p s) (number_cut bound p s)
      (λ n. guard_cut bound p (many_cut bound p (part_f s bound p) part_cut n) (leb n parts_most) 13) in
      cut_as bound p (domain_fields s) domain_are
      (told_cut bound p
      (formed_cut bound p (via_cut bound p parts (λ (x : List (List ℕ)). (length x, x)) (counted s bound p).Fit (λ x t. t.0)) (domain_octets s) (DomainFit s bound p) (domain_form s bound p)
      (domain_fit s bound p))
      _ (domain_step s bound p))

  -- ---- the fixed part

  sdu_cut : Cut bound p (sdu_f bound p) (λ x. wide 1 x ∷ [])
  sdu_cut =
      let version = tested_cut bound p (wide_cut bound p 1) (λ w. ltb (octet_at p w.at) 32) 7 (λ x. (x < 256) × (ltb x 32 ≡ true)) (λ x t. t.0) in
      let tests = tested_cut bound p version (λ w. ltb (octet_at p w.at % 32) 22) 8 (first_octet bound p).Fit (λ x t. t.0) in
      formed_cut bound p tests (wide 1) (λ x. x ≤ 21) (λ x. refl) (λ x t l. (sdu_fit bound p x t).0)

  packed_cut : Cut bound p (packed_f bound p) (λ x. wide 2 (word x) ∷ [])
  packed_cut =
      let high = tested_cut bound p (wide_cut bound p 1) (λ w. ltb (octet_at p w.at / 8 % 4) 3) 9 (high_octet bound p).Fit (λ x t. t.0) in
      let two = then_cut bound p (high_octet bound p) high (λ x. wide_cut bound p 1) in
      cut_as bound p (λ x. wide 2 (word x) ∷ []) (λ x. ap (λ (l : List ℕ). l ∷ []) (sym (packed_form bound p x)))
      (formed_cut bound p (via_cut bound p (whole_cut bound p two) pack (packed_via bound p).Fit (λ x t. t.0)) (λ x. wide 2 (word x)) PackedFit (packed_form bound p)
      (λ x t l. packed_fit bound p x t))

  present_cut : Cut bound p (present_f bound p) (λ x. wide 1 (flag_octet x) ∷ [])
  present_cut =
      formed_cut bound p (via_cut bound p (wide_cut bound p 1) flag_octet (λ x. flag_octet x < 256) (λ x t. t)) (λ x. wide 1 (flag_octet x)) (λ x. Unit {0}) (λ x. refl)
      (λ x t l. flag_top x)

  after :
      {A B : Type 0} (F : Field bound p A) {f : A → List (List ℕ)} {next : Reading → Reading} {form : B → List ℕ} {Fit : B → Type 0}
      {g : B → List (List ℕ)} → Cut bound p F f → Cuts bound p next form Fit g →
      Cuts bound p (λ w. next (F.step w)) (λ (x : A × B). F.form x.0 ++ form x.1) (λ x. F.Fit x.0 × Fit x.1) (λ x. f x.0 ++ g x.1)
  after F c d = then_cut bound p F c (λ x. d)

  abbrev fixed_pieces : Fixed → List (List ℕ)
  fixed_pieces x =
      wide 1 x.0
      ∷ wide 2 x.1.0
      ∷ wide 2 x.1.1.0
      ∷ wide 2 x.1.1.1.0
      ∷ wide 1 x.1.1.1.1.0
      ∷ wide 2 (word x.1.1.1.1.1.0)
      ∷ wide 2 x.1.1.1.1.1.1.0
      ∷ wide 8 x.1.1.1.1.1.1.1.0
      ∷ wide 1 (flag_octet x.1.1.1.1.1.1.1.1)
      ∷ []

  fixed_cut : Cut bound p (fixed_f bound p) fixed_pieces
  fixed_cut =
      after (sdu_f bound p) sdu_cut
      (after (wide_f bound p 2) (wide_cut bound p 2)
      (after (wide_f bound p 2) (wide_cut bound p 2)
      (after (wide_f bound p 2) (wide_cut bound p 2)
      (after (octet_f bound p) (wide_cut bound p 1)
      (after (packed_f bound p) packed_cut (after (wide_f bound p 2) (wide_cut bound p 2) (after (wide_f bound p 8) (wide_cut bound p 8) present_cut)))))))

  -- ---- the optional fields, and all

  abbrev optional_pieces : Present → Bool → Optional → List (List ℕ)
  optional_pieces h q x =
      pick h.source (wide 1 x.0 ∷ []) []
      ++ (pick h.destination (wide 1 x.1.0 ∷ []) []
      ++ (pick q (wide 4 x.1.1.0 ∷ []) []
      ++ (pick h.priority (uinteger_octets s x.1.1.1.0 ∷ []) []
      ++ (pick h.timestamp (x.1.1.1.1.0 ∷ []) []
      ++ (pick h.zone (text_octets s x.1.1.1.1.1.0 ∷ []) []
      ++ (pick h.session_name (text_octets s x.1.1.1.1.1.1.0 ∷ []) []
      ++ (pick h.domain (domain_fields s x.1.1.1.1.1.1.1.0) []
      ++ pick h.authentication (blob_octets s x.1.1.1.1.1.1.1.1 ∷ []) [])))))))

  id_cut : (b : Bool) → Cut bound p (id_f s bound p b) (λ x. pick b (wide 1 x ∷ []) [])
  id_cut b = told_cut bound p (maybe_cut bound p (wide_cut bound p 1) b 0) _ (λ w. opt_step b 0 (octet_field bound p) w _ (octet_step s bound p w))

  name_cut : (b : Bool) → Cut bound p (name_f s bound p b) (λ x. pick b (text_octets s x ∷ []) [])
  name_cut b = told_cut bound p (maybe_cut bound p text_cut b []) _ (λ w. opt_step b nowhere (text s bound p) w _ refl)

  counter_cut : (b : Bool) → Cut bound p (counter_f s bound p b) (λ x. pick b (wide 4 x ∷ []) [])
  counter_cut b = told_cut bound p (maybe_cut bound p (wide_cut bound p 4) b 0) _ (λ w. opt_step b 0 (wide_field 4 bound p) w _ (wide_step s bound p w))

  priority_cut : (b : Bool) → Cut bound p (priority_f s bound p b) (λ x. pick b (uinteger_octets s x ∷ []) [])
  priority_cut b = told_cut bound p (maybe_cut bound p (number_cut bound p s) b 0) _ (λ w. opt_step b 0 (uinteger s bound p) w _ refl)

  timestamp_cut : (b : Bool) → Cut bound p (timestamp_f s bound p b) (λ x. pick b (x ∷ []) [])
  timestamp_cut b = told_cut bound p (maybe_cut bound p (block_cut bound p s.t) b []) _ (λ w. opt_step b nowhere (block s.t bound p) w _ (block_step s bound p w))

  parts_cut : (b : Bool) → Cut bound p (parts_f s bound p b) (λ x. pick b (domain_fields s x) [])
  parts_cut b = told_cut bound p (maybe_cut bound p domain_cut b []) _ (λ w. opt_step b (no_parts 0) (domain s bound p) w _ refl)

  authentication_cut : (b : Bool) → Cut bound p (authentication_f s bound p b) (λ x. pick b (blob_octets s x ∷ []) [])
  authentication_cut b = told_cut bound p (maybe_cut bound p blob_cut b []) _ (λ w. opt_step b nowhere (blob s bound p) w _ refl)

  optional_cut : (h : Present) (q : Bool) → Cut bound p (optionals_f s bound p h q) (optional_pieces h q)
  optional_cut h q =
      after (id_f s bound p h.source) (id_cut h.source)
      (after (id_f s bound p h.destination) (id_cut h.destination)
      (after (counter_f s bound p q) (counter_cut q)
      (after (priority_f s bound p h.priority) (priority_cut h.priority)
      (after (timestamp_f s bound p h.timestamp) (timestamp_cut h.timestamp)
      (after (name_f s bound p h.zone) (name_cut h.zone)
      (after (name_f s bound p h.session_name) (name_cut h.session_name)
      (after (parts_f s bound p h.domain) (parts_cut h.domain) (authentication_cut h.authentication))))))))

  secondary_cut :
      (q : Bool) → Cut bound p (secondary_f s bound p q) (λ x. fixed_pieces x.0 ++ optional_pieces x.0.1.1.1.1.1.1.1.1 q x.1)
  secondary_cut q = then_cut bound p (fixed_f bound p) fixed_cut (λ x. optional_cut x.1.1.1.1.1.1.1.1 q)

  -- the values of a packet: their fields are the format's
  pub header_ends :
      (v : Values) (i : ℕ) → (secondary_f s bound p (segment v.flags)).Fit (pair_of v) →
      Room bound i ((secondary_f s bound p (segment v.flags)).form (pair_of v)) →
      Ends bound p i ((secondary_f s bound p (segment v.flags)).form (pair_of v)) →
      (secondary_f s bound p (segment v.flags)).step (goes i) ≡ refused (i + began (secondary_fields s v) (length p - i)) 6
  unfolding fixed_fields optional_fields presence
  header_ends v i t l e = (secondary_cut (segment v.flags)).ends i (pair_of v) t l e

  pub fields_octets : (v : Values) → all (secondary_fields s v) ≡ (secondary_f s bound p (segment v.flags)).form (pair_of v)
  unfolding fixed_fields optional_fields presence
  fields_octets v = (secondary_cut (segment v.flags)).octets (pair_of v)
