-- A step after one that was refused keeps it, so that what a `?` hands on is what the whole chain of steps answers.
-- Assumes nothing.
use Prim.Native.Nat.{ℕ, ◌+◌}
use mathlib.Core.Path.{◌≡◌, refl, sym, ◌∙◌, ap, subst}
use borrow.Author.Tests.{eq-eqb, ne_eqb}
use Rattle.std.specs.Prelude.{Result}
use mathlib.Core.List.{List}
use mathlib.Core.Bool.{Bool, true, false, false≢true}
use lib.Dec.{eqb, leb}
use lib.ListN.{length}
use Rattle.octets.specs.Octets.{pick}
use Rattle.walk.specs.declared.Settings.{Settings}
use Rattle.walk.specs.declared.Bound.{Bound}
use Rattle.walk.specs.declared.Refused.{Refused}
use Rattle.walk.specs.declared.Refusal.{Refusal}
use Rattle.walk.specs.Told.{told}
use Rattle.walk.specs.Walk.{Reading, Step, past, going, goes, refused, octets, check, field_from, octet_field, wide_field, varint_field, uinteger}
use Rattle.walk.specs.declared.Reader.{Reader}
use Rattle.walk.specs.Read.{tells, Refuses, Went, Stopped, Reads}
use Rattle.walk.proofs.Steps.{octets_refused, check_refused, check_fails, number_refused, field_refused}

-- of a walk that is the same
same : {e : Refused} {w : Reading} (v : Reading) → v ≡ w → Refuses e w → Refuses e v
same v h r = record { tells = r.tells ∙ ap tells (sym h); stops = ap going h ∙ r.stops }

pub refused_as : {e : Refused} {w : Reading} (v : Reading) → v ≡ w → told e ≡ tells w → going w ≡ false → Refuses e v
refused_as v h t g = same v h (record { tells = t; stops = g })

-- a step that was refused where its reader stands
pub stopped_as : {e : Refused} {k : ℕ} {r : Reader} (v : Reading) → v ≡ refused r.at k → told e ≡ tells (refused r.at k) → eqb k 0 ≡ false → Stopped e v r r
stopped_as v h t g =
    record { refuses = refused_as v h t g; stands = ap (λ (x : Reading). x.at) (sym h); octets = refl; settings = refl; bound = refl }

-- a walk that is one that was refused
pub record Kept (w v : Reading) : Type 0 where
  pub stops : going w ≡ false
  pub is : v ≡ w

pub kept : {e : Refused} {w : Reading} → Refuses e w → Kept w w
kept h = record { stops = h.stops; is = refl }

pub refuses_on : {e : Refused} {w v : Reading} → Kept w v → Refuses e w → Refuses e v
refuses_on {v = v} k h = same v k.is h

pub stopped_on : {e : Refused} {w v : Reading} {r q : Reader} → Kept w v → Stopped e w r q → Stopped e v r q
stopped_on k h =
    record { refuses = refuses_on k h.refuses; stands = h.stands ∙ ap (λ (x : Reading). x.at) (sym k.is); octets = h.octets; settings = h.settings; bound = h.bound }

-- to go past a bound is a refusal
pub past_stops : (b : Bound) → eqb (past b) 0 ≡ false
past_stops b = go b.limit
  where
    go : (l : Bool) → eqb (pick l 12 6) 0 ≡ false
    go true = refl
    go false = refl

module _ {u w : Reading} where
  -- the same as a walk that is it
  as_before : {v : Reading} → Kept u w → (going w ≡ false → v ≡ w) → Kept u v
  as_before h f = record { stops = h.stops; is = f (ap going h.is ∙ h.stops) ∙ h.is }

  pub octets_keeps : (b : Bound) (p : List ℕ) (n : ℕ) → Kept u w → Kept u (octets b p n w)
  octets_keeps b p n h = as_before h (octets_refused b p n w)

  pub check_keeps : (ok : Bool) (k : ℕ) → Kept u w → Kept u (check ok k w)
  check_keeps ok k h = as_before h (check_refused ok k w)

  pub octet_keeps : (b : Bound) (p : List ℕ) → Kept u w → Kept u (octet_field b p w).walk
  unfolding octet_field
  octet_keeps b p h = octets_keeps b p 1 h

  pub wide_keeps : (n : ℕ) (b : Bound) (p : List ℕ) → Kept u w → Kept u (wide_field n b p w).walk
  unfolding wide_field
  wide_keeps n b p h = octets_keeps b p n h

  pub varint_keeps : (b : Bound) (p : List ℕ) → Kept u w → Kept u (varint_field b p w).walk
  varint_keeps b p h = as_before h (λ g. ap (λ (s : Step ℕ). s.walk) (number_refused b p w g))

  pub uinteger_keeps : (s : Settings) (b : Bound) (p : List ℕ) → Kept u w → Kept u (uinteger s b p w).walk
  unfolding uinteger
  uinteger_keeps s b p h = go (eqb s.profile 1)
    where
      go : (k : Bool) → Kept u (pick {A = List ℕ → Reading → Step ℕ} k (wide_field 4 b) (varint_field b) p w).walk
      go true = wide_keeps 4 b p h
      go false = varint_keeps b p h

  -- a field that may be absent
  pub optional_kept :
      {A : Type 0} (there : Bool) (none : A) (x : Step A) → Kept u w → Kept u x.walk →
      Kept u (pick {A = Step A} there x (record { walk = w; value = none })).walk
  optional_kept true none x h k = k
  optional_kept false none x h k = h

-- and by what is told of it, where its step may have been refused elsewhere
pub optional_keeps :
    {e : Refused} {w : Reading} {A : Type 0} (there : Bool) (none : A) (x : Step A) → Refuses e w → Refuses e x.walk →
    Refuses e (pick {A = Step A} there x (record { walk = w; value = none })).walk
optional_keeps true none x h k = k
optional_keeps false none x h k = h

-- a test that fails, where the reading goes on
pub check_stops :
    {e : Refused} (ok : Bool) (k : ℕ) (w : Reading) → going w ≡ true → ok ≡ false → told e ≡ tells (refused w.at k) → eqb k 0 ≡ false →
    Refuses e (check ok k w)
check_stops ok k w g f t z = refused_as _ (check_fails ok k w g f) t z

-- a field of several steps, refused in one of them, which began here
pub field_keeps :
    {e d : Refused} (w : Reading) (r : Reading) → Refuses e r →
    told d ≡ record (told e) { place = pick (eqb (told e).number 6) w.at 0 } → Refuses d (field_from w r)
field_keeps {e} {d} w r h t = record {
  tells = t ∙ ap (λ (x : Refusal). record x { place = pick (eqb x.number 6) w.at 0 }) h.tells ∙ ap tells (sym (field_refused w r h.stops));
  stops = ap going (field_refused w r h.stops) ∙ h.stops;
}

-- and its reader, put back to where it began
pub field_stops :
    {e d : Refused} {r q : Reader} (x : Reading) → Stopped e x r q → told d ≡ record (told e) { place = pick (eqb (told e).number 6) r.at 0 } →
    Stopped d (field_from (goes r.at) x) r (record q { at = r.at })
field_stops {r = r} x h t =
    record {
      refuses = field_keeps (goes r.at) x h.refuses t;
      stands = ap (λ (v : Reading). v.at) (sym (field_refused (goes r.at) x h.refuses.stops));
      octets = h.octets;
      settings = h.settings;
      bound = h.bound;
    }

-- a step that went on, and one that was refused after it
pub then_stops :
    {A : Type 0} {s : Step A} {r q t : Reader} {x : A} {e : Refused} {v : Reading} → Went s r q x → Stopped e v q t → Stopped e v r t
then_stops h k =
    record {
      refuses = k.refuses;
      stands = k.stands;
      octets = k.octets ∙ h.octets;
      settings = k.settings ∙ h.settings;
      bound = k.bound ∙ h.bound;
    }

-- and a test after it that fails
pub test_stops :
    {A : Type 0} {s : Step A} {r q : Reader} {x : A} {e : Refused} (ok : Bool) (k : ℕ) → Went s r q x → ok ≡ false →
    told e ≡ tells (refused q.at k) → eqb k 0 ≡ false → Stopped e (check ok k s.walk) r q
test_stops {s = s} ok k h f t z =
    then_stops h (stopped_as _ (check_fails ok k s.walk (ap going h.walk) f ∙ ap (λ (w : Reading). refused w.at k) h.walk) t z)

-- a number, as the profile has it
module _ (s : Settings) (b : Bound) (p : List ℕ) where
  abbrev by_test : Reading → Bool → Step ℕ
  by_test w k = pick {A = List ℕ → Reading → Step ℕ} k (wide_field 4 b) (varint_field b) p w

  pub uinteger_wide : s.profile ≡ 1 → uinteger s b p ≡ wide_field 4 b p
  unfolding uinteger
  uinteger_wide h = λ i. λ w. ap (by_test w) (eq-eqb s.profile 1 h) i

  pub uinteger_varint : (s.profile ≡ 1 → ⊥) → uinteger s b p ≡ varint_field b p
  unfolding uinteger
  uinteger_varint h = λ i. λ w. ap (by_test w) (ne_eqb s.profile 1 h) i

-- of a step that is the same
pub reads_as :
    {A : Type 0} {f g : Reading → Step A} (r q : Reader) (x : Result A Refused) → f ≡ g → Reads g r q x → Reads f r q x
reads_as {A} r q x e h = subst (λ (f : Reading → Step A). Reads f r q x) (sym e) h

-- a field that was refused where it began, in its first step or before: by what is told of it, and as a walk
pub field_same : {e : Refused} {u : Reading} (w r : Reading) → u.at ≡ w.at → Refuses e u → Refuses e r → Refuses e (field_from w r)
field_same {e} {u} w r a h k =
    let place : (told e).place ≡ pick (eqb (told e).number 6) w.at 0 =
    ap (λ (x : Refusal). x.place) h.tells
    ∙ (λ i. pick (eqb (ap (λ (x : Refusal). x.number) (sym h.tells) i) 6) (a i) 0) in
    field_keeps w r k (λ i. record (told e) { place = place i })

pub field_kept_at : {u : Reading} (w r : Reading) → u.at ≡ w.at → Kept u r → Kept u (field_from w r)
field_kept_at {u} w r a k =
    record {
      stops = k.stops;
      is = field_refused w r (ap going k.is ∙ k.stops) ∙ (λ i. refused (sym a i) (k.is i).refused);
    }

-- and one that was refused before
pub field_kept : {u w r : Reading} → Kept u w → Kept u r → Kept u (field_from w r)
field_kept h k = field_kept_at _ _ (ap (λ (x : Reading). x.at) (sym h.is)) k

-- a step that was refused stands where it began
pub octets_stand : (b : Bound) (p : List ℕ) (n at : ℕ) → going (octets b p n (goes at)) ≡ false → (octets b p n (goes at)).at ≡ at
unfolding octets
octets_stand b p n at = go (leb (at + n) b.end) (leb (at + n) (length p))
  where
    go :
        (l e : Bool) → going (pick l (pick e (goes (at + n)) (refused at 6)) (refused at (past b))) ≡ false →
        (pick l (pick e (goes (at + n)) (refused at 6)) (refused at (past b))).at ≡ at
    go true true h = absurd (false≢true (sym h))
    go true false h = refl
    go false e h = refl
