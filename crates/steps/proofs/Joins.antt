-- A packet that is joined: what the output holds after it, and how long a message is.
-- Assumes nothing.
use Prim.Native.Nat.{ℕ, ◌+◌, ◌≤◌}
use mathlib.Core.Path.{◌≡◌, refl, ap, ap₂, sym, ◌∙◌}
use mathlib.Core.Bool.{Bool, true, false}
use mathlib.Core.List.Memᴰ
use mathlib.Core.List.{List, ◌∷◌, ◌++◌}
use native.Mathlib.Omega.{arith}
use lib.ListN.{length, take, drop, length-append, length-drop}
use lib.Seq.{sets, length-take-le}
use lib.Dec.{eqb}
use Rattle.octets.specs.Octets.{pick, wide}
use Rattle.walk.specs.declared.Settings.{Settings}
use Rattle.walk.specs.declared.Refusal.{Refusal}
use Rattle.walk.specs.Walk.{refusal}
use Rattle.cells.specs.Rows.{row_at}
use Rattle.cells.specs.Messages.{Run, body_of}
use Rattle.arrival.specs.Arriving.{Arrived, whole, stored, again, late, refused, arrived, store_with}
use Rattle.taking.specs.Taking.{Took, message, unable, writing, took, out_with}
use Rattle.taking.proofs.Tells.{taken_tells, segment_held}
use Rattle.join.specs.Answer.{Joined, joined_answer}
use Rattle.walk.specs.declared.Refused.{Refused as Refusing}
use Rattle.walk.specs.Told.{told}
use Rattle.std.specs.Prelude.{Result, Ok}
use Rattle.join.specs.declared.Joined.{Joined as Body}
use Rattle.join.specs.declared.Which.TheVariants.{Packet, Joined as InJoined, Nothing}
use Rattle.join.specs.Joining.{Joining, in_packet, in_output, unjoined, took_as, joined_by, out_by, joining, out_joined}
use Rattle.join.specs.Told.{joined_of}
use Rattle.join.proofs.Views.{held_two}
use Rattle.steps.specs.Answer.{Refused, Kept, Late, Whole, Joined as Made}
use Rattle.steps.specs.Answer.{Done}
use Rattle.steps.specs.Stepping.{room, refused as passed, kept, late as come_late, came_by, without, wrote}
use Rattle.steps.specs.Told.{done_came}
use Rattle.steps.specs.Inner.{taken_in, left_as}
use Rattle.steps.proofs.Frames.{sets_part, frame_before, framed_long}

module _ (s : Settings) (Z : ℕ) (st p : List ℕ) where
  -- ---- the output

  -- what a taking leaves of the output
  taken_out : (out : List ℕ) (t : Took) → out_with out t ≡ sets out 0 (taken_in (took_as t))
  unfolding out_with
  taken_out out (message r) = refl
  taken_out out (unable k) = refl

  out_by_lem : (out : List ℕ) (b : Arrived) → out_by s Z st p out b ≡ sets out 0 (taken_in (joined_by s Z st p (length out) b))
  out_by_lem out whole = refl
  out_by_lem out (stored i) = taken_out out (took s Z (store_with Z st p (stored i)) (length out))
  out_by_lem out again = taken_out out (took s Z (store_with Z st p again) (length out))
  out_by_lem out late = taken_out out (took s Z (store_with Z st p late) (length out))
  out_by_lem out (refused k) = refl

  out_joined_lem : (out : List ℕ) → out_joined s Z st p out ≡ sets out 0 (taken_in (joining s Z st p (length out)))
  unfolding out_joined joining
  out_joined_lem out = out_by_lem out (arrived s Z st p)

  -- ---- a message

  pub record Fitting (long : ℕ) (r : Run) : Type 0 where
    pub key : 2 ≤ length r.head.key
    pub fits : length (writing r) ≤ long

  took_fits : (x : List ℕ) (long : ℕ) (t : Took) (r : Run) → took s Z x long ≡ t → took_as t ≡ in_output r → Fitting long r
  took_fits x long (message q) r e d =
      let f : q ≡ r = cc d in
      let g : took s Z x long ≡ message r = e ∙ ap message f in
      let h = segment_held s Z x long r g r.head (Memᴰ.head refl) in
      record { key = held_two s Z (row_at Z x h.0) r.head h.2; fits = (taken_tells s Z x long r g).fits }
  took_fits x long (unable k) r e d = let z : ◌≡◌ {A = ℕ} 0 1 = cc d in absurd (omega arith)

  fits_by : (long : ℕ) (r : Run) (b : Arrived) → joined_by s Z st p long b ≡ in_output r → Fitting long r
  fits_by long r whole e = let z : ◌≡◌ {A = ℕ} 0 1 = cc e in absurd (omega arith)
  fits_by long r (stored i) e = let x = store_with Z st p (stored i) in took_fits x long (took s Z x long) r refl e
  fits_by long r again e = let x = store_with Z st p again in took_fits x long (took s Z x long) r refl e
  fits_by long r late e = let x = store_with Z st p late in took_fits x long (took s Z x long) r refl e
  fits_by long r (refused k) e = let z : ◌≡◌ {A = ℕ} 0 1 = cc e in absurd (omega arith)

  pub joined_fits : (long : ℕ) (r : Run) → joining s Z st p long ≡ in_output r → Fitting long r
  unfolding joining
  joined_fits long r e = fits_by long r (arrived s Z st p) e

  -- ---- the part of the output that is lent

  taken_most : (long : ℕ) (j : Joining) → joining s Z st p long ≡ j → length (taken_in j) ≤ long
  taken_most long (in_packet place n) e = omega arith
  taken_most long (in_output r) e = (joined_fits long r e).fits
  taken_most long (unjoined k) e = omega arith

  module _ (out : List ℕ) (h : 6 + room ≤ length out) where
    pub lent_long : length (take room (drop 6 out)) ≡ room
    lent_long = length-take-le room (drop 6 out) (omega (arith, length-drop 6 out))

    pub behind_out :
        {y : List ℕ} → y ≡ out_joined s Z st p (take room (drop 6 out)) →
        take 6 out ++ (y ++ drop room (drop 6 out)) ≡ sets out 6 (taken_in (joining s Z st p room))
    behind_out e =
        let j = joining s Z st p room in
        let f = e ∙ out_joined_lem (take room (drop 6 out)) ∙ ap (λ (n : ℕ). sets (take room (drop 6 out)) 0 (taken_in (joining s Z st p n))) lent_long in
        ap (λ (l : List ℕ). take 6 out ++ (l ++ drop room (drop 6 out))) f
        ∙ sets_part out (taken_in j) 6 room h (taken_most room j refl)

-- ---- a step over a packet, by what joining comes to

module _ (p out : List ℕ) (l : Bool) where
  -- the answer, and the output after it
  abbrev pub Joins : Joining → Done → List ℕ → Type 0
  Joins j d y = (d ≡ done_came p (came_by l j)) × (y ≡ sets out 0 (wrote p (came_by l j)))

  module _ {a : Joined} {x : List ℕ} where
    -- neither whole nor a message
    pub joins_left :
        (j : Joining) {m : Bool} {d : Done} → a ≡ joined_of j → m ≡ l → x ≡ sets out 6 (taken_in j) → a.which ≡ Nothing →
        d ≡ left_as a.refusal m (2 + length p) → Joins j d x
    unfolding left_as
    joins_left (in_packet place n) e el ex w ed = let z : ◌≡◌ {A = ℕ} 0 1 = cc in absurd (omega arith)
    joins_left (in_output r) e el ex w ed = let z : ◌≡◌ {A = ℕ} 0 1 = cc in absurd (omega arith)
    joins_left (unjoined k) e el ex w ed = (
      ed ∙ ap₂ (λ (b : Joined) (m : Bool). left_as b.refusal m (2 + length p)) e el ∙ answer (eqb k.number 20) l,
      ex ∙ output (eqb k.number 20) l,
    )
      where
        answer :
            (b m : Bool) →
            pick b
            (pick m (record { what = Late; refusal = refusal 0; used = 2 + length p; written = 0 })
            (record { what = Kept; refusal = refusal 0; used = 2 + length p; written = 0 }))
            (record { what = Refused; refusal = k; used = 2 + length p; written = 0 })
            ≡ done_came p (pick b (pick m come_late kept) (passed k))
        answer true true = refl
        answer true false = refl
        answer false m = refl

        output : (b m : Bool) → out ≡ sets out 0 (wrote p (pick b (pick m come_late kept) (passed k)))
        output true true = refl
        output true false = refl
        output false m = refl

    module _ {long : ℕ} {z : List ℕ} where
      -- a packet that came whole
      pub joins_whole :
          (j : Joining) {y : List ℕ} → a ≡ joined_of j → x ≡ sets out 6 (taken_in j) → a.which ≡ Packet → long ≡ length (without p) →
          y ≡ sets x 6 (without p) → z ≡ sets y 0 (0x4d ∷ 0x4d ∷ wide 4 long) →
          Joins j (record { what = Whole; refusal = refusal 0; used = 2 + length p; written = 6 + long }) z
      joins_whole (in_packet place n) e ex w el ey ez = (
        ap (λ (m : ℕ). record { what = Whole; refusal = refusal 0; used = 2 + length p; written = m })
            (ap (λ (m : ℕ). 6 + m) el ∙ sym (framed_long (without p))),
        frame_before out (without p) (ey ∙ ap (λ (l : List ℕ). sets l 6 (without p)) ex) el ez,
      )
      joins_whole (in_output r) e ex w el ey ez = let z : ◌≡◌ {A = ℕ} 0 1 = cc in absurd (omega arith)
      joins_whole (unjoined k) e ex w el ey ez = let z : ◌≡◌ {A = ℕ} 0 1 = cc in absurd (omega arith)

module _ (s : Settings) (Z : ℕ) (st p : List ℕ) {a : Joined} where
  message_long :
      (j : Joining) → joining s Z st p room ≡ j → a ≡ joined_of j → a.which ≡ InJoined → (a.place + a.length ≡ length (taken_in j)) × (length (taken_in j) ≤ room)
  message_long (in_packet place n) d e w = let z : ◌≡◌ {A = ℕ} 0 1 = cc in absurd (omega arith)
  message_long (in_output r) d e w =
      let f = joined_fits s Z st p room r d in
      (omega (arith, f.key, length-append r.head.key (body_of r), ap (λ (b : Joined). b.place) e, ap (λ (b : Joined). b.length) e), f.fits)
  message_long (unjoined k) d e w = let z : ◌≡◌ {A = ℕ} 0 1 = cc in absurd (omega arith)

  -- a message fits the room
  pub message_most : a ≡ joined_of (joining s Z st p room) → a.which ≡ InJoined → a.place + a.length ≤ room
  message_most e w = let l = message_long (joining s Z st p room) refl e w in omega arith

  message_by :
      (out : List ℕ) (l : Bool) {x z : List ℕ} {long : ℕ} (j : Joining) → joining s Z st p room ≡ j → a ≡ joined_of j → x ≡ sets out 6 (taken_in j) →
      a.which ≡ InJoined → long ≡ a.place + a.length → z ≡ sets x 0 (0x4d ∷ 0x4d ∷ wide 4 long) →
      Joins p out l j (record { what = Made; refusal = refusal 0; used = 2 + length p; written = 6 + long }) z
  message_by out l (in_packet place n) d e ex w el ez = let z : ◌≡◌ {A = ℕ} 0 1 = cc in absurd (omega arith)
  message_by out l (in_output r) d e ex w el ez =
      let n = el ∙ (message_long (in_output r) d e w).0 in (
        ap (λ (m : ℕ). record { what = Made; refusal = refusal 0; used = 2 + length p; written = m })
            (ap (λ (m : ℕ). 6 + m) n ∙ sym (framed_long (writing r))),
        frame_before out (writing r) ex n ez,
      )
  message_by out l (unjoined k) d e ex w el ez = let z : ◌≡◌ {A = ℕ} 0 1 = cc in absurd (omega arith)

  -- a message that was taken
  pub joins_message :
      (out : List ℕ) (l : Bool) {x z : List ℕ} {long : ℕ} → a ≡ joined_of (joining s Z st p room) → x ≡ sets out 6 (taken_in (joining s Z st p room)) →
      a.which ≡ InJoined → long ≡ a.place + a.length → z ≡ sets x 0 (0x4d ∷ 0x4d ∷ wide 4 long) →
      Joins p out l (joining s Z st p room) (record { what = Made; refusal = refusal 0; used = 2 + length p; written = 6 + long }) z
  joins_message out l e ex w el ez = message_by out l (joining s Z st p room) refl e ex w el ez

-- a refusal by its three numbers
pub telling_told : (r : Refusing) {q : Refusal} {n o i : ℕ} → q ≡ record { number = n; octets = o; place = i } → n ≡ (told r).number → o ≡ (told r).octets → i ≡ (told r).place → q ≡ told r
telling_told r eq en eo ei = eq ∙ rw (en, eo, ei) refl

-- a body that is told, by its two parts
abbrev told_body : Body → Result Body Refusing
told_body b = Ok b

pub answered_ok : {j : Result Body Refusing} {x y : Body} → j ≡ Ok x → x ≡ y → joined_answer j ≡ joined_answer (told_body y)
answered_ok e f = ap joined_answer (e ∙ ap told_body f)
