-- Lists of calls: takings after some calls bring no packet and forget nothing, so that what is presupposed of the calls holds with them; and
-- the calls up to the arrival of one of them, which leave the store that its taking finds.
-- Assumes nothing.
use Prim.Native.Nat.{ℕ}
use mathlib.Core.Path.{◌≡◌, refl, ap, sym, ◌∙◌, subst}
use mathlib.Core.Logic.{◌⊎◌, inl, inr}
use mathlib.Core.Bool.{true}
use mathlib.Core.List.Memᴰ
use mathlib.Core.List.{List, [], ◌∷◌, ◌++◌, map, append_assoc, Memᴰ}
use native.Mathlib.Omega.{arith}
use Rattle.walk.specs.declared.Settings.{Settings}
use Rattle.demand3.specs.Cells.{has_free}
use Rattle.demand3.specs.Calls.{Call, arrival, taking, joining, forgetting, Brings, Handed, store_at, store_by, store_after}
use Rattle.demand3.specs.Sendings.{Sending}
use Rattle.demand3.specs.Presupposed.{Traffic, empty_store, store_behind, cells_in, Room}
use Rattle.demand3.proofs.Events.{append_split, store_append}
use Rattle.demand3.proofs.Delivers.{map_split}
use Rattle.once.specs.Once.{NoneForgets, Unforgotten}

-- ---- takings

-- a taking brings no packet
pub none_brought : (c : Call) (out p : List ℕ) → c ≡ taking out → Brings p c → ⊥
none_brought c out p e (inl d) = let f : taking out ≡ arrival p = sym e ∙ d in let z : ◌≡◌ {A = ℕ} 0 1 = cc f in omega arith
none_brought c out p e (inr d) = let f : taking out ≡ joining p d.0 = sym e ∙ d.1 in let z : ◌≡◌ {A = ℕ} 0 1 = cc f in omega arith

-- a packet that is handed over with takings after the calls is handed over by the calls
pub handed_before : (cs : List Call) (outs : List (List ℕ)) (p : List ℕ) → Handed p (cs ++ map taking outs) → Handed p cs
handed_before cs outs p h = go (Memᴰ.append_cases cs h.1)
  where
    go : Memᴰ h.0 cs ⊎ Memᴰ h.0 (map taking outs) → Handed p cs
    go (inl k) = (h.0, k, h.2)
    go (inr k) = let t = Memᴰ.of_map taking outs k in absurd (none_brought h.0 t.0 p (sym t.2) h.2)

module _ (s : Settings) (Z n : ℕ) where
  -- what is presupposed holds of fewer packets
  pub traffic_with : (ms : List Sending) (cs l : List Call) → Traffic s Z ms cs → ((p : List ℕ) → Handed p l → Handed p cs) → Traffic s Z ms l
  traffic_with ms cs l t into =
      record { cut = t.cut; apart = t.apart; octets = λ p h. t.octets p (into p h); packets = λ p h. t.packets p (into p h) }

  -- and of calls before others
  pub before_others : (ms : List Sending) (cs more : List Call) → Unforgotten s Z n ms (cs ++ more) → Unforgotten s Z n ms cs
  before_others ms cs more g =
      record {
        given =
            record {
              traffic = traffic_with ms (cs ++ more) cs g.given.traffic (λ p h. (h.0, Memᴰ.append_left more h.1, h.2));
              room =
                  λ x y c p e b ok seg fit free new.
                  g.given.room x (y ++ more) c p (ap (λ (l : List Call). l ++ more) e ∙ append_assoc x (c ∷ y) more) b ok seg fit free new;
            };
        none_forgets = λ i h. g.none_forgets i (Memᴰ.append_left more h);
      }

  -- and with takings after the calls
  pub with_takings : (ms : List Sending) (cs : List Call) (outs : List (List ℕ)) → Unforgotten s Z n ms cs → Unforgotten s Z n ms (cs ++ map taking outs)
  with_takings ms cs outs g =
      record {
        given =
            record { traffic = traffic_with ms cs (cs ++ map taking outs) g.given.traffic (handed_before cs outs); room = roomy };
        none_forgets = none;
      }
    where
      roomy : Room s Z n (cs ++ map taking outs)
      roomy x y c p e b ok seg fit free new = go (append_split cs (map taking outs) x c y e)
        where
          go : ((v : List Call) × (cs ≡ x ++ c ∷ v)) ⊎ ((w : List Call) × (x ≡ cs ++ w) × (map taking outs ≡ w ++ c ∷ y)) →
              has_free (cells_in s Z n (store_behind s Z n x)) ≡ true
          go (inl v) = g.given.room x v.0 c p v.1 b ok seg fit free new
          go (inr w) = let t = map_split taking outs w.0 c y w.2 in absurd (none_brought c t.1 p (sym t.5) b)

      none : NoneForgets (cs ++ map taking outs)
      none i h = go (Memᴰ.append_cases cs h)
        where
          go : Memᴰ (forgetting i) cs ⊎ Memᴰ (forgetting i) (map taking outs) → ⊥
          go (inl k) = g.none_forgets i k
          go (inr k) = let e = (Memᴰ.of_map taking outs k).2 in let z : ◌≡◌ {A = ℕ} 0 1 = cc e in omega arith

  -- ---- up to a call's arrival

  abbrev pub up_to : List Call → Call → List Call
  up_to x (arrival p) = x ++ arrival p ∷ []
  up_to x (taking out) = x
  up_to x (joining p out) = x ++ arrival p ∷ []
  up_to x (forgetting i) = x ++ forgetting i ∷ []

  pub up_to_lem : (x : List Call) (c : Call) → store_behind s Z n (up_to x c) ≡ store_at s Z (store_behind s Z n x) c
  unfolding store_after store_by
  up_to_lem x (arrival p) = store_append s Z x (arrival p ∷ []) (empty_store Z n)
  up_to_lem x (taking out) = refl
  up_to_lem x (joining p out) = store_append s Z x (arrival p ∷ []) (empty_store Z n)
  up_to_lem x (forgetting i) = store_append s Z x (forgetting i ∷ []) (empty_store Z n)

  -- its packets are the calls' own
  arrived_with : (x : List Call) (c : Call) (p q : List ℕ) → Brings p c → Handed q (x ++ arrival p ∷ []) → Handed q (x ++ c ∷ [])
  arrived_with x c p q b h = go (Memᴰ.append_cases x h.1)
    where
      same : (d : Call) → d ≡ arrival p → Brings q d → p ≡ q
      same d e (inl f) = let k : arrival p ≡ arrival q = sym e ∙ f in cc k
      same d e (inr f) = let k : arrival p ≡ joining q f.0 = sym e ∙ f.1 in let z : ◌≡◌ {A = ℕ} 0 1 = cc k in absurd (omega arith)

      one : (h.0 ≡ arrival p) ⊎ Memᴰ h.0 [] → Handed q (x ++ c ∷ [])
      one (inl e) = (c, Memᴰ.append_right x (Memᴰ.head refl), subst (λ (r : List ℕ). Brings r c) (same h.0 e h.2) b)
      one (inr k) = absurd (Memᴰ.not-nil k)

      go : Memᴰ h.0 x ⊎ Memᴰ h.0 (arrival p ∷ []) → Handed q (x ++ c ∷ [])
      go (inl k) = (h.0, Memᴰ.append_left (c ∷ []) k, h.2)
      go (inr k) = one (Memᴰ.cases_cons k)

  pub handed_up : (x : List Call) (c : Call) (q : List ℕ) → Handed q (up_to x c) → Handed q (x ++ c ∷ [])
  handed_up x (arrival p) q h = h
  handed_up x (taking out) q h = (h.0, Memᴰ.append_left (taking out ∷ []) h.1, h.2)
  handed_up x (joining p out) q h = arrived_with x (joining p out) p q (inr (out, refl)) h
  handed_up x (forgetting i) q h = h
