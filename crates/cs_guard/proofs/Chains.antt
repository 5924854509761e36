-- Chains of strong references.
use Rattle.std.proofs.Common.{◌≡◌, ℕ, ◌<◌, ◌≤◌, List, [], ◌∷◌, ◌++◌, length, Contains, Option, Some, None, IfSome, get_or, refl, sym, ap, subst, arith}
use Rattle.std.proofs.lemmas.List.{get_or_read_under}
use Rattle.std.proofs.lemmas.Option.{IfSome_then}
use Rattle.cs_package.specs.Environment.{Environment, name_at}
use Rattle.cs_guard.specs.References.{strong_of, RefersStrongly}
use Rattle.cs_graph.specs.Chains.{NoCycle}
use Rattle.cs_graph.proofs.Paths.{height_falls}
use Rattle.cs_guard.specs.Limits.{most_references}
use Rattle.cs_guard.specs.Guarded.{Chain, IsGuarded, IsHeight}
use Rattle.cs_guard.specs.Ranks.{AreRanks}

no_element : {X : Type 0} (xs : List X) (x : X) → xs ≡ [] → Contains xs x → ⊥
no_element xs x e h = let l : h.0 < length xs = h.1 in omega (arith, ap length e, l)

-- ---- an environment without strong references

module _ (E : Environment) (alone : (n : List ℕ) → strong_of E n ≡ []) where
  no_chain : (n m : List ℕ) (ns : List (List ℕ)) → Chain E n (m ∷ ns) → ⊥
  no_chain n m ns c = no_element (strong_of E n) m (alone n) c.0

  pub alone-guarded : IsGuarded E
  alone-guarded = record { no_cycle = cycle; short = chain }
    where
      cycle : NoCycle (RefersStrongly E)
      cycle n [] c = no_chain n n [] c
      cycle n (m ∷ ns) c = no_chain n m (ns ++ n ∷ []) c

      chain : (n : List ℕ) (ns : List (List ℕ)) → Chain E n ns → length ns ≤ most_references
      chain n [] c = omega arith
      chain n (m ∷ ns) c = absurd (no_chain n m ns c)

-- the height at a place, and that it is above those that are referred to
module _ (E : Environment) (i : ℕ) where
  abbrev HasHeight : ℕ → Type 0
  HasHeight r = IfSome (name_at E i) (λ n. IsHeight E n r)

  pub has-height : (ranks : List ℕ) → AreRanks E ranks → (r : ℕ) → i < length E → r ≡ get_or ranks i r → HasHeight r
  has-height ranks are r within e = by (name_at E i) refl
    where
      same : get_or ranks i 0 ≡ r
      same = let l : i < length ranks = omega (arith, are.long) in sym (get_or_read_under ranks i (length ranks) r 0 e l refl)

      by : (o : Option (List ℕ)) → name_at E i ≡ o → IfSome o (λ n. IsHeight E n r)
      by None q = tt
      by (Some n) q = subst (IsHeight E n) same (are.heights i n q)

  pub height-above : (r : ℕ) → HasHeight r → IfSome (name_at E i) (λ n. (m : List ℕ) (h : ℕ) → Contains (strong_of E n) m → IsHeight E m h → h < r)
  height-above r high = IfSome_then (name_at E i) high (λ n at m h refers low. height_falls (RefersStrongly E) n m r h at refers low)
