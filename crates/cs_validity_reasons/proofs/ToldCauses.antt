-- What is told of a refused pair is each of its causes, once.
use Rattle.std.proofs.Common.{◌≡◌, ⊎_elim, ℕ, zero, suc, ◌+◌, Bool, true, false, List, [], ◌∷◌, Contains, refl, sym, ap, ◌∙◌, subst, arith}
use Rattle.std.specs.Prelude.{Some, slice_get}
use Rattle.std.proofs.lemmas.List.Elements.{Contains-append_left, Contains-append_right, Contains-append_cases}
use Rattle.std.proofs.lemmas.Option.{same_Some}
use Rattle.cs_document.specs.Document.{Document, Entry}
use Rattle.cs_document.specs.Opened.{Opened}
use Rattle.cs_flat.specs.Listed.{values}
use Rattle.cs_flat.specs.Nodes.{node_at}
use Rattle.cs_reasons.specs.Reasons.{AreCauses}
use Rattle.cs_rules.specs.Answers.{answer}
use Rattle.cs_rules.proofs.Judged.{answer_is}
use Rattle.cs_table.specs.Judged.{AllVerdicts}
use Rattle.cs_profile.specs.Constraint.{Constraint, never}
use Rattle.cs_validity_reasons.specs.CauseLists.{each_from, object_told, rule_told}
use Rattle.cs_validity_reasons.specs.Causes.{Cause, never_valid, IsCause, of_never, of_claim}
use Rattle.cs_validity_reasons.specs.NumberedCauses.{NumberedCause}
use Rattle.cs_validity_reasons.specs.PlacedCauses.{members_in, required_in, named_in, IsKeyed, IsPlacedCause}
use Rattle.cs_validate.specs.Steps.{step, numbered}
use Rattle.cs_validate.specs.declared.rules.Rule.{Rule as Coded}
use Rattle.cs_validate.specs.declared.rules.Rule.TheVariants as rule
use Rattle.cs_validate.specs.declared.rules.Conjunction.{Conjunction}
use Rattle.cs_validity_reasons.specs.Led.{PlacedCause}
use Rattle.cs_validity_reasons.specs.declared.cause.KeyedCause.TheVariants.{Reference, Part, Alternative, Property, Additional, Prefix, Items, Never, Missing, Keyword, NoAlternative}
use Rattle.cs_validity_reasons.proofs.Contained.{at_place}
use Rattle.cs_validity_reasons.proofs.ObjectComplete.{object_complete}
use Rattle.cs_validity_reasons.proofs.ObjectOnce.{object_once}
use Rattle.cs_validity_reasons.proofs.ObjectSome.{object_some}
use Rattle.cs_validity_reasons.proofs.ObjectSound.{object_sound}

-- ---- what is told of each

told_in : {X : Type 0} (g : ℕ → X → List PlacedCause) (k j : ℕ) (xs : List X) (x : X) (c : PlacedCause) → slice_get xs j ≡ Some x → Contains (g (k + j) x) c → Contains (each_from g k xs) c
told_in g k j [] x c e h = cc
told_in g k zero (z ∷ zs) x c e h =
    let same : z ≡ x = same_Some z x e in Contains-append_left (g k z) (each_from g (suc k) zs) c (rw same (subst (λ n. Contains (g n x) c) (omega arith) h))
told_in g k (suc j) (z ∷ zs) x c e h = Contains-append_right (g k z) (each_from g (suc k) zs) c (told_in g (suc k) j zs x c e (subst (λ n. Contains (g n x) c) (omega arith) h))

in_told : {X : Type 0} (g : ℕ → X → List PlacedCause) (k : ℕ) (xs : List X) (c : PlacedCause) → Contains (each_from g k xs) c → (j : ℕ) × (x : X) × (slice_get xs j ≡ Some x) × Contains (g (k + j) x) c
in_told g k [] c h =
    let l = h.1 in absurd (omega (arith, l))
in_told g k (z ∷ zs) c h =
    ⊎_elim (λ (a : Contains (g k z) c). (0, z, refl, subst (λ n. Contains (g n z) c) (omega arith) a))
    (λ (b : Contains (each_from g (suc k) zs) c). let p = in_told g (suc k) zs c b in (suc p.0, p.1, p.2, subst (λ n. Contains (g n p.1) c) (omega arith) p.3))
    (Contains-append_cases (g k z) (each_from g (suc k) zs) c h)

-- ---- the schema `false`

module _ (here : ℕ → Bool) (inside : ℕ → ℕ → Bool) (d : Document) (x : Opened ℕ) where
  never_is : {a : Constraint ℕ ℕ} {n : Cause ℕ ℕ ℕ} → IsCause here inside d x a n → a ≡ never → n ≡ never_valid
  never_is of_never e = refl
  never_is (of_claim m h) e = cc

never_keyed : (ms : List (Entry ℕ)) (ks : List (List ℕ)) (ps : List (Entry ℕ)) (c : PlacedCause) (n : NumberedCause) → IsKeyed ms ks ps c n → n ≡ never_valid → c ≡ Never
never_keyed ms ks ps (Reference item q) n k e = cc
never_keyed ms ks ps (Part item q place) n k e = cc
never_keyed ms ks ps (Alternative item q place) n k e = cc
never_keyed ms ks ps (Property place item q) n k e = let f = k.2 in cc
never_keyed ms ks ps (Additional place item q) n k e = let f = k.2 in cc
never_keyed ms ks ps (Prefix place item q) n k e = cc
never_keyed ms ks ps (Items place item q) n k e = cc
never_keyed ms ks ps Never n k e = refl
never_keyed ms ks ps (Missing place) n k e = let f = k.2 in cc
never_keyed ms ks ps (Keyword w) n k e = cc
never_keyed ms ks ps NoAlternative n k e = cc

one_alone : (j : ℕ) (c d : PlacedCause) → slice_get (c ∷ []) j ≡ Some d → (j ≡ 0) × (d ≡ c)
one_alone zero c d e = (refl, sym (same_Some c d e))
one_alone (suc j) c d e = cc

module _ (f : AllVerdicts) (xs : List (Opened ℕ)) (rules : List Coded) (inner : List ℕ) (i r : ℕ) (x : Opened ℕ) (e : slice_get xs i ≡ Some x) where
  false_told : slice_get rules r ≡ Some (rule.Truth false) → AreCauses (IsPlacedCause f xs rules inner i r) (Never ∷ [])
  false_told k = record { sound = sound; complete = complete; once = once; some = omega arith }
    where
      never_placed : IsPlacedCause f xs rules inner i r Never
      never_placed = record { value = x; asks = rule.Truth false; named = never_valid; at_item = e; at_rule = k; stays = tt; keyed = refl; cause = of_never }

      sound : (j : ℕ) (c : PlacedCause) → slice_get (Never ∷ []) j ≡ Some c → IsPlacedCause f xs rules inner i r c
      sound j c h = subst (IsPlacedCause f xs rules inner i r) (sym (one_alone j Never c h).1) never_placed

      complete : (c : PlacedCause) → IsPlacedCause f xs rules inner i r c → Contains (Never ∷ []) c
      complete c h =
          let asks : h.asks ≡ rule.Truth false = same_Some h.asks (rule.Truth false) (sym h.at_rule ∙ k) in
          let is = never_keyed (members_in h.value) (required_in h.asks) (named_in inner h.asks) c h.named h.keyed (never_is (f i) f (node_at (values xs) i) h.value h.cause (ap (numbered inner) asks)) in
          (0, omega arith, sym is)

      once : (j l : ℕ) (c : PlacedCause) → slice_get (Never ∷ []) j ≡ Some c → slice_get (Never ∷ []) l ≡ Some c → j ≡ l
      once j l c a b = (one_alone j Never c a).0 ∙ sym (one_alone l Never c b).0

  -- the keywords of an object
  object_are : (c : Conjunction) → slice_get rules r ≡ Some (rule.Object c) → f i r ≡ answer step rules inner (values xs) xs i r f → f i r ≡ false
      → AreCauses (IsPlacedCause f xs rules inner i r) (object_told f inner i (node_at (values xs) i) x c)
  object_are c k judged refused = record {
    sound = λ j p h. object_sound f xs rules inner i r x e c k p (at_place (object_told f inner i (node_at (values xs) i) x c) p j h);
    complete = object_complete f xs rules inner i r x e c k;
    once = object_once f inner i (node_at (values xs) i) x c;
    some = object_some f xs rules inner i r x e c k judged refused;
  }

  pub told_causes : (asks : Coded) → slice_get rules r ≡ Some asks → f i r ≡ answer step rules inner (values xs) xs i r f → f i r ≡ false
      → AreCauses (IsPlacedCause f xs rules inner i r) (rule_told f inner i (node_at (values xs) i) x asks)
  told_causes (rule.Truth true) k judged refused =
      let holds = judged ∙ answer_is step rules inner (values xs) xs i r f (rule.Truth true) x k e in
      let not : ◌≡◌ {A = Bool} true false = sym holds ∙ refused in cc
  told_causes (rule.Truth false) k judged refused = false_told k
  told_causes (rule.Object c) k judged refused = object_are c k judged refused
