-- An object never asks for one of no schemas.
use Rattle.std.proofs.Common.{rules, ◌≡◌, ℕ, zero, suc, ◌<◌, ℤ, pos, negsuc, Bool, true, false, List, [], ◌∷◌, Option, Some, None, option_map, map, length, get_or, slice_index, subst, arith}
use Rattle.std.specs.Prelude.{option_to_list}
use Rattle.std.specs.List.{flat_map, AllByRecursion as Each}
use Rattle.std.specs.Option.{IfSome}
use Rattle.cs_document.specs.Document.{Document}
use Rattle.cs_document.specs.Opened.{Opened}
use Rattle.cs_document.proofs.Each.{each_of, each_over}
use Rattle.cs_profile.specs.Keywords.{all_keywords}
use Rattle.cs_profile.specs.Constraint.{Assertion, valid_by_any, Constraint, conjunction}
use Rattle.cs_profile.specs.declared.keyword.Keyword.{Keyword}
use Rattle.cs_profile.specs.declared.keyword.Keyword.TheVariants as keyword
use Rattle.cs_validity_reasons.specs.Causes.{Cause, no_alternative, IsDenied, of_keyword, of_reference, of_undefined, of_part, of_alternative, of_none, of_missing, of_property, of_additional, of_prefix, of_items, IsCause, of_never, of_claim}
use Rattle.cs_validate.specs.Numbering.{map_assertion}
use Rattle.cs_validate.specs.Steps.{claim_of, claims_of, unless_empty, of_count, numbered}
use Rattle.cs_validate.specs.declared.rules.Rule.{Rule as Coded}
use Rattle.cs_validate.specs.declared.rules.Rule.TheVariants as rule
use Rattle.cs_validate.specs.declared.rules.Conjunction.{Conjunction}

abbrev pub IsOfSome : Assertion ℕ ℕ → Type 0
IsOfSome (valid_by_any []) = ⊥
IsOfSome _ = Unit {0}

if_each : {Y : Type 0} (f : Y → Assertion ℕ ℕ) → ((y : Y) → IsOfSome (f y)) → (o : Option Y) → IfSome (option_map f o) IsOfSome
if_each f h None = tt
if_each f h (Some y) = h y

if_any : {Y : Type 0} (f : List Y → Assertion ℕ ℕ) → ((y : Y) (ys : List Y) → IsOfSome (f (y ∷ ys))) → (ys : List Y) → IfSome (unless_empty f ys) IsOfSome
if_any f h [] = tt
if_any f h (y ∷ ys) = h y ys

count_each : (f : ℕ → Assertion ℕ ℕ) → ((l : ℕ) → IsOfSome (f l)) → (z : ℤ) → IsOfSome (of_count f z)
count_each f h (pos l) = h l
count_each f h (negsuc l) = tt

each_some : (os : List (Option (Assertion ℕ ℕ))) → Each (λ o. IfSome o IsOfSome) os → Each IsOfSome (flat_map option_to_list os)
each_some [] h = tt
each_some (None ∷ os) h = each_some os h.1
each_some (Some x ∷ os) h = (h.0, each_some os h.1)

module _ (c : Conjunction) where
  ruleset of_some = (rules, if_each, if_any, count_each)

  claim_of_some : (w : Keyword) → IfSome (claim_of c w) IsOfSome
  claim_of_some keyword.AnyOf = if_any valid_by_any (λ y ys. tt) c.any_of.items
  claim_of_some _ = search of_some

  pub claims_of_some : Each IsOfSome (flat_map option_to_list (claims_of c))
  claims_of_some = each_some (claims_of c) (each_over (claim_of c) (λ o. IfSome o IsOfSome) all_keywords (each_of (λ w. IfSome (claim_of c w) IsOfSome) claim_of_some all_keywords))

-- ---- so it has no cause that none of no alternatives holds

contained : {X : Type 0} (P : X → Type 0) (xs : List X) (x d : X) (k : ℕ) → Each P xs → k < length xs → get_or xs k d ≡ x → P x
contained P [] x d k h l e = absurd (omega (arith, l))
contained P (y ∷ ys) x d zero h l e = subst P e h.0
contained P (y ∷ ys) x d (suc k) h l e = contained P ys x d k h.1 (omega (arith, l)) e

abbrev AreOfSome : Constraint ℕ ℕ → Type 0
AreOfSome (conjunction claims) = Each IsOfSome claims
AreOfSome _ = Unit {0}

module _ (f g : ℕ → ℕ) where
  mapped_of_some : (a : Assertion ℕ ℕ) → IsOfSome a → IsOfSome (map_assertion f g a)
  mapped_of_some (valid_by_any []) h = h
  mapped_of_some (valid_by_any (q ∷ qs)) h = tt
  mapped_of_some _ h = tt

  each_of_some : (claims : List (Assertion ℕ ℕ)) → Each IsOfSome claims → Each IsOfSome (map (map_assertion f g) claims)
  each_of_some [] h = tt
  each_of_some (a ∷ claims) h = (mapped_of_some a h.0, each_of_some claims h.1)

pub rule_of_some : (inner : List ℕ) (asks : Coded) → AreOfSome (numbered inner asks)
rule_of_some inner (rule.Truth true) = tt
rule_of_some inner (rule.Truth false) = tt
rule_of_some inner (rule.Object c) = each_of_some (λ k. k) (slice_index inner) (flat_map option_to_list (claims_of c)) (claims_of_some c)

module _ (here : ℕ → Bool) (inside : ℕ → ℕ → Bool) (d : Document) (x : Opened ℕ) where
  denied_some : {a : Assertion ℕ ℕ} {c : Cause ℕ ℕ ℕ} → IsDenied here inside d x a c → c ≡ no_alternative → IsOfSome a → ⊥
  denied_some (of_keyword e h) q s = cc
  denied_some (of_reference h) q s = cc
  denied_some of_undefined q s = cc
  denied_some (of_part e h) q s = cc
  denied_some (of_alternative h e) q s = cc
  denied_some of_none q s = s
  denied_some (of_missing o m e) q s = cc
  denied_some (of_property o m e h) q s = cc
  denied_some (of_additional o m e h) q s = cc
  denied_some (of_prefix o e k h) q s = cc
  denied_some (of_items o m k h) q s = cc

  pub cause_some : {a : Constraint ℕ ℕ} {c : Cause ℕ ℕ ℕ} → IsCause here inside d x a c → c ≡ no_alternative → AreOfSome a → ⊥
  cause_some of_never q s = cc
  cause_some (of_claim {claims} {a} m h) q s = denied_some h q (contained IsOfSome claims a a m.0 s m.1 m.2)
