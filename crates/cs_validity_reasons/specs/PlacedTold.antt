-- What is told by causes without texts: the causes of a pair that are told of, and the same with the keys at their places.
use Rattle.std.specs.Prelude.{◌≡◌, ◌⊎◌, ℕ, Bool, true, false, List, [], get_or}
use Rattle.cs_document.specs.Document.{Entry}
use Rattle.cs_document.specs.Opened.{Opened, a_null}
use Rattle.cs_reasons.specs.Reasons.{IsFollowed}
use Rattle.cs_reasons.specs.Told.{AreReasons}
use Rattle.cs_reasons.specs.declared.reasons.Reasons.{Reasons}
use Rattle.cs_table.specs.Judged.{AllVerdicts}
use Rattle.cs_validity_reasons.specs.Causes as cause
use Rattle.cs_validity_reasons.specs.NumberedCauses.{NumberedCause}
use Rattle.cs_validity_reasons.specs.Led.{PlacedCause, leads_to, is_alternative}
use Rattle.cs_validity_reasons.specs.PlacedCauses.{members_in, required_in, named_in, IsPlacedCause}
use Rattle.cs_validity_reasons.specs.WhyTold.{ValidCause, cause_of}
use Rattle.cs_validate.specs.declared.rules.Rule.{Rule as Coded}
use Rattle.cs_validate.specs.declared.rules.Rule.TheVariants as rule
use Rattle.cs_validity_reasons.specs.declared.cause.KeyedCause.TheVariants.{Reference, Part, Alternative, Property, Additional, Prefix, Items, Never, Missing, Keyword, NoAlternative}

abbrev pub key_in : List (Entry ℕ) → ℕ → List ℕ
key_in es place = (get_or es place ([], 0)).0

-- the cause with the keys that are at its places
abbrev pub keyed : List (Entry ℕ) → List (List ℕ) → List (Entry ℕ) → PlacedCause → NumberedCause
keyed ms ks ps (Reference item q) = cause.reference q
keyed ms ks ps (Part item q place) = cause.part place q
keyed ms ks ps (Alternative item q place) = cause.alternative place q
keyed ms ks ps (Property place item q) = cause.property (key_in ps place) item q
keyed ms ks ps (Additional place item q) = cause.additional (key_in ms place) item q
keyed ms ks ps (Prefix place item q) = cause.prefix place item q
keyed ms ks ps (Items place item q) = cause.items place item q
keyed ms ks ps Never = cause.never_valid
keyed ms ks ps (Missing place) = cause.missing (get_or ks place [])
keyed ms ks ps (Keyword w) = cause.by_keyword w
keyed ms ks ps NoAlternative = cause.no_alternative

abbrev pub item_at : List (Opened ℕ) → ℕ → Opened ℕ
item_at xs i = get_or xs i a_null

abbrev pub rule_at : List Coded → ℕ → Coded
rule_at rules r = get_or rules r (rule.Truth false)

module _ (xs : List (Opened ℕ)) (rules : List Coded) (inner : List ℕ) where
  -- by the pair that it is of
  abbrev pub cause_at : ℕ × ℕ → PlacedCause → NumberedCause
  cause_at p c = keyed (members_in (item_at xs p.0)) (required_in (rule_at rules p.1)) (named_in inner (rule_at rules p.1)) c

  -- d has the keys of c, if c is a cause of the pair, or that no alternative holds
  abbrev pub IsNamed : ℕ × ℕ → PlacedCause → ValidCause → Type 0
  IsNamed p c d = (f : AllVerdicts) → IsPlacedCause f xs rules inner p.0 p.1 c ⊎ (c ≡ NoAlternative) → cause_of d ≡ cause_at p c

  -- the reasons of the pair i, r, by the verdicts of a table: all of them, or where of alternatives some are chosen
  abbrev pub AreReasonsOf : AllVerdicts → Bool → ℕ → ℕ → ℕ → Reasons PlacedCause → Type 0
  AreReasonsOf f true i r most rs = AreReasons leads_to (IsPlacedCause f xs rules inner) i r most rs
  AreReasonsOf f false i r most rs = (chosen : AllVerdicts) × AreReasons leads_to (IsFollowed leads_to (IsPlacedCause f xs rules inner) is_alternative NoAlternative chosen) i r most rs
