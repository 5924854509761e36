-- Causes without texts: what they are of a value and a rule.
use Rattle.std.specs.Prelude.{◌≡◌, ℕ, List, [], Some, map, slice_get, slice_index}
use Rattle.cs_document.specs.Document.{Entry}
use Rattle.cs_document.specs.Inside.{map_entry}
use Rattle.cs_document.specs.Opened.{Opened, an_object}
use Rattle.cs_flat.specs.Listed.{values}
use Rattle.cs_flat.specs.Nodes.{node_at}
use Rattle.cs_table.specs.Judged.{AllVerdicts}
use Rattle.cs_validity_reasons.specs.Causes as cause
use Rattle.cs_validate.specs.Asked.{places_named}
use Rattle.cs_validity_reasons.specs.Causes.{IsCause}
use Rattle.cs_validity_reasons.specs.NumberedCauses.{NumberedCause}
use Rattle.cs_validate.specs.Steps.{numbered, properties_place}
use Rattle.cs_validate.specs.declared.rules.Rule.{Rule as Coded}
use Rattle.cs_validate.specs.declared.rules.Rule.TheVariants as rule
use Rattle.cs_validity_reasons.specs.Led.{PlacedCause}
use Rattle.cs_validity_reasons.specs.declared.cause.KeyedCause.TheVariants.{Reference, Part, Alternative, Property, Additional, Prefix, Items, Never, Missing, Keyword, NoAlternative}

-- the members of a map; the names that a rule requires, and those that it declares, with the rules of their values
abbrev pub members_in : Opened ℕ → List (Entry ℕ)
members_in (an_object ms) = ms
members_in _ = []

abbrev pub required_in : Coded → List (List ℕ)
required_in (rule.Truth b) = []
required_in (rule.Object c) = c.required

abbrev pub named_in : List ℕ → Coded → List (Entry ℕ)
named_in inner (rule.Truth b) = []
named_in inner (rule.Object c) = map (map_entry (slice_index inner)) (places_named (properties_place c) c.keywords.now.properties.entries)

-- the cause with the keys that are at its places: of members, of required names and of declared ones
abbrev pub IsKeyed : List (Entry ℕ) → List (List ℕ) → List (Entry ℕ) → PlacedCause → NumberedCause → Type 0
IsKeyed ms ks ps (Reference item q) n = n ≡ cause.reference q
IsKeyed ms ks ps (Part item q place) n = n ≡ cause.part place q
IsKeyed ms ks ps (Alternative item q place) n = n ≡ cause.alternative place q
IsKeyed ms ks ps (Property place item q) n = (k : List ℕ) × (slice_get ps place ≡ Some (k, q)) × (n ≡ cause.property k item q)
IsKeyed ms ks ps (Additional place item q) n = (k : List ℕ) × (slice_get ms place ≡ Some (k, item)) × (n ≡ cause.additional k item q)
IsKeyed ms ks ps (Prefix place item q) n = n ≡ cause.prefix place item q
IsKeyed ms ks ps (Items place item q) n = n ≡ cause.items place item q
IsKeyed ms ks ps Never n = n ≡ cause.never_valid
IsKeyed ms ks ps (Missing place) n = (k : List ℕ) × (slice_get ks place ≡ Some k) × (n ≡ cause.missing k)
IsKeyed ms ks ps (Keyword w) n = n ≡ cause.by_keyword w
IsKeyed ms ks ps NoAlternative n = n ≡ cause.no_alternative

-- a cause by a schema that is asked of the value itself leads to that value
abbrev pub StaysAt : ℕ → PlacedCause → Type 0
StaysAt i (Reference item q) = item ≡ i
StaysAt i (Part item q place) = item ≡ i
StaysAt i (Alternative item q place) = item ≡ i
StaysAt i _ = Unit {0}

-- of the items xs and these rules, by the verdicts f: a cause of the item i and the rule r
pub record IsPlacedCause (f : AllVerdicts) (xs : List (Opened ℕ)) (rules : List Coded) (inner : List ℕ) (i r : ℕ) (c : PlacedCause) : Type 0 where
  pub value : Opened ℕ
  pub asks : Coded
  pub named : NumberedCause
  pub at_item : slice_get xs i ≡ Some value
  pub at_rule : slice_get rules r ≡ Some asks
  pub stays : StaysAt i c
  pub keyed : IsKeyed (members_in value) (required_in asks) (named_in inner asks) c named
  pub cause : IsCause (f i) f (node_at (values xs) i) value (numbered inner asks) named
