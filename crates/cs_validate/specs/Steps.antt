-- What a rule of the code asks, by the numbers of its parts.
use Rattle.std.specs.Prelude.{ℕ, suc, ◌+◌, ℤ, pos, true, false, List, [], ◌∷◌, Option, Some, None, option_map, option_to_list, map, length, slice_index}
use Rattle.std.specs.Option.{option_map_or}
use Rattle.std.specs.List.{flat_map}
use Rattle.cs_document.specs.Sizes.{Characters, Elements, Keys}
use Rattle.cs_document.specs.View.{doc_view}
use Rattle.cs_rules.specs.Steps.{Step}
use Rattle.cs_profile.specs.Keywords as named
use Rattle.cs_profile.specs.Keywords.{Kind, all_keywords}
use Rattle.cs_profile.specs.declared.keyword.Keyword.{Keyword}
use Rattle.cs_profile.specs.declared.keyword.Keyword.TheVariants as keyword
use Rattle.cs_profile.specs.Constraint.{Assertion, nothing, valid_by, has_kind, equals, is_among, at_least, at_most, above, below, has_keys, at_keys, at_other_keys, in_front, behind, at_least_long, at_most_long, valid_by_all, valid_by_any, not_valid_by, Constraint, always, never, conjunction}
use Rattle.cs_profile.specs.Validity.{is_satisfied}
use Rattle.cs_profile.specs.Numbered.{numbered as numbers_from, names_in}
use Rattle.cs_profile.specs.declared.schema.JsonKind.{JsonKind}
use Rattle.cs_profile.specs.declared.schema.JsonKind.TheVariants as kind
use Rattle.cs_validate.specs.Numbering.{map_constraint}
use Rattle.cs_validate.specs.declared.rules.Rule.{Rule}
use Rattle.cs_validate.specs.declared.rules.Rule.TheVariants as rule
use Rattle.cs_validate.specs.declared.rules.Conjunction.{Conjunction}

-- the kind that `type` names
abbrev pub kind_of : JsonKind → Kind
kind_of kind.Null = named.Null
kind_of kind.Boolean = named.Boolean
kind_of kind.Object = named.Object
kind_of kind.Array = named.Array
kind_of kind.Number = named.Number
kind_of kind.String = named.String
kind_of kind.Integer = named.Integer

-- a list or map that is empty asks nothing
abbrev pub unless_empty : {X Y : Type 0} → (List X → Y) → List X → Option Y
unless_empty f [] = None
unless_empty f (x ∷ xs) = Some (f (x ∷ xs))

-- an integer below zero is no count, and asks nothing
abbrev pub of_count : {H I : Type 0} → (ℕ → Assertion H I) → ℤ → Assertion H I
of_count f (pos n) = f n
of_count f _ = nothing

abbrev pub one_if : {X : Type 0} → Option X → ℕ
one_if o = option_map_or (λ x. 1) o 0

-- places from one on, as many as these
abbrev pub places_from : {X : Type 0} → ℕ → List X → List ℕ
places_from p [] = []
places_from p (x ∷ xs) = p ∷ places_from (suc p) xs

-- the places of the schemas that are asked of documents inside, one after another from the first
abbrev pub items_place : Conjunction → ℕ
items_place c = c.first + one_if c.keywords.now.additional

abbrev pub prefix_place : Conjunction → ℕ
prefix_place c = items_place c + one_if c.keywords.now.rest

abbrev pub properties_place : Conjunction → ℕ
properties_place c = prefix_place c + length c.keywords.now.prefix.items

-- what a keyword asks, if it is there
abbrev pub claim_of : Conjunction → Keyword → Option (Assertion ℕ ℕ)
claim_of c keyword.Ref = option_map (λ n. valid_by c.reference) c.keywords.now.reference
claim_of c keyword.AdditionalProperties = option_map (λ s. at_other_keys (names_in c.keywords.now.properties.entries) c.first) c.keywords.now.additional
claim_of c keyword.AllOf = unless_empty valid_by_all c.all_of.items
claim_of c keyword.AnyOf = unless_empty valid_by_any c.any_of.items
claim_of c keyword.Const = option_map (λ d. equals (doc_view d)) c.keywords.now.equal
claim_of c keyword.Enum = option_map is_among c.one_of
claim_of c keyword.ExclusiveMaximum = option_map below c.keywords.now.below
claim_of c keyword.ExclusiveMinimum = option_map above c.keywords.now.above
claim_of c keyword.Items = option_map (λ s. behind (length c.keywords.now.prefix.items) (items_place c)) c.keywords.now.rest
claim_of c keyword.MaxItems = option_map (of_count (at_most_long Elements)) c.keywords.now.max_items
claim_of c keyword.MaxLength = option_map (of_count (at_most_long Characters)) c.keywords.now.max_length
claim_of c keyword.MaxProperties = option_map (of_count (at_most_long Keys)) c.keywords.now.max_properties
claim_of c keyword.Maximum = option_map at_most c.keywords.now.maximum
claim_of c keyword.MinItems = option_map (of_count (at_least_long Elements)) c.keywords.now.min_items
claim_of c keyword.MinLength = option_map (of_count (at_least_long Characters)) c.keywords.now.min_length
claim_of c keyword.MinProperties = option_map (of_count (at_least_long Keys)) c.keywords.now.min_properties
claim_of c keyword.Minimum = option_map at_least c.keywords.now.minimum
claim_of c keyword.Not = option_map not_valid_by c.negated
claim_of c keyword.PrefixItems = unless_empty in_front (places_from (prefix_place c) c.keywords.now.prefix.items)
claim_of c keyword.Properties = unless_empty at_keys (numbers_from (properties_place c) (names_in c.keywords.now.properties.entries))
claim_of c keyword.Required = unless_empty has_keys c.required
claim_of c keyword.Type = option_map (λ j. has_kind (kind_of j)) c.keywords.now.kind
claim_of c _ = None

abbrev pub claims_of : Conjunction → List (Option (Assertion ℕ ℕ))
claims_of c = map (claim_of c) all_keywords

-- what a rule asks; a part asked of a document inside is a place in another list
abbrev pub asked_of : Rule → Constraint ℕ ℕ
asked_of (rule.Truth true) = always
asked_of (rule.Truth false) = never
asked_of (rule.Object c) = conjunction (flat_map option_to_list (claims_of c))

-- the same, with the numbers that are in that list
abbrev pub numbered : List ℕ → Rule → Constraint ℕ ℕ
numbered inner r = map_constraint (λ k. k) (slice_index inner) (asked_of r)

-- the verdict on a value, by those on the parts
abbrev pub step : Rule → Step
step r here inside d x = is_satisfied here inside (asked_of r) d x
