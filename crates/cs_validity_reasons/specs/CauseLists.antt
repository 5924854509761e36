-- The causes of a refusal one after another, keyword by keyword, where f has the verdicts and `inner` the rules that are asked of
-- values inside.
use Rattle.std.specs.Prelude.{ℕ, suc, ℤ, Bool, true, false, not, ◌||◌, List, [], ◌∷◌, ◌++◌, Option, Some, None, map, zip, drop, length, String, slice_index, is_some, int_le, int_lt}
use Rattle.std.specs.Option.{option_map_or}
use Rattle.std.specs.List.{list_any}
use Rattle.std.specs.Str.{bytes_eq}
use Rattle.std.specs.declared.alloc.Global.{Global}
use Rattle.cs_document.specs.Document.{Document, Entry, under}
use Rattle.cs_document.specs.Inside.{map_entry}
use Rattle.cs_document.specs.Opened.{Opened, a_text, a_list, an_integer, an_object}
use Rattle.cs_document.specs.Sizes.{text_length}
use Rattle.cs_table.specs.Judged.{AllVerdicts}
use Rattle.cs_profile.specs.Numbered.{names_in}
use Rattle.cs_profile.specs.Validity.{if_there}
use Rattle.cs_profile.specs.declared.keyword.Keyword.{Keyword as Word}
use Rattle.cs_profile.specs.declared.keyword.Keyword.TheVariants as keyword
use Rattle.cs_profile.specs.declared.schema.Keywords.{Keywords}
use Rattle.cs_validate.specs.Asked.{asks_type, asks_const, asks_enum, is_at_most_long, is_at_least_long, places_named}
use Rattle.cs_validate.specs.Steps.{places_from, items_place, prefix_place, properties_place}
use Rattle.cs_validate.specs.declared.rules.Rule.{Rule as Coded}
use Rattle.cs_validate.specs.declared.rules.Rule.TheVariants as rule
use Rattle.cs_validate.specs.declared.rules.Conjunction.{Conjunction}
use Rattle.cs_validity_reasons.specs.Led.{PlacedCause}
use Rattle.cs_validity_reasons.specs.declared.cause.KeyedCause.TheVariants.{Reference, Part, Alternative, Property, Additional, Prefix, Items, Never, Missing, Keyword}

-- a cause, unless something holds
abbrev pub unless : Bool → PlacedCause → List PlacedCause
unless true c = []
unless false c = c ∷ []

abbrev pub all_unless : Bool → List PlacedCause → List PlacedCause
all_unless true cs = []
all_unless false cs = cs

-- what is told of each, by its place
abbrev pub each_from : {X : Type 0} → (ℕ → X → List PlacedCause) → ℕ → List X → List PlacedCause
each_from g k [] = []
each_from g k (x ∷ xs) = g k x ++ each_from g (suc k) xs

-- by `type`, `const` and `enum`
abbrev pub any_told : Conjunction → Document → Opened ℕ → List PlacedCause
any_told c d x =
    unless (asks_type c.keywords.now.kind x) (Keyword keyword.Type)
    ++ (unless (asks_const c.keywords.now.equal d) (Keyword keyword.Const)
    ++ unless (asks_enum c.one_of d) (Keyword keyword.Enum))

-- by the limits of an integer
abbrev pub upper_told : Keywords → ℤ → List PlacedCause
upper_told k n = unless (if_there (λ l. int_le n l) k.maximum) (Keyword keyword.Maximum) ++ unless (if_there (λ l. int_lt n l) k.below) (Keyword keyword.ExclusiveMaximum)

abbrev pub lower_told : Keywords → ℤ → List PlacedCause
lower_told k n = unless (if_there (λ l. int_le l n) k.minimum) (Keyword keyword.Minimum) ++ unless (if_there (λ l. int_lt l n) k.above) (Keyword keyword.ExclusiveMinimum)

abbrev pub integer_told : Keywords → ℤ → List PlacedCause
integer_told k n = upper_told k n ++ lower_told k n

-- by the limits of a length, each with its keyword: how long something may be at most, and at least
abbrev pub length_told : Option ℤ × Word → Option ℤ × Word → ℕ → List PlacedCause
length_told most least n = unless (is_at_most_long most.0 n) (Keyword most.1) ++ unless (is_at_least_long least.0 n) (Keyword least.1)

-- of a text
abbrev pub text_told : Keywords → List ℕ → List PlacedCause
text_told k s = length_told (k.max_length, keyword.MaxLength) (k.min_length, keyword.MinLength) (text_length s)

module _ (f : AllVerdicts) (i : ℕ) where
  abbrev pub reference_told : Option (String Global) → Option ℕ → List PlacedCause
  reference_told None o = []
  reference_told (Some s) None = Keyword keyword.Ref ∷ []
  reference_told (Some s) (Some q) = unless (f i q) (Reference i q)

  abbrev pub part_told : ℕ → ℕ → List PlacedCause
  part_told k q = unless (f i q) (Part i q k)

  abbrev pub alternative_told : ℕ → ℕ → List PlacedCause
  alternative_told k q = Alternative i q k ∷ []

  abbrev pub alternatives_told : List ℕ → List PlacedCause
  alternatives_told qs = all_unless (list_any (f i) qs) (each_from alternative_told 0 qs)

  abbrev pub negation_told : Option ℕ → List PlacedCause
  negation_told o = unless (if_there (λ q. not (f i q)) o) (Keyword keyword.Not)

  -- by the schemas that are asked of the value itself
  abbrev pub here_told : Conjunction → List PlacedCause
  here_told c =
      reference_told c.keywords.now.reference c.reference
      ++ (each_from part_told 0 c.all_of.items
      ++ (alternatives_told c.any_of.items
      ++ negation_told c.negated))

-- a required name
abbrev pub missing_told : List (Entry ℕ) → ℕ → List ℕ → List PlacedCause
missing_told ms k n = unless (is_some (under n ms)) (Missing k)

module _ (f : AllVerdicts) where
  abbrev pub front_told : ℕ → ℕ × ℕ → List PlacedCause
  front_told k (q, y) = unless (f y q) (Prefix k y q)

  abbrev pub rest_told : ℕ → ℕ → ℕ → List PlacedCause
  rest_told q k y = unless (f y q) (Items k y q)

  abbrev pub value_told : ℕ → ℕ → Option ℕ → List PlacedCause
  value_told k q None = []
  value_told k q (Some y) = unless (f y q) (Property k y q)

  abbrev pub named_told : List (Entry ℕ) → ℕ → Entry ℕ → List PlacedCause
  named_told ms k e = value_told k e.1 (under e.0 ms)

  abbrev pub other_told : List (List ℕ) → ℕ → ℕ → Entry ℕ → List PlacedCause
  other_told names q k m = unless (list_any (bytes_eq m.0) names || f m.1 q) (Additional k m.1 q)

module _ (f : AllVerdicts) (inner : List ℕ) (c : Conjunction) where
  abbrev pub fronts_told : List ℕ → List PlacedCause
  fronts_told ys = each_from (front_told f) 0 (zip (map (slice_index inner) (places_from (prefix_place c) c.keywords.now.prefix.items)) ys)

  abbrev pub rests_told : List ℕ → List PlacedCause
  rests_told ys = option_map_or (λ s. each_from (rest_told f (slice_index inner (items_place c))) (length c.keywords.now.prefix.items) (drop (length c.keywords.now.prefix.items) ys)) c.keywords.now.rest []

  -- of a list
  abbrev pub list_told : List ℕ → List PlacedCause
  list_told ys =
      length_told (c.keywords.now.max_items, keyword.MaxItems) (c.keywords.now.min_items, keyword.MinItems) (length ys)
      ++ (fronts_told ys ++ rests_told ys)

  abbrev pub all_named_told : List (Entry ℕ) → List PlacedCause
  all_named_told ms = each_from (named_told f ms) 0 (map (map_entry (slice_index inner)) (places_named (properties_place c) c.keywords.now.properties.entries))

  abbrev pub others_told : List (Entry ℕ) → List PlacedCause
  others_told ms = option_map_or (λ s. each_from (other_told f (names_in c.keywords.now.properties.entries) (slice_index inner c.first)) 0 ms) c.keywords.now.additional []

  -- of a map
  abbrev pub map_told : List (Entry ℕ) → List PlacedCause
  map_told ms =
      length_told (c.keywords.now.max_properties, keyword.MaxProperties) (c.keywords.now.min_properties, keyword.MinProperties) (length ms)
      ++ (each_from (missing_told ms) 0 c.required
      ++ (all_named_told ms ++ others_told ms))

  abbrev pub kind_told : Opened ℕ → List PlacedCause
  kind_told (an_integer n) = integer_told c.keywords.now n
  kind_told (a_text s) = text_told c.keywords.now s
  kind_told (a_list ys) = list_told ys
  kind_told (an_object ms) = map_told ms
  kind_told _ = []

-- of a value, by a rule
abbrev pub object_told : AllVerdicts → List ℕ → ℕ → Document → Opened ℕ → Conjunction → List PlacedCause
object_told f inner i d x c = any_told c d x ++ (here_told f i c ++ kind_told f inner c x)

abbrev pub rule_told : AllVerdicts → List ℕ → ℕ → Document → Opened ℕ → Coded → List PlacedCause
rule_told f inner i d x (rule.Truth b) = Never ∷ []
rule_told f inner i d x (rule.Object c) = object_told f inner i d x c
