-- What the keywords of an object ask of a value, by what it is. A keyword that is absent asks nothing.
use Rattle.std.specs.Prelude.{ℕ, ◌<◌, ℤ, pos, IfSome, option_to_list, Option, Bool, true, false, not, ◌&&◌, ◌||◌, List, String, length, drop, is_some, nat_le, int_lt, int_le}
use Rattle.std.specs.Option.{option_map_or}
use Rattle.std.specs.List.{list_all, list_any, AllByRecursion}
use Rattle.std.specs.Str.{bytes_eq}
use Rattle.std.specs.declared.alloc.Global.{Global}
use Rattle.cs_document.specs.Document.{Document, Entry, under, document_eq}
use Rattle.cs_document.specs.Opened.{Opened, a_text, a_list, an_integer, an_object}
use Rattle.cs_document.specs.Sizes.{text_length}
use Rattle.cs_document.specs.View.{doc_view}
use Rattle.cs_profile.specs.Validity.{is_of_kind, if_there, front_holds}
use Rattle.cs_profile.specs.Numbered.{numbered as numbers_from, names_in}
use Rattle.cs_document.specs.declared.doc.Doc.{Doc}
use Rattle.cs_profile.specs.declared.schema.JsonKind.{JsonKind}
use Rattle.cs_profile.specs.declared.schema.Keywords.{Keywords}
use Rattle.cs_profile.specs.declared.schema.Schema.{Schema}
use Rattle.cs_rules.specs.Lengths.{TellsLength}
use Rattle.cs_rules.specs.declared.known.Known.{Known}
use Rattle.cs_validate.specs.declared.rules.Conjunction.{Conjunction}
use Rattle.cs_validate.specs.Steps.{kind_of, unless_empty, places_from, items_place, prefix_place, properties_place}

-- by `type`, `const` and `enum`
abbrev pub asks_type : Option JsonKind → Opened ℕ → Bool
asks_type o x = if_there (λ j. is_of_kind (kind_of j) x) o

abbrev pub asks_const : Option Doc → Document → Bool
asks_const o d = if_there (λ v. document_eq (doc_view v) d) o

abbrev pub asks_enum : Option (List Document) → Document → Bool
asks_enum o d = if_there (λ vs. list_any (λ v. document_eq v d) vs) o

-- of a value of any kind (JSON Schema Validation 2020-12, section 6.1)
abbrev pub asks_any : Conjunction → Document → Opened ℕ → Bool
asks_any c d x = asks_type c.keywords.now.kind x && asks_const c.keywords.now.equal d && asks_enum c.one_of d

-- of an integer (Validation, section 6.2): `exclusiveMaximum` and `maximum`, `exclusiveMinimum` and `minimum`
abbrev pub is_not_above : Keywords → ℤ → Bool
is_not_above k n = if_there (λ l. int_lt n l) k.below && if_there (λ l. int_le n l) k.maximum

abbrev pub is_not_below : Keywords → ℤ → Bool
is_not_below k n = if_there (λ l. int_lt l n) k.above && if_there (λ l. int_le l n) k.minimum

abbrev pub asks_integer : Keywords → ℤ → Bool
asks_integer k n = is_not_above k n && is_not_below k n

-- by an integer that is a count
abbrev pub if_count : (ℕ → Bool) → ℤ → Bool
if_count p (pos n) = p n
if_count p _ = true

-- by a limit of lengths, if it is there
abbrev pub is_at_most_long : Option ℤ → ℕ → Bool
is_at_most_long most n = if_there (if_count (λ l. nat_le n l)) most

abbrev pub is_at_least_long : Option ℤ → ℕ → Bool
is_at_least_long least n = if_there (if_count (λ l. nat_le l n)) least

-- of a text (Validation, section 6.3): `maxLength` and `minLength`
abbrev pub asks_text : Keywords → List ℕ → Bool
asks_text k s = is_at_most_long k.max_length (text_length s) && is_at_least_long k.min_length (text_length s)

-- by `$ref`
abbrev pub asks_reference : (ℕ → Bool) → Conjunction → Bool
asks_reference here c = if_there (λ n. option_map_or here c.reference false) c.keywords.now.reference

-- by `anyOf`
abbrev pub asks_alternative : (ℕ → Bool) → List ℕ → Bool
asks_alternative here rs = if_there (list_any here) (unless_empty (λ ss. ss) rs)

-- by the schemas that are asked of the value itself (Core, sections 8.2.3.1 and 10.2.1)
abbrev pub asks_here : (ℕ → Bool) → Conjunction → Bool
asks_here here c =
    asks_reference here c
    && list_all here c.all_of.items
    && asks_alternative here c.any_of.items
    && if_there (λ r. not (here r)) c.negated

-- declared names with places, from a place on
abbrev pub places_named : ℕ → List (String Global × Schema) → List (Entry ℕ)
places_named first es = numbers_from first (names_in es)

module _ (inside : ℕ → ℕ → Bool) where
  -- by `prefixItems`: the elements in front by the schemas at these places
  abbrev pub asks_front : List ℕ → List ℕ → Bool
  asks_front places ys = front_holds (λ (h : ℕ). true) inside places ys

  -- by `properties`: the value under the key, if it is there, by the schema at the place
  abbrev pub asks_at : List (Entry ℕ) → List ℕ → ℕ → Bool
  asks_at ms k place = if_there (λ y. inside y place) (under k ms)

  abbrev pub asks_named : List (Entry ℕ) → List (Entry ℕ) → Bool
  asks_named ms places = list_all (λ (p : Entry ℕ). asks_at ms p.0 p.1) places

  -- by `additionalProperties`: a member whose key is no declared name
  abbrev pub asks_other : List (List ℕ) → ℕ → Entry ℕ → Bool
  asks_other names place m = list_any (bytes_eq m.0) names || inside m.1 place

  abbrev pub asks_others : List (List ℕ) → ℕ → List (Entry ℕ) → Bool
  asks_others names place ms = list_all (asks_other names place) ms

module _ (inside : ℕ → ℕ → Bool) (c : Conjunction) where
  -- of a list (Validation, section 6.4; Core, section 10.3.1)
  abbrev pub asks_list : List ℕ → Bool
  asks_list ys =
      is_at_most_long c.keywords.now.max_items (length ys)
      && is_at_least_long c.keywords.now.min_items (length ys)
      && asks_front inside (places_from (prefix_place c) c.keywords.now.prefix.items) ys
      && if_there (λ s. list_all (λ y. inside y (items_place c)) (drop (length c.keywords.now.prefix.items) ys)) c.keywords.now.rest

  -- of a map (Validation, section 6.5; Core, section 10.3.2)
  abbrev pub asks_map : List (Entry ℕ) → Bool
  asks_map ms =
      is_at_most_long c.keywords.now.max_properties (length ms)
      && is_at_least_long c.keywords.now.min_properties (length ms)
      && list_all (λ k. is_some (under k ms)) c.required
      && asks_named inside ms (places_named (properties_place c) c.keywords.now.properties.entries)
      && if_there (λ s. asks_others inside (names_in c.keywords.now.properties.entries) c.first ms) c.keywords.now.additional

  abbrev pub asks_kind : Opened ℕ → Bool
  asks_kind (an_integer n) = asks_integer c.keywords.now n
  asks_kind (a_text s) = asks_text c.keywords.now s
  asks_kind (a_list ys) = asks_list ys
  asks_kind (an_object ms) = asks_map ms
  asks_kind _ = true

-- the lengths that are known tell that of a value, if it is a text
abbrev pub TellsOf : Known → Opened ℕ → Type 0
TellsOf k (a_text s) = TellsLength k.lengths.now k.item s
TellsOf k _ = Unit {0}

-- numbers below n
abbrev pub AreBelow : ℕ → List ℕ → Type 0
AreBelow n ks = AllByRecursion (λ k. k < n) ks

abbrev pub EntriesBelow : ℕ → List (Entry ℕ) → Type 0
EntriesBelow n es = AllByRecursion (λ (e : Entry ℕ). e.1 < n) es

abbrev pub ReferenceBelow : ℕ → Conjunction → Type 0
ReferenceBelow n c = IfSome c.keywords.now.reference (λ name. AreBelow n (option_to_list c.reference))

-- the rules that are asked of the value itself are below n
pub record AreBelowHere (n : ℕ) (c : Conjunction) : Type 0 where
  pub reference : ReferenceBelow n c
  pub all_of : AreBelow n c.all_of.items
  pub any_of : AreBelow n c.any_of.items
  pub negated : AreBelow n (option_to_list c.negated)

-- the places of those that are asked of values inside are below m
pub record AreBelowInside (m : ℕ) (c : Conjunction) : Type 0 where
  pub additional : IfSome c.keywords.now.additional (λ s. c.first < m)
  pub rest : IfSome c.keywords.now.rest (λ s. items_place c < m)
  pub prefix : AreBelow m (places_from (prefix_place c) c.keywords.now.prefix.items)
  pub properties : EntriesBelow m (places_named (properties_place c) c.keywords.now.properties.entries)
