-- What a schema asks of a document: the schema opened once, as the conjunction of what its keywords assert
-- (JSON Schema Core 2020-12, section 7; Validation 2020-12, section 6).
use Rattle.std.specs.Prelude.{ℕ, ℤ, pos, max, List, [], ◌∷◌, map, length, true, false, if◌then◌else◌, Option, option_and_then, codes}
use Rattle.std.specs.Option.{option_map_or}
use Rattle.std.specs.Str.{bytes_eq}
use Rattle.cs_document.specs.Document.{Document, boolean, integer, text, list, object, Entry, elements, entries, under}
use Rattle.cs_document.specs.Sizes.{Counted, Characters, Elements, Keys}
use Rattle.cs_profile.specs.Keywords.{keywords, Kind, kinds, reference_start, text_after, elements_of, listed_under, defined}
use Rattle.cs_profile.specs.declared.keyword.Keyword.{Keyword}
use Rattle.cs_profile.specs.declared.keyword.Keyword.TheVariants as keyword

-- what a keyword asserts, with an H for each schema that it asks of the document itself, and an I for each
-- schema that it asks of documents directly inside
pub data Assertion (H I : Type 0) : Type 0 where
  nothing : Assertion H I
  valid_by : Option H → Assertion H I
  has_kind : Kind → Assertion H I
  equals : Document → Assertion H I
  is_among : List Document → Assertion H I
  at_least : ℤ → Assertion H I
  at_most : ℤ → Assertion H I
  above : ℤ → Assertion H I
  below : ℤ → Assertion H I
  has_keys : List (List ℕ) → Assertion H I
  at_keys : List (Entry I) → Assertion H I
  at_other_keys : List (List ℕ) → I → Assertion H I
  in_front : List I → Assertion H I
  behind : ℕ → I → Assertion H I
  at_least_long : Counted → ℕ → Assertion H I
  at_most_long : Counted → ℕ → Assertion H I
  valid_by_all : List H → Assertion H I
  valid_by_any : List H → Assertion H I
  not_valid_by : H → Assertion H I

-- a schema opened once: a truth value, or what its keywords assert
pub data Constraint (H I : Type 0) : Type 0 where
  always : Constraint H I
  never : Constraint H I
  conjunction : List (Assertion H I) → Constraint H I

-- the texts of a list
abbrev pub texts_in : List Document → List (List ℕ)
texts_in [] = []
texts_in (text t ∷ ds) = t ∷ texts_in ds
texts_in (_ ∷ ds) = texts_in ds

-- the schema that the text of a `$ref` names (Core, section 8.2.3.1)
abbrev pub named : Document → List ℕ → Option Document
named R t = option_and_then (defined R) (text_after reference_start t)

-- how many elements have a schema at their place in some `prefixItems`
abbrev pub places_taken : List (Entry Document) → ℕ
places_taken [] = 0
places_taken (e ∷ es) = if bytes_eq (codes "prefixItems") e.0 then max (length (elements_of e.1)) (places_taken es) else places_taken es

-- what a value asserts that is to be a text, an integer, a count, an array or an object: nothing where it isn't
module _ {H I : Type 0} where
  abbrev pub by_text : (List ℕ → Assertion H I) → Document → Assertion H I
  by_text f (text t) = f t
  by_text f _ = nothing

  abbrev pub by_integer : (ℤ → Assertion H I) → Document → Assertion H I
  by_integer f (integer z) = f z
  by_integer f _ = nothing

  abbrev pub by_count : (ℕ → Assertion H I) → Document → Assertion H I
  by_count f (integer (pos n)) = f n
  by_count f _ = nothing

  abbrev pub by_list : (List Document → Assertion H I) → Document → Assertion H I
  by_list f (list ds) = f (elements ds)
  by_list f _ = nothing

  abbrev pub by_object : (List (Entry Document) → Assertion H I) → Document → Assertion H I
  by_object f (object ms) = f (entries ms)
  by_object f _ = nothing

-- what a keyword asserts by its value, beside the other keywords of its object, in a schema of the root R;
-- a key that names no keyword asserts nothing
module _ (R : Document) (beside : List (Entry Document)) where
  abbrev pub assertion : Keyword → Document → Assertion Document Document
  assertion keyword.Schema v = nothing
  assertion keyword.Defs v = nothing
  assertion keyword.Ref v = by_text (λ t. valid_by (named R t)) v
  assertion keyword.Type v = by_text (λ t. option_map_or has_kind (under t kinds) nothing) v
  assertion keyword.Const v = equals v
  assertion keyword.Enum v = by_list is_among v
  assertion keyword.Minimum v = by_integer at_least v
  assertion keyword.Maximum v = by_integer at_most v
  assertion keyword.ExclusiveMinimum v = by_integer above v
  assertion keyword.ExclusiveMaximum v = by_integer below v
  assertion keyword.Required v = by_list (λ ts. has_keys (texts_in ts)) v
  assertion keyword.Properties v = by_object at_keys v
  assertion keyword.AdditionalProperties s = at_other_keys (map (λ e. e.0) (listed_under (codes "properties") beside)) s
  assertion keyword.PrefixItems v = by_list in_front v
  assertion keyword.Items s = behind (places_taken beside) s
  assertion keyword.MinItems v = by_count (at_least_long Elements) v
  assertion keyword.MaxItems v = by_count (at_most_long Elements) v
  assertion keyword.MinLength v = by_count (at_least_long Characters) v
  assertion keyword.MaxLength v = by_count (at_most_long Characters) v
  assertion keyword.MinProperties v = by_count (at_least_long Keys) v
  assertion keyword.MaxProperties v = by_count (at_most_long Keys) v
  assertion keyword.AllOf v = by_list valid_by_all v
  assertion keyword.AnyOf v = by_list valid_by_any v
  assertion keyword.Not s = not_valid_by s
  assertion keyword.Title v = nothing
  assertion keyword.Description v = nothing
  assertion keyword.Comment v = nothing

  abbrev pub assertion_at : Entry Document → Assertion Document Document
  assertion_at e = option_map_or (λ k. assertion k e.1) (under e.0 keywords) nothing

-- the constraint of a schema of the root R; what is neither a truth value nor an object validates nothing
abbrev pub constraint_of : Document → Document → Constraint Document Document
constraint_of R (boolean true) = always
constraint_of R (boolean false) = never
constraint_of R (object ks) = conjunction (map (assertion_at R (entries ks)) (entries ks))
constraint_of R _ = never
