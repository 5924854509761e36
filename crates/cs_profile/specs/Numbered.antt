-- Definitions by their numbers, which are their places in byte order.
use Rattle.std.specs.Prelude.{◌≡◌, ℕ, suc, List, [], ◌∷◌, Option, Some, map, option_map, option_to_list, slice_get, get_or, length, String, string_bytes}
use Rattle.std.specs.List.{flat_map}
use Rattle.std.specs.declared.alloc.Global.{Global}
use Rattle.cs_document.specs.Document.{Entry, under}
use Rattle.cs_graph.specs.Graph.{Graph}
use Rattle.cs_profile.specs.Loops.{direct_names, IsRank}
use Rattle.cs_profile.specs.SchemaDocument.{schema_view, SchemaValue, document_of, IsWhole}
use Rattle.cs_profile.specs.declared.schema.Schema.{Schema}

-- the entries of a map by the text of their keys
abbrev pub by_text : {X : Type 0} → List (String Global × X) → List (Entry X)
by_text es = map (λ e. (string_bytes e.0, e.1)) es

-- the keys
abbrev pub names_in : {X : Type 0} → List (String Global × X) → List (List ℕ)
names_in es = map (λ e. string_bytes e.0) es

-- names with their numbers, from a number on
abbrev pub numbered : ℕ → List (List ℕ) → List (Entry ℕ)
numbered i [] = []
numbered i (n ∷ ns) = (n, i) ∷ numbered (suc i) ns

-- the number of a name, which is the place of its definition
abbrev pub number_of_name : List (String Global × Schema) → List ℕ → Option ℕ
number_of_name ds n = under n (numbered 0 (names_in ds))

-- the numbers of those names that have one
abbrev pub numbers_of : List (Entry ℕ) → List (List ℕ) → List ℕ
numbers_of es ns = flat_map (λ n. option_to_list (under n es)) ns

-- the numbers of the definitions that a schema refers to directly
abbrev pub direct_numbers : List (Entry ℕ) → Schema → List ℕ
direct_numbers es s = numbers_of es (direct_names (schema_view s))

-- the name that a schema refers to by `$ref`
abbrev pub reference_names : Option (String Global) → List (List ℕ)
reference_names o = option_to_list (option_map string_bytes o)

-- the names that schemas refer to directly
abbrev pub names_of_each : List Schema → List (List ℕ)
names_of_each ss = flat_map (λ s. direct_names (schema_view s)) ss

-- for each definition, the numbers of those that it refers to directly
abbrev pub rows_of : List (Entry ℕ) → List (String Global × Schema) → Graph
rows_of es ds = map (λ d. direct_numbers es d.1) ds

-- the name of a number
abbrev pub name_of_number : List (String Global × Schema) → ℕ → List ℕ
name_of_number ds i = get_or (names_in ds) i []

-- what a schema document keeps: each definition has a number, and what is there is the definition's rank
pub record AreRanks (v : SchemaValue) (numbers : List (String Global × ℕ)) (ranks : List ℕ) : Type 0 where
  pub whole : IsWhole v
  pub all : by_text numbers ≡ numbered 0 (names_in v.definitions)
  pub long : length ranks ≡ length v.definitions
  pub heights : (i : ℕ) (n : List ℕ) → slice_get (names_in v.definitions) i ≡ Some n → IsRank (document_of v) n (get_or ranks i 0)
