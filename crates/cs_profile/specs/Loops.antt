-- Definitions that reach themselves without going into a document (JSON Schema Core 2020-12, section 9.4.1).
use Rattle.std.specs.Prelude.{ℕ, List, [], ◌++◌, Option, Some, None, option_to_list, IsTrue}
use Rattle.std.specs.Option.{option_map_or}
use Rattle.std.specs.Str.{bytes_eq}
use Rattle.std.specs.List.{list_any}
use Rattle.cs_graph.specs.Chains.{NoCycle, IsHeight}
use Rattle.cs_document.specs.Document.{Document, text, list, object, Documents, no_documents, document, Members, no_members, member, under}
use Rattle.cs_profile.specs.Keywords.{keywords, reference_start, text_after, defined}
use Rattle.cs_profile.specs.declared.keyword.Keyword.{Keyword}
use Rattle.cs_profile.specs.declared.keyword.Keyword.TheVariants as keyword

-- the name in the value of a `$ref`
abbrev pub name_in : Document → List (List ℕ)
name_in (text t) = option_to_list (text_after reference_start t)
name_in _ = []

-- the names that a keyword's value contributes, for each way that a keyword may ask schemas of the same document:
-- the schema of a name, the schema that its value is, or each of the elements
pub record ByReach : Type 0 where
  pub name : List (List ℕ)
  pub itself : List (List ℕ)
  pub elements : List (List ℕ)

abbrev pub by_keyword : Option Keyword → ByReach → List (List ℕ)
by_keyword None names = []
by_keyword (Some keyword.Ref) names = names.name
by_keyword (Some keyword.AllOf) names = names.elements
by_keyword (Some keyword.AnyOf) names = names.elements
by_keyword (Some keyword.Not) names = names.itself
-- these ask schemas of documents inside
by_keyword (Some keyword.Properties) names = []
by_keyword (Some keyword.AdditionalProperties) names = []
by_keyword (Some keyword.PrefixItems) names = []
by_keyword (Some keyword.Items) names = []
-- and these ask none
by_keyword (Some keyword.Schema) names = []
by_keyword (Some keyword.Defs) names = []
by_keyword (Some keyword.Type) names = []
by_keyword (Some keyword.Const) names = []
by_keyword (Some keyword.Enum) names = []
by_keyword (Some keyword.Minimum) names = []
by_keyword (Some keyword.Maximum) names = []
by_keyword (Some keyword.ExclusiveMinimum) names = []
by_keyword (Some keyword.ExclusiveMaximum) names = []
by_keyword (Some keyword.MinItems) names = []
by_keyword (Some keyword.MaxItems) names = []
by_keyword (Some keyword.MinLength) names = []
by_keyword (Some keyword.MaxLength) names = []
by_keyword (Some keyword.MinProperties) names = []
by_keyword (Some keyword.MaxProperties) names = []
by_keyword (Some keyword.Required) names = []
by_keyword (Some keyword.Title) names = []
by_keyword (Some keyword.Description) names = []
by_keyword (Some keyword.Comment) names = []

abbrev mutual
  -- the names that a schema refers to directly, through `$ref`, `allOf`, `anyOf` and `not` alone
  pub direct_names : Document → List (List ℕ)
  direct_names (object ks) = keyword_names ks
  direct_names _ = []

  pub keyword_names : Members → List (List ℕ)
  keyword_names no_members = []
  keyword_names (member k v ks) = by_keyword (under k keywords) (record { name = name_in v; itself = direct_names v; elements = list_names v }) ++ keyword_names ks

  pub list_names : Document → List (List ℕ)
  list_names (list ss) = each_names ss
  list_names _ = []

  pub each_names : Documents → List (List ℕ)
  each_names no_documents = []
  each_names (document s ss) = direct_names s ++ each_names ss

-- the definition n of the root R refers directly to the name m
abbrev pub RefersDirectly : Document → List ℕ → List ℕ → Type 0
RefersDirectly R n m = IsTrue (list_any (bytes_eq m) (option_map_or direct_names (defined R n) []))

-- no definition reaches itself directly
abbrev pub NoLoop : Document → Type 0
NoLoop R = NoCycle (RefersDirectly R)

-- the longest chain of direct references from n has this length
abbrev pub IsRank : Document → List ℕ → ℕ → Type 0
IsRank R = IsHeight (RefersDirectly R)
