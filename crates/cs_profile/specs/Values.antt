-- The value of one keyword: what the walk over a schema meets in it, and what trimming makes of it.
use Rattle.std.specs.Prelude.{ℕ, Bool, false, List, [], ◌∷◌, Option}
use Rattle.cs_document.specs.Document.{Document}
use Rattle.cs_profile.specs.Shapes.{form_at, BySchemas}
use Rattle.cs_profile.specs.Places.{at_key}
use Rattle.cs_profile.specs.Profile.{Visit, keyword_at, within, visits, list_visits, map_visits}
use Rattle.cs_profile.specs.Trim.{trimmed_as, trimmed, trimmed_list, trimmed_map}

-- inside a value, by the schemas that it holds
abbrev pub value_visits : List ℕ → Document → BySchemas (List Visit)
value_visits place v = record {
  none = [];
  itself = visits false place v;
  elements = list_visits place v;
  members = map_visits place v;
}

-- a keyword with what is inside its value
abbrev pub keyword_visits : Bool → List ℕ → List ℕ → Document → List Visit
keyword_visits root place k v = keyword_at root place k v ∷ within (form_at root k) (value_visits (at_key place k) v)

-- a value trimmed, by the schemas that it holds
abbrev pub value_trims : Document → BySchemas Document
value_trims v = record {
  none = v;
  itself = trimmed false v;
  elements = trimmed_list v;
  members = trimmed_map v;
}

-- a keyword's value, if it is kept
abbrev pub trimmed_value : Bool → List ℕ → Document → Option Document
trimmed_value root k v = trimmed_as (form_at root k) v (value_trims v)
