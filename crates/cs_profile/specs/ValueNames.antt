-- The names in a value, by how its keyword reaches them.
use Rattle.cs_document.specs.Document.{Document}
use Rattle.cs_profile.specs.Loops.{ByReach, name_in, direct_names, list_names}

abbrev pub value_names : Document → ByReach
value_names v = record {
  name = name_in v;
  itself = direct_names v;
  elements = list_names v;
}
