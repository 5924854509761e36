-- What the root of a schema document is made of: a reference to a definition, and the definitions.
use Rattle.std.specs.Prelude.{ℕ, List, ◌++◌, Option, codes}
use Rattle.cs_document.specs.Document.{Document, text, object, no_members, member}
use Rattle.cs_profile.specs.Keywords.{reference_start}
use Rattle.cs_profile.specs.Trim.{with_member}

-- a schema that refers to the definition n alone (JSON Schema Core 2020-12, section 8.2.3.1)
abbrev pub reference_to : List ℕ → Document
reference_to n = object (member (codes "$ref") (text (reference_start ++ n)) no_members)

-- an object with its definitions
abbrev pub with_definitions : Option Document → Document → Document
with_definitions o (object ms) = object (with_member o (codes "$defs") ms)
with_definitions o d = d
