-- The definitions of a schema as components of OpenAPI (OpenAPI 3.1, components object).
use Rattle.std.specs.Prelude.{ℕ, List, ◌++◌, false, Option, Some, None, codes}
use Rattle.std.specs.Option.{option_map_or}
use Rattle.cs_document.specs.Document.{Document, text, list, object, Documents, no_documents, document, Members, no_members, member, under}
use Rattle.cs_profile.specs.Keywords.{reference_start, text_after, entries_of}
use Rattle.cs_profile.specs.Shapes.{form_at, BySchemas, by_form}
use Rattle.cs_profile.specs.declared.keyword.Form.{Form}
use Rattle.cs_profile.specs.declared.keyword.Form.TheVariants as form

-- what the text of a `$ref` to a component begins with: a JSON Pointer as the fragment of a URI (RFC 6901, section 6)
abbrev pub component_start : List ℕ
component_start = codes "#/components/schemas/"

-- a reference to a definition, as one to the component of its name; and the other way round. Another text stays
abbrev pub to_component : List ℕ → List ℕ
to_component t = option_map_or (λ n. component_start ++ n) (text_after reference_start t) t

abbrev pub to_definition : List ℕ → List ℕ
to_definition t = option_map_or (λ n. reference_start ++ n) (text_after component_start t) t

-- the value of a `$ref`
abbrev pub moved_reference : (List ℕ → List ℕ) → Document → Document
moved_reference f (text t) = text (f t)
moved_reference f d = d

-- the value of a keyword, by its form
abbrev pub moved_by : (List ℕ → List ℕ) → Option Form → BySchemas Document → Document
moved_by f None answers = answers.none
moved_by f (Some form.Reference) answers = moved_reference f answers.none
moved_by f (Some o) answers = by_form o answers

abbrev mutual
  -- a schema below the root with f done to its references and to those of the schemas in it; all else stays
  pub moved : (List ℕ → List ℕ) → Document → Document
  moved f (object ms) = object (moved_members f ms)
  moved f d = d

  pub moved_members : (List ℕ → List ℕ) → Members → Members
  moved_members f no_members = no_members
  moved_members f (member k v ms) =
      member k (moved_by f (form_at false k) (record { none = v; itself = moved f v; elements = moved_list f v; members = moved_map f v })) (moved_members f ms)

  pub moved_list : (List ℕ → List ℕ) → Document → Document
  moved_list f (list ds) = list (moved_elements f ds)
  moved_list f d = d

  pub moved_elements : (List ℕ → List ℕ) → Documents → Documents
  moved_elements f no_documents = no_documents
  moved_elements f (document d ds) = document (moved f d) (moved_elements f ds)

  pub moved_map : (List ℕ → List ℕ) → Document → Document
  moved_map f (object ms) = object (moved_named f ms)
  moved_map f d = d

  pub moved_named : (List ℕ → List ℕ) → Members → Members
  moved_named f no_members = no_members
  moved_named f (member k v ms) = member k (moved f v) (moved_named f ms)

-- the members of a map, if it is there
abbrev pub map_in : Option Document → Members
map_in (Some (object ms)) = ms
map_in _ = no_members

-- the definitions of a schema document, each under its name
abbrev pub definitions_in : Document → Members
definitions_in d = map_in (under (codes "$defs") (entries_of d))

-- a map of one member
abbrev pub alone : List ℕ → Document → Document
alone k d = object (member k d no_members)

-- the components that the definitions of a schema document are: each under its name, with its references to components
abbrev pub components_of : Document → Document
components_of d = alone (codes "components") (alone (codes "schemas") (object (moved_named to_component (definitions_in d))))

-- the value of a keyword; for private contracts alone
abbrev pub moved_value : (List ℕ → List ℕ) → Option Form → Document → Document
moved_value f o v = moved_by f o (record { none = v; itself = moved f v; elements = moved_list f v; members = moved_map f v })
