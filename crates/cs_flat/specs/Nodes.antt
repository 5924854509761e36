-- The values of a document: each after those directly inside it, elements in their order, members in the order of
-- their keys, and the document last (RFC 8259, section 3, with an order of its own).
use Rattle.std.specs.Prelude.{ℕ, List, [], ◌∷◌, ◌++◌, get_or}
use Rattle.cs_document.specs.Document.{Document, null, boolean, integer, text, list, object, Documents, no_documents, document, Members, no_members, member}

abbrev mutual
  pub nodes : Document → List Document
  nodes null = null ∷ []
  nodes (boolean b) = boolean b ∷ []
  nodes (integer z) = integer z ∷ []
  nodes (text s) = text s ∷ []
  nodes (list ds) = element_nodes ds ++ list ds ∷ []
  nodes (object ms) = member_nodes ms ++ object ms ∷ []

  pub element_nodes : Documents → List Document
  element_nodes no_documents = []
  element_nodes (document d ds) = nodes d ++ element_nodes ds

  pub member_nodes : Members → List Document
  member_nodes no_members = []
  member_nodes (member k d ms) = nodes d ++ member_nodes ms

-- the value at a place
abbrev pub node_at : List Document → ℕ → Document
node_at ns i = get_or ns i null
