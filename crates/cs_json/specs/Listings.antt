-- How a text is read into items, one value after another; for private contracts and proofs.
use Rattle.std.specs.Prelude.{◌≡◌, ℕ, suc, List, [], ◌∷◌, ◌++◌, flat_map, length, Option, Some, option_and_then}
use Rattle.std.specs.List.{range_with_len}
use Rattle.std.specs.List.Sorted.{IsPermutation}
use Rattle.json.specs.Token.{Token}
use Rattle.json.specs.Json.{value, if_last}
use Rattle.serde_json.specs.Data.{Data}
use Rattle.serde_json.specs.Read.{of_json, max_depth}
use Rattle.cs_document.specs.Document.{Document, Members, Entry, put, IsDocument}
use Rattle.cs_document.specs.Opened.{Opened}
use Rattle.cs_flat.specs.Nodes.{nodes, node_at}
use Rattle.cs_flat.specs.Items.{inside}
use Rattle.cs_flat.specs.Listed.{values, numbers_in, AreBuilt}
use Rattle.cs_json.specs.Texts.{document_of}

-- the document that the tokens are, where nothing is behind its value
abbrev pub document_read : List Token → Option Document
document_read ts = option_and_then document_of (option_and_then of_json (option_and_then (λ p. if_last p.0 p.1) (value max_depth ts)))

-- the map with members put into it one after another
abbrev pub put_all : Members → List (Entry Document) → Members
put_all ms [] = ms
put_all ms (e ∷ es) = put_all (put e.0 e.1 ms) es

-- behind the items xs, ys has items for the values of the document, which itself has the last one, with the number n; beside
-- what xs names, ys names each of the other values once
pub record Adds (xs ys : List (Opened ℕ)) (n : ℕ) (d : Document) : Type 0 where
  pub built : AreBuilt xs → AreBuilt ys
  pub document : IsDocument d
  pub more : List Document
  pub grown : values ys ≡ values xs ++ more
  pub each : IsPermutation (nodes d) more
  pub once : IsPermutation (flat_map numbers_in ys) (flat_map numbers_in xs ++ range_with_len (length xs) (inside d))
  pub last : suc n ≡ length ys
  pub node : node_at (values ys) n ≡ d

-- what was read, and the tokens behind it: a value of JSON that is a document, for which items were added
pub record AddsRead (read : Option (Data × List Token)) (rest : List Token) (xs ys : List (Opened ℕ)) (n : ℕ) : Type 0 where
  pub value : Data
  pub document : Document
  pub is_read : read ≡ Some (value, rest)
  pub is_document : document_of value ≡ Some document
  pub adds : Adds xs ys n document
