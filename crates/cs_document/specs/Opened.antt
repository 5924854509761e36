-- A document opened once: one level of it, with an A in place of each document directly inside.
use Rattle.std.specs.Prelude.{ℕ, ℤ, List, Bool}
use Rattle.cs_document.specs.Document.{Document, null, boolean, integer, text, list, object, Entry, elements, entries}

pub data Opened (A : Type 0) : Type 0 where
  a_null : Opened A
  a_boolean : Bool → Opened A
  an_integer : ℤ → Opened A
  a_text : List ℕ → Opened A
  a_list : List A → Opened A
  an_object : List (Entry A) → Opened A

abbrev pub opened : Document → Opened Document
opened null = a_null
opened (boolean b) = a_boolean b
opened (integer z) = an_integer z
opened (text s) = a_text s
opened (list ds) = a_list (elements ds)
opened (object ms) = an_object (entries ms)
