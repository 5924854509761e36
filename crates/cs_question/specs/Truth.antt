-- What a table says of documents.
use Rattle.std.specs.Prelude.{◌≡◌, ℕ, ◌<◌, ◌≤◌, Bool, true, List, [], ◌∷◌, Some, IsNone, slice_get}
use Rattle.std.specs.List.{list_all}
use Rattle.cs_document.specs.Document.{Document, Documents, Members, list, object, IsDocument, depth}
use Rattle.cs_question.specs.declared.nodes.Literal.{Literal}
use Rattle.cs_question.specs.declared.nodes.Side.TheVariants.{Admitting}
use Rattle.cs_question.specs.declared.nodes.Nodes.{Nodes}
use Rattle.cs_question.specs.declared.table.Entry.{Entry}
use Rattle.cs_question.specs.declared.table.Table.{Table}
use Rattle.cs_question.specs.Nodes.{Judgement, IsMeaning}
use Rattle.cs_question.specs.Asked.{meets_all}

-- a document of less depth than n
abbrev pub IsInner : ℕ → Document → Type 0
IsInner n y = IsDocument y × (depth y < n)

-- the question has no answer by the table
pub record IsShut (entries : List Entry) (asked : List Literal) : Type 0 where
  pub place : ℕ
  pub entry : Entry
  pub at : slice_get entries place ≡ Some entry
  pub same : entry.asked.items ≡ asked
  pub none : IsNone entry.found

-- the question for a document that meets a rule has no answer by the table
pub record IsMetByNone (entries : List Entry) (rule : ℕ) : Type 0 where
  pub asked : List Literal
  pub shut : IsShut entries asked
  pub only : (p : Literal → Bool) → p (record { side = Admitting; rule = rule; holds = true }) ≡ true → list_all p asked ≡ true

-- a judgement of which the table says the truth: no document of less depth than n is all that is asked by a question
-- without an answer
pub record Truth (entries : List Entry) : Type 0 where
  pub J : Judgement
  pub n : ℕ
  pub none : (asked : List Literal) → IsShut entries asked → (y : Document) → IsInner n y → meets_all J y asked ≡ true → ⊥

-- no document is all that is asked, of those whose parts the table says the truth of
abbrev pub NoDocument : Nodes → Table → List Literal → Type 0
NoDocument ns table ls = table.is_final ≡ true → (t : Truth table.entries.items) → IsMeaning ns t.J → (x : Document) → IsDocument x → depth x ≤ t.n → meets_all t.J x ls ≡ true → ⊥

-- no document is all that is asked
abbrev pub IsMetByNoDocument : Nodes → List Literal → Type 0
IsMetByNoDocument ns ls = (J : Judgement) → IsMeaning ns J → (x : Document) → IsDocument x → meets_all J x ls ≡ true → ⊥

abbrev pub NoList : Nodes → Table → List Literal → Type 0
NoList ns table ls = table.is_final ≡ true → (t : Truth table.entries.items) → IsMeaning ns t.J → (ds : Documents) → IsDocument (list ds) → depth (list ds) ≤ t.n → meets_all t.J (list ds) ls ≡ true → ⊥

abbrev pub NoMap : Nodes → Table → List Literal → Type 0
NoMap ns table ls = table.is_final ≡ true → (t : Truth table.entries.items) → IsMeaning ns t.J → (ms : Members) → IsDocument (object ms) → depth (object ms) ≤ t.n → meets_all t.J (object ms) ls ≡ true → ⊥

-- each question without an answer has none
abbrev pub IsAtRest : Nodes → Table → Type 0
IsAtRest ns table = (asked : List Literal) → IsShut table.entries.items asked → NoDocument ns table asked
