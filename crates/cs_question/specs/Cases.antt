-- Cases: documents that are all that is asked in one of them.
use Rattle.std.specs.Prelude.{◌≡◌, ◌≤◌, Bool, true, List, Option, Vec}
use Rattle.std.specs.declared.alloc.Global.{Global}
use Rattle.std.specs.List.{list_any}
use Rattle.cs_document.specs.Document.{Document, IsDocument, depth}
use Rattle.cs_question.specs.declared.nodes.Literal.{Literal}
use Rattle.cs_question.specs.declared.nodes.Nodes.{Nodes}
use Rattle.cs_question.specs.declared.table.Table.{Table}
use Rattle.cs_question.specs.Nodes.{Judgement, IsMeaning}
use Rattle.cs_question.specs.Asked.{meets_all}
use Rattle.cs_question.specs.Truth.{Truth}

-- what is opened next, and all that is asked
abbrev pub Case : Type 0
Case = Option Literal × Vec Literal Global

abbrev pub meets_some : Judgement → Document → List Case → Bool
meets_some J x cs = list_any (λ c. meets_all J x c.1.items) cs

abbrev pub IsCovered : Judgement → Document → List Case → Type 0
IsCovered J x cs = meets_some J x cs ≡ true

-- what is in one of the first cases is in one of the others
abbrev pub Continues : List Case → List Case → Type 0
Continues cs ds = (J : Judgement) (x : Document) → IsCovered J x cs → IsCovered J x ds

abbrev pub Covers : List Literal → List Case → Type 0
Covers ls cs = (J : Judgement) (x : Document) → meets_all J x ls ≡ true → IsCovered J x cs

-- no document is all that is asked but in one of the cases, of those whose parts the table says the truth of
abbrev pub NoOther : Nodes → Table → List Literal → List Case → Type 0
NoOther ns table ls cs = table.is_final ≡ true → (t : Truth table.entries.items) → IsMeaning ns t.J → (x : Document) → IsDocument x → depth x ≤ t.n → meets_all t.J x ls ≡ true → IsCovered t.J x cs
