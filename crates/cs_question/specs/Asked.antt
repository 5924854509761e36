-- Documents that are all that is asked.
use Rattle.std.specs.Prelude.{◌≡◌, Bool, true, List}
use Rattle.std.specs.Bool.{beq}
use Rattle.std.specs.List.{list_all}
use Rattle.cs_document.specs.Document.{Document}
use Rattle.cs_question.specs.declared.nodes.Literal.{Literal}
use Rattle.cs_question.specs.Nodes.{Judgement}

abbrev pub meets : Judgement → Document → Literal → Bool
meets J x l = beq (J l.side l.rule x) l.holds

abbrev pub meets_all : Judgement → Document → List Literal → Bool
meets_all J x ls = list_all (meets J x) ls

-- what each of the first ones says, each of the others says
abbrev pub Entails : List Literal → List Literal → Type 0
Entails ls ms = (p : Literal → Bool) → list_all p ls ≡ true → list_all p ms ≡ true
