use Rattle.std.proofs.Common.{◌≡◌, true, take}
use Rattle.std.specs.List.{list_all}
use Rattle.cs_document.specs.Document.{Document}
use Rattle.cs_question.specs.Asked.{meets, meets_all}
use Rattle.cs_question.specs.Nodes.{Judgement}
use Rattle.cs_question.proofs.cases.put_all.Given as goal

abbrev pub invariant-loop-part : goal.invariant-loop-part
invariant-loop-part l = (J : Judgement) (x : Document) → meets_all J x l.fn.asked.items ≡ true → list_all (λ p. meets J x (record l.literal { rule = p })) (take l.part-index l.parts) ≡ true → meets_all J x l.asked.items ≡ true
