use Rattle.std.proofs.Common.{◌≡◌, true, take}
use Rattle.std.specs.List.{list_any}
use Rattle.cs_document.specs.Document.{Document}
use Rattle.cs_question.specs.Asked.{meets, meets_all}
use Rattle.cs_question.specs.Cases.{IsCovered, Continues}
use Rattle.cs_question.specs.Nodes.{Judgement, IsMeaning}
use Rattle.cs_question.proofs.cases.put_each.Given as goal

abbrev pub invariant-loop-part : goal.invariant-loop-part
invariant-loop-part l = record {
  kept : Continues l.initial.cases.keys l.cases.keys;
  there : (J : Judgement) (x : Document) → IsMeaning l.nodes J → meets_all J x l.asked ≡ true → list_any (λ p. meets J x (record l.literal { rule = p })) (take l.part-index l.parts) ≡ true → IsCovered J x l.cases.keys;
}
