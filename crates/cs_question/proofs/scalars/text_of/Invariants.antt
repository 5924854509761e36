use Rattle.std.proofs.Common.{◌≡◌, false, take}
use Rattle.std.specs.List.{AllByRecursion as Each}
use Rattle.cs_document.specs.Opened.{a_text}
use Rattle.cs_question.specs.Outlines.{may_all}
use Rattle.cs_question.proofs.scalars.text_of.Given as goal

abbrev pub invariant-loop-mark : goal.invariant-loop-mark
invariant-loop-mark l = Each (λ m. may_all l.nodes (a_text m.now) l.asked ≡ false) (take l.mark-index l.mark-items)
