use Rattle.std.proofs.Common.{◌≡◌, ℕ, true, Some, take}
use Rattle.std.specs.Prelude.{slice_get}
use Rattle.cs_document.specs.Document.{Document, Documents, list, elements}
use Rattle.cs_question.specs.Asked.{meets_all}
use Rattle.cs_question.specs.Elements.{IsFrom}
use Rattle.cs_question.specs.Nodes.{Judgement, IsMeaning}
use Rattle.cs_question.specs.Spread.{IsFurther}
use Rattle.cs_question.specs.Truth.{IsInner}
use Rattle.cs_question.proofs.lists.asked_at.Given as goal

abbrev pub invariant-loop-literal : goal.invariant-loop-literal
invariant-loop-literal l = (J : Judgement) (n i : ℕ) (ds : Documents) (y : Document) → IsMeaning l.nodes J → meets_all J (list ds) (take l.literal-index l.asked) ≡ true → IsFrom l.place l.is_behind i → slice_get (elements ds) i ≡ Some y → IsInner n y → IsFurther J n l.further y
