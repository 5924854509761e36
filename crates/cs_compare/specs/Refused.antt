-- When two editions aren't compared: the old one's refusals come first, and the question's last.
use Rattle.std.specs.Prelude.{ℕ, List, Option, Some, None}
use Rattle.cs_grammar.specs.declared.profile.Profile.{Profile}
use Rattle.cs_question.specs.declared.fault.QuestionFault.{QuestionFault}
use Rattle.cs_question.specs.declared.fault.QuestionFault.TheVariants as question
use Rattle.cs_tool.specs.CallRefusals.{ExportRefusal}
use Rattle.cs_tool.specs.Ready.{IsReady}
use Rattle.cs_tool.specs.declared.fault.Fault.{Fault}
use Rattle.cs_tool.specs.declared.fault.Fault.TheVariants.{OutOfMemory, UnknownRoot, TooManyCases}
use Rattle.cs_compare.specs.declared.refusal.Side.{Side}
use Rattle.cs_compare.specs.declared.refusal.Side.TheVariants.{Old, New}

abbrev pub fault_of_question : QuestionFault → Fault
fault_of_question question.OutOfMemory = OutOfMemory
fault_of_question question.UnknownRoot = UnknownRoot
fault_of_question question.TooManyCases = TooManyCases

-- memory may run out at any time
abbrev pub OfQuestion : Fault → Type 0
OfQuestion OutOfMemory = Unit {0}
OfQuestion TooManyCases = Unit {0}
OfQuestion _ = ⊥

abbrev pub IsRefusal : Profile → List (List ℕ) → List ℕ → List (List ℕ) → List ℕ → Option Side → Fault → Type 0
IsRefusal p old old_root new new_root (Some Old) f = ExportRefusal p old old_root f
IsRefusal p old old_root new new_root (Some New) f = IsReady p old old_root × ExportRefusal p new new_root f
IsRefusal p old old_root new new_root None f = IsReady p old old_root × IsReady p new new_root × OfQuestion f
