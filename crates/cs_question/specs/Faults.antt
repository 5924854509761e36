-- When a question isn't answered, and refusals of the parts as those of the crate.
use Rattle.std.specs.Prelude.{ℕ, List}
use Rattle.cs_package.specs.Environment.{Environment, Names}
use Rattle.cs_instance.specs.declared.fault.InstanceFault.{InstanceFault}
use Rattle.cs_instance.specs.declared.fault.InstanceFault.TheVariants as instance
use Rattle.cs_question.specs.declared.fault.QuestionFault.{QuestionFault}
use Rattle.cs_question.specs.declared.fault.QuestionFault.TheVariants.{OutOfMemory, UnknownRoot, TooManyCases}
use Rattle.cs_question.specs.declared.fault.SearchFault.{SearchFault}
use Rattle.cs_question.specs.declared.fault.SearchFault.TheVariants as search

-- memory may run out, and a limit be met, at any time
abbrev pub IsRefusal : QuestionFault → Environment → List ℕ → Type 0
IsRefusal OutOfMemory E root = Unit {0}
IsRefusal TooManyCases E root = Unit {0}
IsRefusal UnknownRoot E root = (n : List ℕ) → ¬ Names E root n

abbrev pub fault_of_search : SearchFault → QuestionFault
fault_of_search search.OutOfMemory = OutOfMemory
fault_of_search search.TooManyCases = TooManyCases

abbrev pub fault_of_judging : InstanceFault → QuestionFault
fault_of_judging instance.OutOfMemory = OutOfMemory
fault_of_judging instance.UnknownRoot = UnknownRoot
fault_of_judging (instance.TooManyPairs items rules) = TooManyCases
