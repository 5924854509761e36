use Rattle.cs_grammar.specs.Tree.{definitions}
use Rattle.cs_defaults.proofs.Sizes.{file_no_higher, definitions_no_higher}
use Rattle.cs_defaults.proofs.laws.unmarked_files_are_no_higher.Goals as goal

pub returns : goal.returns
returns c = record { files = file_no_higher; definitions = λ has f. definitions_no_higher has (definitions f) }
