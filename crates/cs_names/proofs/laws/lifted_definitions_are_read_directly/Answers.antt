use Rattle.cs_names.proofs.Reading.{values_are_read}
use Rattle.cs_names.proofs.laws.lifted_definitions_are_read_directly.Goals as goal

pub returns : goal.returns
returns c fs gs p s h k = values_are_read fs gs p s h k
