use Rattle.cs_names.proofs.Written.{named_written}
use Rattle.cs_names.proofs.laws.named_files_can_be_written.Goals as goal

pub returns : goal.returns
returns c fs gs h k = named_written c.what_is_in_places_can_be_written.ensures.selecting fs gs h k
