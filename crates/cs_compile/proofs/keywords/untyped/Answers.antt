use Rattle.cs_compile.proofs.Slots.{empty_slots}
use Rattle.cs_compile.proofs.keywords.untyped.Goals as goal

pub returns : goal.returns
returns c = empty_slots c.empty.result c.empty.ensures
