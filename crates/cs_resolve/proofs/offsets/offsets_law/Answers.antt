use Rattle.cs_resolve.proofs.FaultOffsets.{names_in_order, literals_in_order}
use Rattle.cs_resolve.proofs.offsets.offsets_law.Goals as goal

pub returns : goal.returns
returns c = record { names = names_in_order; literals = literals_in_order }
