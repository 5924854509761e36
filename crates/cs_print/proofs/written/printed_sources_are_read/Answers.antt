use Rattle.cs_print.proofs.Heights.{read_as}
use Rattle.cs_print.proofs.written.printed_sources_are_read.Goals as goal

pub returns : goal.returns
returns c source fs p low = read_as source fs p low
