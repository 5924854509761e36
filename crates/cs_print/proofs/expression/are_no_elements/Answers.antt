use Rattle.std.proofs.Common.{◌∙◌}
use Rattle.cs_print.proofs.Layouts.{no_elements}
use Rattle.cs_print.proofs.expression.are_no_elements.Goals as goal

pub returns : goal.returns
returns c = c.is_empty.ensures ∙ no_elements c.args.elements.now
