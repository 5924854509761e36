use Rattle.std.proofs.Common.{◌∙◌}
use Rattle.cs_defaults.proofs.Found.{no_fields}
use Rattle.cs_defaults.proofs.marks.are_no_fields.Goals as goal

pub returns : goal.returns
returns c = c.is_empty.ensures ∙ no_fields c.args.fields.now
