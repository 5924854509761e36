use Rattle.std.proofs.Common.{sym, ◌∙◌}
use Rattle.cs_compile.proofs.Limits.{upper_fits}
use Rattle.cs_compile.proofs.intervals.between.Goals as goal

pub limit_value-requires-2 : goal.limit_value-requires-2
limit_value-requires-2 c = upper_fits c.args.lower c.args.upper (sym c.are_apart.ensures ∙ c.if-are_apart.false) c.requires.low c.requires.high
