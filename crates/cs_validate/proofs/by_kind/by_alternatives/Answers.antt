use Rattle.std.proofs.Common.{sym, ◌∙◌}
use Rattle.cs_rules.specs.Kinds.{verdict_of}
use Rattle.cs_validate.proofs.ByKind.{alternative_decides}
use Rattle.cs_validate.proofs.by_kind.by_alternatives.Goals as goal

pub returns : goal.returns
returns c = λ x here h. alternative_decides here c.args.any_of.now (verdict_of c.any.result x) (sym c.is_empty.ensures ∙ c.if-is_empty.false) (c.any.ensures.decides x here h)
