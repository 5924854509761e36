use Rattle.std.proofs.Common.{◌∙◌}
use Rattle.cs_grammar.specs.View.{expr_view}
use Rattle.cs_defaults.specs.Leading as Spec
use Rattle.cs_defaults.proofs.Leads.{found}
use Rattle.cs_defaults.proofs.leading.Handing.has_default.Goals as goal

pub returns : goal.returns
returns c has tells = c.is_some.ensures ∙ found c.place_of.result has (Spec.leading (expr_view c.args.expr.now)) (c.place_of.ensures has tells)
