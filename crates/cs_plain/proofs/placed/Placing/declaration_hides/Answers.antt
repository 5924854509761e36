use Rattle.std.proofs.Common.{sym, ap, ◌∙◌}
use Rattle.cs_grammar.specs.View.{declaration_view}
use Rattle.cs_grammar.proofs.Views.{view-declared-field}
use Rattle.cs_plain.specs.Checks.{hides_seen}
use Rattle.cs_plain.proofs.placed.Placing.declaration_hides.Goals as goal

pub returns-in-Field : goal.returns-in-Field
returns-in-Field c value hides told =
    let is = ap (hides_seen value hides) (ap declaration_view c.in-Field.is ∙ view-declared-field c.in-Field.field) in
    c.field_hides.ensures value hides told ∙ sym is
