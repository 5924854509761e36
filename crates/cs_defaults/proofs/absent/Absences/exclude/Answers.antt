use Rattle.std.proofs.Common.{◌||◌, sym, ap, ◌∙◌}
use Rattle.cs_defaults.specs.Absent.{is_repeated}
use Rattle.cs_defaults.proofs.absent.Absences.exclude.Goals as goal

pub returns-else-self : goal.returns-else-self
returns-else-self c absent told =
    let label = c.args.label.now in
    c.contains.ensures ∙ told label ∙ sym (ap (λ b. b || is_repeated label absent) c.if-self.false)
