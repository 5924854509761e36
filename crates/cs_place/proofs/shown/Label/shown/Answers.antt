use Rattle.std.proofs.Common.{sym, subst, ◌∙◌}
use Rattle.std.specs.Str.{NoCharPasses}
use Rattle.cs_place.specs.Shown.{is_hidden}
use Rattle.cs_place.proofs.ShownTexts.{shown_plain}
use Rattle.cs_place.proofs.shown.Label.shown.Goals as goal

pub returns-clause-plain : goal.returns-clause-plain
returns-clause-plain c = subst (NoCharPasses is_hidden) (sym (c.as_str.ensures.value ∙ c.self.invariant)) (shown_plain c.self.inside.name.now)
