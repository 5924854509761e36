use Rattle.std.proofs.Common.{sym, ◌∙◌}
use Rattle.cs_validate.proofs.ByKind.{none_required}
use Rattle.cs_validate.proofs.by_kind.requires_nothing.Goals as goal

pub returns : goal.returns
returns c = λ e. none_required c.args.required.now (sym c.are_keys.ensures ∙ e)
