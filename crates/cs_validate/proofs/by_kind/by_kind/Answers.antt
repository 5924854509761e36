use Rattle.std.proofs.Common.{sym, subst}
use Rattle.cs_rules.specs.Kinds.{Foretells}
use Rattle.cs_validate.specs.Steps.{step}
use Rattle.cs_validate.proofs.by_kind.by_kind.Goals as goal

pub returns-in-Object : goal.returns-in-Object
returns-in-Object c = subst (λ r. Foretells (step r) c.args.earlier.now c.by_keywords.result) (sym c.in-Object.is) c.by_keywords.ensures
