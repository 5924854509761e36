use Rattle.std.proofs.Common.{nat_lt, sym, ap, ◌∙◌}
use Rattle.cs_resolve.specs.Checks.{with_own_name}
use Rattle.cs_resolve.proofs.LabelCounts.{split}
use Rattle.cs_resolve.proofs.opening.label_demands_open.Goals as goal

pub returns : goal.returns
returns c ns told = c.is_several.ensures _ (c.plus.ensures _ _ (c.count_of.ensures (with_own_name ns) told.own) told.shared) ∙ ap (nat_lt 1) (sym (split c.args.label.now ns))
