use Rattle.std.proofs.Common.{List, ◌++◌, ◌∷◌, [], ap, ◌∙◌}
use Rattle.cs_tool.specs.declared.fault.Fault.{Fault}
use Rattle.cs_check.proofs.FaultLists.{one_told}
use Rattle.cs_check.proofs.schema.alone.Goals as goal

pub returns-clause-distinct : goal.returns-clause-distinct
returns-clause-distinct c =
    one_told c.args.fault _ c.requires (c.in_ok-push.ensures.items ∙ ap (λ (fs : List Fault). fs ++ c.args.fault ∷ []) c.new-faults.ensures.items)
