use Rattle.std.proofs.Common.{map, take, sym, subst}
use Rattle.std.specs.List.{flat_map}
use Rattle.cs_grammar.specs.Tree.{definitions}
use Rattle.cs_grammar.specs.View.{file_view}
use Rattle.cs_conditions.specs.Checks.{TellsLeads}
use Rattle.cs_conditions.proofs.Bodies.{definitions_more}
use Rattle.cs_conditions.proofs.defaults.leads_of.Goals as goal

pub loop-file-preserved : goal.loop-file-preserved
loop-file-preserved c =
    let xs = c.args.files.now in
    let i = c.loop-file.file-index in
    let more = definitions_more xs i c.file-item.result c.loop-file-test.true c.file-item.is in
    subst (λ es. TellsLeads c.add_leads.new.leads es) (sym more) (c.in_ok-add_leads.ensures (flat_map definitions (map file_view (take i xs))) c.loop-file.invariant)
