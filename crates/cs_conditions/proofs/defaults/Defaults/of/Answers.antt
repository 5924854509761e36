use Rattle.std.proofs.Common.{map, take, sym, ap, ◌∙◌, subst}
use Rattle.std.proofs.lemmas.List.{take_all}
use Rattle.std.specs.List.{flat_map}
use Rattle.cs_grammar.specs.Tree.{definitions}
use Rattle.cs_grammar.specs.View.{file_view}
use Rattle.cs_conditions.specs.Checks.{TellsDefaultsOf, is_declared, default_if}
use Rattle.cs_conditions.specs.Known.{default_known}
use Rattle.cs_conditions.proofs.Bodies.{definitions_more, only_declared}
use Rattle.cs_conditions.proofs.defaults.Defaults.of.Goals as goal

pub loop-file-preserved : goal.loop-file-preserved
loop-file-preserved c all told =
    let xs = c.args.files.now in
    let i = c.loop-file.file-index in
    let more = definitions_more xs i c.file-item.result c.loop-file-test.true c.file-item.is in
    subst (λ es. TellsDefaultsOf c.add_defaults.new.table (default_known all) es) (sym more)
    (c.in_ok-add_defaults.ensures all (flat_map definitions (map file_view (take i xs))) told (c.loop-file.invariant all told))

pub returns : goal.returns
returns c s =
    let xs = c.args.files.now in
    let all = flat_map definitions (map file_view xs) in
    c.loop-file.invariant all c.in_ok-leads.ensures s
    ∙ ap (λ ys. default_if (is_declared (flat_map definitions (map file_view ys)) s) (default_known all s)) (take_all c.loop-file.file-index xs c.loop-file-test.false)
    ∙ only_declared all s
