use Rattle.std.proofs.Common.{◌&&◌, map, take, sym, ap, ◌∙◌, subst}
use Rattle.std.proofs.lemmas.List.{take_all}
use Rattle.std.specs.List.{flat_map}
use Rattle.cs_grammar.specs.Tree.{definitions}
use Rattle.cs_grammar.specs.View.{file_view}
use Rattle.cs_defaults.specs.Checks.{TellsHandingOf, is_declared}
use Rattle.cs_defaults.specs.Leading.{hands_on}
use Rattle.cs_defaults.proofs.Bodies.{none_told, definitions_more, only_declared}
use Rattle.cs_defaults.proofs.leading.Handing.of.Goals as goal

pub loop-file-init : goal.loop-file-init
loop-file-init c all told = none_told c.new-names.result (hands_on all) c.new-names.ensures.empty

pub loop-file-preserved : goal.loop-file-preserved
loop-file-preserved c all told =
    let xs = c.args.files.now in
    let i = c.loop-file.file-index in
    let more = definitions_more xs i c.file-item.result c.loop-file-test.true c.file-item.is in
    subst (λ es. TellsHandingOf c.add_handing.new.names (hands_on all) es) (sym more) (c.in_ok-add_handing.ensures all (flat_map definitions (map file_view (take i xs))) told (c.loop-file.invariant all told))

pub returns : goal.returns
returns c s =
    let xs = c.args.files.now in
    let all = flat_map definitions (map file_view xs) in
    c.loop-file.invariant all c.in_ok-bodies.ensures s ∙ ap (λ ys. hands_on all s && is_declared (flat_map definitions (map file_view ys)) s) (take_all c.loop-file.file-index xs c.loop-file-test.false) ∙ only_declared all s
