use Rattle.cs_grammar.specs.View.{name_view}
use Rattle.cs_grammar.proofs.Copies.{copied_more, all_copied}
use Rattle.cs_grammar.proofs.copy.copied_names.Goals as goal

pub loop-name-preserved : goal.loop-name-preserved
loop-name-preserved c =
    copied_more name_view c.args.names.now c.loop-name.name-index c.name-item.result c.loop-name-test.true c.name-item.is _ _ _ c.in_ok-push.ensures.items
    c.loop-name.invariant c.in_ok-copied_name.ensures

pub returns : goal.returns
returns c = all_copied name_view c.args.names.now c.loop-name.name-index c.loop-name-test.false _ c.loop-name.invariant
