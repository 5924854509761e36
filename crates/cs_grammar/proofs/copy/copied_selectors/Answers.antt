use Rattle.cs_grammar.specs.View.{selector_view}
use Rattle.cs_grammar.proofs.Copies.{copied_more, all_copied}
use Rattle.cs_grammar.proofs.copy.copied_selectors.Goals as goal

pub loop-selector-preserved : goal.loop-selector-preserved
loop-selector-preserved c =
    copied_more selector_view c.args.selectors.now c.loop-selector.selector-index c.selector-item.result c.loop-selector-test.true c.selector-item.is _ _ _ c.in_ok-push.ensures.items
    c.loop-selector.invariant c.in_ok-copied_selector.ensures

pub returns : goal.returns
returns c = all_copied selector_view c.args.selectors.now c.loop-selector.selector-index c.loop-selector-test.false _ c.loop-selector.invariant
