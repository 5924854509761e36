use Rattle.std.proofs.Common.{◌≡◌, true, sym, ap, ◌∙◌, take_all}
use Rattle.cs_document.specs.Document.{list}
use Rattle.cs_question.specs.Asked.{meets, meets_all}
use Rattle.cs_question.proofs.Loops.{all_before, all_read, first_literal}
use Rattle.cs_question.proofs.lists.asked_at.Goals as goal

pub loop-literal-preserved : goal.loop-literal-preserved
loop-literal-preserved c = λ J n i ds y m h from got inner.
    let f = meets J (list ds) in
    let k = c.loop-literal.literal-index in
    c.in_ok-ask_place.ensures J n i ds y m (all_read f c.args.asked.now k first_literal c.loop-literal-test.true h) from got
    (c.loop-literal.invariant J n i ds y m (all_before f c.args.asked.now k first_literal c.loop-literal-test.true h) from got inner)

pub returns : goal.returns
returns c = λ J n i ds y m h from got inner. c.loop-literal.invariant J n i ds y m (ap (meets_all J (list ds)) (take_all c.loop-literal.literal-index c.args.asked.now c.loop-literal-test.false) ∙ h) from got inner
