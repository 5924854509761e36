use Rattle.std.proofs.Common.{◌≡◌, ◌-◌, ◌+◌, ◌<◌, map, length, ap, ◌∙◌, arith}
use Rattle.std.proofs.lemmas.List.{map-append}
use Rattle.cs_grammar.specs.View.{expr_view}
use Rattle.cs_conditions.specs.Choice.{made_in}
use Rattle.cs_conditions.proofs.Chains.{from, fails_more}
use Rattle.cs_conditions.proofs.choice.Choosing.choices.Goals as goal

pub loop-passed-preserved : goal.loop-passed-preserved
loop-passed-preserved c known all told =
    let cs = c.args.conditions.now in
    let by = made_in known all in
    let e = expr_view c.args.value in
    let passed = c.loop-passed.passed in
    let place = length cs - 1 - passed in
    let within : place < length cs = omega (arith, c.loop-passed-test.true) in
    let next : length cs - passed ≡ place + 1 = omega (arith, c.loop-passed-test.true) in
    let same : place ≡ length cs - (passed + 1) = omega (arith, c.loop-passed-test.true) in
    fails_more by c.args.at e cs (length cs - passed) place c.index-conditions-place.result _ _ (expr_view c.in_ok-failing.field-0) within next c.index-conditions-place.is
    (c.loop-passed.invariant known all told) (ap (map expr_view) c.in_ok-push-2.ensures.items ∙ map-append expr_view _ _) (c.in_ok-failing.ensures known all told)
    ∙ ap (from by c.args.at e cs) same

pub returns : goal.returns
returns c known all told =
    let cs = c.args.conditions.now in
    let none : length cs - c.loop-passed.passed ≡ 0 = omega (arith, c.loop-passed-test.false) in
    c.loop-passed.invariant known all told ∙ ap (from (made_in known all) c.args.at (expr_view c.args.value) cs) none
