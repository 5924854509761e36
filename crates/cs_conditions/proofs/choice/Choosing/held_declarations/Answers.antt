use Rattle.std.proofs.Common.{true, map, sym, ap, ◌∙◌}
use Rattle.std.proofs.lemmas.List.{take_all}
use Rattle.std.proofs.lemmas.Simd.{map-map}
use Rattle.cs_grammar.specs.View.{field_seen, declaration_view, condition_view}
use Rattle.cs_grammar.proofs.Views.{view-declared-field}
use Rattle.cs_conditions.specs.Choice.{made_in}
use Rattle.cs_conditions.proofs.Walks.{map_pushed}
use Rattle.cs_conditions.proofs.choice.Choosing.held_declarations.Goals as goal

pub loop-condition-preserved : goal.loop-condition-preserved
loop-condition-preserved c known all told =
    map_pushed (λ q. field_seen (made_in known all (condition_view q) true)) declaration_view c.args.conditions.now c.loop-condition.condition-index c.condition-item.result
    c.loop-condition-test.true c.condition-item.is _ _ _ c.in_ok-push.ensures.items (c.loop-condition.invariant known all told)
    (view-declared-field c.in_ok-field.field ∙ ap field_seen (c.in_ok-field.ensures known all told))

pub returns : goal.returns
returns c known all told =
    let cs = c.args.conditions.now in
    let by = made_in known all in
    c.loop-condition.invariant known all told
    ∙ ap (map (λ q. field_seen (by (condition_view q) true))) (take_all c.loop-condition.condition-index cs c.loop-condition-test.false)
    ∙ sym (map-map (λ q. field_seen (by q true)) condition_view cs)
    ∙ sym (map-map field_seen (λ q. by q true) (map condition_view cs))
