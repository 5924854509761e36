use Rattle.std.proofs.Common.{Some, ap, ◌∙◌}
use Rattle.std.specs.List.{list_all, list_any}
use Rattle.std.proofs.lemmas.Result.{on_ok_weaker}
use Rattle.cs_question.specs.Asked.{meets, meets_all}
use Rattle.cs_question.proofs.Some.{all_placed}
use Rattle.cs_question.proofs.Unfolded.{all_met, all_unmet, any_met, any_unmet}
use Rattle.cs_question.proofs.cases.open.Goals as goal

pub returns-in-Some-All-clause-there : goal.returns-in-Some-All-clause-there
returns-in-Some-All-clause-there c =
    let s = c.in-Some-All in
    on_ok_weaker c.put_all.result (λ f J x m h.
    f J x (c.in_ok-rest.ensures (meets J x) h) (ap (list_all (λ p. meets J x (record c.args.literal { rule = p }))) c.deref.ensures.value ∙ all_met c.args.nodes.now J m c.args.literal x (all_placed (meets J x) c.args.asked.now c.args.place c.args.literal h c.requires) s.parts (s.ensures ∙ ap Some s.field-0-is) c.if-literal.true))
    c.put_all.ensures.there

pub returns-in-Some-All-2-clause-there : goal.returns-in-Some-All-2-clause-there
returns-in-Some-All-2-clause-there c =
    let s = c.in-Some-All in
    on_ok_weaker c.put_each.result (λ f J x m h.
    f J x m (ap (meets_all J x) c.deref-in-Some-All-2.ensures.value ∙ c.in_ok-rest.ensures (meets J x) h) (ap (list_any (λ p. meets J x (record c.args.literal { rule = p }))) c.deref-in-Some-All-2-2.ensures.value ∙ all_unmet c.args.nodes.now J m c.args.literal x (all_placed (meets J x) c.args.asked.now c.args.place c.args.literal h c.requires) s.parts (c.in-Some-All.ensures ∙ ap Some s.field-0-is) c.if-literal.false))
    c.put_each.ensures.there

pub returns-in-Some-Any-clause-there : goal.returns-in-Some-Any-clause-there
returns-in-Some-Any-clause-there c =
    let s = c.in-Some-Any in
    on_ok_weaker c.put_each-in-Some-Any.result (λ f J x m h.
    f J x m (ap (meets_all J x) c.deref-in-Some-Any.ensures.value ∙ c.in_ok-rest.ensures (meets J x) h) (ap (list_any (λ p. meets J x (record c.args.literal { rule = p }))) c.deref-in-Some-Any-2.ensures.value ∙ any_met c.args.nodes.now J m c.args.literal x (all_placed (meets J x) c.args.asked.now c.args.place c.args.literal h c.requires) s.parts (s.ensures ∙ ap Some s.field-0-is) c.if-literal-2.true))
    c.put_each-in-Some-Any.ensures.there

pub returns-in-Some-Any-2-clause-there : goal.returns-in-Some-Any-2-clause-there
returns-in-Some-Any-2-clause-there c =
    let s = c.in-Some-Any in
    on_ok_weaker c.put_all-in-Some-Any-2.result (λ f J x m h.
    f J x (c.in_ok-rest.ensures (meets J x) h) (ap (list_all (λ p. meets J x (record c.args.literal { rule = p }))) c.deref-in-Some-Any-2-2.ensures.value ∙ any_unmet c.args.nodes.now J m c.args.literal x (all_placed (meets J x) c.args.asked.now c.args.place c.args.literal h c.requires) s.parts (c.in-Some-Any.ensures ∙ ap Some s.field-0-is) c.if-literal-2.false))
    c.put_all-in-Some-Any-2.ensures.there
