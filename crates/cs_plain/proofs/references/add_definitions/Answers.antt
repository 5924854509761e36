use Rattle.std.proofs.Common.{◌++◌, map, take, refl, sym, ap, ◌∙◌, subst, append_assoc}
use Rattle.std.proofs.lemmas.List.{take_all}
use Rattle.cs_grammar.specs.View.{expr_view, definition_view}
use Rattle.cs_plain.proofs.Folds.{gathered_more}
use Rattle.cs_plain.specs.References.{TellsTexts}
use Rattle.cs_plain.specs.References as Spec
use Rattle.cs_plain.proofs.references.add_definitions.Goals as goal

pub loop-definition-preserved : goal.loop-definition-preserved
loop-definition-preserved c ss told =
    let xs = c.deref-definition-items.result.now in
    let i = c.loop-definition.definition-index in
    let x = c.definition-item.result in
    let done = Spec.references_of c.args.is_all (map definition_view (take i xs)) in
    let more = gathered_more (λ ys. Spec.references_of c.args.is_all (map definition_view ys)) (λ y. Spec.references c.args.is_all (expr_view y.body)) refl (λ d ds. refl) xs i x c.loop-definition-test.true c.definition-item.is in
    subst (TellsTexts c.add_references.new.found) (append_assoc ss done (Spec.references c.args.is_all (expr_view x.body)) ∙ ap (λ rs. ss ++ rs) (sym more))
    (c.in_ok-add_references.ensures (ss ++ done) (c.loop-definition.invariant ss told))

pub returns : goal.returns
returns c ss told =
    subst (λ ys. TellsTexts c.loop-definition.found (ss ++ Spec.references_of c.args.is_all (map definition_view ys))) (take_all c.loop-definition.definition-index c.deref-definition-items.result.now c.loop-definition-test.false ∙ c.deref-definition-items.ensures.value) (c.loop-definition.invariant ss told)
