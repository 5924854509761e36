use Rattle.std.proofs.Common.{◌++◌, map, take, refl, sym, ap, ◌∙◌, append_assoc}
use Rattle.std.proofs.lemmas.List.{take_all}
use Rattle.cs_grammar.specs.View.{definition_view}
use Rattle.cs_plain.proofs.Folds.{gathered_more}
use Rattle.cs_names.specs.Lifted.{known, is_open}
use Rattle.cs_names.specs.Named as Spec
use Rattle.cs_names.proofs.resolved.Naming.add_definitions.Goals as goal

pub loop-definition-preserved : goal.loop-definition-preserved
loop-definition-preserved c all ts ss tells told =
    let xs = c.args.definitions.now in
    let i = c.loop-definition.definition-index in
    let x = c.definition-item.result in
    let before = map definition_view c.args.found.now.items in
    let done = Spec.of_definitions (known ts) (is_open ts) c.args.self.now.file ss (map definition_view (take i xs)) in
    let one = Spec.of_definition (known ts) (is_open ts) c.args.self.now.file ss (definition_view x) in
    let more = gathered_more (λ ys. Spec.of_definitions (known ts) (is_open ts) c.args.self.now.file ss (map definition_view ys)) (λ y. Spec.of_definition (known ts) (is_open ts) c.args.self.now.file ss (definition_view y)) refl (λ d ds. refl) xs i x c.loop-definition-test.true c.definition-item.is in
    c.in_ok-add_whole.ensures all ts ss tells told ∙ ap (λ ds. ds ++ one) (c.loop-definition.invariant all ts ss tells told) ∙ append_assoc before done one ∙ ap (λ ds. before ++ ds) (sym more)

pub returns : goal.returns
returns c all ts ss tells told =
    c.loop-definition.invariant all ts ss tells told ∙ ap (λ ys. map definition_view c.args.found.now.items ++ Spec.of_definitions (known ts) (is_open ts) c.args.self.now.file ss (map definition_view ys)) (take_all c.loop-definition.definition-index c.args.definitions.now c.loop-definition-test.false)
