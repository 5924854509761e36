use Rattle.std.proofs.Common.{◌++◌, map, take, refl, sym, ap, ◌∙◌, append_assoc}
use Rattle.std.proofs.lemmas.List.{take_all}
use Rattle.cs_grammar.specs.View.{definition_view, name_view}
use Rattle.cs_plain.proofs.Folds.{gathered_more}
use Rattle.cs_names.specs.Lifted.{known, is_open}
use Rattle.cs_names.specs.Named as Spec
use Rattle.cs_names.proofs.resolved.Naming.add_names.Goals as goal

pub loop-name-preserved : goal.loop-name-preserved
loop-name-preserved c all ts every own tells told bound =
    let xs = c.args.names.now in
    let i = c.loop-name.name-index in
    let x = c.name-item.result in
    let before = map definition_view c.args.found.now.items in
    let done = Spec.of_names (known ts) (is_open ts) c.args.self.now.file every own (map name_view (take i xs)) in
    let one = Spec.of_name (known ts) (is_open ts) c.args.self.now.file every own (name_view x) in
    let more = gathered_more (λ ys. Spec.of_names (known ts) (is_open ts) c.args.self.now.file every own (map name_view ys)) (λ y. Spec.of_name (known ts) (is_open ts) c.args.self.now.file every own (name_view y)) refl (λ n ns. refl) xs i x c.loop-name-test.true c.name-item.is in
    c.in_ok-add_name.ensures all ts every own tells told bound ∙ ap (λ ds. ds ++ one) (c.loop-name.invariant all ts every own tells told bound) ∙ append_assoc before done one ∙ ap (λ ds. before ++ ds) (sym more)

pub returns : goal.returns
returns c all ts every own tells told bound =
    c.loop-name.invariant all ts every own tells told bound ∙ ap (λ ys. map definition_view c.args.found.now.items ++ Spec.of_names (known ts) (is_open ts) c.args.self.now.file every own (map name_view ys)) (take_all c.loop-name.name-index c.args.names.now c.loop-name-test.false)
