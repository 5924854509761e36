use Rattle.std.proofs.Common.{◌≡◌, ◌∷◌, ◌++◌, map, take, refl, sym, ap, ◌∙◌, append_assoc, string_bytes}
use Rattle.cs_grammar.specs.Tree.{body, defined_name}
use Rattle.cs_grammar.specs.View.{definition_view, expr_view}
use Rattle.cs_plain.proofs.Folds.{gathered_more}
use Rattle.cs_names.specs.Checks.{path_view}
use Rattle.cs_names.specs.Nested.{nested_in, nested_of}
use Rattle.cs_names.proofs.nested.Nesting.add_definitions.Goals as goal

pub loop-definition-preserved : goal.loop-definition-preserved
loop-definition-preserved c =
    let xs = c.args.definitions.now in
    let i = c.loop-definition.definition-index in
    let x = c.definition-item.result in
    let file = c.args.self.now.file in
    let before = map path_view c.args.found.now.items in
    let done = nested_of file (map definition_view (take i xs)) in
    let one = nested_in file (35 ∷ string_bytes x.name) (expr_view x.body) in
    let more = gathered_more (λ ys. nested_of file (map definition_view ys)) (λ y. nested_in file (35 ∷ defined_name (definition_view y)) (body (definition_view y))) refl (λ d ds. refl)
    xs i x c.loop-definition-test.true c.definition-item.is in
    let mark : c.deref-in-loop-definition.result.now ≡ 35 ∷ string_bytes x.name = c.deref-in-loop-definition.ensures ∙ c.in_ok-outer.ensures ∙ ap (λ n. 35 ∷ n) c.deref.ensures in
    c.in_ok-add_body.ensures ∙ ap (λ n. map path_view c.loop-definition.found.items ++ nested_in file n (expr_view x.body)) mark
    ∙ ap (λ ds. ds ++ one) c.loop-definition.invariant ∙ append_assoc before done one ∙ ap (λ ds. before ++ ds) (sym more)
