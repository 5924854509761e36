use Rattle.std.proofs.Common.{◌++◌, map, take, refl, sym, ap, ◌∙◌, append_assoc}
use Rattle.std.proofs.lemmas.List.{take_all}
use Rattle.cs_grammar.specs.View.{declaration_view, declarations_view}
use Rattle.cs_plain.proofs.Folds.{gathered_more}
use Rattle.cs_names.proofs.Parts.{nested_parts}
use Rattle.cs_names.specs.Checks.{path_view, nested_seen}
use Rattle.cs_names.specs.Nested.{nested_in_declarations}
use Rattle.cs_names.proofs.nested.Nesting.add_declarations.Goals as goal

pub loop-declaration-preserved : goal.loop-declaration-preserved
loop-declaration-preserved c =
    let xs = c.args.declarations.now in
    let i = c.loop-declaration.declaration-index in
    let x = c.declaration-item.result in
    let file = c.args.self.now.file in
    let s = c.args.outer.now in
    let before = map path_view c.args.found.now.items in
    let done = nested_in_declarations file s (declarations_view (take i xs)) in
    let one = nested_seen file s (declaration_view x) in
    let more = gathered_more (λ ys. nested_in_declarations file s (declarations_view ys)) (λ y. nested_seen file s (declaration_view y)) refl (nested_parts file s) xs i x c.loop-declaration-test.true c.declaration-item.is in
    c.in_ok-add_declaration.ensures ∙ ap (λ ds. ds ++ one) c.loop-declaration.invariant ∙ append_assoc before done one ∙ ap (λ ds. before ++ ds) (sym more)

pub returns : goal.returns
returns c =
    c.loop-declaration.invariant
    ∙ ap (λ ys. map path_view c.args.found.now.items ++ nested_in_declarations c.args.self.now.file c.args.outer.now (declarations_view ys)) (take_all c.loop-declaration.declaration-index c.args.declarations.now c.loop-declaration-test.false)
