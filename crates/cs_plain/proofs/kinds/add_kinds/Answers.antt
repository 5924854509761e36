use Rattle.std.proofs.Common.{rules, ◌≡◌, ◌++◌, ◌∷◌, [], subst}
use Rattle.cs_grammar.specs.declared.ast.Expr as Exprs
use Rattle.cs_grammar.specs.View.{expr_view, exprs_view}
use Rattle.cs_plain.specs.Plain as Spec
use Rattle.cs_plain.specs.References.{TellsTexts}
use Rattle.cs_plain.proofs.Texts.{texts_put}
use Rattle.cs_plain.proofs.kinds.add_kinds.Goals as goal

pub returns-in_ok-insert-in-Name : goal.returns-in_ok-insert-in-Name
returns-in_ok-insert-in-Name c ss told =
    let is : c.as_str.result.now ∷ [] ≡ Spec.kinds (expr_view c.args.value.now) = search (rules, Exprs.the_lemmas) in
    subst (λ rs. TellsTexts c.insert.new.self (ss ++ rs)) is (texts_put c.args.found.now c.insert.new.self c.as_str.result ss told c.in_ok-insert-in-Name.ensures.updates)

pub returns-in-And : goal.returns-in-And
returns-in-And c =
    let is : Spec.kinds (expr_view c.args.value.now) ≡ Spec.kinds_each (exprs_view c.deref.result.now) = search (rules, Exprs.the_lemmas) in
    rw is c.add_each.ensures
