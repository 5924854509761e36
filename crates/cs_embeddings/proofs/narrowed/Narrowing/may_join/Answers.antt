use Rattle.std.proofs.Common.{◌≡◌, List, Some, sym, ap, ◌∙◌, subst}
use Rattle.std.specs.Option.{option_map}
use Rattle.cs_grammar.specs.View.{expr_view, exprs_view}
use Rattle.cs_embeddings.specs.Embedded.{can_be_embedded}
use Rattle.cs_embeddings.specs.Narrowed.{first_shut, narrow_shut}
use Rattle.cs_embeddings.proofs.NarrowedSteps.{if_ok_map}
use Rattle.cs_embeddings.proofs.SameSteps.{CanSome, first_can}
use Rattle.cs_embeddings.proofs.narrowed.Narrowing.may_join.Goals as goal

pub returns-in-Some : goal.returns-in-Some
returns-in-Some c =
    let k = c.args.steps in
    let es = exprs_view c.args.operands.now in
    let e = expr_view c.in-Some.expr.now in
    let first : first_shut es ≡ Some e = sym c.first_shut.ensures ∙ ap (option_map (λ x. expr_view x.now)) c.in-Some.is in
    if_ok_map c.others_narrow.result _ _
    (λ b h ds told well.
    let can = subst (CanSome (can_be_embedded ds k)) first (first_can (can_be_embedded ds k) es well) in
    h ds told can ∙ sym (ap (narrow_shut ds k es) first)) c.others_narrow.ensures
