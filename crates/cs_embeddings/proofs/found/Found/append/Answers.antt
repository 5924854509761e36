use Rattle.std.proofs.Common.{[], ◌∷◌, ◌++◌, sym, ap, ◌∙◌}
use Rattle.std.specs.Vec.Iter.{into_iter_items}
use Rattle.std.proofs.lemmas.Result.{err_from_is_err_and}
use Rattle.cs_embeddings.specs.Views.{alternative_view, alternatives_view}
use Rattle.cs_embeddings.proofs.Left.{too_much_here}
use Rattle.cs_embeddings.proofs.found.Found.append.Goals as goal

pub returns-in_err-push : goal.returns-in_err-push
returns-in_err-push c =
    let p = err_from_is_err_and c.from_residual.result c.from_residual.ensures.1 in
    let found = alternatives_view c.loop-alternative.self.alternatives.items in
    let own = alternative_view c.in-Some.alternative ∷ [] in
    let rest = alternatives_view (into_iter_items c.next.new.self) in
    let all = alternatives_view c.args.self.now.alternatives.items ++ alternatives_view c.args.further.alternatives.items in
    let whole = ap (λ xs. found ++ alternatives_view xs) (sym c.in-Some.ensures.steps.0) ∙ c.loop-alternative.invariant in
    rw (p.1, p.2) (too_much_here c.in_err-push.field-0.0 c.args.room found own rest all whole c.in_err-push.ensures)
