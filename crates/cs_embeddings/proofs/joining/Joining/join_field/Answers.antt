use Rattle.std.proofs.Common.{[], ◌∷◌, ◌++◌, map, append_assoc, sym, ap, ◌∙◌, subst}
use Rattle.std.specs.Vec.Iter.{into_iter_items}
use Rattle.std.proofs.lemmas.Result.{err_from_is_err_and}
use Rattle.cs_grammar.specs.View.{field_view}
use Rattle.cs_embeddings.specs.Views.{origin_view, alternative_view, alternatives_view, with_field, IsTooMuch}
use Rattle.cs_embeddings.proofs.Left.{too_much_here, declared_more}
use Rattle.cs_embeddings.proofs.joining.Joining.join_field.Goals as goal

pub returns-in_err-push-2 : goal.returns-in_err-push-2
returns-in_err-push-2 c =
    let p = err_from_is_err_and c.from_residual-in_err-push-2.result c.from_residual-in_err-push-2.ensures.1 in
    let add = with_field (origin_view c.args.origin) (field_view c.args.field.now) in
    let found = alternatives_view c.loop-alternative.found.alternatives.items in
    let own = add (alternative_view c.in-Some.alternative) ∷ [] in
    let rest = map add (alternatives_view (into_iter_items c.next.new.self)) in
    let all = map add (alternatives_view c.args.before.alternatives.items) in
    let whole = ap (λ xs. found ++ map add (alternatives_view xs)) (sym c.in-Some.ensures.steps.0) ∙ c.loop-alternative.invariant in
    let e = c.in_err-push-2.field-0.0 in
    let a = c.in-Some.alternative in
    let declared = declared_more a.declarations.items c.push.new.self.items c.args.field c.args.origin c.in_ok-push.ensures.items in
    let here = subst (λ ds. IsTooMuch e c.args.self.room
    (found ++ record { declarations = ds; opened = a.opened; met = map (λ s. s.now) a.met.items } ∷ [])) declared c.in_err-push-2.ensures in
    rw (p.1, p.2) (too_much_here e c.args.self.room found own rest all whole here)

pub loop-alternative-preserved : goal.loop-alternative-preserved
loop-alternative-preserved c =
    let add = with_field (origin_view c.args.origin) (field_view c.args.field.now) in
    let found = alternatives_view c.loop-alternative.found.alternatives.items in
    let own = add (alternative_view c.in-Some.alternative) ∷ [] in
    let rest = map add (alternatives_view (into_iter_items c.next.new.self)) in
    let whole = ap (λ xs. found ++ map add (alternatives_view xs)) (sym c.in-Some.ensures.steps.0) ∙ c.loop-alternative.invariant in
    let a = c.in-Some.alternative in
    let declared = declared_more a.declarations.items c.push.new.self.items c.args.field c.args.origin c.in_ok-push.ensures.items in
    let pushed = c.in_ok-push-2.ensures
    ∙ ap (λ ds. found ++ record { declarations = ds; opened = a.opened; met = map (λ s. s.now) a.met.items } ∷ []) declared in
    ap (λ xs. xs ++ rest) pushed ∙ append_assoc found own rest ∙ whole
