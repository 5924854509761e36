use Rattle.std.proofs.Common.{◌≡◌, Bool, true, false, cond, Some, ◌∷◌, ◌++◌, ◌+◌, [], map, take, refl, sym, ap, ◌∙◌, subst}
use Rattle.std.proofs.lemmas.List.{append-nil}
use Rattle.cs_grammar.specs.View.{name_view}
use Rattle.cs_names.specs.Checks.{TellsScope}
use Rattle.cs_names.specs.Scopes.{bound_scope, top_declared}
use Rattle.cs_plain.proofs.Folds.{gathered_more}
use Rattle.cs_names.proofs.Parts.{bound_by, bound_parts}
use Rattle.cs_names.proofs.scopes.Scope.bound.Goals as goal
use Rattle.cs_names.proofs.scopes.Scope.bound.Goals.{then-name+in_ok-add, else-name}

pub loop-name-preserved : goal.loop-name-preserved
loop-name-preserved c =
    let xs = c.args.names.now in
    let k = c.loop-name.name-index in
    let x = c.name-item.result in
    let i = c.args.file in
    let done = bound_scope i (map name_view (take k xs)) in
    let more = gathered_more (λ ys. bound_scope i (map name_view ys)) (λ n. bound_by i (name_view n)) refl (bound_parts i) xs k x c.loop-name-test.true c.name-item.is in
    let here : (b : Bool) → x.is_bound ≡ b → TellsScope c.if-name.scope (done ++ cond b (top_declared i (name_view x) ∷ []) [])
    → TellsScope c.if-name.scope (bound_scope i (map name_view (take (k + 1) xs))) =
    (λ b is told. subst (TellsScope c.if-name.scope) (ap (λ d. done ++ cond d (top_declared i (name_view x) ∷ []) []) (sym is) ∙ sym more) told) in
    elim c.if-name.branch [
      | then-name+in_ok-add w ↦
          here true w.if-name.true
          (subst (λ t. TellsScope t (done ++ top_declared i (name_view x) ∷ [])) (sym w.scope-is)
          (subst (λ s. TellsScope w.add.new.self (done ++ record { name = s; place = Some (i, x.at) } ∷ [])) w.deref.ensures (w.in_ok-add.ensures done c.loop-name.invariant)))
      | else-name w ↦
          here false w.if-name.false
          (subst (λ t. TellsScope t (done ++ [])) (sym w.scope-is) (subst (TellsScope c.loop-name.scope) (sym (append-nil done)) c.loop-name.invariant))
    ]
