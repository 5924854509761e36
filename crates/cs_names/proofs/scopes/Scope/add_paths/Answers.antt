use Rattle.std.proofs.Common.{◌∷◌, ◌++◌, [], map, take, sym, ap, ◌∙◌, subst, append_assoc}
use Rattle.std.proofs.lemmas.List.{map-append}
use Rattle.cs_names.specs.Checks.{TellsScope, path_view}
use Rattle.cs_plain.proofs.Walks.{take_at}
use Rattle.cs_names.proofs.scopes.Scope.add_paths.Goals as goal

pub loop-path-preserved : goal.loop-path-preserved
loop-path-preserved c ds told =
    let xs = c.args.paths.now in
    let i = c.loop-path.path-index in
    let x = c.path-item.result in
    let done = map path_view (take i xs) in
    let more = ap (map path_view) (take_at xs i x c.loop-path-test.true c.path-item.is) ∙ map-append path_view (take i xs) (x ∷ []) in
    subst (TellsScope c.add.new.self) (append_assoc ds done (path_view x ∷ []) ∙ ap (λ es. ds ++ es) (sym more))
    (subst (λ s. TellsScope c.add.new.self ((ds ++ done) ++ record { name = s; place = x.place } ∷ [])) c.deref.ensures (c.in_ok-add.ensures (ds ++ done) (c.loop-path.invariant ds told)))
