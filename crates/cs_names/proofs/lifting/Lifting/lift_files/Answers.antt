use Rattle.std.proofs.Common.{map, take, refl, sym, ap, ◌∙◌, subst}
use Rattle.cs_grammar.specs.Tree.{names, definitions}
use Rattle.cs_grammar.specs.View.{file_view, name_view, definition_view}
use Rattle.cs_names.specs.Checks.{TellsLifts, TellsScope}
use Rattle.cs_names.specs.Lifted as Spec
use Rattle.cs_names.specs.Scopes.{bound_scope}
use Rattle.cs_plain.proofs.Folds.{counted_more}
use Rattle.cs_names.proofs.lifting.Lifting.lift_files.Goals as goal

pub loop-file-preserved : goal.loop-file-preserved
loop-file-preserved c all ts every tells told =
    let xs = c.args.files.now in
    let i = c.loop-file.file in
    let x = c.index-files-file.result in
    let own = bound_scope i (names (file_view x)) in
    let done = Spec.lift_files all every 0 (map file_view (take i xs)) ts in
    let more = counted_more (λ k ys us. Spec.lift_files all every k (map file_view ys) us)
    (λ k f us. Spec.lift_values all every k (bound_scope k (names (file_view f))) (names (file_view f)) (Spec.lift_bodies all every k (definitions (file_view f)) us)) (λ k us. refl) (λ k f fs us. refl)
    xs i x ts c.loop-file-test.true c.index-files-file.is in
    let bound = subst (λ ns. TellsScope c.in_ok-bound.bound (bound_scope i (map name_view ns))) c.deref.ensures.value c.in_ok-bound.ensures in
    let inside = Spec.lift_bodies all every i (definitions (file_view x)) done in
    let bodies = subst (λ ds. TellsLifts c.lift_bodies.new.self all (Spec.lift_bodies all every i (map definition_view ds) done)) c.deref-in-loop-file.ensures.value
    (c.in_ok-lift_bodies.ensures all done every (c.loop-file.invariant all ts every tells told)) in
    subst (TellsLifts c.lift_values.new.self all) (ap (λ ns. Spec.lift_values all every i own (map name_view ns) inside) c.deref-in-loop-file-2.ensures.value ∙ sym more)
    (c.in_ok-lift_values.ensures all inside every own bodies told bound)
