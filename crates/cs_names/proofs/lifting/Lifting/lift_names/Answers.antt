use Rattle.std.proofs.Common.{map, take, refl, sym, ap, ◌∙◌, subst}
use Rattle.cs_grammar.specs.Tree.{names}
use Rattle.cs_grammar.specs.View.{file_view, name_view}
use Rattle.cs_names.specs.Checks.{TellsLifts, TellsScope}
use Rattle.cs_names.specs.Lifted as Spec
use Rattle.cs_names.specs.Scopes.{bound_scope}
use Rattle.cs_plain.proofs.Folds.{counted_more}
use Rattle.cs_names.proofs.lifting.Lifting.lift_names.Goals as goal

pub loop-file-preserved : goal.loop-file-preserved
loop-file-preserved c all ts every tells told =
    let xs = c.args.files.now in
    let i = c.loop-file.file in
    let x = c.index-files-file.result in
    let own = bound_scope i (names (file_view x)) in
    let done = Spec.lift_names all every 0 (map file_view (take i xs)) ts in
    let more = counted_more (λ k ys us. Spec.lift_names all every k (map file_view ys) us) (λ k f us. Spec.lift_tops all every (bound_scope k (names (file_view f))) (names (file_view f)) us) (λ k us. refl) (λ k f fs us. refl) xs i x ts c.loop-file-test.true c.index-files-file.is in
    let bound = subst (λ ns. TellsScope c.in_ok-bound.bound (bound_scope i (map name_view ns))) c.deref.ensures.value c.in_ok-bound.ensures in
    subst (TellsLifts c.lift_tops.new.self all) (ap (λ ns. Spec.lift_tops all every own (map name_view ns) done) c.deref-in-loop-file.ensures.value ∙ sym more)
    (c.in_ok-lift_tops.ensures all done every own (c.loop-file.invariant all ts every tells told) told bound)
