use Rattle.std.proofs.Common.{[], ◌∷◌, ◌++◌, map, ap₂, ◌∙◌, subst}
use Rattle.cs_grammar.specs.View.{definition_view, name_view}
use Rattle.cs_names.specs.Checks.{TellsScope}
use Rattle.cs_names.specs.Lifted.{known, is_open}
use Rattle.cs_names.specs.Named as Spec
use Rattle.cs_names.specs.Scopes.{bound_scope}
use Rattle.cs_names.proofs.Tables.{inside_of}
use Rattle.cs_names.proofs.resolved.Naming.definitions.Goals as goal

pub returns : goal.returns
returns c all ts every tells told =
    let by = known ts in let opens = is_open ts in
    let i = c.args.self.now.file in
    let own = bound_scope i (map name_view c.args.file.now.names.items) in
    let ss = own ∷ every ∷ [] in
    let bound = subst (λ ns. TellsScope c.in_ok-bound.bound (bound_scope i (map name_view ns))) c.deref.ensures.value c.in_ok-bound.ensures in
    let around = inside_of c.whole-2.result own (c.whole.result ∷ []) c.deref-2.result.now (every ∷ []) (c.deref-2.ensures.value ∙ c.in_ok-scopes.ensures) (c.whole-2.ensures own bound) (c.whole.ensures every told, tt) in
    let first = c.in_ok-add_definitions.ensures all ts ss tells around ∙ ap₂ (λ xs ys. map definition_view xs ++ Spec.of_definitions by opens i ss (map definition_view ys)) c.new-found.ensures.items c.deref-3.ensures.value in
    c.in_ok-add_names.ensures all ts every own tells told bound ∙ ap₂ (λ ds ns. ds ++ Spec.of_names by opens i every own (map name_view ns)) first c.deref-4.ensures.value
