use Rattle.std.proofs.Common.{◌≡◌, false, [], ◌∷◌, map, ◌∙◌, subst}
use Rattle.std.proofs.lemmas.Result.{err_from_is_err_and}
use Rattle.std.specs.List.{flat_map}
use Rattle.cs_grammar.specs.Tree.{body}
use Rattle.cs_grammar.specs.View.{definition_view, name_view, file_view}
use Rattle.cs_names.specs.Checks.{EndsAt, TellsScope, Finds}
use Rattle.cs_names.specs.Flaws as Spec
use Rattle.cs_names.specs.Scopes.{bound_scope}
use Rattle.cs_names.proofs.Found.{finds_as, ends_left}
use Rattle.cs_names.proofs.Tables.{inside_of}
use Rattle.cs_plain.proofs.Walks.{none_left}
use Rattle.cs_names.proofs.resolved.Naming.check_file.Goals as goal

pub returns-in_err-check_definitions : goal.returns-in_err-check_definitions
returns-in_err-check_definitions c all ts every tells told =
    let i = c.args.self.now.file in
    let own = bound_scope i (map name_view c.args.file.now.names.items) in
    let ss = own ∷ every ∷ [] in
    let e = c.in_err-check_definitions.field-0.0 in
    let p = err_from_is_err_and c.from_residual-in_err-check_definitions.result c.from_residual-in_err-check_definitions.ensures.1 in
    let bound = subst (λ ns. TellsScope c.in_ok-bound.bound (bound_scope i (map name_view ns))) c.deref.ensures.value c.in_ok-bound.ensures in
    let around = inside_of c.whole-2.result own (c.whole.result ∷ []) c.deref-2.result.now (every ∷ []) (c.deref-2.ensures.value ∙ c.in_ok-scopes.ensures) (c.whole-2.ensures own bound) (c.whole.ensures every told, tt) in
    let here = subst (λ ds. EndsAt e (flat_map (λ d. Spec.flaws ts i false ss (body d)) (map definition_view ds))) c.deref-3.ensures.value (c.in_err-check_definitions.ensures all ts ss tells around) in
    rw (p.1, p.2)
    (ends_left (flat_map (λ d. Spec.flaws ts i false ss (body d)) (map definition_view c.args.file.now.definitions.items))
    (flat_map (Spec.name_flaws ts i every own) (map name_view c.args.file.now.names.items)) e here)

pub returns : goal.returns
returns c all ts every tells told =
    let i = c.args.self.now.file in
    let own = bound_scope i (map name_view c.args.file.now.names.items) in
    let ss = own ∷ every ∷ [] in
    let bound = subst (λ ns. TellsScope c.in_ok-bound.bound (bound_scope i (map name_view ns))) c.deref.ensures.value c.in_ok-bound.ensures in
    let around = inside_of c.whole-2.result own (c.whole.result ∷ []) c.deref-2.result.now (every ∷ []) (c.deref-2.ensures.value ∙ c.in_ok-scopes.ensures) (c.whole-2.ensures own bound) (c.whole.ensures every told, tt) in
    let none = subst (λ ds. flat_map (λ d. Spec.flaws ts i false ss (body d)) (map definition_view ds) ≡ []) c.deref-3.ensures.value (c.in_ok-check_definitions.ensures all ts ss tells around) in
    let rest = flat_map (Spec.name_flaws ts i every own) (map name_view c.args.file.now.names.items) in
    finds_as c.check_names.result (Spec.file_flaws ts i every (file_view c.args.file.now)) rest
    (none_left (flat_map (λ d. Spec.flaws ts i false ss (body d)) (map definition_view c.args.file.now.definitions.items)) rest none)
    (subst (λ ns. Finds c.check_names.result (flat_map (Spec.name_flaws ts i every own) (map name_view ns))) c.deref-4.ensures.value (c.check_names.ensures all ts every own tells told bound))
