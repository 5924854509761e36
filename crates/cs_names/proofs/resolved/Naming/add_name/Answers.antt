use Rattle.std.proofs.Common.{◌≡◌, List, [], ◌∷◌, ◌++◌, map, refl, sym, ap, ◌∙◌}
use Rattle.cs_grammar.specs.Tree.{DefinitionTree}
use Rattle.cs_grammar.specs.View.{definition_view, name_view, expr_view}
use Rattle.cs_names.specs.Checks.{TellsLifts, TellsScope, TellScopes}
use Rattle.cs_names.specs.Lifted.{Lifts, known, top_place, is_open}
use Rattle.cs_names.specs.Named as Spec
use Rattle.cs_names.specs.Scopes.{Scope, name_scope}
use Rattle.cs_names.proofs.Parts.{defined_some, defined_none}
use Rattle.cs_names.proofs.Tables.{inside_of, on_ok}
use Rattle.cs_names.proofs.resolved.Naming.add_name.Goals as goal
use Rattle.cs_names.proofs.resolved.Naming.add_name.Goals.{in-Some+in_ok-add_resolved, in_default}

pub returns : goal.returns
returns c =
    let i = c.args.self.now.file in
    let n = name_view c.args.name.now in
    let old = map definition_view c.args.found.now.items in
    let mid = map definition_view c.match-definition_of_name.found.items in
    let new = map definition_view c.add_inside.new.found.items in
    let next : ((all : List DefinitionTree) (ts : Lifts) (ss : List Scope) → TellsLifts c.args.self.now.lifting.now all ts → TellScopes c.deref-2.result.now ss
    → new ≡ mid ++ Spec.inside (known ts) (is_open ts) i ss (expr_view c.args.name.now.value))
    → (all : List DefinitionTree) (ts : Lifts) (every own : Scope) → TellsLifts c.args.self.now.lifting.now all ts → TellsScope c.args.shared.now every → TellsScope c.args.bound.now own
    → new ≡ old ++ Spec.of_name (known ts) (is_open ts) i every own n =
    (λ step all ts every own tells told bound.
    let ss = name_scope n own ∷ every ∷ [] in
    let by = known ts in let opens = is_open ts in
    let around = inside_of c.of_name.result (name_scope n own) (c.whole.result ∷ []) c.deref-2.result.now (every ∷ []) (c.deref-2.ensures.value ∙ c.in_ok-scopes.ensures) (c.of_name.ensures own bound)
    (c.whole.ensures every told, tt) in
    let rest = step all ts ss tells around in
    elim c.match-definition_of_name.branch [
      | in-Some+in_ok-add_resolved w ↦
          let here = inside_of c.of_name.result (name_scope n own) (c.whole.result ∷ []) w.deref.result.now (every ∷ []) (w.deref.ensures.value ∙ c.in_ok-scopes.ensures) (c.of_name.ensures own bound)
          (c.whole.ensures every told, tt) in
          defined_some old mid new (Spec.at_place by (top_place every own n)) w.in-Some.definition.now n.at (Spec.resolved by opens i ss n.value) (Spec.resolved by opens i ss n.value) (Spec.inside by opens i ss n.value) rest
          (ap (λ v. map definition_view v.items) w.found-is ∙ w.in_ok-add_resolved.ensures all ts ss tells here) refl (sym (w.in-Some.ensures all ts every own tells told bound))
      | in_default w ↦
          defined_none old mid new (Spec.at_place by (top_place every own n)) n.at (Spec.resolved by opens i ss n.value) (Spec.inside by opens i ss n.value) rest
          (ap (λ v. map definition_view v.items) w.found-is) (sym (w.in_default.ensures all ts every own tells told bound))
    ]) in
    on_ok c.add_inside.result c.add_inside.ensures next
