use Rattle.std.proofs.Common.{◌≡◌, ℕ, List, [], ◌∷◌, ◌++◌, map, take, refl, sym, ap, ◌∙◌, subst}
use Rattle.std.proofs.lemmas.List.{append_assoc, append-nil, drop_all, take_all}
use Rattle.std.proofs.lemmas.Result.{err_from_is_err_and}
use Rattle.cs_grammar.specs.Tree.{definition}
use Rattle.cs_grammar.specs.View.{definition_view, expr_view}
use Rattle.cs_grammar.specs.declared.ast.Definition.{Definition}
use Rattle.cs_resolve.specs.Declarations.{places_of}
use Rattle.cs_resolve.specs.Scopes.{places, NameFault}
use Rattle.cs_resolve.specs.Steps.{faults_in, known_names, AreBodiesOf}
use Rattle.cs_resolve.proofs.Faults.{faults_in-append, refusal-at, refusal-same}
use Rattle.cs_resolve.proofs.Refusals.{none_more}
use Rattle.cs_resolve.proofs.Trees.{map_more}
use Rattle.cs_resolve.proofs.resolving.add_bodies.Goals as goal

module _ (file : ℕ) (ns : List (List ℕ)) where
  abbrev found : List Definition → List (ℕ × NameFault)
  found ds = faults_in file ns (places_of (map definition_view ds))

  abbrev found_at : Definition → List (ℕ × NameFault)
  found_at d = faults_in file ns (places [] (expr_view d.body))

  parts : (d : Definition) (ds : List Definition) → found (d ∷ ds) ≡ found_at d ++ found ds
  parts d ds = faults_in-append file ns (places [] (expr_view d.body)) (places_of (map definition_view ds))

pub loop-definition-init : goal.loop-definition-init
loop-definition-init c = record {
  long = refl;
  added = λ rs ds held before. subst (λ es. AreBodiesOf rs (known_names c.args.resolver.now) c.args.bodies.now.items es) (sym (append-nil ds)) before;
  faults = λ rs held. refl;
}

pub returns-in_err-shape-clause-faults : goal.returns-in_err-shape-clause-faults
returns-in_err-shape-clause-faults c rs held =
    let ns = known_names c.args.resolver.now in
    let ds = c.deref-definition-items.result.now in
    let l = c.loop-definition in
    let e = c.in_err-shape.field-0.0 in
    let p = err_from_is_err_and c.from_residual.result c.from_residual.ensures.1 in
    let F = found c.args.resolver.now.file ns in
    let whole = refusal-at F (found_at c.args.resolver.now.file ns) (parts c.args.resolver.now.file ns) e ds l.definition-index c.definition-item.result c.loop-definition-test.true c.definition-item.is (l.invariant.faults rs held) (c.in_err-shape.ensures rs held) in
    rw (p.1, p.2) (refusal-same e (F ds) (F c.args.definitions.now.items) (ap F c.deref-definition-items.ensures.value) whole)

pub loop-definition-preserved : goal.loop-definition-preserved
loop-definition-preserved c =
    let ds = c.deref-definition-items.result.now in
    let d = c.definition-item.result in
    let l = c.loop-definition in
    let i = l.definition-index in
    let within = c.loop-definition-test.true in
    let ns = known_names c.args.resolver.now in
    let more = map_more definition_view ds i d within c.definition-item.is in
    record {
      long = c.in_ok-add_body.ensures.long ∙ l.invariant.long;
      added = λ rs es held before.
          subst (λ gs. AreBodiesOf rs ns c.add_body.new.bodies.items gs)
          (append_assoc es (map definition_view (take i ds)) (definition c.as_str.result.now d.at (expr_view d.body) ∷ []) ∙ ap (λ n. es ++ (map definition_view (take i ds) ++ definition n d.at (expr_view d.body) ∷ [])) c.as_str.ensures.value ∙ ap (λ r. es ++ r) (sym more))
          (c.in_ok-add_body.ensures.added rs (es ++ map definition_view (take i ds)) d.at (expr_view d.body) (l.invariant.added rs es held before) (c.in_ok-shape.ensures rs held).0);
      faults = λ rs held. none_more (found c.args.resolver.now.file ns) (found_at c.args.resolver.now.file ns) (parts c.args.resolver.now.file ns) ds i d within c.definition-item.is (l.invariant.faults rs held) (c.in_ok-shape.ensures rs held).1;
    }

pub returns-clause-added : goal.returns-clause-added
returns-clause-added c rs ds held before =
    let l = c.loop-definition in
    let ns = known_names c.args.resolver.now in
    let items = c.deref-definition-items.result.now in
    let all = take_all l.definition-index items c.loop-definition-test.false ∙ c.deref-definition-items.ensures.value in
    subst (λ es. AreBodiesOf rs ns l.bodies.items (ds ++ map definition_view es)) all (l.invariant.added rs ds held before)

pub returns-clause-faults : goal.returns-clause-faults
returns-clause-faults c rs held =
    let ds = c.deref-definition-items.result.now in
    let l = c.loop-definition in
    let F = found c.args.resolver.now.file (known_names c.args.resolver.now) in
    (tt, ap F (sym c.deref-definition-items.ensures.value) ∙ l.invariant.faults rs held ∙ ap F (drop_all l.definition-index ds c.loop-definition-test.false))
