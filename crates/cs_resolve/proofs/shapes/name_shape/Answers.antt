use Rattle.std.proofs.Common.{◌≡◌, ℕ, true, false, List, [], ◌∷◌, ◌++◌, map, length, Option, Some, None, option_map, IfSome, is_some, slice_get, unwrap_or, sym, ap, ap₂, ◌∙◌, subst}
use Rattle.std.specs.Option.{ok_or}
use Rattle.cs_grammar.specs.Tree.{Label, named}
use Rattle.cs_package.specs.Expression as cue
use Rattle.cs_resolve.specs.Predeclared.{predeclared}
use Rattle.cs_resolve.specs.Refinement.{Refinements}
use Rattle.cs_resolve.specs.Scopes.{a_name, name_faults, names_field}
use Rattle.cs_resolve.specs.Steps.{faults_in, IsShapeOf, Resolves}
use Rattle.cs_package.specs.View.{expression_of, is_known}
use Rattle.cs_resolve.specs.declared.fault.ResolveFault.TheVariants.{UnknownName}
use Rattle.cs_package.specs.declared.shape.Shape.{Shape}
use Rattle.cs_resolve.proofs.shapes.name_shape.Goals as goal

pub returns-then-names_field : goal.returns-then-names_field
returns-then-names_field c rs ns scopes around =
    let found = sym (around c.args.name.now) ∙ sym c.names_field.ensures ∙ c.if-names_field.true in
    ap (λ b. slice_get (map (λ x. (c.args.file, x)) (name_faults c.args.at b (is_some (predeclared c.args.name.now)) ++ [])) 0) found

-- a name of no field, by what is predeclared
predeclared_alone : (rs : Refinements) (file at : ℕ) (t : List ℕ) (ns : List (List ℕ)) (scopes : List (List Label)) (o : Option Shape) → names_field t scopes ≡ false → option_map (expression_of ns) o ≡ predeclared t → IfSome o (λ s. is_known (length ns) s ≡ true)
    → Resolves (ok_or o (UnknownName file at)) (λ s. IsShapeOf rs ns s (named t at)) (faults_in file ns (a_name scopes t at ∷ []))
predeclared_alone rs file at t ns scopes (Some s) no_field names known = (
  record { same = ap (λ o. unwrap_or o (cue.atom cue.bottom)) names; known = known },
  ap₂ (λ b o. map (λ x. (file, x)) (name_faults at b (is_some o) ++ [])) no_field (sym names),
)
predeclared_alone rs file at t ns scopes None no_field names known = ap₂ (λ b o. slice_get (map (λ x. (file, x)) (name_faults at b (is_some o) ++ [])) 0) no_field (sym names)

pub returns : goal.returns
returns c rs ns scopes around =
    let no_field = sym (around c.args.name.now) ∙ sym c.names_field.ensures ∙ c.if-names_field.false in
    let t = named c.args.name.now c.args.at in
    let found = faults_in c.args.file ns (a_name scopes c.args.name.now c.args.at ∷ []) in
    subst (λ r. Resolves r (λ s. IsShapeOf rs ns s t) found) (sym c.ok_or.ensures.value) (predeclared_alone rs c.args.file c.args.at c.args.name.now ns scopes c.predeclared_shape.result no_field (c.predeclared_shape.ensures.named ns) (c.predeclared_shape.ensures.known (length ns)))
