use Rattle.std.proofs.Common.{◌≡◌, ℕ, List, Option, Some, IsSome, IfSome, is_some, [], map, string_bytes, unwrap_or, sym, ap, ap₂, ◌∙◌, subst, arith, below_more}
use Rattle.cs_document.specs.Document.{entries, under, put}
use Rattle.cs_document.specs.View.{members_of}
use Rattle.cs_package.specs.Environment.{declared_names, bodies, bodies_at}
use Rattle.cs_package.specs.View.{expression_of}
use Rattle.cs_guard.specs.Numbered.{name_of}
use Rattle.cs_guard.specs.Reachable.{RefersTo}
use Rattle.cs_profile.specs.SchemaDocument.{definitions_view}
use Rattle.cs_compile.specs.Translation.{definition_schema}
use Rattle.cs_compile.specs.Definitions.{AreDefinitionsOf, IsDeclared}
use Rattle.cs_compile.proofs.Declared.{are_definitions-put, definition_at}
use Rattle.cs_compile.proofs.Names.{made-insert_entry, there-put, at-put}
use Rattle.cs_compile.proofs.Resolved.{place_of, refers_declared}
use Rattle.cs_compile.proofs.complete.all_definitions.Goals as goal

pub loop-number-preserved : goal.loop-number-preserved
loop-number-preserved c =
    let E = c.args.package.now in
    let i = c.loop-number.number in
    let n = c.bare_name.result.now in
    let bs = map (expression_of (declared_names E)) c.bodies.result.now in
    let named : name_of E i ≡ n = ap (λ (o : Option (List ℕ)). unwrap_or o []) c.bare_name.ensures.at in
    let own : bodies E n ≡ Some bs = subst (λ o. IfSome o (λ m. bodies E m ≡ bodies_at E i)) c.bare_name.ensures.at c.bodies.ensures.named ∙ c.bodies.ensures.at in
    let declared : IsDeclared E n = ap is_some own in
    let made = definition_at E (IsDeclared E) n i bs (subst (IsDeclared E) (sym named) declared) c.bare_name.ensures.at c.bare_name.ensures.spelled c.bodies.ensures.named c.bodies.ensures.at in
    let bare : string_bytes c.in_ok-name.name ≡ n = c.in_ok-name.ensures.ok in
    let old = members_of (definitions_view c.loop-number.schemas.entries) in
    let grown : members_of (definitions_view c.insert.new.self.entries) ≡ put n (definition_schema bs) old =
    ap (λ es. members_of (definitions_view es)) c.in_ok-insert.ensures.entries
    ∙ made-insert_entry c.loop-number.schemas.entries c.in_ok-name.name c.in_ok-schema.schema ∙ ap₂ (λ t d. put t d old) bare c.in_ok-schema.ensures in
    let there : IsSome (under (name_of E i) (entries (put n (definition_schema bs) old))) = subst (λ m. IsSome (under m (entries (put n (definition_schema bs) old)))) (sym named) (at-put n (definition_schema bs) old) in
    record {
      each = λ k l. subst (λ ms. IsSome (under (name_of E k) (entries ms))) (sym grown)
          (below_more (λ j. IsSome (under (name_of E j) (entries (put n (definition_schema bs) old)))) i (λ j b. there-put (name_of E j) n (definition_schema bs) old (c.loop-number.invariant.each j b)) there k l);
      alone = subst (AreDefinitionsOf E (IsDeclared E)) (sym grown) (are_definitions-put E (IsDeclared E) n (definition_schema bs) made old c.loop-number.invariant.alone);
      resolved = below_more (λ j. (m : List ℕ) → RefersTo E (name_of E j) m → IsDeclared E m) i c.loop-number.invariant.resolved
          (λ m r. refers_declared E n c.bodies.result.now own c.bodies.ensures.known m (subst (λ k. RefersTo E k m) named r));
    }

pub returns-clause-each : goal.returns-clause-each
returns-clause-each c = λ n h.
    let E = c.args.package.now in
    let at = place_of E n h in
    subst (λ m. IsSome (under m (entries (members_of (definitions_view c.loop-number.schemas.entries))))) at.2
    (c.loop-number.invariant.each at.0 (let l = at.1 in omega (arith, l, c.loop-number-test.false, c.count-number-end.ensures.length)))

pub returns-clause-resolved : goal.returns-clause-resolved
returns-clause-resolved c = λ n m h r.
    let E = c.args.package.now in
    let at = place_of E n h in
    c.loop-number.invariant.resolved at.0 (let l = at.1 in omega (arith, l, c.loop-number-test.false, c.count-number-end.ensures.length)) m (subst (λ k. RefersTo E k m) (sym at.2) r)
