use Rattle.std.proofs.Common.{◌≡◌, ◌<◌, ◌≤◌, ℕ, List, Option, IsSome, [], map, length, get_or, string_bytes, unwrap_or, sym, ap, ap₂, ◌∙◌, subst, arith}
use Rattle.std.proofs.lemmas.List.{take_all, take_more}
use Rattle.cs_document.specs.Document.{entries, under, put}
use Rattle.cs_document.specs.View.{members_of}
use Rattle.cs_package.specs.Environment.{declared_names}
use Rattle.cs_package.specs.View.{expression_of}
use Rattle.cs_graph.specs.Chains.{On}
use Rattle.cs_graph.proofs.Named.{on_map}
use Rattle.cs_graph.proofs.Places.{on_get}
use Rattle.cs_guard.specs.Numbered.{name_of}
use Rattle.cs_guard.specs.Reachable.{Reaches}
use Rattle.cs_guard.proofs.Numbers.{on_contains, contains_on}
use Rattle.cs_profile.specs.SchemaDocument.{definitions_view}
use Rattle.cs_compile.specs.Translation.{definition_schema}
use Rattle.cs_compile.specs.Definitions.{AreDefinitions}
use Rattle.cs_compile.proofs.Declared.{are_definitions-put, definition_at}
use Rattle.cs_compile.proofs.Names.{made-insert_entry, there-more}
use Rattle.cs_compile.proofs.whole.definitions.Goals as goal

pub loop-number-preserved : goal.loop-number-preserved
loop-number-preserved c =
    let E = c.args.package.now in
    let root = name_of E c.args.root in
    let xs = c.deref-number-items.result.now in
    let k = c.loop-number.number-index in
    let l : k < length xs = c.loop-number-test.true in
    let i = get_or xs k 0 in
    let n = c.bare_name.result.now in
    let bs = map (expression_of (declared_names E)) c.bodies.result.now in
    let here : On (name_of E i) (map (name_of E) c.in_ok-order.order.items) = subst (λ ys. On (name_of E i) (map (name_of E) ys)) c.deref-number-items.ensures.value (on_map (name_of E) i xs (on_get xs k 0 l)) in
    let reached = (c.in_ok-order.ensures.found.each (name_of E i)).0 (on_contains (name_of E i) (map (name_of E) c.in_ok-order.order.items) here) in
    let own = definition_at E (Reaches E root) n i bs reached c.bare_name.ensures.at c.bare_name.ensures.spelled c.bodies.ensures.named c.bodies.ensures.at in
    let named : name_of E i ≡ n = ap (λ (o : Option (List ℕ)). unwrap_or o []) c.bare_name.ensures.at in
    let bare : string_bytes c.in_ok-name.name ≡ n = c.in_ok-name.ensures.ok in
    let old = members_of (definitions_view c.loop-number.schemas.entries) in
    let grown : members_of (definitions_view c.insert.new.self.entries) ≡ put n (definition_schema bs) old =
    ap (λ es. members_of (definitions_view es)) c.in_ok-insert.ensures.entries
    ∙ made-insert_entry c.loop-number.schemas.entries c.in_ok-name.name c.in_ok-schema.schema ∙ ap₂ (λ t d. put t d old) bare c.in_ok-schema.ensures in
    record {
      each = λ m o. subst (λ ms. IsSome (under m (entries ms))) (sym grown) (there-more E xs k i n (definition_schema bs) old (take_more xs k 0 l) named c.loop-number.invariant.each m o);
      alone = subst (AreDefinitions E root) (sym grown) (are_definitions-put E (Reaches E root) n (definition_schema bs) own old c.loop-number.invariant.alone);
    }

pub returns-clause-each : goal.returns-clause-each
returns-clause-each c = λ n r.
    let E = c.args.package.now in
    let xs = c.deref-number-items.result.now in
    let end : length xs ≤ c.loop-number.number-index = omega (arith, c.loop-number-test.false) in
    let found = contains_on n (map (name_of E) c.in_ok-order.order.items) ((c.in_ok-order.ensures.found.each n).1 r) in
    c.loop-number.invariant.each n (subst (λ ys. On n (map (name_of E) ys)) (sym (take_all c.loop-number.number-index xs end ∙ c.deref-number-items.ensures.value)) found)
