use Rattle.std.proofs.Common.{◌≡◌, ◌∙◌, sym, ap, subst, map, get_or}
use Rattle.cs_graph.specs.Graph.{Within, graph_of, AreHeights, Refers, IsRefusal, IsLowestCycle}
use Rattle.cs_graph.specs.Chains.{NoCycle}
use Rattle.cs_graph.proofs.Places.{on_get}
use Rattle.cs_profile.specs.Numbered.{numbered, names_in, rows_of, name_of_number}
use Rattle.cs_profile.specs.Refusal.{IsLeastLoop}
use Rattle.cs_profile.specs.SchemaDocument.{SchemaValue, document_of}
use Rattle.cs_profile.proofs.Chains.{none_loop}
use Rattle.cs_profile.proofs.Ranked.{stands_for, no_loop_named, cycle_inside, loop_named, ranks_named}
use Rattle.cs_profile.proofs.schema_doc.SchemaDoc.checked.Goals as goal

pub heights-requires : goal.heights-requires
heights-requires c =
    let v : SchemaValue = record { root = c.args.root; definitions = c.args.definitions.entries } in
    let is : rows_of (numbered 0 (names_in v.definitions)) v.definitions ≡ graph_of c.deref.result.now =
    sym (ap graph_of c.deref.ensures.value ∙ c.in_ok-graph.ensures ∙ ap (λ es. rows_of es v.definitions) c.in_ok-numbers.ensures.all) in
    subst Within is (stands_for v c.requires c.in_ok-numbers.ensures.ordered).within

pub invariant_of-result : goal.invariant_of-result
invariant_of-result c =
    let v : SchemaValue = record { root = c.args.root; definitions = c.args.definitions.entries } in
    let is : graph_of c.deref.result.now ≡ rows_of (numbered 0 (names_in v.definitions)) v.definitions =
    ap graph_of c.deref.ensures.value ∙ c.in_ok-graph.ensures ∙ ap (λ es. rows_of es v.definitions) c.in_ok-numbers.ensures.all in
    ranks_named v c.requires c.in_ok-numbers.ensures.ordered c.in_ok-numbers.numbers.entries c.in-Ok.ranks.items c.in_ok-numbers.ensures.all
    (subst (λ G. AreHeights G c.in-Ok.ranks.items) is c.in-Ok.ensures.found) (subst (λ G. NoCycle (Refers G)) is c.in-Ok.ensures.acyclic)

pub returns-in-Ok-clause-acyclic : goal.returns-in-Ok-clause-acyclic
returns-in-Ok-clause-acyclic c =
    let v : SchemaValue = record { root = c.args.root; definitions = c.args.definitions.entries } in
    let is : graph_of c.deref.result.now ≡ rows_of (numbered 0 (names_in v.definitions)) v.definitions =
    ap graph_of c.deref.ensures.value ∙ c.in_ok-graph.ensures ∙ ap (λ es. rows_of es v.definitions) c.in_ok-numbers.ensures.all in
    no_loop_named v c.requires c.in_ok-numbers.ensures.ordered (subst (λ G. NoCycle (Refers G)) is c.in-Ok.ensures.acyclic)

pub names_of_numbers-requires : goal.names_of_numbers-requires
names_of_numbers-requires c =
    let v : SchemaValue = record { root = c.args.root; definitions = c.args.definitions.entries } in
    let is : graph_of c.deref.result.now ≡ rows_of (numbered 0 (names_in v.definitions)) v.definitions =
    ap graph_of c.deref.ensures.value ∙ c.in_ok-graph.ensures ∙ ap (λ es. rows_of es v.definitions) c.in_ok-numbers.ensures.all in
    let refused = subst (IsRefusal c.in-Err-Cycle.field-0) is c.in-Err-Cycle.ensures.refused in
    let js = c.deref-in-Err-Cycle.result.now in
    let cycle = subst (IsLowestCycle (rows_of (numbered 0 (names_in v.definitions)) v.definitions)) (sym c.deref-in-Err-Cycle.ensures.value) (subst (λ f. IsRefusal f (rows_of (numbered 0 (names_in v.definitions)) v.definitions)) c.in-Err-Cycle.field-0-is refused) in
    λ k d l. cycle_inside v c.requires c.in_ok-numbers.ensures.ordered js cycle (get_or js k d) (on_get js k d l)

pub returns-clause-refused : goal.returns-clause-refused
returns-clause-refused c =
    let v : SchemaValue = record { root = c.args.root; definitions = c.args.definitions.entries } in
    let is : graph_of c.deref.result.now ≡ rows_of (numbered 0 (names_in v.definitions)) v.definitions =
    ap graph_of c.deref.ensures.value ∙ c.in_ok-graph.ensures ∙ ap (λ es. rows_of es v.definitions) c.in_ok-numbers.ensures.all in
    let refused = subst (IsRefusal c.in-Err-Cycle.field-0) is c.in-Err-Cycle.ensures.refused in
    let js = c.deref-in-Err-Cycle.result.now in
    let cycle = subst (IsLowestCycle (rows_of (numbered 0 (names_in v.definitions)) v.definitions)) (sym c.deref-in-Err-Cycle.ensures.value) (subst (λ f. IsRefusal f (rows_of (numbered 0 (names_in v.definitions)) v.definitions)) c.in-Err-Cycle.field-0-is refused) in
    subst (IsLeastLoop (document_of v)) (sym c.in_ok-names-in-Err-Cycle.ensures) (loop_named v c.requires c.in_ok-numbers.ensures.ordered js cycle)

pub returns-clause-only : goal.returns-clause-only
returns-clause-only c = λ none.
    let v : SchemaValue = record { root = c.args.root; definitions = c.args.definitions.entries } in
    let is : graph_of c.deref.result.now ≡ rows_of (numbered 0 (names_in v.definitions)) v.definitions =
    ap graph_of c.deref.ensures.value ∙ c.in_ok-graph.ensures ∙ ap (λ es. rows_of es v.definitions) c.in_ok-numbers.ensures.all in
    let refused = subst (IsRefusal c.in-Err-Cycle.field-0) is c.in-Err-Cycle.ensures.refused in
    let js = c.in-Err-Cycle.cycle.items in
    let cycle = subst (λ f. IsRefusal f (rows_of (numbered 0 (names_in v.definitions)) v.definitions)) c.in-Err-Cycle.field-0-is refused in
    absurd (none_loop (document_of v) none (map (name_of_number v.definitions) js) (loop_named v c.requires c.in_ok-numbers.ensures.ordered js cycle).loop)
