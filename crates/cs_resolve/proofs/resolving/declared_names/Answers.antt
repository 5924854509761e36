use Rattle.std.proofs.Common.{map, take, sym, ap, ◌∙◌, subst}
use Rattle.std.specs.List.{flat_map}
use Rattle.std.proofs.lemmas.List.{map-append}
use Rattle.cs_grammar.specs.Tree.{defined_name, definitions}
use Rattle.cs_grammar.specs.View.{definition_view, file_view}
use Rattle.cs_resolve.specs.Declarations.{distinct}
use Rattle.cs_resolve.specs.WellFormed.{IsWellFormedFile, AreWellFormedFiles}
use Rattle.cs_package.specs.View.{names_of}
use Rattle.cs_package.proofs.Environments.{table-empty}
use Rattle.cs_resolve.proofs.Trees.{definitions_more, mapped_at}
use Rattle.cs_resolve.proofs.resolving.declared_names.Goals as goal

pub loop-file-init : goal.loop-file-init
loop-file-init c = record {
  table = table-empty c.new-names.result.entries c.new-names.ensures.empty;
  found = ap names_of c.new-names.ensures.empty;
}

pub add_names-requires-clause-named : goal.add_names-requires-clause-named
add_names-requires-clause-named c =
    let fs = c.deref-file-items.result.now in
    let all = subst (λ gs. AreWellFormedFiles (map file_view gs)) (sym c.deref-file-items.ensures.value) c.requires in
    mapped_at IsWellFormedFile file_view fs c.loop-file.file-index c.file-item.result c.loop-file-test.true c.file-item.is all

pub loop-file-preserved : goal.loop-file-preserved
loop-file-preserved c =
    let l = c.loop-file in
    let i = l.file-index in
    let fs = c.deref-file-items.result.now in
    let f = c.file-item.result in
    let before = map defined_name (flat_map definitions (map file_view (take i fs))) in
    let more = ap (map defined_name) (definitions_more fs i f c.loop-file-test.true c.file-item.is) ∙ map-append defined_name (flat_map definitions (map file_view (take i fs))) (map definition_view f.definitions.items) in
    record {
      table = c.in_ok-add_names.ensures.table;
      found = c.in_ok-add_names.ensures.added before l.invariant.found ∙ ap distinct (sym more);
    }
