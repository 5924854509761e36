use Rattle.std.proofs.Common.{List, ℕ, map, take, length, sym, ap, ◌∙◌, subst}
use Rattle.std.specs.Borrow.{Bor}
use Rattle.std.specs.Cmp.Lexicographic.{slice_cmp}
use Rattle.std.specs.List.{list_any, flat_map}
use Rattle.std.specs.Ordering.{is_eq, nat_cmp}
use Rattle.std.proofs.lemmas.List.{map-append}
use Rattle.cs_grammar.specs.Tree.{defined_name, definitions}
use Rattle.cs_grammar.specs.View.{definition_view, file_view}
use Rattle.cs_resolve.specs.Steps.{HoldsNames}
use Rattle.cs_resolve.proofs.Trees.{definitions_more}
use Rattle.cs_resolve.proofs.resolving.name_count.Goals as goal

pub loop-file-init : goal.loop-file-init
loop-file-init c = record {
  texts = λ t. ap (list_any (λ (k : Bor (List ℕ)). is_eq (slice_cmp nat_cmp t k.now))) c.new-names.ensures.empty;
  count = ap length c.new-names.ensures.empty;
}

pub loop-file-preserved : goal.loop-file-preserved
loop-file-preserved c =
    let l = c.loop-file in
    let i = l.file-index in
    let fs = c.deref-file-items.result.now in
    let f = c.file-item.result in
    let before = map defined_name (flat_map definitions (map file_view (take i fs))) in
    let more = ap (map defined_name) (definitions_more fs i f c.loop-file-test.true c.file-item.is) ∙ map-append defined_name (flat_map definitions (map file_view (take i fs))) (map definition_view f.definitions.items) in
    subst (HoldsNames c.put_names.new.names) (sym more) (c.in_ok-put_names.ensures before l.invariant)
