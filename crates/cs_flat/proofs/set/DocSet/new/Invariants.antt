use Rattle.std.proofs.Common.{◌≡◌, map, take}
use Rattle.std.specs.List.{flat_map}
use Rattle.cs_flat.specs.Sorted.{integer_in, other_in, seen}
use Rattle.cs_document.specs.View.{doc_view}
use Rattle.cs_flat.proofs.set.DocSet.new.Given as goal

abbrev pub invariant-loop-doc : goal.invariant-loop-doc
invariant-loop-doc l = record {
  integers : l.integers.items ≡ flat_map integer_in (map doc_view (take l.doc-index l.docs));
  others : map seen l.others.items ≡ flat_map other_in (map doc_view (take l.doc-index l.docs));
}
