use Rattle.std.proofs.Common.{◌≡◌, ℕ, ◌<◌, length, map, drop}
use Rattle.std.specs.List.{AllByRecursion}
use Rattle.std.specs.Slice.Iter.{iter_rest}
use Rattle.cs_document.specs.Document.{Entry}
use Rattle.cs_document.specs.Inside.{map_entry}
use Rattle.cs_document.specs.Order.{documents_cmp, members_cmp}
use Rattle.cs_document.specs.View.{list_view, object_view}
use Rattle.cs_flat.specs.Listed.{documents_of, members_of, values}
use Rattle.cs_flat.specs.Nodes.{node_at}
use Rattle.cs_flat.specs.View.{entry_of}
use Rattle.cs_flat.proofs.flat.Flat.+compare.Given as goal

abbrev pub invariant-compare_elements-loop-doc : goal.invariant-compare_elements-loop-doc
invariant-compare_elements-loop-doc l =
    let at = node_at (values l.self) in record {
      same : documents_cmp (list_view l.docs.items) (documents_of (map at l.numbers)) ≡ documents_cmp (list_view (drop l.doc-index l.doc-items)) (documents_of (map at (iter_rest l.others)));
      lower : AllByRecursion (λ y. y < length l.self) (iter_rest l.others);
    }

abbrev pub invariant-compare_members-loop-key : goal.invariant-compare_members-loop-key
invariant-compare_members-loop-key l =
    let at = map_entry (node_at (values l.self)) in record {
      same : members_cmp (object_view l.members.entries) (members_of (map at (map entry_of l.entries))) ≡ members_cmp (object_view l.key-iterator) (members_of (map at (map entry_of (iter_rest l.others))));
      lower : AllByRecursion (λ (m : Entry ℕ). m.1 < length l.self) (map entry_of (iter_rest l.others));
    }
