use Rattle.std.proofs.Common.{◌≡◌, List, ◌++◌, option_map, String, Global}
use Rattle.std.specs.BTreeMap.{IsOrdered}
use Rattle.std.specs.String.{string_cmp}
use Rattle.std.specs.Vec.Iter.{into_iter_items}
use Rattle.serde_json.specs.View.{items_view, members_view}
use Rattle.serde_json.specs.declared.value.Value.{Value}
use Rattle.cs_document.specs.Document.{AreDocuments}
use Rattle.cs_json.specs.Texts.{documents_of, members_of}
use Rattle.cs_document.specs.View.{list_view}
use Rattle.cs_document.proofs.Maps.{texts}
use Rattle.cs_document.proofs.Entries.{ValuesFit}
use Rattle.cs_json.proofs.Documents.{documents_before, members_before}
use Rattle.cs_json.proofs.read.+read.Given as goal

abbrev pub invariant-docs_of-loop-item : goal.invariant-docs_of-loop-item
invariant-docs_of-loop-item l = record {
  rest : documents_of (items_view l.fn.items.items) ≡ option_map (documents_before l.found.items) (documents_of (items_view (into_iter_items l.item-iterator)));
  profile : AreDocuments (list_view l.found.items);
}

abbrev pub invariant-members_of-loop-key : goal.invariant-members_of-loop-key
invariant-members_of-loop-key l = record {
  done : List (String Global × Value);
  all : l.fn.members.entries ≡ done ++ l.key-iterator;
  same : texts l.found.entries ≡ texts done;
  ordered : IsOrdered string_cmp l.found;
  rest : members_of (members_view l.fn.members.entries) ≡ option_map (members_before l.found.entries) (members_of (members_view l.key-iterator));
  fit : ValuesFit l.found.entries;
}
