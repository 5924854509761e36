use Rattle.std.proofs.Common.{◌≡◌, ◌++◌, drop, length, map}
use Rattle.cs_document.specs.Document.{AreDocuments}
use Rattle.cs_document.specs.View.{list_view, object_view}
use Rattle.cs_document.proofs.Entries.{ValuesFit}
use Rattle.cs_flat.specs.Items.{element_numbers, member_numbers, element_items, member_items}
use Rattle.cs_flat.specs.View.{entry_of}
use Rattle.cs_flat.proofs.flattening.+flatten.Given as goal

abbrev pub invariant-push_elements-loop-doc : goal.invariant-push_elements-loop-doc
invariant-push_elements-loop-doc l =
    let old = l.initial.builder in
    let rest = list_view (drop l.doc-index l.doc-items) in record {
      items : old ++ element_items (length old) (list_view l.doc-items) ≡ l.builder ++ element_items (length l.builder) rest;
      numbers : l.initial.numbers.items ++ element_numbers (length old) (list_view l.doc-items) ≡ l.numbers.items ++ element_numbers (length l.builder) rest;
      profile : AreDocuments rest → AreDocuments (list_view l.doc-items);
    }

abbrev pub invariant-push_members-loop-key : goal.invariant-push_members-loop-key
invariant-push_members-loop-key l =
    let old = l.initial.builder in
    let rest = object_view l.key-iterator in record {
      items : old ++ member_items (length old) (object_view l.members.entries) ≡ l.builder ++ member_items (length l.builder) rest;
      numbers : map entry_of l.initial.entries.items ++ member_numbers (length old) (object_view l.members.entries) ≡ map entry_of l.entries.items ++ member_numbers (length l.builder) rest;
      fit : ValuesFit l.key-iterator → ValuesFit l.members.entries;
    }
