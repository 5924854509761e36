use Rattle.std.proofs.Common.{◌≡◌, List, ◌++◌, take, map}
use Rattle.cs_document.specs.View.{doc_view, object_view}
use Rattle.cs_document.proofs.Maps.{texts}
use Rattle.cs_document.proofs.Entries.{Entry}
use Rattle.cs_document.proofs.copy.+copy.Given as goal

abbrev pub invariant-copy_items-loop-item : goal.invariant-copy_items-loop-item
invariant-copy_items-loop-item l = map doc_view l.copies.items ≡ map doc_view (take l.item-index l.item-items)

abbrev pub invariant-copy_members-loop-key : goal.invariant-copy_members-loop-key
invariant-copy_members-loop-key l = record {
  done : List Entry;
  all : l.members.entries ≡ done ++ l.key-iterator;
  same : texts l.copies.entries ≡ texts done;
  values : object_view l.copies.entries ≡ object_view done;
}
