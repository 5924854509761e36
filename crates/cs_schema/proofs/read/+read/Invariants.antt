use Rattle.std.proofs.Common.{◌≡◌, false, List, [], ◌++◌, take, drop}
use Rattle.cs_document.specs.View.{list_view, object_view, documents_of, members_of}
use Rattle.cs_document.proofs.Entries.{Entry}
use Rattle.cs_document.proofs.Maps.{texts}
use Rattle.cs_profile.specs.Profile.{first, fault_of, member_visits, element_visits, named_visits}
use Rattle.cs_profile.specs.Trim.{trimmed_members, trimmed_elements, trimmed_named}
use Rattle.cs_profile.specs.SchemaDocument.{present, schemas_view, definitions_view}
use Rattle.cs_schema.specs.Reading.{slots}
use Rattle.cs_schema.proofs.read.+read.Given as goal

abbrev pub invariant-read_members-loop-key : goal.invariant-read_members-loop-key
invariant-read_members-loop-key l = record {
  done : List Entry;
  all : l.members.entries ≡ done ++ l.key-iterator;
  seen : first (fault_of l.vocabulary) (member_visits l.root [] (object_view l.members.entries)) ≡ first (fault_of l.vocabulary) (member_visits l.root [] (object_view l.key-iterator));
  made : present (slots l.parts) ≡ trimmed_members l.root (object_view done);
  below : l.root ≡ false → l.parts.definitions.entries ≡ [];
}

abbrev pub invariant-read_list-loop-i : goal.invariant-read_list-loop-i
invariant-read_list-loop-i l = record {
  seen : first (fault_of l.vocabulary) (element_visits [] 0 (list_view l.items.items)) ≡ first (fault_of l.vocabulary) (element_visits [] l.i (list_view (drop l.i l.item-items)));
  made : documents_of (schemas_view l.schemas.items) ≡ trimmed_elements (list_view (take l.i l.item-items));
}

abbrev pub invariant-read_map-loop-key : goal.invariant-read_map-loop-key
invariant-read_map-loop-key l = record {
  done : List Entry;
  all : l.members.entries ≡ done ++ l.key-iterator;
  same : texts l.schemas.entries ≡ texts done;
  seen : first (fault_of l.vocabulary) (named_visits [] (object_view l.members.entries)) ≡ first (fault_of l.vocabulary) (named_visits [] (object_view l.key-iterator));
  made : members_of (definitions_view l.schemas.entries) ≡ trimmed_named (object_view done);
}
