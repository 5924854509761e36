use Rattle.std.proofs.Common.{◌≡◌, length}
use Rattle.std.specs.Vec.Iter.{into_iter_items, into_iter_len}
use Rattle.cs_document.specs.View.{list_view}
use Rattle.cs_describe.proofs.Joined.{IsMade, joined}
use Rattle.cs_export.specs.Components.{to_component, moved_members, moved_elements, moved_named}
use Rattle.cs_export.proofs.components.+pointed.Given as goal

abbrev pub invariant-pointed_members-loop-key : goal.invariant-pointed_members-loop-key
invariant-pointed_members-loop-key l = IsMade (moved_members to_component) l.fn.members.entries l.key-iterator l.pointing.entries

abbrev pub invariant-pointed_named-loop-name : goal.invariant-pointed_named-loop-name
invariant-pointed_named-loop-name l = IsMade (moved_named to_component) l.fn.schemas.entries l.name-iterator l.pointing.entries

-- what is left completes the list
abbrev pub invariant-pointed_each-loop-schema : goal.invariant-pointed_each-loop-schema
invariant-pointed_each-loop-schema l = record {
  long : into_iter_len l.schema-iterator ≡ length (into_iter_items l.schema-iterator);
  whole : joined (list_view l.pointing.items) (moved_elements to_component (list_view (into_iter_items l.schema-iterator))) ≡ moved_elements to_component (list_view l.fn.schemas.items);
}
