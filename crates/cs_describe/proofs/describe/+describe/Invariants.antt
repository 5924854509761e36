use Rattle.std.proofs.Common.{◌≡◌, length}
use Rattle.std.specs.Slice.Iter.{iter_rest}
use Rattle.std.specs.Vec.Iter.{into_iter_items, into_iter_len}
use Rattle.cs_document.specs.View.{list_view}
use Rattle.cs_describe.specs.Described.{described_members, described_elements, described_named}
use Rattle.cs_describe.proofs.Joined.{IsMade, joined}
use Rattle.cs_describe.proofs.describe.+describe.Given as goal

abbrev pub invariant-describe_members-loop-key : goal.invariant-describe_members-loop-key
invariant-describe_members-loop-key l = IsMade (described_members l.fn.note l.notes) l.fn.members.entries l.key-iterator l.found.entries

abbrev pub invariant-describe_named-loop-key : goal.invariant-describe_named-loop-key
invariant-describe_named-loop-key l = IsMade (described_named l.fn.note l.notes.entries) l.fn.members.entries l.key-iterator l.found.entries

-- what is left completes the list
abbrev pub invariant-describe_items-loop-item : goal.invariant-describe_items-loop-item
invariant-describe_items-loop-item l = record {
  long : into_iter_len l.item-iterator ≡ length (into_iter_items l.item-iterator);
  whole : joined (list_view l.found.items) (described_elements l.fn.note (iter_rest l.each) (list_view (into_iter_items l.item-iterator))) ≡ described_elements l.fn.note l.notes.items (list_view l.fn.items.items);
}
