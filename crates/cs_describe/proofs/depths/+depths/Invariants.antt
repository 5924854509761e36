use Rattle.std.proofs.Common.{◌≡◌, drop}
use Rattle.std.specs.Prelude.{nat_le}
use Rattle.cs_document.specs.Document.{documents_depth, members_depth}
use Rattle.cs_document.specs.View.{list_view, object_view}
use Rattle.cs_describe.proofs.depths.+depths.Given as goal

abbrev pub invariant-are_within-loop-item : goal.invariant-are_within-loop-item
invariant-are_within-loop-item l = nat_le (documents_depth (list_view (drop l.item-index l.item-items))) l.most ≡ nat_le (documents_depth (list_view l.item-items)) l.most

abbrev pub invariant-have_within-loop-member : goal.invariant-have_within-loop-member
invariant-have_within-loop-member l = nat_le (members_depth (object_view l.member-iterator)) l.most ≡ nat_le (members_depth (object_view l.members.entries)) l.most
