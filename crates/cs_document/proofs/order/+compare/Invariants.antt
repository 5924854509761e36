use Rattle.std.proofs.Common.{◌≡◌, drop}
use Rattle.std.specs.Slice.Iter.{iter_rest}
use Rattle.cs_document.specs.View.{list_view, object_view}
use Rattle.cs_document.specs.Order.{documents_cmp, members_cmp}
use Rattle.cs_document.proofs.order.+compare.Given as goal

abbrev pub invariant-compare_items-loop-x : goal.invariant-compare_items-loop-x
invariant-compare_items-loop-x l = documents_cmp (list_view l.a.items) (list_view l.b.items) ≡ documents_cmp (list_view (drop l.x-index l.x-items)) (list_view (iter_rest l.others))

abbrev pub invariant-compare_members-loop-key : goal.invariant-compare_members-loop-key
invariant-compare_members-loop-key l = members_cmp (object_view l.a.entries) (object_view l.b.entries) ≡ members_cmp (object_view l.key-iterator) (object_view l.others)
