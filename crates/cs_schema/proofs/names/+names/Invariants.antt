use Rattle.std.proofs.Common.{◌≡◌, [], drop}
use Rattle.cs_document.specs.View.{list_view, object_view}
use Rattle.cs_profile.specs.Profile.{first, undefined_at, member_visits, element_visits, named_visits}
use Rattle.cs_schema.specs.Reading.{is_defined_in}
use Rattle.cs_schema.proofs.names.+names.Given as goal

abbrev pub invariant-check_members-loop-key : goal.invariant-check_members-loop-key
invariant-check_members-loop-key l =
    first (undefined_at (is_defined_in l.definitions.entries)) (member_visits l.root [] (object_view l.members.entries))
    ≡ first (undefined_at (is_defined_in l.definitions.entries)) (member_visits l.root [] (object_view l.key-iterator))

abbrev pub invariant-check_list-loop-i : goal.invariant-check_list-loop-i
invariant-check_list-loop-i l =
    first (undefined_at (is_defined_in l.definitions.entries)) (element_visits [] 0 (list_view l.items.items))
    ≡ first (undefined_at (is_defined_in l.definitions.entries)) (element_visits [] l.i (list_view (drop l.i l.item-items)))

abbrev pub invariant-check_map-loop-key : goal.invariant-check_map-loop-key
invariant-check_map-loop-key l =
    first (undefined_at (is_defined_in l.definitions.entries)) (named_visits [] (object_view l.members.entries))
    ≡ first (undefined_at (is_defined_in l.definitions.entries)) (named_visits [] (object_view l.key-iterator))
