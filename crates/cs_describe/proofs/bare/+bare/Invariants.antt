use Rattle.std.proofs.Common.{◌≡◌, length}
use Rattle.std.specs.Vec.Iter.{into_iter_items, into_iter_len}
use Rattle.cs_document.specs.View.{list_view}
use Rattle.cs_describe.specs.Plain.{is_default, elements_without, named_without}
use Rattle.cs_describe.proofs.Joined.{IsMade, joined}
use Rattle.cs_describe.proofs.Left.{IsLeft}
use Rattle.cs_describe.proofs.bare.+bare.Given as goal

abbrev pub invariant-bare_members-loop-key : goal.invariant-bare_members-loop-key
invariant-bare_members-loop-key l = IsLeft is_default l.fn.is_root l.fn.members.entries l.key-iterator l.found.entries

abbrev pub invariant-bare_named-loop-name : goal.invariant-bare_named-loop-name
invariant-bare_named-loop-name l = IsMade (named_without is_default) l.fn.schemas.entries l.name-iterator l.found.entries

-- what is left completes the list
abbrev pub invariant-bare_each-loop-schema : goal.invariant-bare_each-loop-schema
invariant-bare_each-loop-schema l = record {
  long : into_iter_len l.schema-iterator ≡ length (into_iter_items l.schema-iterator);
  whole : joined (list_view l.found.items) (elements_without is_default (list_view (into_iter_items l.schema-iterator))) ≡ elements_without is_default (list_view l.fn.schemas.items);
}
