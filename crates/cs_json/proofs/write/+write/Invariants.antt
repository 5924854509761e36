use Rattle.std.proofs.Common.{◌≡◌, ◌++◌, drop}
use Rattle.json.specs.Tree.{items_tokens, members_tokens}
use Rattle.serde_json.specs.Written.{items_outline, members_outline}
use Rattle.cs_document.specs.Document.{AreDocuments}
use Rattle.cs_json.specs.Texts.{items_of, values_of}
use Rattle.cs_document.specs.View.{list_view, object_view}
use Rattle.cs_document.proofs.Entries.{ValuesFit}
use Rattle.cs_json.proofs.write.+write.Given as goal

-- what is written, with what is left, is the whole
abbrev pub invariant-write_items-loop-item : goal.invariant-write_items-loop-item
invariant-write_items-loop-item g l = record {
  before : g.W.TakesTokens.before l.out ≡ g.W.TakesTokens.before l.initial.out;
  whole : g.W.TakesTokens.taken l.out ++ items_tokens (items_outline (items_of (list_view (drop l.item-index l.item-items)))) ≡ g.W.TakesTokens.taken l.initial.out ++ items_tokens (items_outline (items_of (list_view l.item-items)));
  profile : AreDocuments (list_view (drop l.item-index l.item-items)) → AreDocuments (list_view l.item-items);
}

abbrev pub invariant-write_members-loop-key : goal.invariant-write_members-loop-key
invariant-write_members-loop-key g l = record {
  before : g.W.TakesTokens.before l.out ≡ g.W.TakesTokens.before l.initial.out;
  whole : g.W.TakesTokens.taken l.out ++ members_tokens (members_outline (values_of (object_view l.key-iterator))) ≡ g.W.TakesTokens.taken l.initial.out ++ members_tokens (members_outline (values_of (object_view l.members.entries)));
  fit : ValuesFit l.key-iterator → ValuesFit l.members.entries;
}
