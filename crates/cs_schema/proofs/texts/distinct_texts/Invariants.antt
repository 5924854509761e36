use Rattle.std.proofs.Common.{◌≡◌, ℕ, List, [], map, take, drop, Bor, string_bytes, bytes_eq}
use Rattle.std.specs.List.{list_any}
use Rattle.cs_document.specs.View.{doc_view, list_view}
use Rattle.cs_profile.specs.Shapes.{are_distinct_texts}
use Rattle.cs_profile.specs.SchemaDocument.{text_document}
use Rattle.cs_schema.proofs.Seen.{has}
use Rattle.cs_schema.proofs.texts.distinct_texts.Given as goal

abbrev pub invariant-loop-item : goal.invariant-loop-item
invariant-loop-item l = record {
  made : map doc_view (take l.item-index l.item-items) ≡ map text_document l.texts.items;
  distinct : are_distinct_texts [] (list_view l.items.items) ≡ are_distinct_texts (map string_bytes l.texts.items) (list_view (drop l.item-index l.item-items));
  known : (t : Bor (List ℕ)) → has l.seen t ≡ list_any (bytes_eq t.now) (map string_bytes l.texts.items);
}
