use Rattle.std.proofs.Common.{◌≡◌, List, ◌++◌, String, Global, map, take, drop}
use Rattle.cs_document.specs.View.{doc_view, object_view, members_of}
use Rattle.cs_document.proofs.Maps.{texts}
use Rattle.cs_profile.specs.SchemaDocument.{schema_view, definitions_view, slots_of, present}
use Rattle.cs_profile.specs.Keywords.{all_keywords}
use Rattle.cs_schema.specs.Writing.{put_all, slots_for}
use Rattle.cs_profile.specs.declared.schema.Schema.{Schema}
use Rattle.cs_schema.proofs.write.+write.Given as goal

-- what is left to put completes the keywords
abbrev pub invariant-keywords_doc-loop-keyword : goal.invariant-keywords_doc-loop-keyword
invariant-keywords_doc-loop-keyword l = put_all (slots_for (slots_of l.keywords) (drop l.keyword-index all_keywords)) (object_view l.members.entries) ≡ present (slots_of l.keywords)

abbrev pub invariant-list_doc-loop-schema : goal.invariant-list_doc-loop-schema
invariant-list_doc-loop-schema l = map doc_view l.docs.items ≡ map schema_view (take l.schema-index l.schema-items)

abbrev pub invariant-map_doc-loop-name : goal.invariant-map_doc-loop-name
invariant-map_doc-loop-name l = record {
  done : List (String Global × Schema);
  all : l.schemas.entries ≡ done ++ l.name-iterator;
  same : texts l.docs.entries ≡ texts done;
  made : object_view l.docs.entries ≡ members_of (definitions_view done);
}
