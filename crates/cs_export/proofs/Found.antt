-- The definitions of a schema document, looked up in the map that it is.
use Rattle.std.proofs.Common.{◌≡◌, List, [], ◌∷◌, Option, option_map, String, BTreeMap, Global, nat_cmp, string_bytes, codes, refl, sym, ap, ◌∙◌}
use Rattle.std.specs.BTreeMap.{is_at}
use Rattle.std.specs.Cmp.Lexicographic.{slice_cmp}
use Rattle.std.specs.Map.{lookup}
use Rattle.cs_document.specs.Document.{Document, entries, under}
use Rattle.cs_document.specs.Document as documents
use Rattle.cs_document.specs.View.{doc_view, object_view}
use Rattle.cs_document.specs.declared.doc.Doc.{Doc, Object}
use Rattle.cs_document.proofs.Entries.{Entry}
use Rattle.cs_document.proofs.Views.{view-Object}
use Rattle.cs_profile.proofs.Definitions.{named, found}
use Rattle.cs_export.specs.Components.{map_in, definitions_in}

entries_named : (es : List Entry) → entries (object_view es) ≡ named doc_view es
entries_named [] = refl
entries_named (e ∷ es) = ap (λ (ns : List (documents.Entry Document)). (string_bytes e.0, doc_view e.1) ∷ ns) (entries_named es)

pub definitions_found : (d : Doc) (m : BTreeMap (String Global) Doc) (o : Option Doc) → d ≡ Object m → o ≡ lookup (is_at (λ k. slice_cmp nat_cmp (codes "$defs") (string_bytes k))) m.entries
    → definitions_in (doc_view d) ≡ map_in (option_map doc_view o)
definitions_found d m o is there =
    ap definitions_in (ap doc_view is ∙ view-Object m)
    ∙ ap map_in (ap (under (codes "$defs")) (entries_named m.entries) ∙ sym (found doc_view (codes "$defs") m.entries) ∙ ap (option_map doc_view) (sym there))
