-- Documents built a part at a time, and beside their values of JSON.
use Rattle.std.proofs.Common.{◌≡◌, ◌≤◌, ℕ, suc, max, ℤ, pos, negsuc, List, [], ◌∷◌, ◌++◌, Option, Some, None, option_map, option_and_then, Greater, nat_cmp, string_bytes, FitsSigned, w64, refl, sym, ap, ap₂, ◌∙◌, arith, rules, append-nil}
use Rattle.std.proofs.lemmas.Cmp.{nat_list_cmp_total}
use Rattle.std.specs.Cmp.Lexicographic.{slice_cmp}
use Rattle.std.specs.Ordering.{ordering_reverse}
use Rattle.json.specs.Json as json
use Rattle.json.specs.Lex.{tokens}
use Rattle.json.specs.Tree as tree
use Rattle.json.specs.Tree.{json_tokens}
use Rattle.json.proofs.Printed.Trees.{value-json_tokens}
use Rattle.serde_json.specs.Data as value
use Rattle.serde_json.specs.Data.{Data}
use Rattle.serde_json.specs.Find.{as_i64, of_integer}
use Rattle.serde_json.specs.Read.{number_of, of_json, of_items, of_members as read_members, max_depth, read}
use Rattle.serde_json.specs.Written.{number_text, outline, items_outline, members_outline}
use Rattle.serde_json.proofs.Numbers.{number_of-decimal, number_of-negative}
use Rattle.cs_document.specs.Document.{Document, null, boolean, integer, text, list, object, Documents, no_documents, document, Members, no_members, member, depth, documents_depth, members_depth, KeysAbove, IsDocument, AreDocuments, AreMembers}
use Rattle.cs_json.specs.Texts.{data_of, items_of, values_of, document_of, documents_of, members_of}
use Rattle.cs_document.specs.View.{doc_view, list_view, object_view}
use Rattle.cs_document.specs.declared.doc.Doc.{Doc}
use Rattle.cs_document.proofs.Entries.{Entry}

-- ---- parts that were made, before the rest

abbrev pub documents_before : List Doc → Documents → Documents
documents_before [] rest = rest
documents_before (d ∷ ds) rest = document (doc_view d) (documents_before ds rest)

pub documents_before-end : (ds : List Doc) → documents_before ds no_documents ≡ list_view ds
documents_before-end [] = refl
documents_before-end (d ∷ ds) = ap (document (doc_view d)) (documents_before-end ds)

documents_before-push : (ds : List Doc) (d : Doc) (rest : Documents) → documents_before ds (document (doc_view d) rest) ≡ documents_before (ds ++ d ∷ []) rest
documents_before-push [] d rest = refl
documents_before-push (x ∷ ds) d rest = ap (document (doc_view x)) (documents_before-push ds d rest)

pub documents_before-more : (ds : List Doc) (d : Doc) (r : Option Documents) → option_map (documents_before ds) (option_map (document (doc_view d)) r) ≡ option_map (documents_before (ds ++ d ∷ [])) r
documents_before-more ds d None = refl
documents_before-more ds d (Some rest) = ap Some (documents_before-push ds d rest)

abbrev pub members_before : List Entry → Members → Members
members_before [] rest = rest
members_before (e ∷ es) rest = member (string_bytes e.0) (doc_view e.1) (members_before es rest)

pub members_before-end : (es : List Entry) → members_before es no_members ≡ object_view es
members_before-end [] = refl
members_before-end (e ∷ es) = ap (member (string_bytes e.0) (doc_view e.1)) (members_before-end es)

members_before-push : (es : List Entry) (e : Entry) (rest : Members) → members_before es (member (string_bytes e.0) (doc_view e.1) rest) ≡ members_before (es ++ e ∷ []) rest
members_before-push [] e rest = refl
members_before-push (x ∷ es) e rest = ap (member (string_bytes x.0) (doc_view x.1)) (members_before-push es e rest)

pub members_before-more : (es : List Entry) (e : Entry) (r : Option Members) → option_map (members_before es) (option_map (member (string_bytes e.0) (doc_view e.1)) r) ≡ option_map (members_before (es ++ e ∷ [])) r
members_before-more es e None = refl
members_before-more es e (Some rest) = ap Some (members_before-push es e rest)

-- ---- the profile

pub AreDocuments-push : (ds : List Doc) (d : Doc) → AreDocuments (list_view ds) → IsDocument (doc_view d) → AreDocuments (list_view (ds ++ d ∷ []))
AreDocuments-push [] d p q = (q, tt)
AreDocuments-push (x ∷ ds) d p q = (p.0, AreDocuments-push ds d p.1 q)

-- ---- beside values of JSON

pub as_i64-of_integer : (z : ℤ) → FitsSigned w64 z → as_i64 (of_integer z) ≡ Some z
as_i64-of_integer (pos n) h = search (rules, h)
as_i64-of_integer (negsuc n) h = refl

mutual
  pub document_of-data_of : (d : Document) → IsDocument d → document_of (data_of d) ≡ Some d
  document_of-data_of null h = refl
  document_of-data_of (boolean b) h = refl
  document_of-data_of (integer z) h = ap (option_map integer) (as_i64-of_integer z h)
  document_of-data_of (text s) h = refl
  document_of-data_of (list ds) h = ap (option_map list) (documents_of-items_of ds h)
  document_of-data_of (object ms) h = ap (option_map object) (members_of-values_of ms h)

  documents_of-items_of : (ds : Documents) → AreDocuments ds → documents_of (items_of ds) ≡ Some ds
  documents_of-items_of no_documents h = refl
  documents_of-items_of (document d ds) h = rw (document_of-data_of d h.0, documents_of-items_of ds h.1)

  members_of-values_of : (ms : Members) → AreMembers ms → members_of (values_of ms) ≡ Some ms
  members_of-values_of no_members h = refl
  members_of-values_of (member k d ms) h = rw (document_of-data_of d h.1, members_of-values_of ms h.2)

-- ---- the turns of the loops

pub documents_of-turn : (ds : List Doc) (d : Doc) (v : Data) (rest : value.Items) → document_of v ≡ Some (doc_view d)
    → option_map (documents_before ds) (documents_of (value.item v rest)) ≡ option_map (documents_before (ds ++ d ∷ [])) (documents_of rest)
documents_of-turn ds d v rest is = rw is (documents_before-more ds d (documents_of rest))

pub members_of-turn : (es : List Entry) (e : Entry) (k : List ℕ) (v : Data) (rest : value.Members) → string_bytes e.0 ≡ k → document_of v ≡ Some (doc_view e.1)
    → option_map (members_before es) (members_of (value.member k v rest)) ≡ option_map (members_before (es ++ e ∷ [])) (members_of rest)
members_of-turn es e k v rest named is = rw (← named, is) (members_before-more es e (members_of rest))

pub no_member_before : (r : Option Members) → r ≡ option_map (members_before []) r
no_member_before None = refl
no_member_before (Some ms) = refl

-- ---- the tokens of a document are read as it

mutual
  depth-outline : (d : Document) → tree.depth (outline (data_of d)) ≡ depth d
  depth-outline null = refl
  depth-outline (boolean b) = refl
  depth-outline (integer z) = refl
  depth-outline (text s) = refl
  depth-outline (list ds) = ap suc (depth-items_outline ds)
  depth-outline (object ms) = ap suc (depth-members_outline ms)

  depth-items_outline : (ds : Documents) → tree.items_depth (items_outline (items_of ds)) ≡ documents_depth ds
  depth-items_outline no_documents = refl
  depth-items_outline (document d ds) = ap₂ max (depth-outline d) (depth-items_outline ds)

  depth-members_outline : (ms : Members) → tree.members_depth (members_outline (values_of ms)) ≡ members_depth ms
  depth-members_outline no_members = refl
  depth-members_outline (member k d ms) = ap₂ max (depth-outline d) (depth-members_outline ms)

number_of-integer : (z : ℤ) → FitsSigned w64 z → number_of (number_text (of_integer z)) ≡ Some (of_integer z)
number_of-integer (pos n) h = number_of-decimal n (omega (arith, h))
number_of-integer (negsuc n) h = number_of-negative n (omega (arith, h))

-- members behind others
abbrev followed_by : value.Members → value.Members → value.Members
followed_by value.no_members ms = ms
followed_by (value.member k d found) ms = value.member k d (followed_by found ms)

-- each key of some members is below those of others
abbrev AreBelow : value.Members → Members → Type 0
AreBelow value.no_members ms = Unit {0}
AreBelow (value.member k d found) ms = KeysAbove k ms × AreBelow found ms

put_last : (found : value.Members) (k : List ℕ) (v : Data) (d : Document) (ms : Members) → AreBelow found (member k d ms) → value.put k v found ≡ followed_by found (value.member k v value.no_members)
put_last value.no_members k v d ms h = refl
put_last (value.member l x found) k v d ms h =
    let above : slice_cmp nat_cmp k l ≡ Greater = nat_list_cmp_total.antisymm k l ∙ ap ordering_reverse h.0.0 in
    rw above (ap (value.member l x) (put_last found k v d ms h.1))

AreBelow-last : (found : value.Members) (k : List ℕ) (v : Data) (d : Document) (ms : Members) → AreBelow found (member k d ms) → KeysAbove k ms → AreBelow (followed_by found (value.member k v value.no_members)) ms
AreBelow-last value.no_members k v d ms h above = (above, tt)
AreBelow-last (value.member l x found) k v d ms h above = (h.0.1, AreBelow-last found k v d ms h.1 above)

followed_by-last : (found : value.Members) (k : List ℕ) (v : Data) (ms : value.Members) → followed_by (followed_by found (value.member k v value.no_members)) ms ≡ followed_by found (value.member k v ms)
followed_by-last value.no_members k v ms = refl
followed_by-last (value.member l x found) k v ms = ap (value.member l x) (followed_by-last found k v ms)

followed_by-none : (found : value.Members) → found ≡ followed_by found value.no_members
followed_by-none value.no_members = refl
followed_by-none (value.member k d found) = ap (value.member k d) (followed_by-none found)

mutual
  of_json-outline : (d : Document) → IsDocument d → of_json (outline (data_of d)) ≡ Some (data_of d)
  of_json-outline null h = refl
  of_json-outline (boolean b) h = refl
  of_json-outline (integer z) h = ap (option_map value.number) (number_of-integer z h)
  of_json-outline (text s) h = refl
  of_json-outline (list ds) h = ap (option_map value.array) (of_items-outline ds h)
  of_json-outline (object ms) h = ap (option_map value.object) (of_members-outline ms value.no_members tt h)

  of_items-outline : (ds : Documents) → AreDocuments ds → of_items (items_outline (items_of ds)) ≡ Some (items_of ds)
  of_items-outline no_documents h = refl
  of_items-outline (document d ds) h = rw (of_json-outline d h.0, of_items-outline ds h.1)

  of_members-outline : (ms : Members) (found : value.Members) → AreBelow found ms → AreMembers ms → read_members (members_outline (values_of ms)) found ≡ Some (followed_by found (values_of ms))
  of_members-outline no_members found below h = ap Some (followed_by-none found)
  of_members-outline (member k d ms) found below h =
      let v = data_of d in
      ap (option_and_then (λ x. read_members (members_outline (values_of ms)) (value.put k x found))) (of_json-outline d h.1)
      ∙ ap (read_members (members_outline (values_of ms))) (put_last found k v d ms below)
      ∙ of_members-outline ms (followed_by found (value.member k v value.no_members)) (AreBelow-last found k v d ms below h.0) h.2
      ∙ ap Some (followed_by-last found k v (values_of ms))

pub reads_back : (d : Document) (bytes : List ℕ) → IsDocument d → depth d ≤ max_depth → tokens bytes ≡ json_tokens (outline (data_of d)) → option_and_then document_of (read bytes) ≡ Some d
reads_back d bytes h shallow is =
    let j = outline (data_of d) in
    let whole : json.value max_depth (tokens bytes) ≡ Some (j, []) = ap (json.value max_depth) (is ∙ sym (append-nil _)) ∙ value-json_tokens j max_depth [] (omega (arith, depth-outline d)) in
    ap (λ o. option_and_then document_of (option_and_then of_json (option_and_then (λ p. json.if_last p.0 p.1) o))) whole
    ∙ ap (option_and_then document_of) (of_json-outline d h) ∙ document_of-data_of d h
