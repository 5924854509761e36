-- The values of a document's items are its nodes, in their order.
use Rattle.std.proofs.Common.{◌≡◌, ℕ, suc, ◌+◌, List, [], ◌∷◌, ◌++◌, length, Some, append_assoc, append-nil, length-append, refl, sym, ap, ◌∙◌, subst, arith}
use Rattle.std.specs.List.Sorted.{IsPermutation}
use Rattle.std.proofs.lemmas.List.Sorted.{IsPermutation-refl}
use Rattle.std.proofs.lemmas.Option.{slice_get-get_or}
use Rattle.cs_document.specs.Document.{Document, null, boolean, integer, text, list, object, Documents, no_documents, document, Members, no_members, member, IsDocument}
use Rattle.cs_document.specs.Opened.{Opened, a_list, an_object}
use Rattle.cs_flat.specs.Nodes.{nodes, element_nodes, member_nodes, node_at}
use Rattle.cs_flat.specs.Items.{inside, element_numbers, member_numbers, items, items_behind, element_items, member_items}
use Rattle.cs_flat.specs.Listed.{documents_of, members_of, values_behind, values, document_in, IsListed}
use Rattle.cs_flat.proofs.Places.{EachFrom, parted}
use Rattle.cs_flat.proofs.Laws.{Stands, all_stand, elements_at, entries_at, length-nodes, length-items, are_items, node_at-inside}
use Rattle.cs_flat.proofs.Ascents.{item_ascends}
use Rattle.cs_flat.proofs.Named.{items_named}
use Rattle.cs_flat.proofs.Listed.{documents_of-elements, members_of-entries, values_behind-append, values-append, length-values, document_in-IsListed}

behind_stand : (ns ms : List Document) → EachFrom (Stands (ns ++ ms)) (length ns) ms
behind_stand ns ms = (parted (Stands (ns ++ ms)) 0 (length ns) ns ms (omega arith) (all_stand (ns ++ ms))).1

-- the first of those behind others, and the rest
values_behind-first : (ns : List Document) (d : Document) (rest : ℕ → List (Opened ℕ)) → values_behind ns (items_behind (length ns) d) ≡ ns ++ nodes d
    → values_behind ns (items_behind (length ns) d ++ rest (suc (length ns + inside d))) ≡ values_behind (ns ++ nodes d) (rest (length (ns ++ nodes d)))
values_behind-first ns d rest e =
    let m = suc (length ns + inside d) in
    let long : m ≡ length (ns ++ nodes d) = omega (arith, length-append ns (nodes d), length-nodes d) in
    values_behind-append ns (items_behind (length ns) d) (rest m) ∙ ap (λ ms. values_behind ms (rest m)) e ∙ ap (λ k. values_behind (ns ++ nodes d) (rest k)) long

mutual
  values_behind-items : (ns : List Document) (d : Document) → values_behind ns (items_behind (length ns) d) ≡ ns ++ nodes d
  values_behind-items ns null = refl
  values_behind-items ns (boolean b) = refl
  values_behind-items ns (integer z) = refl
  values_behind-items ns (text s) = refl
  values_behind-items ns (list ds) =
      let n = length ns in
      let all = ns ++ element_nodes ds in
      values_behind-append ns (element_items n ds) (a_list (element_numbers n ds) ∷ [])
      ∙ ap (λ ms. values_behind ms (a_list (element_numbers n ds) ∷ [])) (values_behind-element_items ns ds)
      ∙ ap (λ es. all ++ list (documents_of es) ∷ []) (sym (elements_at all n ds (behind_stand ns (element_nodes ds))))
      ∙ ap (λ es. all ++ list es ∷ []) (documents_of-elements ds)
      ∙ append_assoc ns (element_nodes ds) (list ds ∷ [])
  values_behind-items ns (object ms) =
      let n = length ns in
      let all = ns ++ member_nodes ms in
      values_behind-append ns (member_items n ms) (an_object (member_numbers n ms) ∷ [])
      ∙ ap (λ ks. values_behind ks (an_object (member_numbers n ms) ∷ [])) (values_behind-member_items ns ms)
      ∙ ap (λ es. all ++ object (members_of es) ∷ []) (sym (entries_at all n ms (behind_stand ns (member_nodes ms))))
      ∙ ap (λ es. all ++ object es ∷ []) (members_of-entries ms)
      ∙ append_assoc ns (member_nodes ms) (object ms ∷ [])

  values_behind-element_items : (ns : List Document) (ds : Documents) → values_behind ns (element_items (length ns) ds) ≡ ns ++ element_nodes ds
  values_behind-element_items ns no_documents = sym (append-nil ns)
  values_behind-element_items ns (document d ds) =
      values_behind-first ns d (λ k. element_items k ds) (values_behind-items ns d)
      ∙ values_behind-element_items (ns ++ nodes d) ds ∙ append_assoc ns (nodes d) (element_nodes ds)

  values_behind-member_items : (ns : List Document) (ms : Members) → values_behind ns (member_items (length ns) ms) ≡ ns ++ member_nodes ms
  values_behind-member_items ns no_members = sym (append-nil ns)
  values_behind-member_items ns (member k d ms) =
      values_behind-first ns d (λ j. member_items j ms) (values_behind-items ns d)
      ∙ values_behind-member_items (ns ++ nodes d) ms ∙ append_assoc ns (nodes d) (member_nodes ms)

-- ---- the laws

pub values-append-items : (xs : List (Opened ℕ)) (d : Document) → values (xs ++ items_behind (length xs) d) ≡ values xs ++ nodes d
values-append-items xs d =
    values-append xs (items_behind (length xs) d) ∙ ap (λ k. values_behind (values xs) (items_behind k d)) (sym (length-values xs)) ∙ values_behind-items (values xs) d

pub values-items : (d : Document) → values (items d) ≡ nodes d
values-items d = values_behind-items [] d

pub IsListed-items : (d : Document) → IsDocument d → IsListed d (items d)
IsListed-items d is =
    let same = values-items d in record {
      built = record { lower = (are_items d).lower; ascend = item_ascends d is };
      document = is;
      count = length-items 0 d;
      last = slice_get-get_or (values (items d)) (inside d) null (omega (arith, length-values (items d), length-items 0 d))
          ∙ ap Some (ap (λ ns. node_at ns (inside d)) same ∙ node_at-inside d);
      each = subst (IsPermutation (nodes d)) (sym same) (IsPermutation-refl (nodes d));
      once = items_named 0 d;
    }

pub document_in-items : (d : Document) → IsDocument d → document_in (items d) ≡ d
document_in-items d is = document_in-IsListed d (items d) (IsListed-items d is)
