-- The values of a list of items: earlier ones stay when items are pushed, and each item of a list that was built is its value, opened once.
use Rattle.std.proofs.Common.{◌≡◌, ℕ, zero, suc, ◌+◌, ◌<◌, List, [], ◌∷◌, ◌++◌, length, map, Some, length-append, refl, sym, ap, ap₂, ◌∙◌, subst, arith}
use Rattle.std.specs.Prelude.{slice_get}
use Rattle.std.specs.List.{AllByRecursion as Each, flat_map, range_with_len}
use Rattle.std.specs.List.Sorted.{IsPermutation}
use Rattle.std.proofs.Math.ListN.{get_or-append}
use Rattle.std.proofs.Math.Seq.{get_or-append_seam}
use Rattle.std.proofs.lemmas.Option.{get_or_from_slice_get, slice_get-get_or}
use Rattle.std.proofs.lemmas.List.Sorted.{length_permutation}
use Rattle.cs_document.specs.Document.{Document, null, boolean, integer, text, list, object, Documents, no_documents, document, Members, no_members, member, Entry, IsDocument, elements, entries}
use Rattle.cs_document.specs.Opened.{Opened, a_null, a_boolean, an_integer, a_text, a_list, an_object, opened}
use Rattle.cs_document.specs.Inside.{map_entry, map_opened, InsideBelow, AscendsInside}
use Rattle.cs_flat.specs.Nodes.{nodes, node_at}
use Rattle.cs_flat.specs.Items.{inside, AreItems}
use Rattle.cs_flat.specs.Listed.{documents_of, members_of, closed, values_behind, values, last_from, document_in, numbers_in, AreBuilt, IsListed}
use Rattle.cs_flat.proofs.Laws.{length-nodes}

-- ---- a document opened and closed

pub documents_of-elements : (ds : Documents) → documents_of (elements ds) ≡ ds
documents_of-elements no_documents = refl
documents_of-elements (document d ds) = ap (document d) (documents_of-elements ds)

pub members_of-entries : (ms : Members) → members_of (entries ms) ≡ ms
members_of-entries no_members = refl
members_of-entries (member k d ms) = ap (member k d) (members_of-entries ms)

pub elements-documents_of : (ds : List Document) → elements (documents_of ds) ≡ ds
elements-documents_of [] = refl
elements-documents_of (d ∷ ds) = ap (λ xs. d ∷ xs) (elements-documents_of ds)

pub entries-members_of : (es : List (Entry Document)) → entries (members_of es) ≡ es
entries-members_of [] = refl
entries-members_of (e ∷ es) = ap (λ xs. e ∷ xs) (entries-members_of es)

pub closed-opened : (d : Document) → closed (opened d) ≡ d
closed-opened null = refl
closed-opened (boolean b) = refl
closed-opened (integer z) = refl
closed-opened (text s) = refl
closed-opened (list ds) = ap list (documents_of-elements ds)
closed-opened (object ms) = ap object (members_of-entries ms)

pub opened-closed : (x : Opened Document) → opened (closed x) ≡ x
opened-closed a_null = refl
opened-closed (a_boolean b) = refl
opened-closed (an_integer z) = refl
opened-closed (a_text s) = refl
opened-closed (a_list ds) = ap a_list (elements-documents_of ds)
opened-closed (an_object es) = ap an_object (entries-members_of es)

-- ---- the values of more items

-- the value of an item behind others
abbrev pub value_behind : List Document → Opened ℕ → Document
value_behind ns x = closed (map_opened (node_at ns) x)

pub values_behind-append : (ns : List Document) (xs ys : List (Opened ℕ)) → values_behind ns (xs ++ ys) ≡ values_behind (values_behind ns xs) ys
values_behind-append ns [] ys = refl
values_behind-append ns (x ∷ xs) ys = values_behind-append (ns ++ value_behind ns x ∷ []) xs ys

pub values-append : (xs ys : List (Opened ℕ)) → values (xs ++ ys) ≡ values_behind (values xs) ys
values-append xs ys = values_behind-append [] xs ys

pub values-push : (xs : List (Opened ℕ)) (x : Opened ℕ) → values (xs ++ x ∷ []) ≡ values xs ++ value_behind (values xs) x ∷ []
values-push xs x = values-append xs (x ∷ [])

pub length-values_behind : (ns : List Document) (xs : List (Opened ℕ)) → length (values_behind ns xs) ≡ length ns + length xs
length-values_behind ns [] = omega arith
length-values_behind ns (x ∷ xs) =
    let more = ns ++ value_behind ns x ∷ [] in omega (arith, length-values_behind more xs, length-append ns (value_behind ns x ∷ []))

pub length-values : (xs : List (Opened ℕ)) → length (values xs) ≡ length xs
length-values xs = omega (arith, length-values_behind [] xs)

-- the earlier values stay
pub node_at-values_behind : (ns : List Document) (xs : List (Opened ℕ)) (i : ℕ) → i < length ns → node_at (values_behind ns xs) i ≡ node_at ns i
node_at-values_behind ns [] i l = refl
node_at-values_behind ns (x ∷ xs) i l =
    let v = value_behind ns x ∷ [] in node_at-values_behind (ns ++ v) xs i (omega (arith, l, length-append ns v)) ∙ get_or-append ns v null i l

pub node_at-values-append : (xs ys : List (Opened ℕ)) (i : ℕ) → i < length xs → node_at (values (xs ++ ys)) i ≡ node_at (values xs) i
node_at-values-append xs ys i l = ap (λ ns. node_at ns i) (values-append xs ys) ∙ node_at-values_behind (values xs) ys i (omega (arith, l, length-values xs))

pub node_at-values-push : (xs : List (Opened ℕ)) (x : Opened ℕ) → node_at (values (xs ++ x ∷ [])) (length xs) ≡ value_behind (values xs) x
node_at-values-push xs x =
    ap₂ node_at (values-push xs x) (sym (length-values xs)) ∙ get_or-append_seam (values xs) (value_behind (values xs) x) [] null

-- ---- an item looks at what is inside it alone

module _ {A : Type 0} (f g : ℕ → A) (n : ℕ) (same : (i : ℕ) → i < n → f i ≡ g i) where
  map-below : (ys : List ℕ) → Each (λ y. y < n) ys → map f ys ≡ map g ys
  map-below [] h = refl
  map-below (y ∷ ys) h = ap₂ ◌∷◌ (same y h.0) (map-below ys h.1)

  map_entry-below : (es : List (Entry ℕ)) → Each (λ (e : Entry ℕ). e.1 < n) es → map (map_entry f) es ≡ map (map_entry g) es
  map_entry-below [] h = refl
  map_entry-below (e ∷ es) h = ap₂ (λ (v : A) (vs : List (Entry A)). (e.0, v) ∷ vs) (same e.1 h.0) (map_entry-below es h.1)

  pub map_opened-below : (x : Opened ℕ) → InsideBelow n x → map_opened f x ≡ map_opened g x
  map_opened-below a_null h = refl
  map_opened-below (a_boolean b) h = refl
  map_opened-below (an_integer z) h = refl
  map_opened-below (a_text s) h = refl
  map_opened-below (a_list ys) h = ap a_list (map-below ys h)
  map_opened-below (an_object es) h = ap an_object (map_entry-below es h)

-- ---- each item is its value, opened once

-- each item names values before it, where the first one is behind n others
abbrev LowerFrom : ℕ → List (Opened ℕ) → Type 0
LowerFrom n xs = (i : ℕ) (x : Opened ℕ) → slice_get xs i ≡ Some x → InsideBelow (n + i) x

lower-next : (n : ℕ) (x : Opened ℕ) (xs : List (Opened ℕ)) → LowerFrom n (x ∷ xs) → LowerFrom (suc n) xs
lower-next n x xs h i y e = let place : n + suc i ≡ suc n + i = omega arith in subst (λ k. InsideBelow k y) place (h (suc i) y e)

items_behind-are : (ns : List Document) (xs : List (Opened ℕ)) → LowerFrom (length ns) xs → (i : ℕ) (x : Opened ℕ) → slice_get xs i ≡ Some x
    → opened (node_at (values_behind ns xs) (length ns + i)) ≡ map_opened (node_at (values_behind ns xs)) x
items_behind-are ns [] h i x e = cc
items_behind-are ns (y ∷ ys) h zero x e =
    let same : y ≡ x = cc in
    let v = value_behind ns y in
    let more = ns ++ v ∷ [] in
    let here : length ns + 0 ≡ length ns = omega arith in
    let stays : node_at (values_behind more ys) (length ns) ≡ v =
    node_at-values_behind more ys (length ns) (omega (arith, length-append ns (v ∷ []))) ∙ get_or-append_seam ns v [] null in
    let below : InsideBelow (length ns) y = subst (λ k. InsideBelow k y) here (h 0 y refl) in
    ap (λ k. opened (node_at (values_behind more ys) k)) here ∙ ap opened stays ∙ opened-closed (map_opened (node_at ns) y)
    ∙ sym (map_opened-below (node_at (values_behind ns (y ∷ ys))) (node_at ns) (length ns) (node_at-values_behind ns (y ∷ ys)) y below)
    ∙ ap (map_opened (node_at (values_behind more ys))) same
items_behind-are ns (y ∷ ys) h (suc i) x e =
    let v = value_behind ns y in
    let more = ns ++ v ∷ [] in
    let long : length more ≡ suc (length ns) = omega (arith, length-append ns (v ∷ [])) in
    let place : length ns + suc i ≡ length more + i = omega (arith, long) in
    ap (λ k. opened (node_at (values_behind more ys) k)) place
    ∙ items_behind-are more ys (subst (λ k. LowerFrom k ys) (sym long) (lower-next (length ns) y ys h)) i x e

pub are_values : (xs : List (Opened ℕ)) → AreBuilt xs → AreItems (values xs) xs
are_values xs built =
    let first : (i : ℕ) → 0 + i ≡ i = λ i. omega arith in
    let below : LowerFrom 0 xs = λ i x e. subst (λ k. InsideBelow k x) (sym (first i)) (built.lower i x e) in record {
      count = sym (length-values xs);
      node = λ i x e. ap (λ k. opened (node_at (values xs) k)) (sym (first i)) ∙ items_behind-are [] xs below i x e;
      lower = built.lower;
    }

-- ---- items pushed behind those that were built

pub AreBuilt-none : AreBuilt []
AreBuilt-none = record { lower = λ i x e. cc; ascend = λ i x e. cc }

-- what holds of each item by its place
pushed : {A : Type 0} (P : ℕ → A → Type 0) (xs : List A) (x : A) → ((i : ℕ) (y : A) → slice_get xs i ≡ Some y → P i y) → P (length xs) x
    → (i : ℕ) (y : A) → slice_get (xs ++ x ∷ []) i ≡ Some y → P i y
pushed P [] x h p zero y e = let same : x ≡ y = cc in subst (P 0) same p
pushed P [] x h p (suc i) y e = cc
pushed P (z ∷ xs) x h p zero y e = h zero y e
pushed P (z ∷ xs) x h p (suc i) y e = pushed (λ k v. P (suc k) v) xs x (λ k v. h (suc k) v) p i y e

pub AreBuilt-push : (xs : List (Opened ℕ)) (x : Opened ℕ) → AreBuilt xs → InsideBelow (length xs) x → AscendsInside x → AreBuilt (xs ++ x ∷ [])
AreBuilt-push xs x built below ascends = record {
  lower = pushed (λ k y. InsideBelow k y) xs x built.lower below;
  ascend = pushed (λ k y. AscendsInside y) xs x built.ascend ascends;
}

-- ---- the document is the last value

last_from-node_at : (d : Document) (ns : List Document) (n : ℕ) → length ns ≡ suc n → last_from d ns ≡ node_at ns n
last_from-node_at d [] n e = absurd (omega (arith, e))
last_from-node_at d (m ∷ []) zero e = refl
last_from-node_at d (m ∷ []) (suc n) e = absurd (omega (arith, e))
last_from-node_at d (m ∷ k ∷ ns) zero e = absurd (omega (arith, e))
last_from-node_at d (m ∷ k ∷ ns) (suc n) e = last_from-node_at m (k ∷ ns) n (omega (arith, e))

pub document_in-push : (xs : List (Opened ℕ)) (x : Opened ℕ) → document_in (xs ++ x ∷ []) ≡ value_behind (values xs) x
document_in-push xs x =
    last_from-node_at null (values (xs ++ x ∷ [])) (length xs) (omega (arith, length-values (xs ++ x ∷ []), length-append xs (x ∷ []))) ∙ node_at-values-push xs x

pub node_at-IsListed : (d : Document) (xs : List (Opened ℕ)) → IsListed d xs → node_at (values xs) (inside d) ≡ d
node_at-IsListed d xs listed = get_or_from_slice_get (values xs) (inside d) d null listed.last

pub document_in-IsListed : (d : Document) (xs : List (Opened ℕ)) → IsListed d xs → document_in xs ≡ d
document_in-IsListed d xs listed = last_from-node_at null (values xs) (inside d) (length-values xs ∙ listed.count) ∙ node_at-IsListed d xs listed

-- items whose values are those of the document, in some order, with the document last
pub IsListed-push : (d : Document) (xs : List (Opened ℕ)) (x : Opened ℕ) → AreBuilt (xs ++ x ∷ []) → IsDocument d → IsPermutation (nodes d) (values (xs ++ x ∷ [])) → value_behind (values xs) x ≡ d
    → IsPermutation (flat_map numbers_in (xs ++ x ∷ [])) (range_with_len 0 (length xs)) → IsListed d (xs ++ x ∷ [])
IsListed-push d xs x built is each last once =
    let all = xs ++ x ∷ [] in
    let count : length all ≡ suc (inside d) = omega (arith, length-values all, length_permutation (nodes d) (values all) each, length-nodes d) in
    let place : length xs ≡ inside d = omega (arith, count, length-append xs (x ∷ [])) in record {
      built = built;
      document = is;
      count = count;
      last = slice_get-get_or (values all) (inside d) null (omega (arith, count, length-values all)) ∙ ap Some (ap (node_at (values all)) (sym place) ∙ node_at-values-push xs x ∙ last);
      each = each;
      once = subst (λ n. IsPermutation (flat_map numbers_in all) (range_with_len 0 n)) place once;
    }
