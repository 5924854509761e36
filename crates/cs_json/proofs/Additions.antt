-- Items that are added for the values of a document: for a value that holds none, for the elements of a list or the members of a map one
-- after another, and for what holds them.
use Rattle.std.proofs.Common.{◌≡◌, ℕ, suc, ◌+◌, ◌<◌, ◌≤◌, Less, nat_cmp, List, [], ◌∷◌, ◌++◌, length, map, flat_map, Some, append_assoc, append-nil, length-append, refl, sym, ap, ap₂, ◌∙◌, subst, subst₂, arith}
use Rattle.std.specs.Cmp.Lexicographic.{slice_cmp}
use Rattle.std.specs.List.{AllByRecursion as Each, range_with_len}
use Rattle.std.specs.List.Sorted.{IsPermutation}
use Rattle.std.proofs.Math.ListN.{get_or-append}
use Rattle.std.proofs.lemmas.Grind.{flat_map-append}
use Rattle.std.proofs.lemmas.List.{map-append, flat_map_more}
use Rattle.std.proofs.lemmas.List.Sorted.{IsPermutation-refl, IsPermutation-trans, IsPermutation-append, IsPermutation-append_left, IsPermutation-append_right, IsPermutation-map, IsPermutation-sym, length_permutation}
use Rattle.std.proofs.lemmas.List.Folds.{flat_map-map}
use Rattle.std.proofs.lemmas.Option.{slice_get-get_or}
use Rattle.cs_document.specs.Document.{Document, null, list, object, Entry, IsDocument, AreDocuments, AreMembers, KeysAbove}
use Rattle.cs_document.specs.Opened.{Opened, a_list, an_object}
use Rattle.cs_document.specs.Inside.{map_entry, InsideBelow, AscendsInside, KeysAscend}
use Rattle.cs_document.proofs.Each.{each_map, each_append, each_under, each_over}
use Rattle.cs_flat.specs.Nodes.{nodes, member_nodes, node_at}
use Rattle.cs_flat.specs.Items.{inside}
use Rattle.cs_flat.specs.Listed.{documents_of, members_of, values, AreBuilt, IsListed, document_in, numbers_in}
use Rattle.cs_flat.proofs.Listed.{value_behind, values-push, length-values, node_at-values-push, AreBuilt-none, AreBuilt-push, document_in-IsListed}
use Rattle.cs_flat.proofs.Laws.{length-nodes}
use Rattle.cs_flat.proofs.Named.{ranges}
use Rattle.cs_flat.proofs.Permuted.{paired}
use Rattle.cs_json.specs.Listings.{Adds}
use Rattle.cs_json.proofs.Nodes.{flat_map-IsPermutation, element_nodes-flat_map, member_nodes-flat_map}
use Rattle.cs_json.proofs.PutMembers.{each_permuted}

abbrev pub Items : Type 0
Items = List (Opened ℕ)

long : (xs : Items) (x : Opened ℕ) → suc (length xs) ≡ length (xs ++ x ∷ [])
long xs x = omega (arith, length-append xs (x ∷ []))

-- ---- a value that holds none

pub Adds-one : (xs : Items) (x : Opened ℕ) (d : Document) → InsideBelow (length xs) x → AscendsInside x → IsDocument d → nodes d ≡ d ∷ [] → numbers_in x ≡ [] → value_behind (values xs) x ≡ d
    → Adds xs (xs ++ x ∷ []) (length xs) d
Adds-one xs x d below up is alone none same = record {
  built = λ built. AreBuilt-push xs x built below up;
  document = is;
  more = d ∷ [];
  grown = values-push xs x ∙ ap (λ v. values xs ++ v ∷ []) same;
  each = subst (λ ns. IsPermutation ns (d ∷ [])) (sym alone) (IsPermutation-refl (d ∷ []));
  once =
      let empty : 0 ≡ inside d = omega (arith, length-nodes d, ap length alone) in
      subst₂ (λ l n. IsPermutation l (flat_map numbers_in xs ++ range_with_len (length xs) n))
      (ap (λ ns. flat_map numbers_in xs ++ ns) (sym none) ∙ flat_map_more numbers_in [] xs x) empty (IsPermutation-refl (flat_map numbers_in xs ++ []));
  last = long xs x;
  node = node_at-values-push xs x ∙ same;
}

-- ---- documents one after another

-- beside what xs names, ys and the numbers ns of the documents name each value that was added once
pub record AddsAll (xs ys : Items) (ds : List Document) (ns : List ℕ) : Type 0 where
  pub built : AreBuilt xs → AreBuilt ys
  pub documents : Each IsDocument ds
  pub more : List Document
  pub grown : values ys ≡ values xs ++ more
  pub each : IsPermutation (flat_map nodes ds) more
  pub once : IsPermutation (flat_map numbers_in ys ++ ns) (flat_map numbers_in xs ++ range_with_len (length xs) (length more))

pub AddsAll-none : (xs : Items) → AddsAll xs xs [] []
AddsAll-none xs = record {
  built = λ built. built;
  documents = tt;
  more = [];
  grown = sym (append-nil (values xs));
  each = IsPermutation-refl [];
  once = IsPermutation-refl (flat_map numbers_in xs ++ []);
}

-- the numbers of what was added before, of the values inside one more, and its own
ranges-more : (xs ys zs : Items) (ds : List Document) (ns : List ℕ) (n : ℕ) (d : Document) (all : AddsAll xs ys ds ns) (one : Adds ys zs n d)
    → range_with_len (length xs) (length all.more) ++ (range_with_len (length ys) (inside d) ++ n ∷ []) ≡ range_with_len (length xs) (length (all.more ++ one.more))
ranges-more xs ys zs ds ns n d all one =
    let long = length_permutation (nodes d) one.more one.each ∙ length-nodes d in
    let mid : length xs + length all.more ≡ length ys = omega (arith, length-values xs, length-values ys, ap length all.grown, length-append (values xs) all.more) in
    let end : length ys + inside d ≡ n = omega (arith, long, one.last, length-values ys, length-values zs, ap length one.grown, length-append (values ys) one.more) in
    ap (λ l. range_with_len (length xs) (length all.more) ++ l) (ranges (length ys) (inside d) n 1 (suc (inside d)) end (omega arith))
    ∙ ranges (length xs) (length all.more) (length ys) (suc (inside d)) _ mid (omega (arith, long, length-append all.more one.more))

pub AddsAll-more : (xs ys zs : Items) (ds : List Document) (ns : List ℕ) (n : ℕ) (d : Document) → AddsAll xs ys ds ns → Adds ys zs n d → AddsAll xs zs (ds ++ d ∷ []) (ns ++ n ∷ [])
AddsAll-more xs ys zs ds ns n d all one = record {
  built = λ built. one.built (all.built built);
  documents = each_append IsDocument ds (d ∷ []) all.documents (one.document, tt);
  more = all.more ++ one.more;
  grown = one.grown ∙ ap (λ ns. ns ++ one.more) all.grown ∙ append_assoc (values xs) all.more one.more;
  each = subst (λ ns. IsPermutation ns (all.more ++ one.more)) (sym (flat_map-append nodes ds (d ∷ []) ∙ ap (λ ns. flat_map nodes ds ++ ns) (append-nil (nodes d))))
      (IsPermutation-append (flat_map nodes ds) all.more (nodes d) one.more all.each one.each);
  once =
      let named = flat_map numbers_in in
      let r = range_with_len (length ys) (inside d) in
      IsPermutation-trans _ _ _ (IsPermutation-append_left (ns ++ n ∷ []) _ _ one.once)
      (IsPermutation-trans _ _ _ (paired (named ys) r ns (n ∷ []))
      (subst (IsPermutation ((named ys ++ ns) ++ (r ++ n ∷ [])))
      (append_assoc (named xs) (range_with_len (length xs) (length all.more)) (r ++ n ∷ []) ∙ ap (λ l. named xs ++ l) (ranges-more xs ys zs ds ns n d all one))
      (IsPermutation-append_left (r ++ n ∷ []) _ _ all.once)));
}

-- the values before stay where they are
stays : (ys zs : Items) (n : ℕ) (d : Document) → Adds ys zs n d → (i : ℕ) → i < length ys → node_at (values zs) i ≡ node_at (values ys) i
stays ys zs n d one i l = ap (λ ns. node_at ns i) one.grown ∙ get_or-append (values ys) one.more null i (omega (arith, l, length-values ys))

longer : (ys zs : Items) (n : ℕ) (d : Document) → Adds ys zs n d → length ys ≤ length zs
longer ys zs n d one = omega (arith, length-values ys, length-values zs, ap length one.grown, length-append (values ys) one.more)

-- ---- the numbers of elements, and of a map's members

pub record Numbered (ys : Items) (ns : List ℕ) (ds : List Document) : Type 0 where
  pub below : Each (λ n. n < length ys) ns
  pub nodes : map (node_at (values ys)) ns ≡ ds

pub record Keyed (ys : Items) (ms : List (Entry ℕ)) (es : List (Entry Document)) : Type 0 where
  pub below : Each (λ (m : Entry ℕ). m.1 < length ys) ms
  pub nodes : map (map_entry (node_at (values ys))) ms ≡ es

pub Numbered-none : (ys : Items) → Numbered ys [] []
Numbered-none ys = record { below = tt; nodes = refl }

pub Keyed-none : (ys : Items) → Keyed ys [] []
Keyed-none ys = record { below = tt; nodes = refl }

module _ (f g : ℕ → Document) (n : ℕ) (same : (i : ℕ) → i < n → f i ≡ g i) where
  map_below : (ns : List ℕ) → Each (λ i. i < n) ns → map f ns ≡ map g ns
  map_below [] h = refl
  map_below (i ∷ ns) h = ap₂ ◌∷◌ (same i h.0) (map_below ns h.1)

  entries_below : (ms : List (Entry ℕ)) → Each (λ (m : Entry ℕ). m.1 < n) ms → map (map_entry f) ms ≡ map (map_entry g) ms
  entries_below [] h = refl
  entries_below (m ∷ ms) h = ap₂ (λ (d : Document) (es : List (Entry Document)). (m.0, d) ∷ es) (same m.1 h.0) (entries_below ms h.1)

pub Numbered-more : (ys zs : Items) (ns : List ℕ) (ds : List Document) (n : ℕ) (d : Document) → Numbered ys ns ds → Adds ys zs n d → Numbered zs (ns ++ n ∷ []) (ds ++ d ∷ [])
Numbered-more ys zs ns ds n d all one =
    let up : length ys ≤ length zs = longer ys zs n d one in
    let last : suc n ≡ length zs = one.last in record {
      below = each_append (λ i. i < length zs) ns (n ∷ []) (each_map (λ i. i < length ys) (λ i. i < length zs) (λ i l. omega arith) ns all.below) (omega arith, tt);
      nodes = map-append (node_at (values zs)) ns (n ∷ [])
          ∙ ap₂ (λ (as' : List Document) (b : Document). as' ++ b ∷ [])
          (map_below (node_at (values zs)) (node_at (values ys)) (length ys) (stays ys zs n d one) ns all.below ∙ all.nodes) one.node;
    }

pub Keyed-more : (ys zs : Items) (ms : List (Entry ℕ)) (es : List (Entry Document)) (k : List ℕ) (n : ℕ) (d : Document) → Keyed ys ms es → Adds ys zs n d
    → Keyed zs (ms ++ (k, n) ∷ []) (es ++ (k, d) ∷ [])
Keyed-more ys zs ms es k n d all one =
    let up : length ys ≤ length zs = longer ys zs n d one in
    let last : suc n ≡ length zs = one.last in record {
      below = each_append (λ (m : Entry ℕ). m.1 < length zs) ms ((k, n) ∷ [])
          (each_map (λ (m : Entry ℕ). m.1 < length ys) (λ m. m.1 < length zs) (λ m l. omega arith) ms all.below) (omega arith, tt);
      nodes = map-append (map_entry (node_at (values zs))) ms ((k, n) ∷ [])
          ∙ ap₂ (λ (as' : List (Entry Document)) (b : Document). as' ++ (k, b) ∷ [])
          (entries_below (node_at (values zs)) (node_at (values ys)) (length ys) (stays ys zs n d one) ms all.below ∙ all.nodes) one.node;
    }

pub Keyed-moved : (ys : Items) (ms ls : List (Entry ℕ)) (es : List (Entry Document)) → Keyed ys ms es → IsPermutation ms ls → Keyed ys ls (map (map_entry (node_at (values ys))) ls)
Keyed-moved ys ms ls es all moved = record { below = each_permuted (λ (m : Entry ℕ). m.1 < length ys) ms ls moved all.below; nodes = refl }

-- ---- what holds them

abbrev pub value_in : Entry Document → Document
value_in e = e.1

abbrev pub number_in : Entry ℕ → ℕ
number_in m = m.1

abbrev nodes_of : Entry Document → List Document
nodes_of e = nodes e.1

documents_are : (ds : List Document) → Each IsDocument ds → AreDocuments (documents_of ds)
documents_are [] h = tt
documents_are (d ∷ ds) h = (h.0, documents_are ds h.1)

keys_above : (k : List ℕ) (es : List (Entry Document)) → Each (λ (e : Entry Document). slice_cmp nat_cmp k e.0 ≡ Less) es → KeysAbove k (members_of es)
keys_above k [] h = tt
keys_above k (e ∷ es) h = (h.0, keys_above k es h.1)

members_are : (es : List (Entry Document)) → KeysAscend es → Each (λ (e : Entry Document). IsDocument e.1) es → AreMembers (members_of es)
members_are [] up h = tt
members_are (e ∷ es) up h = (keys_above e.0 es up.0, h.0, members_are es up.1 h.1)

ascend_mapped : (f : ℕ → Document) (ms : List (Entry ℕ)) → KeysAscend ms → KeysAscend (map (map_entry f) ms)
ascend_mapped f [] h = tt
ascend_mapped f (m ∷ ms) h = (each_over (map_entry f) (λ (e : Entry Document). slice_cmp nat_cmp m.0 e.0 ≡ Less) ms h.0, ascend_mapped f ms h.1)

-- a document behind those in it
abbrev pub nodes_behind : List Document → Document → List Document
nodes_behind ds d = flat_map nodes ds ++ d ∷ []

pub Adds-around : (xs ys : Items) (ds : List Document) (ns : List ℕ) (x : Opened ℕ) (d : Document) → AddsAll xs ys ds ns → IsPermutation (numbers_in x) ns → InsideBelow (length ys) x
    → AscendsInside x → IsDocument d → IsPermutation (nodes d) (nodes_behind ds d) → value_behind (values ys) x ≡ d → Adds xs (ys ++ x ∷ []) (length ys) d
Adds-around xs ys ds ns x d all moved below up is around same = record {
  built = λ built. AreBuilt-push ys x (all.built built) below up;
  document = is;
  more = all.more ++ d ∷ [];
  grown = values-push ys x ∙ ap₂ (λ (ns : List Document) (v : Document). ns ++ v ∷ []) all.grown same ∙ append_assoc (values xs) all.more (d ∷ []);
  each = IsPermutation-trans _ _ _ around (IsPermutation-append_left (d ∷ []) (flat_map nodes ds) all.more all.each);
  once =
      let count : length all.more ≡ inside d =
      omega (arith, length-nodes d, length_permutation (nodes d) (nodes_behind ds d) around, length-append (flat_map nodes ds) (d ∷ []), length_permutation (flat_map nodes ds) all.more all.each) in
      subst₂ (λ l n. IsPermutation l (flat_map numbers_in xs ++ range_with_len (length xs) n)) (flat_map_more numbers_in [] ys x) count
      (IsPermutation-trans _ _ _ (IsPermutation-append_right (flat_map numbers_in ys) (numbers_in x) ns moved) all.once);
  last = long ys x;
  node = node_at-values-push ys x ∙ same;
}

pub Adds-list : (xs ys : Items) (ns : List ℕ) (ds : List Document) → AddsAll xs ys ds ns → Numbered ys ns ds → Adds xs (ys ++ a_list ns ∷ []) (length ys) (list (documents_of ds))
Adds-list xs ys ns ds all numbered =
    let d = list (documents_of ds) in
    Adds-around xs ys ds ns (a_list ns) d all (IsPermutation-refl ns) numbered.below tt (documents_are ds all.documents)
    (subst (λ l. IsPermutation (l ++ d ∷ []) (nodes_behind ds d)) (sym (element_nodes-flat_map ds)) (IsPermutation-refl (nodes_behind ds d)))
    (ap (λ es. list (documents_of es)) numbered.nodes)

pub Adds-object : (xs ys : Items) (ms ls : List (Entry ℕ)) (es : List (Entry Document)) → AddsAll xs ys (map value_in es) (map number_in ms) → Keyed ys ms es → IsPermutation ms ls → KeysAscend ls
    → (zs : List (Entry Document)) × IsPermutation es zs × KeysAscend zs × Adds xs (ys ++ an_object ls ∷ []) (length ys) (object (members_of zs))
Adds-object xs ys ms ls es all keyed moved up =
    let f = node_at (values ys) in
    let zs = map (map_entry f) ls in
    let turned : IsPermutation es zs = subst (λ l. IsPermutation l zs) keyed.nodes (IsPermutation-map (map_entry f) ms ls moved) in
    let rise = ascend_mapped f ls up in
    let d = object (members_of zs) in
    let each = each_permuted (λ (e : Entry Document). IsDocument e.1) es zs turned (each_under value_in IsDocument es all.documents) in
    let inner = flat_map nodes (map value_in es) in
    let same : IsPermutation (member_nodes (members_of zs)) inner =
    subst (λ l. IsPermutation l inner) (sym (member_nodes-flat_map zs)) (subst (IsPermutation (flat_map nodes_of zs)) (sym (flat_map-map nodes value_in es)) (flat_map-IsPermutation nodes_of zs es (IsPermutation-sym es zs turned))) in (
      zs,
      turned,
      rise,
      Adds-around xs ys (map value_in es) (map number_in ms) (an_object ls) d all (IsPermutation-map number_in ls ms (IsPermutation-sym ms ls moved))
          (each_permuted (λ (m : Entry ℕ). m.1 < length ys) ms ls moved keyed.below) up (members_are zs rise each)
          (IsPermutation-append_left (d ∷ []) (member_nodes (members_of zs)) inner same) refl,
    )

-- ---- the whole text

pub IsListed-all : (ys : Items) (n : ℕ) (d : Document) → Adds [] ys n d → IsListed d ys × (document_in ys ≡ d)
IsListed-all ys n d one =
    let count : length ys ≡ suc (inside d) = omega (arith, length-values ys, ap length one.grown, length_permutation (nodes d) one.more one.each, length-nodes d) in
    let last : suc n ≡ length ys = one.last in
    let place : n ≡ inside d = omega arith in
    let listed : IsListed d ys = record {
      built = one.built AreBuilt-none;
      document = one.document;
      count = count;
      last = slice_get-get_or (values ys) (inside d) null (omega (arith, length-values ys)) ∙ ap Some (ap (node_at (values ys)) (sym place) ∙ one.node);
      each = subst (IsPermutation (nodes d)) (sym one.grown) one.each;
      once = one.once;
    } in (listed, document_in-IsListed d ys listed)
