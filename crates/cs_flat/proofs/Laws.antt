-- The items of a document are its nodes, each opened once, and the document is the last of them.
use Rattle.std.proofs.Common.{◌≡◌, ℕ, suc, ◌+◌, ◌<◌, ◌≤◌, List, [], ◌∷◌, ◌++◌, length, map, length-append, refl, sym, ap, ap₂, ◌∙◌, subst, arith}
use Rattle.std.specs.List.{AllByRecursion as Each}
use Rattle.cs_document.specs.Document.{Document, null, boolean, integer, text, list, object, Documents, no_documents, document, Members, no_members, member, Entry, elements, entries}
use Rattle.cs_document.specs.Opened.{Opened, a_list, an_object, opened}
use Rattle.cs_document.specs.Inside.{map_entry, map_opened, InsideBelow}
use Rattle.cs_flat.specs.Nodes.{nodes, element_nodes, member_nodes, node_at}
use Rattle.cs_flat.specs.Items.{inside, inside_elements, inside_members, element_numbers, member_numbers, items, items_behind, element_items, member_items, AreItems}
use Rattle.cs_flat.proofs.Places.{EachFrom, joined, parted, raised, each_at}

-- ---- how many there are

mutual
  pub length-nodes : (d : Document) → length (nodes d) ≡ suc (inside d)
  length-nodes null = refl
  length-nodes (boolean b) = refl
  length-nodes (integer z) = refl
  length-nodes (text s) = refl
  length-nodes (list ds) = omega (arith, length-append (element_nodes ds) (list ds ∷ []), length-element_nodes ds)
  length-nodes (object ms) = omega (arith, length-append (member_nodes ms) (object ms ∷ []), length-member_nodes ms)

  pub length-element_nodes : (ds : Documents) → length (element_nodes ds) ≡ inside_elements ds
  length-element_nodes no_documents = refl
  length-element_nodes (document d ds) = omega (arith, length-append (nodes d) (element_nodes ds), length-nodes d, length-element_nodes ds)

  pub length-member_nodes : (ms : Members) → length (member_nodes ms) ≡ inside_members ms
  length-member_nodes no_members = refl
  length-member_nodes (member k d ms) = omega (arith, length-append (nodes d) (member_nodes ms), length-nodes d, length-member_nodes ms)

mutual
  pub length-items : (n : ℕ) (d : Document) → length (items_behind n d) ≡ suc (inside d)
  length-items n null = refl
  length-items n (boolean b) = refl
  length-items n (integer z) = refl
  length-items n (text s) = refl
  length-items n (list ds) = omega (arith, length-append (element_items n ds) (a_list (element_numbers n ds) ∷ []), length-element_items n ds)
  length-items n (object ms) = omega (arith, length-append (member_items n ms) (an_object (member_numbers n ms) ∷ []), length-member_items n ms)

  pub length-element_items : (n : ℕ) (ds : Documents) → length (element_items n ds) ≡ inside_elements ds
  length-element_items n no_documents = refl
  length-element_items n (document d ds) =
      let m = suc (n + inside d) in omega (arith, length-append (items_behind n d) (element_items m ds), length-items n d, length-element_items m ds)

  pub length-member_items : (n : ℕ) (ms : Members) → length (member_items n ms) ≡ inside_members ms
  length-member_items n no_members = refl
  length-member_items n (member k d ms) =
      let m = suc (n + inside d) in omega (arith, length-append (items_behind n d) (member_items m ms), length-items n d, length-member_items m ms)

-- ---- where each stands

-- the list has the document at the place
abbrev pub Stands : List Document → ℕ → Document → Type 0
Stands ns i d = node_at ns i ≡ d

-- the elements, and the list behind them
parted_list : (ns : List Document) (n : ℕ) (ds : Documents) → EachFrom (Stands ns) n (nodes (list ds)) → EachFrom (Stands ns) n (element_nodes ds) × Stands ns (n + inside_elements ds) (list ds)
parted_list ns n ds h =
    let parts = parted (Stands ns) n (n + inside_elements ds) (element_nodes ds) (list ds ∷ []) (ap (λ k. n + k) (length-element_nodes ds)) h in (parts.0, parts.1.0)

parted_object : (ns : List Document) (n : ℕ) (ms : Members) → EachFrom (Stands ns) n (nodes (object ms)) → EachFrom (Stands ns) n (member_nodes ms) × Stands ns (n + inside_members ms) (object ms)
parted_object ns n ms h =
    let parts = parted (Stands ns) n (n + inside_members ms) (member_nodes ms) (object ms ∷ []) (ap (λ k. n + k) (length-member_nodes ms)) h in (parts.0, parts.1.0)

-- a document, and those behind its nodes
parted_first : (ns : List Document) (n : ℕ) (d : Document) (ds : List Document) → EachFrom (Stands ns) n (nodes d ++ ds) → EachFrom (Stands ns) n (nodes d) × EachFrom (Stands ns) (suc (n + inside d)) ds
parted_first ns n d ds = parted (Stands ns) n (suc (n + inside d)) (nodes d) ds (omega (arith, length-nodes d))

stands_alone : (ns : List Document) (n : ℕ) (d : Document) → Stands ns n d → Stands ns (n + 0) d
stands_alone ns n d h = let here : n ≡ n + 0 = omega arith in subst (λ k. Stands ns k d) here h

stands_last : (ns : List Document) (n : ℕ) (d : Document) → EachFrom (Stands ns) n (nodes d) → Stands ns (n + inside d) d
stands_last ns n null h = stands_alone ns n null h.0
stands_last ns n (boolean b) h = stands_alone ns n (boolean b) h.0
stands_last ns n (integer z) h = stands_alone ns n (integer z) h.0
stands_last ns n (text s) h = stands_alone ns n (text s) h.0
stands_last ns n (list ds) h = (parted_list ns n ds h).1
stands_last ns n (object ms) h = (parted_object ns n ms h).1

pub elements_at : (ns : List Document) (n : ℕ) (ds : Documents) → EachFrom (Stands ns) n (element_nodes ds) → elements ds ≡ map (node_at ns) (element_numbers n ds)
elements_at ns n no_documents h = refl
elements_at ns n (document d ds) h =
    let parts = parted_first ns n d (element_nodes ds) h in ap₂ ◌∷◌ (sym (stands_last ns n d parts.0)) (elements_at ns (suc (n + inside d)) ds parts.1)

pub entries_at : (ns : List Document) (n : ℕ) (ms : Members) → EachFrom (Stands ns) n (member_nodes ms) → entries ms ≡ map (map_entry (node_at ns)) (member_numbers n ms)
entries_at ns n no_members h = refl
entries_at ns n (member k d ms) h =
    let parts = parted_first ns n d (member_nodes ms) h in
    ap₂ (λ (v : Document) (es : List (Entry Document)). (k, v) ∷ es) (sym (stands_last ns n d parts.0)) (entries_at ns (suc (n + inside d)) ms parts.1)

pub elements_below : (n m : ℕ) (ds : Documents) → n + inside_elements ds ≤ m → Each (λ y. y < m) (element_numbers n ds)
elements_below n m no_documents l = tt
elements_below n m (document d ds) l = (omega arith, elements_below (suc (n + inside d)) m ds (omega arith))

pub entries_below : (n m : ℕ) (ms : Members) → n + inside_members ms ≤ m → Each (λ (e : Entry ℕ). e.1 < m) (member_numbers n ms)
entries_below n m no_members l = tt
entries_below n m (member k d ms) l = (omega arith, entries_below (suc (n + inside d)) m ms (omega arith))

-- ---- each item is the node at its place

abbrev IsNode : List Document → ℕ → Opened ℕ → Type 0
IsNode ns i x = (opened (node_at ns i) ≡ map_opened (node_at ns) x) × InsideBelow i x

mutual
  items_are : (ns : List Document) (n : ℕ) (d : Document) → EachFrom (Stands ns) n (nodes d) → EachFrom (IsNode ns) n (items_behind n d)
  items_are ns n null h = ((ap opened h.0, tt), tt)
  items_are ns n (boolean b) h = ((ap opened h.0, tt), tt)
  items_are ns n (integer z) h = ((ap opened h.0, tt), tt)
  items_are ns n (text s) h = ((ap opened h.0, tt), tt)
  items_are ns n (list ds) h =
      let m = n + inside_elements ds in
      let parts = parted_list ns n ds h in
      joined (IsNode ns) n m (element_items n ds) (a_list (element_numbers n ds) ∷ []) (ap (λ k. n + k) (length-element_items n ds)) (element_items_are ns n ds parts.0)
      ((ap opened parts.1 ∙ ap a_list (elements_at ns n ds parts.0), elements_below n m ds (omega arith)), tt)
  items_are ns n (object ms) h =
      let m = n + inside_members ms in
      let parts = parted_object ns n ms h in
      joined (IsNode ns) n m (member_items n ms) (an_object (member_numbers n ms) ∷ []) (ap (λ k. n + k) (length-member_items n ms)) (member_items_are ns n ms parts.0)
      ((ap opened parts.1 ∙ ap an_object (entries_at ns n ms parts.0), entries_below n m ms (omega arith)), tt)

  element_items_are : (ns : List Document) (n : ℕ) (ds : Documents) → EachFrom (Stands ns) n (element_nodes ds) → EachFrom (IsNode ns) n (element_items n ds)
  element_items_are ns n no_documents h = tt
  element_items_are ns n (document d ds) h =
      let m = suc (n + inside d) in
      let parts = parted_first ns n d (element_nodes ds) h in
      joined (IsNode ns) n m (items_behind n d) (element_items m ds) (omega (arith, length-items n d)) (items_are ns n d parts.0) (element_items_are ns m ds parts.1)

  member_items_are : (ns : List Document) (n : ℕ) (ms : Members) → EachFrom (Stands ns) n (member_nodes ms) → EachFrom (IsNode ns) n (member_items n ms)
  member_items_are ns n no_members h = tt
  member_items_are ns n (member k d ms) h =
      let m = suc (n + inside d) in
      let parts = parted_first ns n d (member_nodes ms) h in
      joined (IsNode ns) n m (items_behind n d) (member_items m ms) (omega (arith, length-items n d)) (items_are ns n d parts.0) (member_items_are ns m ms parts.1)

-- ---- the laws

pub all_stand : (ns : List Document) → EachFrom (Stands ns) 0 ns
all_stand [] = tt
all_stand (d ∷ ds) = (refl, raised (Stands (d ∷ ds)) 0 ds (all_stand ds))

pub node_at-inside : (d : Document) → node_at (nodes d) (inside d) ≡ d
node_at-inside d =
    let last : 0 + inside d ≡ inside d = omega arith in
    ap (node_at (nodes d)) (sym last) ∙ stands_last (nodes d) 0 d (all_stand (nodes d))

pub are_items : (d : Document) → AreItems (nodes d) (items d)
are_items d =
    let all = items_are (nodes d) 0 d (all_stand (nodes d)) in record {
      count = length-items 0 d ∙ sym (length-nodes d);
      node = λ i x e. (each_at (IsNode (nodes d)) (items d) all i x e).0;
      lower = λ i x e. (each_at (IsNode (nodes d)) (items d) all i x e).1;
    }
