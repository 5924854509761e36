-- Schemas put under their labels, one after the other: in the end each label has the schemas of its values, in byte order.
use Rattle.std.proofs.Common.{◌≡◌, ℕ, List, [], ◌∷◌, ◌++◌, map, true, false, cond, Some, Ordering, Less, Equal, Greater, String, Vec, Global, string_bytes, string_cmp, nat_cmp, bytes_eq, refl, sym, ap, ap₂, ◌∙◌, if◌then◌else◌, append-nil}
use Rattle.std.proofs.lemmas.Cmp.{nat_list_cmp_total}
use Rattle.std.proofs.lemmas.List.{map-append}
use Rattle.std.proofs.lemmas.Grind.{flat_map-append}
use Rattle.std.proofs.lemmas.Map.Text.{is_eq-slice_cmp}
use Rattle.std.proofs.lemmas.Slice.Eq.{bytes_eq-Decides}
use Rattle.std.specs.BTreeMap.{get, is_at, insert_entry, IsOrdered, Updates}
use Rattle.std.specs.BTreeSet.{insert_key}
use Rattle.std.specs.Cmp.{Equal-is}
use Rattle.std.specs.Cmp.Lexicographic.{slice_cmp}
use Rattle.std.specs.List.{AllByRecursion as Each}
use Rattle.std.specs.List.Sorted.{IsStrictlySortedBy}
use Rattle.std.specs.Map.{keys_of, lookup}
use Rattle.std.specs.Option.{option_map_or}
use Rattle.std.specs.Ordering.{match_ordering, ordering_reverse, is_eq}
use Rattle.cs_document.specs.Document.{Document, Members, no_members, member, put}
use Rattle.cs_document.specs.View.{members_of}
use Rattle.cs_document.proofs.Each.{each_map}
use Rattle.cs_package.specs.Expression.{Declaration, DeclarationMark}
use Rattle.cs_package.proofs.Environments.{bytes_eq-refl, bytes_eq-sym}
use Rattle.cs_profile.specs.SchemaDocument.{schemas_view}
use Rattle.cs_profile.specs.declared.schema.Schema.{Schema}
use Rattle.cs_compile.specs.Translation.{labels_of, values_of, members_at, properties_of, one_or_all}
use Rattle.cs_compile.specs.Grouped.{declared, in_order, Groups, group, IsGrouped, joined}

-- ---- labels in order

abbrev byte_cmp : List ℕ → List ℕ → Ordering
byte_cmp = slice_cmp nat_cmp

abbrev with_label : List (List ℕ) → List ℕ → List (List ℕ)
with_label = insert_key byte_cmp

same_at : (a b : List ℕ) → byte_cmp a b ≡ Equal → a ≡ b
same_at a b e = (bytes_eq-Decides a b).0 (sym (is_eq-slice_cmp a b) ∙ ap is_eq e)

turned : (a b : List ℕ) (o : Ordering) → byte_cmp a b ≡ o → byte_cmp b a ≡ ordering_reverse o
turned a b o e = nat_list_cmp_total.antisymm b a ∙ ap ordering_reverse e

-- a label goes past a smaller one, and is before a larger one
past : (l k : List ℕ) (ks : List (List ℕ)) → byte_cmp l k ≡ Greater → with_label (k ∷ ks) l ≡ k ∷ with_label ks l
past l k ks e = rw e refl

before : (l k : List ℕ) (ks : List (List ℕ)) → byte_cmp l k ≡ Less → with_label (k ∷ ks) l ≡ l ∷ k ∷ ks
before l k ks e = rw e refl

stays : (l k : List ℕ) (ks : List (List ℕ)) → byte_cmp l k ≡ Equal → with_label (k ∷ ks) l ≡ k ∷ ks
stays l k ks e = rw e refl

-- two labels before all others, put there in either order
both_first : (a b : List ℕ) (ks : List (List ℕ)) → with_label ks b ≡ b ∷ ks → with_label ks a ≡ a ∷ ks → with_label (a ∷ ks) b ≡ with_label (b ∷ ks) a
both_first a b ks is_b is_a = go (byte_cmp a b) refl
  where
    go : (o : Ordering) → byte_cmp a b ≡ o → with_label (a ∷ ks) b ≡ with_label (b ∷ ks) a
    go Less e = past b a ks (turned a b Less e) ∙ ap (λ xs. a ∷ xs) is_b ∙ sym (before a b ks e)
    go Equal e = stays b a ks (turned a b Equal e) ∙ ap (λ x. x ∷ ks) (same_at a b e) ∙ sym (stays a b ks e)
    go Greater e = before b a ks (turned a b Greater e) ∙ sym (past a b ks e ∙ ap (λ xs. b ∷ xs) is_a)

-- one before the first, and one that leaves it first
one_first : (a b k : List ℕ) (ks rest : List (List ℕ)) → byte_cmp a k ≡ Less → byte_cmp b a ≡ Greater → with_label (k ∷ ks) b ≡ k ∷ rest
    → with_label (with_label (k ∷ ks) a) b ≡ with_label (with_label (k ∷ ks) b) a
one_first a b k ks rest less greater is =
    ap (λ xs. with_label xs b) (before a k ks less) ∙ past b a (k ∷ ks) greater ∙ ap (λ xs. a ∷ xs) is
    ∙ sym (before a k rest less) ∙ ap (λ xs. with_label xs a) (sym is)

below_same : (a b k : List ℕ) → byte_cmp a k ≡ Less → byte_cmp b k ≡ Equal → byte_cmp b a ≡ Greater
below_same a b k less same = nat_list_cmp_total.congr b k a same ∙ turned a k Less less

below_more : (a b k : List ℕ) → byte_cmp a k ≡ Less → byte_cmp b k ≡ Greater → byte_cmp b a ≡ Greater
below_more a b k less greater = turned a b Less (nat_list_cmp_total.trans a k b less (turned b k Greater greater))

-- the order in which labels are put does not matter
either_order : (a b : List ℕ) (ks : List (List ℕ)) → with_label (with_label ks a) b ≡ with_label (with_label ks b) a
either_order a b [] = both_first a b [] refl refl
either_order a b (k ∷ ks) = go (byte_cmp a k) refl (byte_cmp b k) refl (either_order a b ks)
  where
    go : (o : Ordering) → byte_cmp a k ≡ o → (p : Ordering) → byte_cmp b k ≡ p → with_label (with_label ks a) b ≡ with_label (with_label ks b) a
        → with_label (with_label (k ∷ ks) a) b ≡ with_label (with_label (k ∷ ks) b) a
    go Less e Less f h = ap (λ xs. with_label xs b) (before a k ks e) ∙ both_first a b (k ∷ ks) (before b k ks f) (before a k ks e) ∙ ap (λ xs. with_label xs a) (sym (before b k ks f))
    go Less e Equal f h = one_first a b k ks ks e (below_same a b k e f) (stays b k ks f)
    go Less e Greater f h = one_first a b k ks (with_label ks b) e (below_more a b k e f) (past b k ks f)
    go Equal e Less f h = sym (one_first b a k ks ks f (below_same b a k f e) (stays a k ks e))
    go Equal e Equal f h = ap (λ xs. with_label xs b) (stays a k ks e) ∙ stays b k ks f ∙ sym (stays a k ks e) ∙ ap (λ xs. with_label xs a) (sym (stays b k ks f))
    go Equal e Greater f h = ap (λ xs. with_label xs b) (stays a k ks e) ∙ past b k ks f ∙ sym (stays a k (with_label ks b) e) ∙ ap (λ xs. with_label xs a) (sym (past b k ks f))
    go Greater e Less f h = sym (one_first b a k ks (with_label ks a) f (below_more b a k f e) (past a k ks e))
    go Greater e Equal f h = ap (λ xs. with_label xs b) (past a k ks e) ∙ stays b k (with_label ks a) f ∙ sym (past a k ks e) ∙ ap (λ xs. with_label xs a) (sym (stays b k ks f))
    go Greater e Greater f h =
        ap (λ xs. with_label xs b) (past a k ks e) ∙ past b k (with_label ks a) f ∙ ap (λ xs. k ∷ xs) h
        ∙ sym (past a k (with_label ks b) e) ∙ ap (λ xs. with_label xs a) (sym (past b k ks f))

in_order-last : (ls : List (List ℕ)) (l : List ℕ) → with_label (in_order ls) l ≡ in_order (ls ++ l ∷ [])
in_order-last [] l = refl
in_order-last (m ∷ ls) l = either_order m l (in_order ls) ∙ ap (λ ks. with_label ks m) (in_order-last ls l)

-- ---- groups of values

keys-match_ordering : {X : Type 0} (o : Ordering) (a b c : List (String Global × X)) (f : List (String Global × X) → List (List ℕ)) → f (match_ordering o a b c) ≡ match_ordering o (f a) (f b) (f c)
keys-match_ordering Less a b c f = refl
keys-match_ordering Equal a b c f = refl
keys-match_ordering Greater a b c f = refl

-- an insert puts the key's text
texts-insert_entry : {X : Type 0} (es : List (String Global × X)) (k : String Global) (v : X) → map string_bytes (keys_of (insert_entry string_cmp es k v)) ≡ with_label (map string_bytes (keys_of es)) (string_bytes k)
texts-insert_entry [] k v = refl
texts-insert_entry (e ∷ es) k v =
    keys-match_ordering (string_cmp k e.0) _ _ _ (λ xs. map string_bytes (keys_of xs))
    ∙ ap (λ ks. match_ordering (string_cmp k e.0) (string_bytes k ∷ string_bytes e.0 ∷ map string_bytes (keys_of es)) (string_bytes e.0 ∷ map string_bytes (keys_of es)) (string_bytes e.0 ∷ ks)) (texts-insert_entry es k v)

values_of-last : (l : List ℕ) (ds : List (Declaration Document)) (d : Declaration Document) → values_of l (ds ++ d ∷ []) ≡ values_of l ds ++ (if bytes_eq l d.label then d.value ∷ [] else [])
values_of-last l ds d = flat_map-append _ ds (d ∷ []) ∙ ap (λ vs. values_of l ds ++ vs) (append-nil (if bytes_eq l d.label then d.value ∷ [] else []))

-- one value more
module _ (ds : List (Declaration Document)) (g n : Groups) (k : String Global) (w : Vec Schema Global) (m : DeclarationMark) (s : Document) where
  one_value : Updates string_cmp g n k (Some w) → schemas_view w.items ≡ group g k ++ s ∷ [] → ((l : String Global) → group g l ≡ values_of (string_bytes l) ds)
      → (l : String Global) → group n l ≡ values_of (string_bytes l) (ds ++ declared (string_bytes k) m s ∷ [])
  one_value updates grown values l =
      ap (λ o. option_map_or (λ v. schemas_view v.items) o []) (updates.0 l)
      ∙ go (string_cmp k l) refl
      ∙ sym (values_of-last (string_bytes l) ds (declared (string_bytes k) m s))
    where
      apart : (o : Ordering) → string_cmp k l ≡ o → is_eq o ≡ false → bytes_eq (string_bytes l) (string_bytes k) ≡ false
      apart o e other_way = bytes_eq-sym (string_bytes l) (string_bytes k) ∙ sym (is_eq-slice_cmp (string_bytes k) (string_bytes l)) ∙ ap is_eq e ∙ other_way

      other : (o : Ordering) → string_cmp k l ≡ o → is_eq o ≡ false → group g l ≡ values_of (string_bytes l) ds ++ (if bytes_eq (string_bytes l) (string_bytes k) then s ∷ [] else [])
      other o e other_way = rw (apart o e other_way) (values l ∙ sym (append-nil _))

      go : (o : Ordering) → string_cmp k l ≡ o → option_map_or (λ v. schemas_view v.items) (cond (is_eq o) (Some w) (get string_cmp g l)) [] ≡ values_of (string_bytes l) ds ++ (if bytes_eq (string_bytes l) (string_bytes k) then s ∷ [] else [])
      go Equal e =
          let same : string_bytes k ≡ string_bytes l = same_at _ _ e in
          let yes : bytes_eq (string_bytes l) (string_bytes k) ≡ true = (bytes_eq-Decides _ _).1 (sym same) in
          rw yes (grown ∙ ap (λ vs. vs ++ s ∷ []) (values k ∙ ap (λ b. values_of b ds) same))
      go Less e = other _ e refl
      go Greater e = other _ e refl

  pub one_more : IsOrdered string_cmp n → Updates string_cmp g n k (Some w) → n.entries ≡ insert_entry string_cmp g.entries k w
      → schemas_view w.items ≡ group g k ++ s ∷ [] → IsGrouped ds g → IsGrouped (ds ++ declared (string_bytes k) m s ∷ []) n
  one_more ordered updates inserted grown h = record {
    ordered = ordered;
    labels = ap (λ es. map string_bytes (keys_of es)) inserted ∙ texts-insert_entry g.entries k w ∙ ap (λ ks. with_label ks (string_bytes k)) h.labels
        ∙ in_order-last (labels_of ds) (string_bytes k) ∙ ap in_order (sym (map-append (λ d. d.label) ds (declared (string_bytes k) m s ∷ [])));
    values = one_value updates grown h.values;
  }

-- ---- one schema a label

-- what a map has under each of its keys
found_each : (es : List (String Global × Vec Schema Global)) → IsStrictlySortedBy string_cmp (keys_of es) → Each (λ x. lookup (is_at (string_cmp x.0)) es ≡ Some x.1) es
unfolding IsStrictlySortedBy
found_each [] h = tt
found_each (e ∷ es) h = (here, behind es h.0 (found_each es h.1))
  where
    same : string_cmp e.0 e.0 ≡ Equal
    same = (Equal-is _).0 (is_eq-slice_cmp (string_bytes e.0) (string_bytes e.0) ∙ bytes_eq-refl (string_bytes e.0))

    here : lookup (is_at (string_cmp e.0)) (e ∷ es) ≡ Some e.1
    here = rw same refl

    behind : (xs : List (String Global × Vec Schema Global)) → Each (λ y. string_cmp e.0 y ≡ Less) (keys_of xs) → Each (λ x. lookup (is_at (string_cmp x.0)) es ≡ Some x.1) xs → Each (λ x. lookup (is_at (string_cmp x.0)) (e ∷ es) ≡ Some x.1) xs
    behind [] above h = tt
    behind (x ∷ xs) above h =
        let greater : string_cmp x.0 e.0 ≡ Greater = turned (string_bytes e.0) (string_bytes x.0) Less above.0 in
        (rw greater h.0, behind xs above.1 h.1)

-- under each key its schema
abbrev tabulated : (List ℕ → Document) → List (List ℕ) → Members
tabulated f [] = no_members
tabulated f (k ∷ ks) = member k (f k) (tabulated f ks)

put_tabulated : (f : List ℕ → Document) (l : List ℕ) (ks : List (List ℕ)) → put l (f l) (tabulated f ks) ≡ tabulated f (with_label ks l)
put_tabulated f l [] = refl
put_tabulated f l (k ∷ ks) = go (byte_cmp l k) refl (put_tabulated f l ks)
  where
    go : (o : Ordering) → byte_cmp l k ≡ o → put l (f l) (tabulated f ks) ≡ tabulated f (with_label ks l)
        → match_ordering o (member l (f l) (member k (f k) (tabulated f ks))) (member k (f l) (tabulated f ks)) (member k (f k) (put l (f l) (tabulated f ks))) ≡ tabulated f (match_ordering o (l ∷ k ∷ ks) (k ∷ ks) (k ∷ with_label ks l))
    go Less e h = refl
    go Equal e h = ap (λ m. member k (f m) (tabulated f ks)) (same_at l k e)
    go Greater e h = ap (λ ms. member k (f k) ms) h

members_at-tabulated : (ls : List (List ℕ)) (f : List ℕ → Document) → members_at ls f ≡ tabulated f (in_order ls)
members_at-tabulated [] f = refl
members_at-tabulated (l ∷ ls) f = ap (put l (f l)) (members_at-tabulated ls f) ∙ put_tabulated f l (in_order ls)

joined-tabulated : (f : List ℕ → Document) (es : List (String Global × Vec Schema Global)) → Each (λ e. one_or_all (schemas_view e.1.items) ≡ f (string_bytes e.0)) es
    → members_of (map (λ e. (e.0, one_or_all (schemas_view e.1.items))) es) ≡ tabulated f (map string_bytes (keys_of es))
joined-tabulated f [] h = refl
joined-tabulated f (e ∷ es) h = ap₂ (λ d ms. member (string_bytes e.0) d ms) h.0 (joined-tabulated f es h.1)

-- the groups, each in one schema, are the properties
pub joined_is : (ds : List (Declaration Document)) (g : Groups) → IsGrouped ds g → joined g ≡ properties_of ds
joined_is ds g h =
    let f : List ℕ → Document = λ l. one_or_all (values_of l ds) in
    joined-tabulated f g.entries (each_map _ _ (λ e found. ap one_or_all (ap (λ o. option_map_or (λ v. schemas_view v.items) o []) (sym found) ∙ h.values e.0)) g.entries (found_each g.entries h.ordered))
    ∙ ap (tabulated f) h.labels
    ∙ sym (members_at-tabulated (labels_of ds) f)
