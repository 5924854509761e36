-- The loops over the elements of a list and over the members of a map, a turn at a time.
use Rattle.std.proofs.Common.{◌≡◌, ℕ, ◌-◌, ◌<◌, ◌≤◌, List, [], ◌∷◌, ◌++◌, length, take, drop, map, Option, Some, None, option_map, option_and_then, Ordering, Less, Equal, Greater, nat_cmp, append_assoc, append-nil, take_all, length-drop, refl, sym, ap, ap₂, ◌∙◌, subst, subst₂, arith}
use Rattle.std.specs.Cmp.Lexicographic.{slice_cmp}
use Rattle.std.specs.List.{AllByRecursion as Each}
use Rattle.std.specs.List.Sorted.{IsPermutation}
use Rattle.std.specs.Ordering.{match_ordering}
use Rattle.std.proofs.lemmas.List.{map-append}
use Rattle.std.proofs.lemmas.List.Sorted.{IsPermutation-map}
use Rattle.json.specs.Token.{Token}
use Rattle.json.specs.Json as json
use Rattle.json.specs.Json.{Parse, parse_map, after_end_array, read_key, items, members}
use Rattle.json.proofs.Grammar.{read_key-shorter}
use Rattle.serde_json.specs.Data as value
use Rattle.serde_json.specs.Data.{Data}
use Rattle.serde_json.specs.Read.{of_json, of_items, of_members as read_members, converted}
use Rattle.cs_json.proofs.Reading.{item_read, items_over, member_read, members_over}
use Rattle.cs_document.specs.Document.{Document, list, object, IsDocument, Members, no_members, member, Entry, put}
use Rattle.cs_document.specs.Opened.{Opened, a_list, an_object}
use Rattle.cs_document.specs.Inside.{InsideBelow, AscendsInside, KeysAscend}
use Rattle.cs_flat.specs.Nodes.{nodes}
use Rattle.cs_flat.specs.Listed.{documents_of as listed, members_of as mapped, values, numbers_in}
use Rattle.cs_flat.proofs.Listed.{value_behind}
use Rattle.cs_flat.specs.View.{entry_of}
use Rattle.cs_json.specs.Texts.{document_of, documents_of, members_of}
use Rattle.cs_json.specs.Listings.{put_all, Adds, AddsRead}
use Rattle.cs_json.proofs.Entries.{Pair}
use Rattle.cs_json.proofs.PutMembers.{each_permuted, put_all-sorted}
use Rattle.cs_json.proofs.Additions.{Items, Adds-one, AddsAll, AddsAll-none, AddsAll-more, Numbered, Numbered-none, Numbered-more, Keyed, Keyed-none, Keyed-more, Adds-list, Adds-object, value_in, number_in}

drop_front : {A : Type 0} (xs ys : List A) → drop (length xs) (xs ++ ys) ≡ ys
drop_front [] ys = refl
drop_front (x ∷ xs) ys = drop_front xs ys

-- ---- the elements of a list

abbrev items_before : List Data → value.Items → value.Items
items_before [] rest = rest
items_before (v ∷ vs) rest = value.item v (items_before vs rest)

items_push : (vs : List Data) (v : Data) (rest : value.Items) → items_before vs (value.item v rest) ≡ items_before (vs ++ v ∷ []) rest
items_push [] v rest = refl
items_push (w ∷ vs) v rest = ap (value.item w) (items_push vs v rest)

one_more_item : (vs : List Data) (v : Data) (r : Option (value.Items × List Token)) → parse_map (items_before vs) (parse_map (value.item v) r) ≡ parse_map (items_before (vs ++ v ∷ [])) r
one_more_item vs v None = refl
one_more_item vs v (Some p) = ap (λ ds. Some (ds, p.1)) (items_push vs v p.0)

none_before : (r : Option (value.Items × List Token)) → r ≡ parse_map (λ a. a) r
none_before None = refl
none_before (Some p) = refl

documents_of-items : (vs : List Data) (ds : List Document) → map document_of vs ≡ map Some ds → documents_of (items_before vs value.no_items) ≡ Some (listed ds)
documents_of-items [] [] e = refl
documents_of-items [] (d ∷ ds) e = cc
documents_of-items (v ∷ vs) [] e = cc
documents_of-items (v ∷ vs) (d ∷ ds) e =
    let first : document_of v ≡ Some d = cc in
    let rest : map document_of vs ≡ map Some ds = cc in
    rw (first, documents_of-items vs ds rest)

-- of the elements that `whole` has, those behind the ones that were read; items and numbers of these
pub record ElementsRead (whole : Option (value.Items × List Token)) (p : Parse json.Json) (tokens : List Token) (xs ys : Items) (before now : List ℕ) : Type 0 where
  pub turns : ℕ
  pub enough : length tokens ≤ turns
  pub found : List Data
  pub documents : List Document
  pub left : whole ≡ parse_map (items_before found) (converted of_items (items p turns tokens))
  pub same : map document_of found ≡ map Some documents
  pub numbers : List ℕ
  pub adds : AddsAll xs ys documents numbers
  pub stacked : now ≡ before ++ numbers
  pub numbered : Numbered ys numbers documents

pub ElementsRead-none : (p : Parse json.Json) (tokens : List Token) (xs : Items) (before : List ℕ) → ElementsRead (converted of_items (items p (length tokens) tokens)) p tokens xs xs before before
ElementsRead-none p tokens xs before = record {
  turns = length tokens;
  enough = omega arith;
  found = [];
  documents = [];
  left = none_before (converted of_items (items p (length tokens) tokens));
  same = refl;
  adds = AddsAll-none xs;
  numbers = [];
  stacked = sym (append-nil before);
  numbered = Numbered-none xs;
}

module _ (whole : Option (value.Items × List Token)) (p : Parse json.Json) (tokens rest : List Token) (xs ys : Items) (before now : List ℕ) (so_far : ElementsRead whole p tokens xs ys before now) where
  pub ElementsRead-more : (zs : Items) (n : ℕ) → after_end_array tokens ≡ None → AddsRead (converted of_json (p tokens)) rest ys zs n → length rest < length tokens
      → ElementsRead whole p rest xs zs before (now ++ n ∷ [])
  ElementsRead-more zs n going one shorter =
      let turns = so_far.turns in
      let some : 0 < turns = omega (arith, so_far.enough) in
      let v = one.value in
      let d = one.document in record {
        turns = turns - 1;
        enough = omega (arith, so_far.enough);
        found = so_far.found ++ v ∷ [];
        documents = so_far.documents ++ d ∷ [];
        left = so_far.left ∙ ap (parse_map (items_before so_far.found)) (item_read p turns tokens rest v some going one.is_read) ∙ one_more_item so_far.found v _;
        same = map-append document_of so_far.found (v ∷ []) ∙ ap₂ (λ as' b. as' ++ b ∷ []) so_far.same one.is_document ∙ sym (map-append Some so_far.documents (d ∷ []));
        adds = AddsAll-more xs ys zs so_far.documents so_far.numbers n d so_far.adds one.adds;
        numbers = so_far.numbers ++ n ∷ [];
        stacked = ap (λ l. l ++ n ∷ []) so_far.stacked ∙ append_assoc before so_far.numbers (n ∷ []);
        numbered = Numbered-more ys zs so_far.numbers so_far.documents n d so_far.numbered one.adds;
      }

  pub ElementsRead-numbers : (start : ℕ) → start ≡ length before → drop start now ≡ so_far.numbers
  ElementsRead-numbers start e = ap₂ drop e so_far.stacked ∙ drop_front before so_far.numbers

  pub ElementsRead-end : (start : ℕ) → start ≡ length before → after_end_array tokens ≡ Some rest → AddsRead (parse_map value.array whole) rest xs (ys ++ a_list (drop start now) ∷ []) (length ys)
  ElementsRead-end start e over = record {
    value = value.array (items_before so_far.found value.no_items);
    document = list (listed so_far.documents);
    is_read = ap (parse_map value.array) (so_far.left ∙ ap (parse_map (items_before so_far.found)) (items_over p so_far.turns tokens rest so_far.enough over));
    is_document = ap (option_map list) (documents_of-items so_far.found so_far.documents so_far.same);
    adds = subst (λ ns. Adds xs (ys ++ a_list ns ∷ []) (length ys) (list (listed so_far.documents))) (sym (ElementsRead-numbers start e))
        (Adds-list xs ys so_far.numbers so_far.documents so_far.adds so_far.numbered);
  }

-- ---- the members of a map

matched : {A B : Type 0} (f : A → B) (o : Ordering) (a b c : A) → f (match_ordering o a b c) ≡ match_ordering o (f a) (f b) (f c)
matched f Less a b c = refl
matched f Equal a b c = refl
matched f Greater a b c = refl

-- a value that is a document, put among members that are a map's
members_of-put : (k : List ℕ) (v : Data) (d : Document) (found : value.Members) (ms : Members) → document_of v ≡ Some d → members_of found ≡ Some ms
    → members_of (value.put k v found) ≡ Some (put k d ms)
members_of-put k v d value.no_members ms is all = let none : no_members ≡ ms = cc in rw (is, ← none)
members_of-put k v d (value.member l w found) ms is all = opened (document_of w) (members_of found) refl refl all (λ r e. members_of-put k v d found r is e)
  where
    opened : (a : Option Document) (b : Option Members) → document_of w ≡ a → members_of found ≡ b → option_and_then (λ x. option_map (member l x) b) a ≡ Some ms
        → ((r : Members) → members_of found ≡ Some r → members_of (value.put k v found) ≡ Some (put k d r)) → members_of (value.put k v (value.member l w found)) ≡ Some (put k d ms)
    opened None b e f h more = absurd (cc)
    opened (Some x) None e f h more = absurd (cc)
    opened (Some x) (Some r) e f h more =
        let o = slice_cmp nat_cmp k l in
        let split : member l x r ≡ ms = cc in
        let first : members_of (value.member k v (value.member l w found)) ≡ Some (member k d (member l x r)) = rw (is, e, f) in
        let second : members_of (value.member l v found) ≡ Some (member l d r) = rw (is, f) in
        let third : members_of (value.member l w (value.put k v found)) ≡ Some (member l x (put k d r)) = rw (e, more r f) in
        matched members_of o (value.member k v (value.member l w found)) (value.member l v found) (value.member l w (value.put k v found))
        ∙ (λ i. match_ordering o (first i) (second i) (third i))
        ∙ sym (matched Some o (member k d (member l x r)) (member l d r) (member l x (put k d r)))
        ∙ ap (λ es. Some (put k d es)) split

put_all-push : (ms : Members) (es : List (Entry Document)) (e : Entry Document) → put_all ms (es ++ e ∷ []) ≡ put e.0 e.1 (put_all ms es)
put_all-push ms [] e = refl
put_all-push ms (x ∷ es) e = put_all-push (put x.0 x.1 ms) es e

-- of the members that `whole` has, those behind the ones that were read; items and entries of these
pub record MembersRead (whole : Option (value.Members × List Token)) (p : Parse json.Json) (tokens : List Token) (xs ys : Items) (before now : List Pair) : Type 0 where
  pub turns : ℕ
  pub enough : length tokens ≤ turns
  pub found : value.Members
  pub documents : List (Entry Document)
  pub left : whole ≡ converted (λ ms. read_members ms found) (members p turns tokens)
  pub same : members_of found ≡ Some (put_all no_members documents)
  pub pairs : List Pair
  pub adds : AddsAll xs ys (map value_in documents) (map number_in (map entry_of pairs))
  pub stacked : now ≡ before ++ pairs
  pub keyed : Keyed ys (map entry_of pairs) documents

pub MembersRead-none : (p : Parse json.Json) (tokens : List Token) (xs : Items) (before : List Pair)
    → MembersRead (converted (λ ms. read_members ms value.no_members) (members p (length tokens) tokens)) p tokens xs xs before before
MembersRead-none p tokens xs before = record {
  turns = length tokens;
  enough = omega arith;
  found = value.no_members;
  documents = [];
  left = refl;
  same = refl;
  adds = AddsAll-none xs;
  pairs = [];
  stacked = sym (append-nil before);
  keyed = Keyed-none xs;
}

module _ (whole : Option (value.Members × List Token)) (p : Parse json.Json) (tokens : List Token) (xs ys : Items) (before now : List Pair) (so_far : MembersRead whole p tokens xs ys before now) where
  pub MembersRead-more : (behind rest : List Token) (zs : Items) (e : Pair) → read_key tokens ≡ Some (Some e.0.now, behind) → AddsRead (converted of_json (p behind)) rest ys zs e.1
      → length rest < length behind → MembersRead whole p rest xs zs before (now ++ e ∷ [])
  MembersRead-more behind rest zs e key one shorter =
      let turns = so_far.turns in
      let k = e.0.now in
      let less = read_key-shorter tokens (Some k) behind key in
      let some : 0 < turns = omega (arith, so_far.enough, less) in
      let v = one.value in
      let d = one.document in
      let made : Entry Document = (k, d) in record {
        turns = turns - 1;
        enough = omega (arith, so_far.enough, less);
        found = value.put k v so_far.found;
        documents = so_far.documents ++ made ∷ [];
        left = so_far.left ∙ member_read p so_far.found turns k tokens behind rest v some key one.is_read;
        same = members_of-put k v d so_far.found (put_all no_members so_far.documents) one.is_document so_far.same ∙ ap Some (sym (put_all-push no_members so_far.documents made));
        adds = subst₂ (AddsAll xs zs) (sym (map-append value_in so_far.documents (made ∷ [])))
            (sym (ap (map number_in) (map-append entry_of so_far.pairs (e ∷ [])) ∙ map-append number_in (map entry_of so_far.pairs) (entry_of e ∷ [])))
            (AddsAll-more xs ys zs (map value_in so_far.documents) (map number_in (map entry_of so_far.pairs)) e.1 d so_far.adds one.adds);
        pairs = so_far.pairs ++ e ∷ [];
        stacked = ap (λ l. l ++ e ∷ []) so_far.stacked ∙ append_assoc before so_far.pairs (e ∷ []);
        keyed = subst (λ es. Keyed zs es (so_far.documents ++ made ∷ [])) (sym (map-append entry_of so_far.pairs (e ∷ [])))
            (Keyed-more ys zs (map entry_of so_far.pairs) so_far.documents k e.1 d so_far.keyed one.adds);
      }

  pub MembersRead-pairs : (start : ℕ) → start ≡ length before → drop start now ≡ so_far.pairs
  MembersRead-pairs start e = ap₂ drop e so_far.stacked ∙ drop_front before so_far.pairs

  pub MembersRead-end : (start : ℕ) (rest : List Token) (sorted : List Pair) → start ≡ length before → read_key tokens ≡ Some (None, rest) → IsPermutation (drop start now) sorted
      → KeysAscend (map entry_of sorted) → AddsRead (parse_map value.object whole) rest xs (ys ++ an_object (map entry_of sorted) ∷ []) (length ys)
  MembersRead-end start rest sorted e over moved up =
      let pairs : IsPermutation so_far.pairs sorted = subst (λ ps. IsPermutation ps sorted) (MembersRead-pairs start e) moved in
      let made = Adds-object xs ys (map entry_of so_far.pairs) (map entry_of sorted) so_far.documents so_far.adds so_far.keyed (IsPermutation-map entry_of so_far.pairs sorted pairs) up in record {
        value = value.object so_far.found;
        document = object (mapped made.0);
        is_read = ap (parse_map value.object) (so_far.left ∙ members_over p so_far.found so_far.turns tokens rest so_far.enough over);
        is_document = ap (option_map object) (so_far.same ∙ ap Some (put_all-sorted so_far.documents made.0 made.1 made.2));
        adds = made.3;
      }

  pub MembersRead-below : (start : ℕ) (sorted : List Pair) → start ≡ length before → IsPermutation (drop start now) sorted → Each (λ (m : Entry ℕ). m.1 < length ys) (map entry_of sorted)
  MembersRead-below start sorted e moved =
      let pairs : IsPermutation so_far.pairs sorted = subst (λ ps. IsPermutation ps sorted) (MembersRead-pairs start e) moved in
      each_permuted (λ (m : Entry ℕ). m.1 < length ys) (map entry_of so_far.pairs) (map entry_of sorted) (IsPermutation-map entry_of so_far.pairs sorted pairs) so_far.keyed.below

-- ---- at the items that the code has

pub AddsRead-at : (read : Option (Data × List Token)) (rest : List Token) (xs ys zs : Items) (m n : ℕ) → zs ≡ ys → n ≡ m → AddsRead read rest xs ys m → AddsRead read rest xs zs n
AddsRead-at read rest xs ys zs m n same there one = subst (λ k. AddsRead read rest xs zs k) (sym there) (subst (λ l. AddsRead read rest xs l m) (sym same) one)

-- a value that holds none
pub AddsRead-one : (read : Option (Data × List Token)) (rest : List Token) (xs ys : Items) (n : ℕ) (x : Opened ℕ) (v : Data) (d : Document)
    → InsideBelow (length xs) x → AscendsInside x → IsDocument d → nodes d ≡ d ∷ [] → numbers_in x ≡ [] → value_behind (values xs) x ≡ d
    → read ≡ Some (v, rest) → document_of v ≡ Some d → (n ≡ length xs) × (ys ≡ xs ++ x ∷ []) → AddsRead read rest xs ys n
AddsRead-one read rest xs ys n x v d below up is alone none same read_as document pushed =
    AddsRead-at read rest xs (xs ++ x ∷ []) ys (length xs) n pushed.1 pushed.0
    (record { value = v; document = d; is_read = read_as; is_document = document; adds = Adds-one xs x d below up is alone none same })

-- a slice up to the end
pub whole_tail : {A : Type 0} (xs : List A) (start : ℕ) → take (length xs - start) (drop start xs) ≡ drop start xs
whole_tail xs start = take_all (length xs - start) (drop start xs) (omega (arith, length-drop start xs))
