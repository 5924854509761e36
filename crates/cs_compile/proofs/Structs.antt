-- The schema of a struct validates exactly the instances of the struct.
use Rattle.std.proofs.Common.{◌≡◌, ℕ, List, [], ◌∷◌, ◌++◌, map, filter, Bool, true, false, not, ◌&&◌, ◌||◌, Option, Some, None, is_some, codes, bytes_eq, refl, sym, ap, ap₂, ◌∙◌, if◌then◌else◌}
use Rattle.std.specs.Option.{option_map_or}
use Rattle.std.specs.List.{list_all, list_any}
use Rattle.std.proofs.Math.Bool.{and-true}
use Rattle.std.proofs.lemmas.List.{append-nil}
use Rattle.cs_document.specs.Document.{Document, null, boolean, integer, text, list, object, Entry, Members, no_members, member, entries, under}
use Rattle.cs_document.specs.Opened.{opened}
use Rattle.cs_document.proofs.Each.{all_same, each_of}
use Rattle.cs_package.specs.Expression.{Declaration, DeclarationMark, regular, optional, required, every, is_every}
use Rattle.cs_instance.specs.Constraint.{is_object, allows, declaration_holds, value_holds, may_be_absent}
use Rattle.cs_profile.specs.Constraint.{texts_in}
use Rattle.cs_profile.specs.Keywords.{listed_under, entries_of}
use Rattle.cs_profile.specs.SchemaDocument.{unless_no_list}
use Rattle.cs_profile.specs.Trim.{with_member}
use Rattle.cs_profile.specs.Validity.{IsValidity, if_there}
use Rattle.cs_compile.specs.Translation.{struct_schema, properties_of, required_of, labels_of, values_of, one_or_all, unless_empty, closing, must_be_there, of_type, labelled, under_every_key}
use Rattle.cs_compile.specs.Grouped.{for_every_key}
use Rattle.cs_compile.proofs.Asserted.{asserted, all_with, elements_back, valid_object, valid_false, valid_one_or_all}
use Rattle.cs_compile.proofs.Every.{allowed, one_open}
use Rattle.cs_compile.proofs.Firsts.{all_filter}
use Rattle.cs_compile.proofs.Labels.{all_both, all_members_at, any_members_at, by_labels, all_required}

-- the keywords of a struct's schema
abbrev keywords_of : (others all_keys properties labels : Option Document) → Members
keywords_of others all_keys properties labels =
    with_member others (codes "additionalProperties") (
    with_member all_keys (codes "allOf") (
    with_member properties (codes "properties") (
    with_member labels (codes "required") (of_type (codes "object")))))

-- what is listed beside `additionalProperties`
unlisted : (o : Option Document) (k : List ℕ) (ms : Members) → bytes_eq (codes "properties") k ≡ false
    → listed_under (codes "properties") (entries (with_member o k ms)) ≡ listed_under (codes "properties") (entries ms)
unlisted None k ms e = refl
unlisted (Some v) k ms e = rw e refl

listed : (c e p r : Option Document) → listed_under (codes "properties") (entries (keywords_of c e p r)) ≡ option_map_or entries_of p [] ++ []
listed c e p r = unlisted c (codes "additionalProperties") _ refl ∙ unlisted e (codes "allOf") _ refl ∙ behind p r
  where
    behind : (p r : Option Document)
        → listed_under (codes "properties") (entries (with_member p (codes "properties") (with_member r (codes "required") (of_type (codes "object"))))) ≡ option_map_or entries_of p [] ++ []
    behind None None = refl
    behind None (Some r) = refl
    behind (Some p) None = refl
    behind (Some p) (Some r) = refl

listed_members : (ms : Members) → option_map_or entries_of (unless_empty ms) [] ≡ entries ms
listed_members no_members = refl
listed_members (member k d ms) = refl

texts_back : (ls : List (List ℕ)) → texts_in (map text ls) ≡ ls
texts_back [] = refl
texts_back (l ∷ ls) = ap (λ ms. l ∷ ms) (texts_back ls)

any_map : {A B : Type 0} (f : A → B) (p : B → Bool) (xs : List A) → list_any p (map f xs) ≡ list_any (λ x. p (f x)) xs
any_map f p [] = refl
any_map f p (x ∷ xs) = ap (λ b. p (f x) || b) (any_map f p xs)

all_map : {A B : Type 0} (f : A → B) (p : B → Bool) (xs : List A) → list_all p (map f xs) ≡ list_all (λ x. p (f x)) xs
all_map f p [] = refl
all_map f p (x ∷ xs) = ap (λ b. p (f x) && b) (all_map f p xs)

-- ---- truth values

and_then : {b c : Bool} (a : Bool) → b ≡ c → (a && b) ≡ (a && c)
and_then a e = ap (λ b. a && b) e

last_false : (a b c d : Bool) → (a && (b && (c && (d && (false && true))))) ≡ false
last_false true true true true = refl
last_false true true true false = refl
last_false true true false d = refl
last_false true false c d = refl
last_false false b c d = refl

turned : (a b c d : Bool) → (a && (b && (c && (d && (true && true))))) ≡ ((b && (c && d)) && a)
turned a b c d = ap (λ e. a && (b && (c && e))) (and-true d) ∙ swapped a (b && (c && d))
  where
    swapped : (x y : Bool) → (x && y) ≡ (y && x)
    swapped true true = refl
    swapped true false = refl
    swapped false true = refl
    swapped false false = refl

-- ---- what a declaration asks, by whether it is of every key

abbrev if_every : Bool → Bool → Bool
if_every is holds = not is || holds

abbrev if_labelled : Bool → Bool → Bool
if_labelled is holds = not (not is) || holds

-- a label is there or may be absent, and what is there is an instance
value_parts : {A N : Type 0} (inside : A → N → Bool) (d : Declaration N) (o : Option A) → value_holds inside d o ≡ (if_there (λ y. inside y d.value) o && (is_some o || not (must_be_there d.mark)))
value_parts inside d None = go d.mark
  where
    go : (m : DeclarationMark) → may_be_absent m ≡ (true && (false || not (must_be_there m)))
    go regular = refl
    go optional = refl
    go required = refl
    go every = refl
value_parts inside d (Some y) = sym (and-true (inside y d.value))

declaration_parts : {A N : Type 0} (inside : A → N → Bool) (d : Declaration N) (ms : List (Entry A))
    → declaration_holds inside d ms
    ≡ (if_every (is_every d.mark) (list_all (λ m. inside m.1 d.value) ms)
    && (if_labelled (is_every d.mark) (if_there (λ y. inside y d.value) (under d.label ms))
    && if_labelled (is_every d.mark) (is_some (under d.label ms) || not (must_be_there d.mark))))
declaration_parts inside d ms = by_mark (is_every d.mark) _ _ _ _ (value_parts inside d (under d.label ms))
  where
    by_mark : (is all v p l : Bool) → v ≡ (p && l) → (if is then all else v) ≡ (if_every is all && (if_labelled is p && if_labelled is l))
    by_mark true all v p l e = sym (and-true all)
    by_mark false all v p l e = e

there_all : {A : Type 0} (V : Document → A → Bool) (vs : List Document) (o : Option A) → if_there (λ y. list_all (λ v. V v y) vs) o ≡ list_all (λ v. if_there (V v) o) vs
there_all V vs (Some y) = refl
there_all V [] None = refl
there_all V (v ∷ vs) None = there_all V vs None

module _ (R : Document) (V : Document → Document → Bool) (g : IsValidity R V) where
  -- `properties` asks of each label that is there what its declarations ask
  properties_hold : (ds : List (Declaration Document)) (ms : List (Entry Document))
      → list_all (λ (e : Entry Document). if_there (λ y. V e.1 y) (under e.0 ms)) (entries (properties_of ds)) ≡ list_all (λ d. if_there (λ y. V d.value y) (under d.label ms)) ds
  properties_hold ds ms =
      all_members_at (λ l. one_or_all (values_of l ds)) (λ e. if_there (λ y. V e.1 y) (under e.0 ms)) (labels_of ds)
      ∙ all_same _ _ (labels_of ds) (each_of _ (λ l. at (values_of l ds) (under l ms)) (labels_of ds))
      ∙ by_labels (λ l v. if_there (V v) (under l ms)) ds
    where
      at : (vs : List Document) (o : Option Document) → if_there (λ y. V (one_or_all vs) y) o ≡ list_all (λ v. if_there (V v) o) vs
      at vs None = there_all V vs None
      at vs (Some y) = valid_one_or_all R V g vs y

  -- the keys that `additionalProperties` leaves alone are the labels
  keys_listed : (ds : List (Declaration Document)) (c e r : Option Document) (k : List ℕ)
      → list_any (bytes_eq k) (map (λ m. m.0) (listed_under (codes "properties") (entries (keywords_of c e (unless_empty (properties_of ds)) r)))) ≡ list_any (λ d. bytes_eq k d.label) ds
  keys_listed ds c e r k =
      ap (λ es. list_any (bytes_eq k) (map (λ m. m.0) es)) (listed c e (unless_empty (properties_of ds)) r ∙ append-nil _ ∙ listed_members (properties_of ds))
      ∙ any_map (λ m. m.0) (bytes_eq k) (entries (properties_of ds))
      ∙ any_members_at (bytes_eq k) (labels_of ds) (λ l. one_or_all (values_of l ds))
      ∙ any_map (λ d. d.label) (bytes_eq k) ds

  or_false : (b c : Bool) → c ≡ false → (b || c) ≡ b
  or_false true c e = refl
  or_false false c e = e

  -- an object with no `properties` asks its `additionalProperties` of the value under every key
  every_valid : (s : Document) (ms : Members) → V (for_every_key s) (object ms) ≡ list_all (λ (m : Entry Document). V s m.1) (entries ms)
  every_valid s ms = g _ _ ∙ and-true _

  -- the keywords of the schema of a struct, and what each asserts
  module _ (ds : List (Declaration Document)) (is_opened : Bool) where
    abbrev has_every : Bool
    has_every = list_any (λ d. is_every d.mark) ds

    abbrev others : Option Document
    others = closing (is_opened || has_every)

    abbrev all_keys : Option Document
    all_keys = unless_no_list (under_every_key ds)

    abbrev properties : Option Document
    properties = unless_empty (properties_of (labelled ds))

    abbrev labels : Option Document
    labels = unless_no_list (map text (required_of (labelled ds)))

    abbrev holds_here : Document → Entry Document → Bool
    holds_here x = asserted R V g (entries (keywords_of others all_keys properties labels)) x

    abbrev part : Document → List ℕ → Option Document → Bool
    part x k o = option_map_or (λ v. holds_here x (k, v)) o true

    by_keywords : (x : Document) (t : Bool) → holds_here x (codes "type", text (codes "object")) ≡ t
        → V (struct_schema ds is_opened) x
        ≡ (part x (codes "additionalProperties") others && (part x (codes "allOf") all_keys && (part x (codes "properties") properties && (part x (codes "required") labels && (t && true)))))
    by_keywords x t e =
        valid_object R V g _ x
        ∙ all_with (holds_here x) others (codes "additionalProperties") behind_others
        ∙ and_then (part x (codes "additionalProperties") others) (
        all_with (holds_here x) all_keys (codes "allOf") behind_all
        ∙ and_then (part x (codes "allOf") all_keys) (
        all_with (holds_here x) properties (codes "properties") behind_properties
        ∙ and_then (part x (codes "properties") properties) (
        all_with (holds_here x) labels (codes "required") (of_type (codes "object"))
        ∙ and_then (part x (codes "required") labels) (ap (λ b. b && true) e))))
      where
        behind_properties : Members
        behind_properties = with_member labels (codes "required") (of_type (codes "object"))

        behind_all : Members
        behind_all = with_member properties (codes "properties") behind_properties

        behind_others : Members
        behind_others = with_member all_keys (codes "allOf") behind_all

    other_kind : (x : Document) → holds_here x (codes "type", text (codes "object")) ≡ false → V (struct_schema ds is_opened) x ≡ false
    other_kind x e =
        by_keywords x false e
        ∙ last_false (part x (codes "additionalProperties") others) (part x (codes "allOf") all_keys) (part x (codes "properties") properties) (part x (codes "required") labels)

    -- of a map
    module _ (ms : Members) where
      abbrev are_allowed : Bool
      are_allowed = is_opened || list_all (λ (m : Entry Document). list_any (λ d. allows d m.0) ds) (entries ms)

      abbrev every_holds : Declaration Document → Bool
      every_holds d = if_every (is_every d.mark) (list_all (λ (m : Entry Document). V d.value m.1) (entries ms))

      abbrev labelled_holds : Declaration Document → Bool
      labelled_holds d = if_labelled (is_every d.mark) (if_there (λ y. V d.value y) (under d.label (entries ms)))

      abbrev is_there : Declaration Document → Bool
      is_there d = if_labelled (is_every d.mark) (is_some (under d.label (entries ms)) || not (must_be_there d.mark))

      others_assert : part (object ms) (codes "additionalProperties") others ≡ are_allowed
      others_assert =
          go (is_opened || has_every) all_keys labels
          ∙ one_open is_opened has_every (λ (m : Entry Document). list_any (λ d. bytes_eq m.0 d.label) (labelled ds)) (entries ms)
          ∙ ap (λ b. is_opened || b) (all_same _ _ (entries ms) (each_of _ (λ m. sym (allowed ds m.0)) (entries ms)))
        where
          go : (c : Bool) (e r : Option Document) → option_map_or (λ v. asserted R V g (entries (keywords_of (closing c) e properties r)) (object ms) (codes "additionalProperties", v)) (closing c) true
              ≡ (c || list_all (λ (m : Entry Document). list_any (λ d. bytes_eq m.0 d.label) (labelled ds)) (entries ms))
          go true e r = refl
          go false e r = all_same _ _ (entries ms) (each_of _ (λ m. or_false _ (V (boolean false) m.1) (valid_false R V g m.1) ∙ keys_listed (labelled ds) (closing false) e r m.0) (entries ms))

      all_keys_assert : part (object ms) (codes "allOf") all_keys ≡ list_all every_holds ds
      all_keys_assert =
          go (under_every_key ds)
          ∙ all_map (λ d. for_every_key d.value) (λ s. V s (object ms)) (filter (λ d. is_every d.mark) ds)
          ∙ all_filter (λ d. V (for_every_key d.value) (object ms)) (λ d. is_every d.mark) ds
          ∙ all_same _ _ ds (each_of _ (λ d. ap (if_every (is_every d.mark)) (every_valid d.value ms)) ds)
        where
          go : (ss : List Document) → part (object ms) (codes "allOf") (unless_no_list ss) ≡ list_all (λ s. V s (object ms)) ss
          go [] = refl
          go (s ∷ ss) = ap (list_all (λ t. V t (object ms))) (elements_back (s ∷ ss))

      properties_assert : part (object ms) (codes "properties") properties ≡ list_all labelled_holds ds
      properties_assert =
          go (properties_of (labelled ds)) ∙ properties_hold (labelled ds) (entries ms)
          ∙ all_filter (λ d. if_there (λ y. V d.value y) (under d.label (entries ms))) (λ d. not (is_every d.mark)) ds
        where
          go : (ps : Members) → part (object ms) (codes "properties") (unless_empty ps) ≡ list_all (λ (e : Entry Document). if_there (λ y. V e.1 y) (under e.0 (entries ms))) (entries ps)
          go no_members = refl
          go (member k d ps) = refl

      labels_assert : part (object ms) (codes "required") labels ≡ list_all is_there ds
      labels_assert =
          go (required_of (labelled ds)) ∙ all_required (λ l. is_some (under l (entries ms))) (labelled ds)
          ∙ all_filter (λ d. is_some (under d.label (entries ms)) || not (must_be_there d.mark)) (λ d. not (is_every d.mark)) ds
        where
          go : (ls : List (List ℕ)) → part (object ms) (codes "required") (unless_no_list (map text ls)) ≡ list_all (λ l. is_some (under l (entries ms))) ls
          go [] = refl
          go (l ∷ ls) = ap (λ ts. list_all (λ k. is_some (under k (entries ms))) ts) (ap texts_in (elements_back (map text (l ∷ ls))) ∙ texts_back (l ∷ ls))

      declarations_hold : list_all (λ d. declaration_holds (λ y s. V s y) d (entries ms)) ds ≡ (list_all every_holds ds && (list_all labelled_holds ds && list_all is_there ds))
      declarations_hold =
          all_same _ _ ds (each_of _ (λ d. declaration_parts (λ y s. V s y) d (entries ms)) ds)
          ∙ all_both every_holds (λ d. labelled_holds d && is_there d) ds
          ∙ and_then (list_all every_holds ds) (all_both labelled_holds is_there ds)

      map_holds : V (struct_schema ds is_opened) (object ms) ≡ is_object (λ y s. V s y) ds is_opened (opened (object ms))
      map_holds =
          by_keywords (object ms) true refl
          ∙ ap₂ (λ a b. a && b) others_assert (ap₂ (λ a b. a && b) all_keys_assert (ap₂ (λ a b. a && (b && (true && true))) properties_assert labels_assert))
          ∙ turned are_allowed (list_all every_holds ds) (list_all labelled_holds ds) (list_all is_there ds)
          ∙ ap (λ b. b && are_allowed) (sym declarations_hold)

  pub struct_holds : (ds : List (Declaration Document)) (is_opened : Bool) (x : Document) → V (struct_schema ds is_opened) x ≡ is_object (λ y s. V s y) ds is_opened (opened x)
  struct_holds ds o (object ms) = map_holds ds o ms
  struct_holds ds o null = other_kind ds o null refl
  struct_holds ds o (boolean b) = other_kind ds o (boolean b) refl
  struct_holds ds o (integer z) = other_kind ds o (integer z) refl
  struct_holds ds o (text s) = other_kind ds o (text s) refl
  struct_holds ds o (list es) = other_kind ds o (list es) refl
