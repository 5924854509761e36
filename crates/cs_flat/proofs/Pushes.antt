-- Items pushed, a value after another.
use Rattle.std.proofs.Common.{◌≡◌, ℕ, suc, ◌+◌, ◌<◌, List, [], ◌∷◌, ◌++◌, length, map, Bor, append_assoc, length-append, sym, subst, ap, ap₂, ◌∙◌, arith}
use Rattle.std.specs.List.{AllByRecursion as Each}
use Rattle.std.proofs.lemmas.List.{map-append}
use Rattle.cs_document.specs.Document.{Document, list, object, Documents, document, Members, member, Entry, IsDocument}
use Rattle.cs_document.specs.Inside.{KeysAscend}
use Rattle.cs_document.specs.Opened.{Opened, a_list, an_object}
use Rattle.cs_flat.specs.Items.{inside, inside_elements, inside_members, element_numbers, member_numbers, items_behind, element_items, member_items}
use Rattle.cs_flat.specs.Pushed.{IsPushed, AreElementsPushed, AreMembersPushed}
use Rattle.cs_flat.specs.View.{entry_of}
use Rattle.cs_flat.proofs.Ascents.{numbers_ascend}
use Rattle.cs_flat.proofs.Laws.{length-items, length-element_items, length-member_items, elements_below, entries_below}

-- how many items there are, once those of a value are pushed
length-pushed : (before after : List (Opened ℕ)) (d : Document) → after ≡ before ++ items_behind (length before) d → suc (length before + inside d) ≡ length after
length-pushed before after d e =
    omega (arith, ap length e, length-append before (items_behind (length before) d), length-items (length before) d)

-- a turn of a loop: one value is pushed, and the rest is left
items-turn : (all before after : List (Opened ℕ)) (d : Document) (rest : ℕ → List (Opened ℕ)) → all ≡ before ++ (items_behind (length before) d ++ rest (suc (length before + inside d)))
    → after ≡ before ++ items_behind (length before) d → all ≡ after ++ rest (length after)
items-turn all before after d rest is grown =
    is ∙ sym (append_assoc before (items_behind (length before) d) (rest (suc (length before + inside d))))
    ∙ ap₂ (λ (xs : List (Opened ℕ)) (k : ℕ). xs ++ rest k) (sym grown) (length-pushed before after d grown)

pub element_items-turn : (all before after : List (Opened ℕ)) (d : Document) (ds : Documents) → all ≡ before ++ element_items (length before) (document d ds)
    → after ≡ before ++ items_behind (length before) d → all ≡ after ++ element_items (length after) ds
element_items-turn all before after d ds is grown = items-turn all before after d (λ k. element_items k ds) is grown

pub member_items-turn : (all before after : List (Opened ℕ)) (key : List ℕ) (d : Document) (ms : Members) → all ≡ before ++ member_items (length before) (member key d ms)
    → after ≡ before ++ items_behind (length before) d → all ≡ after ++ member_items (length after) ms
member_items-turn all before after key d ms is grown = items-turn all before after d (λ k. member_items k ms) is grown

pub element_numbers-turn : (all numbers : List ℕ) (before after : List (Opened ℕ)) (n : ℕ) (d : Document) (ds : Documents)
    → all ≡ numbers ++ element_numbers (length before) (document d ds) → n ≡ length before + inside d → after ≡ before ++ items_behind (length before) d
    → all ≡ (numbers ++ n ∷ []) ++ element_numbers (length after) ds
element_numbers-turn all numbers before after n d ds is named grown =
    is ∙ sym (append_assoc numbers ((length before + inside d) ∷ []) (element_numbers (suc (length before + inside d)) ds))
    ∙ ap₂ (λ (m k : ℕ). (numbers ++ m ∷ []) ++ element_numbers k ds) (sym named) (length-pushed before after d grown)

pub member_numbers-turn : (all : List (Entry ℕ)) (numbers : List (Bor (List ℕ) × ℕ)) (before after : List (Opened ℕ)) (e : Bor (List ℕ) × ℕ) (key : List ℕ) (d : Document) (ms : Members)
    → all ≡ map entry_of numbers ++ member_numbers (length before) (member key d ms) → e.0.now ≡ key → e.1 ≡ length before + inside d → after ≡ before ++ items_behind (length before) d
    → all ≡ map entry_of (numbers ++ e ∷ []) ++ member_numbers (length after) ms
member_numbers-turn all numbers before after e key d ms is keyed named grown =
    is ∙ sym (append_assoc (map entry_of numbers) ((key, length before + inside d) ∷ []) (member_numbers (suc (length before + inside d)) ms))
    ∙ ap₂ (λ (m : Entry ℕ) (k : ℕ). (map entry_of numbers ++ m ∷ []) ++ member_numbers k ms) (ap₂ (λ (s : List ℕ) (n : ℕ). (s, n)) (sym keyed) (sym named)) (length-pushed before after d grown)
    ∙ ap (λ (es : List (Entry ℕ)). es ++ member_numbers (length after) ms) (sym (map-append entry_of numbers (e ∷ [])))

-- ---- a value with nothing inside it

pub scalar_pushed : (before after : List (Opened ℕ)) (n : ℕ) (d : Document) (x : Opened ℕ) → items_behind (length before) d ≡ x ∷ [] → inside d ≡ 0 → IsDocument d
    → (n ≡ length before) × (after ≡ before ++ x ∷ []) → IsPushed before after d n
scalar_pushed before after n d x one none fits h = record {
  items = h.1 ∙ ap (λ xs. before ++ xs) (sym one);
  number = omega (arith, none, h.0);
  document = fits;
}

-- ---- a list or a map, behind the items of what is inside it

module _ (before inner : List (Opened ℕ)) (numbers : List ℕ) (ds : Documents) (within : AreElementsPushed before inner ds [] numbers) where
  length-elements_pushed : length inner ≡ length before + inside_elements ds
  length-elements_pushed = omega (arith, ap length within.items, length-append before (element_items (length before) ds), length-element_items (length before) ds)

  pub elements_pushed-below : Each (λ y. y < length inner) numbers
  elements_pushed-below = subst (Each (λ y. y < length inner)) (sym within.numbers) (elements_below (length before) (length inner) ds (omega (arith, length-elements_pushed)))

  pub list_pushed : (after : List (Opened ℕ)) (n : ℕ) → (n ≡ length inner) × (after ≡ inner ++ a_list numbers ∷ []) → IsPushed before after (list ds) n
  list_pushed after n h = record {
    items = h.1 ∙ ap₂ (λ (xs : List (Opened ℕ)) (ys : List ℕ). xs ++ a_list ys ∷ []) within.items within.numbers
        ∙ append_assoc before (element_items (length before) ds) (a_list (element_numbers (length before) ds) ∷ []);
    number = h.0 ∙ length-elements_pushed;
    document = within.documents;
  }

module _ (before inner : List (Opened ℕ)) (numbers : List (Entry ℕ)) (ms : Members) (within : AreMembersPushed before inner ms [] numbers) where
  length-members_pushed : length inner ≡ length before + inside_members ms
  length-members_pushed = omega (arith, ap length within.items, length-append before (member_items (length before) ms), length-member_items (length before) ms)

  pub members_pushed-below : Each (λ (m : Entry ℕ). m.1 < length inner) numbers
  members_pushed-below = subst (Each (λ (m : Entry ℕ). m.1 < length inner)) (sym within.numbers) (entries_below (length before) (length inner) ms (omega (arith, length-members_pushed)))

  pub members_pushed-ascend : KeysAscend numbers
  members_pushed-ascend = subst KeysAscend (sym within.numbers) (numbers_ascend (length before) ms within.documents)

  pub object_pushed : (after : List (Opened ℕ)) (n : ℕ) → (n ≡ length inner) × (after ≡ inner ++ an_object numbers ∷ []) → IsPushed before after (object ms) n
  object_pushed after n h = record {
    items = h.1 ∙ ap₂ (λ (xs : List (Opened ℕ)) (es : List (Entry ℕ)). xs ++ an_object es ∷ []) within.items within.numbers
        ∙ append_assoc before (member_items (length before) ms) (an_object (member_numbers (length before) ms) ∷ []);
    number = h.0 ∙ length-members_pushed;
    document = within.documents;
  }
