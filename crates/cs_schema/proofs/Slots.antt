-- A keyword set in its slot goes last, where the keywords that are present come before it.
use Rattle.std.proofs.Common.{◌≡◌, ℕ, Bool, true, false, List, [], ◌∷◌, Option, Some, None, Less, Greater, bytes_eq, codes, refl, sym, ap, ◌∙◌, subst, rules}
use Rattle.std.proofs.lemmas.Cmp.{nat_list_cmp_total}
use Rattle.std.proofs.lemmas.Slice.Eq.{bytes_eq-Decides}
use Rattle.std.specs.Cmp.Lexicographic.{slice_cmp}
use Rattle.std.specs.Ordering.{nat_cmp, ordering_reverse}
use Rattle.cs_document.specs.Document.{Document, no_members, member}
use Rattle.cs_profile.specs.Trim.{with_member}
use Rattle.cs_profile.specs.SchemaDocument.{Slot, present, set_slot, value_at, definitions_view, unless_no_map}
use Rattle.cs_schema.specs.Reading.{slots}
use Rattle.cs_schema.specs.declared.parts.Parts.{Parts}
use Rattle.cs_profile.specs.Keywords.{name_of, slot_keywords}
use Rattle.cs_profile.specs.Shapes.{form_of}
use Rattle.cs_profile.specs.declared.keyword.Keyword.{Keyword}
use Rattle.cs_profile.specs.declared.keyword.Keyword.TheVariants as keyword
use Rattle.cs_profile.specs.declared.schema.KeywordValue.{KeywordValue}
use Rattle.cs_profile.proofs.Slots.{Above, Ordered, has_slot, slots_at, slots_are}
use Rattle.cs_schema.proofs.Walks.{join, join-nil, KeysBelow}

not_both : (k l : List ℕ) → slice_cmp nat_cmp k l ≡ Less → slice_cmp nat_cmp l k ≡ Less → ⊥
not_both k l a b =
    let e : Less ≡ Greater = sym b ∙ nat_list_cmp_total.antisymm l k ∙ ap ordering_reverse a in cc

none_first : (k n : List ℕ) (o : Option Document) (ss : List Slot) → Above k ((n, o) ∷ ss) → KeysBelow k (present ((n, o) ∷ ss)) → (KeysBelow k (present ss) → present ss ≡ no_members) → present ((n, o) ∷ ss) ≡ no_members
none_first k n None ss a b h = h b
none_first k n (Some v) ss a b h = absurd (not_both k n a.0 b.0)

none_present : (k : List ℕ) (ss : List Slot) → Above k ss → KeysBelow k (present ss) → present ss ≡ no_members
none_present k [] a b = refl
none_present k (s ∷ ss) a b = none_first k s.0 s.1 ss a b (none_present k ss a.1)

at_first : (k n : List ℕ) (v o : Option Document) (ss : List Slot) → k ≡ n → Above n ss → KeysBelow k (present ((n, o) ∷ ss)) → present ((n, v) ∷ ss) ≡ join (present ((n, o) ∷ ss)) (with_member v k no_members)
at_first k n None None ss e a b = sym (join-nil (present ss))
at_first k n (Some v) None ss e a b =
    let none = none_present k ss (subst (λ m. Above m ss) (sym e) a) b in
    rw (none, e)
at_first k n v (Some w) ss e a b = absurd (not_both k k (ap (λ m. slice_cmp nat_cmp m k) e ∙ b.0) (ap (λ m. slice_cmp nat_cmp m k) e ∙ b.0))

at_later : (k n : List ℕ) (v o : Option Document) (ss : List Slot) → (KeysBelow k (present ss) → present (set_slot k v ss) ≡ join (present ss) (with_member v k no_members)) → KeysBelow k (present ((n, o) ∷ ss))
    → present ((n, o) ∷ set_slot k v ss) ≡ join (present ((n, o) ∷ ss)) (with_member v k no_members)
at_later k n v None ss h b = h b
at_later k n v (Some w) ss h b = ap (member n w) (h b.1)

by_test : (k : List ℕ) (v : Option Document) (s : Slot) (ss : List Slot) → Ordered (s ∷ ss) → KeysBelow k (present (s ∷ ss)) → (has_slot k ss ≡ true → KeysBelow k (present ss) → present (set_slot k v ss) ≡ join (present ss) (with_member v k no_members))
    → (t : Bool) → bytes_eq k s.0 ≡ t → has_slot k (s ∷ ss) ≡ true → present (set_slot k v (s ∷ ss)) ≡ join (present (s ∷ ss)) (with_member v k no_members)
by_test k v s ss o b rest true e h = rw e (at_first k s.0 v s.1 ss ((bytes_eq-Decides k s.0).0 e) o.0 b)
by_test k v s ss o b rest false e h = rw e (at_later k s.0 v s.1 ss (rest (rw e at h)) b)

pub set_slot-last : (k : List ℕ) (v : Option Document) (ss : List Slot) → Ordered ss → has_slot k ss ≡ true → KeysBelow k (present ss) → present (set_slot k v ss) ≡ join (present ss) (with_member v k no_members)
set_slot-last k v [] o h b = cc
set_slot-last k v (s ∷ ss) o h b = by_test k v s ss o b (set_slot-last k v ss o.1) (bytes_eq k s.0) refl h

-- ---- the slots of an object

abbrev seen : Parts → List Slot
seen p = (codes "$defs", unless_no_map (definitions_view p.definitions.entries)) ∷ slots_at p.keywords slot_keywords

are_seen : (p : Parts) → slots p ≡ seen p
are_seen p = ap (λ ss. (codes "$defs", unless_no_map (definitions_view p.definitions.entries)) ∷ ss) (slots_are p.keywords)

pub ordered : (p : Parts) → Ordered (slots p)
ordered p = subst Ordered (sym (are_seen p)) (let all : Ordered (seen p) = search rules in all)

-- the keywords that have a slot
abbrev is_kept_keyword : Keyword → Bool
is_kept_keyword keyword.Schema = false
is_kept_keyword keyword.Title = false
is_kept_keyword keyword.Description = false
is_kept_keyword keyword.Comment = false
is_kept_keyword _ = true

seen_slot : (w : Keyword) (p : Parts) → is_kept_keyword w ≡ true → has_slot (name_of w) (seen p) ≡ true
seen_slot keyword.Schema p h = cc
seen_slot keyword.Title p h = cc
seen_slot keyword.Description p h = cc
seen_slot keyword.Comment p h = cc
seen_slot _ p h = refl

has_its_slot : (w : Keyword) (p : Parts) → is_kept_keyword w ≡ true → has_slot (name_of w) (slots p) ≡ true
has_its_slot w p h = ap (has_slot (name_of w)) (are_seen p) ∙ seen_slot w p h

unseen_slot : (w : Keyword) (o : Option Document) (p : Parts) → is_kept_keyword w ≡ false → set_slot (name_of w) o (seen p) ≡ seen p
unseen_slot keyword.Schema o p h = refl
unseen_slot keyword.Title o p h = refl
unseen_slot keyword.Description o p h = refl
unseen_slot keyword.Comment o p h = refl
unseen_slot _ o p h = cc

no_slot : (w : Keyword) (o : Option Document) (p : Parts) → is_kept_keyword w ≡ false → set_slot (name_of w) o (slots p) ≡ slots p
no_slot w o p h = ap (set_slot (name_of w) o) (are_seen p) ∙ unseen_slot w o p h ∙ sym (are_seen p)

-- their values stand for no document
nothing_said : (w : Keyword) (v : KeywordValue) → is_kept_keyword w ≡ false → value_at (form_of w) v ≡ None
nothing_said keyword.Schema v h = refl
nothing_said keyword.Title v h = refl
nothing_said keyword.Description v h = refl
nothing_said keyword.Comment v h = refl
nothing_said _ v h = cc

-- what a keyword says goes last
pub set-last : (w : Keyword) (v : KeywordValue) (p : Parts) → KeysBelow (name_of w) (present (slots p))
    → present (set_slot (name_of w) (value_at (form_of w) v) (slots p)) ≡ join (present (slots p)) (with_member (value_at (form_of w) v) (name_of w) no_members)
set-last w v p b = by_kept (is_kept_keyword w) refl
  where
    by_kept : (t : Bool) → is_kept_keyword w ≡ t → present (set_slot (name_of w) (value_at (form_of w) v) (slots p)) ≡ join (present (slots p)) (with_member (value_at (form_of w) v) (name_of w) no_members)
    by_kept true e = set_slot-last (name_of w) (value_at (form_of w) v) (slots p) (ordered p) (has_its_slot w p e) b
    by_kept false e =
        ap present (no_slot w (value_at (form_of w) v) p e)
        ∙ sym (join-nil (present (slots p)))
        ∙ ap (λ o. join (present (slots p)) (with_member o (name_of w) no_members)) (sym (nothing_said w v e))
