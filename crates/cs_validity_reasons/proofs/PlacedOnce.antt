-- Causes without texts that name the same cause are the same.
use Rattle.std.proofs.Common.{◌≡◌, ℕ, zero, suc, true, false, List, [], ◌∷◌, None, Some, Less, slice_index, String, Global, string_bytes, string_cmp, bytes_eq, nat_cmp, is_eq, refl, sym, ap, ◌∙◌, subst}
use Rattle.std.specs.Prelude.{slice_get}
use Rattle.std.specs.Cmp.Lexicographic.{slice_cmp}
use Rattle.std.specs.List.{AllByRecursion as Each}
use Rattle.std.specs.List.Sorted.{IsStrictlySortedBy}
use Rattle.std.specs.Map.{keys_of}
use Rattle.std.proofs.lemmas.Map.Text.{is_eq-slice_cmp}
use Rattle.std.proofs.lemmas.Option.{same_Some}
use Rattle.std.proofs.lemmas.Slice.Eq.{bytes_eq-Decides}
use Rattle.cs_document.specs.Document.{Document, Entry}
use Rattle.cs_document.specs.Inside.{map_entry}
use Rattle.cs_document.specs.Opened.{Opened, an_object}
use Rattle.cs_flat.specs.Listed.{document_in, IsListed}
use Rattle.cs_table.specs.Judged.{AllVerdicts}
use Rattle.cs_profile.specs.Numbered.{numbered as numbers_from, names_in}
use Rattle.cs_profile.specs.Profile.{walk_fault}
use Rattle.cs_profile.specs.declared.keyword.Vocabulary.TheVariants as vocabulary
use Rattle.cs_profile.specs.declared.schema.Schema.{Schema}
use Rattle.cs_validate.specs.Asked.{places_named}
use Rattle.cs_validity_reasons.specs.Causes as cause
use Rattle.cs_validity_reasons.specs.NumberedCauses.{NumberedCause}
use Rattle.cs_validity_reasons.specs.PlacedCauses.{members_in, required_in, named_in, IsKeyed, StaysAt, IsPlacedCause}
use Rattle.cs_validate.specs.Rooted.{IsRooted}
use Rattle.cs_validate.specs.Steps.{properties_place}
use Rattle.cs_validate.specs.declared.rules.Rule.{Rule as Coded}
use Rattle.cs_validate.specs.declared.rules.Rule.TheVariants as rule
use Rattle.cs_validity_reasons.specs.Led.{PlacedCause}
use Rattle.cs_validity_reasons.specs.declared.cause.KeyedCause.TheVariants.{Reference, Part, Alternative, Property, Additional, Prefix, Items, Never, Missing, Keyword, NoAlternative}
use Rattle.cs_validity_reasons.proofs.Contained.{got_map_back}
use Rattle.cs_validity_reasons.proofs.KeyedOnce.{same_place}
use Rattle.cs_validity_reasons.proofs.PlacedNamed.{named, named_is}
use Rattle.cs_validity_reasons.proofs.RequiredOnce.{AreApart, required_apart}
use Rattle.cs_validity_reasons.proofs.Tells.{AreDistinct}

-- ---- names in order

not_less : (a b : List ℕ) → a ≡ b → slice_cmp nat_cmp a b ≡ Less → ⊥
not_less a b same e =
    let y : bytes_eq a b ≡ true = (bytes_eq-Decides a b).1 same in
    let n : bytes_eq a b ≡ false = sym (is_eq-slice_cmp a b) ∙ ap is_eq e in
    let no : true ≡ false = sym y ∙ n in cc

module _ (n : String Global) where
  less_at : (es : List (String Global × Schema)) → Each (λ m. string_cmp n m ≡ Less) (keys_of es) → (j : ℕ) (t : List ℕ) → slice_get (names_in es) j ≡ Some t → slice_cmp nat_cmp (string_bytes n) t ≡ Less
  less_at [] h j t e = cc
  less_at (f ∷ es) h zero t e = subst (λ u. slice_cmp nat_cmp (string_bytes n) u ≡ Less) (same_Some (string_bytes f.0) t e) h.0
  less_at (f ∷ es) h (suc j) t e = less_at es h.1 j t e

names_apart : (es : List (String Global × Schema)) → IsStrictlySortedBy string_cmp (keys_of es) → AreApart (names_in es)
unfolding IsStrictlySortedBy
names_apart [] h i j t d e = cc
names_apart (f ∷ es) h zero zero t d e = refl
names_apart (f ∷ es) h zero (suc j) t d e = absurd (not_less (string_bytes f.0) t (same_Some (string_bytes f.0) t d) (less_at f.0 es h.0 j t e))
names_apart (f ∷ es) h (suc i) zero t d e = absurd (not_less (string_bytes f.0) t (same_Some (string_bytes f.0) t e) (less_at f.0 es h.0 i t d))
names_apart (f ∷ es) h (suc i) (suc j) t d e = ap suc (names_apart es h.1 i j t d e)

-- the name at a place
name_at : (n : ℕ) (ks : List (List ℕ)) (j : ℕ) (e : Entry ℕ) → slice_get (numbers_from n ks) j ≡ Some e → slice_get ks j ≡ Some e.0
name_at n [] j e h = cc
name_at n (k ∷ ks) zero e h = ap (λ (z : Entry ℕ). Some z.0) (same_Some (k, n) e h)
name_at n (k ∷ ks) (suc j) e h = name_at (suc n) ks j e h

-- ---- keys at places

-- no key is at two places; no value is
abbrev KeysApart : List (Entry ℕ) → Type 0
KeysApart es = (i j : ℕ) (k : List ℕ) (x y : ℕ) → slice_get es i ≡ Some (k, x) → slice_get es j ≡ Some (k, y) → i ≡ j

abbrev ValuesApart : List (Entry ℕ) → Type 0
ValuesApart es = (i j : ℕ) (k l : List ℕ) (x : ℕ) → slice_get es i ≡ Some (k, x) → slice_get es j ≡ Some (l, x) → i ≡ j

named_apart : (inner : List ℕ) (a : Coded) → KeysApart (named_in inner a)
named_apart inner (rule.Truth b) i j k x y d e = cc
named_apart inner (rule.Object c) i j k x y d e =
    let es = c.keywords.now.properties.entries in
    let m = got_map_back (map_entry (slice_index inner)) (places_named (properties_place c) es) i (k, x) d in
    let n = got_map_back (map_entry (slice_index inner)) (places_named (properties_place c) es) j (k, y) e in
    let first : m.0.0 ≡ k = ap (λ (z : Entry ℕ). z.0) m.2 in
    let second : n.0.0 ≡ k = ap (λ (z : Entry ℕ). z.0) n.2 in
    names_apart es c.ordered i j k (name_at (properties_place c) (names_in es) i m.0 m.1 ∙ ap (λ l. Some l) first) (name_at (properties_place c) (names_in es) j n.0 n.1 ∙ ap (λ l. Some l) second)

module _ (i : ℕ) (ms : List (Entry ℕ)) (ks : List (List ℕ)) (ps : List (Entry ℕ)) (members : ValuesApart ms) (required : AreApart ks) (declared : KeysApart ps) where
  -- by a cause with keys
  same_keyed : (c d : PlacedCause) (n : NumberedCause) → StaysAt i c → StaysAt i d → IsKeyed ms ks ps c n → IsKeyed ms ks ps d n → c ≡ d
  same_keyed (Reference x q) (Reference y s) n a b h g = let e : cause.reference q ≡ cause.reference s = sym h ∙ g in cc
  same_keyed (Reference x q) _ n a b h g = cc
  same_keyed (Part x q k) (Part y s l) n a b h g = let e : cause.part k q ≡ cause.part l s = sym h ∙ g in cc
  same_keyed (Part x q k) _ n a b h g = cc
  same_keyed (Alternative x q k) (Alternative y s l) n a b h g = let e : cause.alternative k q ≡ cause.alternative l s = sym h ∙ g in cc
  same_keyed (Alternative x q k) _ n a b h g = cc
  same_keyed (Property k x q) (Property l y s) n a b h g =
      let e : cause.property h.0 x q ≡ cause.property g.0 y s = sym h.2 ∙ g.2 in
      let key : h.0 ≡ g.0 = cc in
      let place : k ≡ l = declared k l h.0 q s h.1 (subst (λ t. slice_get ps l ≡ Some (t, s)) (sym key) g.1) in cc
  same_keyed (Property k x q) _ n a b h g = cc
  same_keyed (Additional k x q) (Additional l y s) n a b h g =
      let e : cause.additional h.0 x q ≡ cause.additional g.0 y s = sym h.2 ∙ g.2 in
      let value : x ≡ y = cc in
      let place : k ≡ l = members k l h.0 g.0 x h.1 (subst (λ z. slice_get ms l ≡ Some (g.0, z)) (sym value) g.1) in cc
  same_keyed (Additional k x q) _ n a b h g = cc
  same_keyed (Prefix k x q) (Prefix l y s) n a b h g = let e : cause.prefix k x q ≡ cause.prefix l y s = sym h ∙ g in cc
  same_keyed (Prefix k x q) _ n a b h g = cc
  same_keyed (Items k x q) (Items l y s) n a b h g = let e : cause.items k x q ≡ cause.items l y s = sym h ∙ g in cc
  same_keyed (Items k x q) _ n a b h g = cc
  same_keyed Never Never n a b h g = refl
  same_keyed Never _ n a b h g = cc
  same_keyed (Missing k) (Missing l) n a b h g =
      let e : cause.missing h.0 ≡ cause.missing g.0 = sym h.2 ∙ g.2 in
      let key : h.0 ≡ g.0 = cc in
      let place : k ≡ l = required k l h.0 h.1 (subst (λ t. slice_get ks l ≡ Some t) (sym key) g.1) in cc
  same_keyed (Missing k) _ n a b h g = cc
  same_keyed (Keyword w) (Keyword v) n a b h g = let e : cause.by_keyword w ≡ cause.by_keyword v = sym h ∙ g in cc
  same_keyed (Keyword w) _ n a b h g = cc
  same_keyed NoAlternative NoAlternative n a b h g = refl
  same_keyed NoAlternative _ n a b h g = cc

-- ---- causes of a pair

module _ (R : Document) (xs : List (Opened ℕ)) (root : ℕ) (rules : List Coded) (inner : List ℕ) (rooted : IsRooted R rules inner root) (shaped : walk_fault vocabulary.Wide R ≡ None) (listed : IsListed (document_in xs) xs) where
  members_apart : (j : ℕ) (x : Opened ℕ) → slice_get xs j ≡ Some x → ValuesApart (members_in x)
  members_apart j (an_object ms) e p q k l y a b = same_place (document_in xs) xs listed j ms e y p q k l a b
  members_apart j _ e p q k l y a b = cc

  required_once : (r : ℕ) (a : Coded) → slice_get rules r ≡ Some a → AreApart (required_in a)
  required_once r (rule.Truth b) e i j k d g = cc
  required_once r (rule.Object c) e i j k d g = required_apart R rules inner root rooted shaped r c e i j k d g

  pub placed_distinct : (f : AllVerdicts) → AreDistinct (IsPlacedCause f xs rules inner) (named f xs rules inner)
  placed_distinct f j q c d h g e =
      let value : g.value ≡ h.value = same_Some g.value h.value (sym g.at_item ∙ h.at_item) in
      let asks : g.asks ≡ h.asks = same_Some g.asks h.asks (sym g.at_rule ∙ h.at_rule) in
      let same : g.named ≡ h.named = named_is f xs rules inner j q d g ∙ sym e ∙ sym (named_is f xs rules inner j q c h) in
      let here = subst (λ x. IsKeyed (members_in x) (required_in g.asks) (named_in inner g.asks) d g.named) value g.keyed in
      let there = subst (λ a. IsKeyed (members_in h.value) (required_in a) (named_in inner a) d g.named) asks here in
      let keyed = subst (IsKeyed (members_in h.value) (required_in h.asks) (named_in inner h.asks) d) same there in
      same_keyed j (members_in h.value) (required_in h.asks) (named_in inner h.asks) (members_apart j h.value h.at_item) (required_once q h.asks h.at_rule) (named_apart inner h.asks)
      c d h.named h.stays g.stays h.keyed keyed
