-- What a value's kind alone decides of a schema.
use Rattle.std.proofs.Common.{◌≡◌, ℕ, ℤ, Bool, true, false, ◌&&◌, List, [], ◌∷◌, Option, Some, None, is_some, length, refl, sym, ap, ◌∙◌}
use Rattle.std.specs.Prelude.{not}
use Rattle.std.specs.List.{list_all, list_any}
use Rattle.std.specs.Bool.{◌==◌, then_some}
use Rattle.std.specs.Option.{option_map_or}
use Rattle.cs_document.specs.Document.{Document, null, boolean, integer, text, list, object, Entry, under, document_eq}
use Rattle.cs_document.specs.Opened.{Opened, a_null, a_boolean, an_integer, a_text, a_list, an_object, opened}
use Rattle.cs_document.specs.Inside.{map_opened}
use Rattle.cs_document.specs.View.{doc_view}
use Rattle.cs_profile.specs.Validity.{if_there}
use Rattle.cs_rules.specs.Kinds.{both, either, decided_by, verdict_of, AreDecided, Decides, IsItem}
use Rattle.cs_rules.specs.declared.by_kind.ByKind.{ByKind}
use Rattle.cs_rules.proofs.Foretold.{both_decides, either_decides, negated_decides}
use Rattle.cs_validate.specs.declared.rules.Conjunction.{Conjunction}
use Rattle.cs_validate.specs.Asked.{asks_type, asks_any, asks_reference, asks_alternative, asks_integer, asks_text, asks_list, asks_map, asks_kind}
use Rattle.cs_validate.specs.Kinds.{if_asked, equals_by_kind, among_by_kind, any_by_kind, reference_by_kind, negation_by_kind}

-- the map without members has no key
pub none_required : (ks : List (List ℕ)) → list_all (λ k. is_some (under {A = ℕ} k [])) ks ≡ true → ks ≡ []
none_required [] h = refl
none_required (k ∷ ks) h = cc

-- ---- verdicts

pub same_for_all : (v : Option Bool) (x : Opened ℕ) → verdict_of (record { null = v; boolean = v; integer = v; text = v; list = v; object = v }) x ≡ v
same_for_all v a_null = refl
same_for_all v (a_boolean b) = refl
same_for_all v (an_integer z) = refl
same_for_all v (a_text s) = refl
same_for_all v (a_list ys) = refl
same_for_all v (an_object ms) = refl

pub either_no : (o : Option Bool) → either o (Some false) ≡ o
either_no (Some true) = refl
either_no (Some false) = refl
either_no None = refl

pub either_assoc : (o p q : Option Bool) → either (either o p) q ≡ either o (either p q)
either_assoc (Some true) p q = refl
either_assoc (Some false) p q = refl
either_assoc None (Some true) q = refl
either_assoc None (Some false) (Some true) = refl
either_assoc None (Some false) (Some false) = refl
either_assoc None (Some false) None = refl
either_assoc None None (Some true) = refl
either_assoc None None (Some false) = refl
either_assoc None None None = refl

pub as_equal : (o p : Option Bool) (v : Bool) → o ≡ p → Decides p v → Decides o v
as_equal o p v e h b f = h b (sym e ∙ f)

pub and_decides : (q o p : Option Bool) (v w : Bool) → q ≡ both o p → Decides o v → Decides p w → Decides q (v && w)
and_decides q o p v w e h k = as_equal q (both o p) (v && w) e (both_decides o p v w h k)

itself : (v : Bool) → Decides (Some v) v
itself v b e = cc

pub if_asked_decides : {A : Type 0} (f : A → Option Bool) (g : A → Bool) → ((a : A) → Decides (f a) (g a)) → (o : Option A) → Decides (if_asked f o) (if_there g o)
if_asked_decides f g h None = itself true
if_asked_decides f g h (Some a) = h a

-- ---- by `const` and `enum`

module _ {A B : Type 0} (f : A → B) where
  equals_at : (v : Document) (x : Opened A) → equals_by_kind v (map_opened f x) ≡ equals_by_kind v x
  equals_at null a_null = refl
  equals_at (boolean a) (a_boolean b) = refl
  equals_at (integer a) (an_integer b) = refl
  equals_at (text a) (a_text b) = refl
  equals_at (list a) (a_list b) = refl
  equals_at (object a) (an_object b) = refl
  equals_at _ _ = refl

equals_opened : (v d : Document) → Decides (equals_by_kind v (opened d)) (document_eq v d)
equals_opened null null b e = let f : Some true ≡ Some b = e in cc
equals_opened (boolean a) (boolean c) b e = let f : None ≡ Some b = e in cc
equals_opened (integer a) (integer c) b e = let f : None ≡ Some b = e in cc
equals_opened (text a) (text c) b e = let f : None ≡ Some b = e in cc
equals_opened (list a) (list c) b e = let f : None ≡ Some b = e in cc
equals_opened (object a) (object c) b e = let f : None ≡ Some b = e in cc
equals_opened _ _ b e = let f : Some false ≡ Some b = e in cc

module _ (d : Document) (x : Opened ℕ) (is : IsItem d x) where
  equals_decides : (v : Document) → Decides (equals_by_kind v x) (document_eq v d)
  equals_decides v b e = equals_opened v d b (ap (equals_by_kind v) is.1 ∙ equals_at is.0 v x ∙ e)

  among_decides : (vs : List Document) → Decides (among_by_kind vs x) (list_any (λ v. document_eq v d) vs)
  among_decides [] = itself false
  among_decides (v ∷ vs) = either_decides (equals_by_kind v x) (among_by_kind vs x) (document_eq v d) (list_any (λ w. document_eq w d) vs) (equals_decides v) (among_decides vs)

  pub any_decides : (c : Conjunction) → Decides (any_by_kind c x) (asks_any c d x)
  any_decides c =
      both_decides _ _ _ _
      (both_decides _ _ _ _ (itself (asks_type c.keywords.now.kind x)) (if_asked_decides (λ v. equals_by_kind (doc_view v) x) (λ v. document_eq (doc_view v) d) (λ v. equals_decides (doc_view v)) c.keywords.now.equal))
      (if_asked_decides (λ vs. among_by_kind vs x) (λ vs. list_any (λ v. document_eq v d) vs) among_decides c.one_of)

-- ---- by schemas that are asked of the value itself

module _ (earlier : List ByKind) (x : Opened ℕ) (here : ℕ → Bool) (h : AreDecided earlier x here) where
  named_decides : (o : Option ℕ) → Decides (option_map_or (decided_by earlier x) o (Some false)) (option_map_or here o false)
  named_decides None = itself false
  named_decides (Some r) = h r

  pub reference_decides : (c : Conjunction) → Decides (reference_by_kind earlier c x) (asks_reference here c)
  reference_decides c = if_asked_decides _ _ (λ n. named_decides c.reference) c.keywords.now.reference

  pub negation_decides : (o : Option ℕ) → Decides (negation_by_kind earlier o x) (if_there (λ r. not (here r)) o)
  negation_decides o = if_asked_decides _ _ (λ r. negated_decides (decided_by earlier x r) (here r) (h r)) o

pub alternative_decides : (here : ℕ → Bool) (rs : List ℕ) (o : Option Bool) → (length rs == 0) ≡ false → Decides o (list_any here rs) → Decides o (asks_alternative here rs)
alternative_decides here [] o e h = cc
alternative_decides here (r ∷ rs) o e h = h

-- ---- by keywords for values of one kind

then_true : (t b : Bool) → then_some t true ≡ Some b → (t ≡ true) × (true ≡ b)
then_true true b e = (refl, (let f : Some true ≡ Some b = e in cc))
then_true false b e = cc

-- where nothing is asked of a kind, its values are valid by the keywords of their kind
module _ (c : Conjunction) (k : ByKind) (n : k.null ≡ Some true) (t : k.boolean ≡ Some true) (i s l m : Bool)
    (ints : (k.integer ≡ then_some i true) × (i ≡ true → (z : ℤ) → asks_integer c.keywords.now z ≡ true))
    (texts : (k.text ≡ then_some s true) × (s ≡ true → (u : List ℕ) → asks_text c.keywords.now u ≡ true))
    (lists : (k.list ≡ then_some l true) × (l ≡ true → (inside : ℕ → ℕ → Bool) (ys : List ℕ) → asks_list inside c ys ≡ true))
    (maps : (k.object ≡ then_some m true) × (m ≡ true → (inside : ℕ → ℕ → Bool) (ms : List (Entry ℕ)) → asks_map inside c ms ≡ true)) where
  pub absence_decides : (x : Opened ℕ) (inside : ℕ → ℕ → Bool) → Decides (verdict_of k x) (asks_kind inside c x)
  absence_decides a_null inside b e = (let f : Some true ≡ Some b = sym n ∙ e in cc)
  absence_decides (a_boolean v) inside b e = (let f : Some true ≡ Some b = sym t ∙ e in cc)
  absence_decides (an_integer z) inside b e = let f = then_true i b (sym ints.0 ∙ e) in ints.1 f.0 z ∙ f.1
  absence_decides (a_text u) inside b e = let f = then_true s b (sym texts.0 ∙ e) in texts.1 f.0 u ∙ f.1
  absence_decides (a_list ys) inside b e = let f = then_true l b (sym lists.0 ∙ e) in lists.1 f.0 inside ys ∙ f.1
  absence_decides (an_object ms) inside b e = let f = then_true m b (sym maps.0 ∙ e) in maps.1 f.0 inside ms ∙ f.1
