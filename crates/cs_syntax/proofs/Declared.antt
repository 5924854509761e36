-- Declarations of a literal, one by one.
use Rattle.std.proofs.Common.{◌≡◌, ℕ, ◌+◌, ◌<◌, ◌≤◌, Bool, true, false, ◌&&◌, List, [], ◌∷◌, ◌++◌, map, length, drop, get_or, drop-cons, Option, Some, None, refl, sym, ap, ◌∙◌, append_assoc, arith}
use Rattle.std.proofs.Math.Numerals.{add-one}
use Rattle.std.proofs.lemmas.List.{append-nil, drop_all, map-append}
use Rattle.std.specs.List.{cons_option, filter_map}
use Rattle.std.specs.Option.{is_some, option_map}
use Rattle.std.specs.Prelude.{suc}
use Rattle.cs_grammar.specs.declared.ast.Declaration.{Declaration}
use Rattle.cs_grammar.specs.declared.ast.Field.{Field}
use Rattle.cs_grammar.specs.Tree.{Fields, field}
use Rattle.cs_grammar.specs.View.{Seen, SeenDeclaration, field_seen, embedding_seen, conditional_seen, fields_of, field_view, fields_view, declaration_view, declarations_view, declarations_of, declared_field}
use Rattle.cs_grammar.specs.Spells.{fields_alone}

-- ---- whether each declaration is a field

same_some : {A B : Type 0} (f : A → B) (o : Option A) → is_some (option_map f o) ≡ is_some o
same_some f None = refl
same_some f (Some x) = refl

-- whether one declaration is a field, and whether all are
abbrev pub is_field : Declaration → Bool
is_field d = is_some (fields_alone (declarations_of (declaration_view d ∷ [])))

abbrev pub are_fields : List Declaration → Bool
are_fields ds = is_some (fields_alone (declarations_view ds))

seen_each : (d : SeenDeclaration) (ds : List SeenDeclaration) → is_some (fields_alone (declarations_of (d ∷ ds))) ≡ (is_some (fields_alone (declarations_of (d ∷ []))) && is_some (fields_alone (declarations_of ds)))
seen_each (field_seen f) ds = same_some (field f.label f.mark f.value) (fields_alone (declarations_of ds))
seen_each (embedding_seen o e) ds = refl
seen_each (conditional_seen o cs e) ds = refl

each_field : (d : Declaration) (ds : List Declaration) → are_fields (d ∷ ds) ≡ (is_field d && are_fields ds)
each_field d ds = seen_each (declaration_view d) (map declaration_view ds)

module _ (ds : List Declaration) (i : ℕ) (d : Declaration) (l : i < length ds) (is : d ≡ get_or ds i d) where
  first : drop i ds ≡ d ∷ drop (i + 1) ds
  first = rw add-one (drop-cons ds i d l ∙ ap (λ x. x ∷ drop (suc i) ds) (sym is))

  pub past_field : is_field d ≡ true → are_fields (drop (i + 1) ds) ≡ are_fields (drop i ds)
  past_field h = sym (ap are_fields first ∙ each_field d (drop (i + 1) ds) ∙ ap (λ b. b && are_fields (drop (i + 1) ds)) h)

  pub at_embedding : is_field d ≡ false → are_fields (drop i ds) ≡ false
  at_embedding h = ap are_fields first ∙ each_field d (drop (i + 1) ds) ∙ ap (λ b. b && are_fields (drop (i + 1) ds)) h

pub all_fields : (ds : List Declaration) (i : ℕ) → length ds ≤ i → are_fields (drop i ds) ≡ true
all_fields ds i l = ap are_fields (drop_all i ds l)

-- ---- the fields among them

abbrev pub fields_in : List Declaration → List Seen
fields_in ds = filter_map (λ d. declared_field (declaration_view d)) ds

-- where each is a field, these are all
seen_all : (ds : List SeenDeclaration) (fs : Fields) → fields_alone (declarations_of ds) ≡ Some fs → fields_of (filter_map declared_field ds) ≡ fs
seen_all [] fs is = cc
seen_all (field_seen f ∷ ds) fs is = by (λ gs h. seen_all ds gs h) (fields_alone (declarations_of ds)) refl is
  where
    by : ((gs : Fields) → fields_alone (declarations_of ds) ≡ Some gs → fields_of (filter_map declared_field ds) ≡ gs) → (o : Option Fields) → fields_alone (declarations_of ds) ≡ o → option_map (field f.label f.mark f.value) o ≡ Some fs → field f.label f.mark f.value (fields_of (filter_map declared_field ds)) ≡ fs
    by again None h k = absurd cc
    by again (Some gs) h k = let made : field f.label f.mark f.value gs ≡ fs = cc in ap (field f.label f.mark f.value) (again gs h) ∙ made
seen_all (embedding_seen o e ∷ ds) fs is = absurd cc
seen_all (conditional_seen o cs e ∷ ds) fs is = absurd cc

seen_in : (ds : List Declaration) → fields_in ds ≡ filter_map declared_field (map declaration_view ds)
seen_in [] = refl
seen_in (d ∷ ds) = ap (cons_option (declared_field (declaration_view d))) (seen_in ds)

-- at the end
pub in_all : (vs : List Field) (rest ds : List Declaration) (fs : Fields) → 0 ≡ length rest → map field_view vs ++ fields_in rest ≡ fields_in ds → fields_alone (declarations_view ds) ≡ Some fs → fields_view vs ≡ fs
in_all vs [] ds fs none h is = ap fields_of (sym (append-nil (map field_view vs)) ∙ h ∙ seen_in ds) ∙ seen_all (map declaration_view ds) fs is
in_all vs (d ∷ rest) ds fs none h is = absurd (omega arith)

-- one declaration more
pub one_more : (vs : List Field) (f : Field) (d : Declaration) (ds rest : List Declaration) {all : List Seen} → rest ≡ d ∷ ds → Some (field_view f) ≡ declared_field (declaration_view d) → map field_view vs ++ fields_in rest ≡ all → map field_view (vs ++ f ∷ []) ++ fields_in ds ≡ all
one_more vs f d ds rest next is h =
    ap (λ fs. fs ++ fields_in ds) (map-append field_view vs (f ∷ [])) ∙ append_assoc (map field_view vs) (field_view f ∷ []) (fields_in ds)
    ∙ ap (λ o. map field_view vs ++ cons_option o (fields_in ds)) is ∙ ap (λ xs. map field_view vs ++ fields_in xs) (sym next) ∙ h

pub none_more : (vs : List Field) (d : Declaration) (ds rest : List Declaration) {all : List Seen} → rest ≡ d ∷ ds → None ≡ declared_field (declaration_view d) → map field_view vs ++ fields_in rest ≡ all → map field_view vs ++ fields_in ds ≡ all
none_more vs d ds rest next is h = ap (λ o. map field_view vs ++ cons_option o (fields_in ds)) is ∙ ap (λ xs. map field_view vs ++ fields_in xs) (sym next) ∙ h
