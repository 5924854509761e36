-- Without notes the definitions refer to the same names, so none reaches itself where none did.
use Rattle.std.proofs.Common.{◌≡◌, ℕ, Bool, true, false, List, [], ◌∷◌, ◌++◌, Option, Some, None, option_map, bytes_eq, refl, sym, ap, ap₂, ◌∙◌, subst, IsTrue, if◌then◌else◌}
use Rattle.std.specs.Option.{option_and_then, option_map_or}
use Rattle.std.specs.List.{list_any}
use Rattle.cs_graph.specs.Chains.{Chain}
use Rattle.cs_document.specs.Document.{Document, null, boolean, integer, text, list, object, Documents, no_documents, document, Members, no_members, member, under}
use Rattle.cs_profile.specs.Keywords.{keywords, defined}
use Rattle.cs_profile.specs.declared.keyword.Keyword.{Keyword}
use Rattle.cs_profile.specs.declared.keyword.Keyword.TheVariants as keyword
use Rattle.cs_profile.specs.Loops.{by_keyword, direct_names, keyword_names, list_names, each_names, RefersDirectly, NoLoop}
use Rattle.cs_profile.specs.ValueNames.{value_names}
use Rattle.cs_profile.specs.Shapes.{form_in}
use Rattle.cs_describe.specs.Plain.{as_schema, plain_by, schema_without, members_without, list_without, elements_without, values_without, value_without, without, LeavesOutNotes}
use Rattle.cs_describe.proofs.PlainDefined.{of_note, defined_plain}

module _ (left_out : List ℕ → Bool) (notes : LeavesOutNotes left_out) where
  -- ---- the names that a schema refers to directly

  as_named : (ns : Members) → direct_names (as_schema ns) ≡ keyword_names ns
  as_named no_members = refl
  as_named (member k v ns) = refl

  value_names_plain : (o : Option Keyword) (v : Document) → direct_names (schema_without left_out v) ≡ direct_names v → list_names (list_without left_out v) ≡ list_names v
      → by_keyword o (value_names (plain_by (option_and_then (form_in false) o) (values_without left_out v))) ≡ by_keyword o (value_names v)
  value_names_plain (Some keyword.AllOf) v itself elements = elements
  value_names_plain (Some keyword.AnyOf) v itself elements = elements
  value_names_plain (Some keyword.Not) v itself elements = itself
  value_names_plain _ v itself elements = refl

  member_names_plain : (k : List ℕ) (v : Document) (ns ms : Members) → keyword_names ns ≡ keyword_names ms
      → by_keyword (under k keywords) (value_names (value_without left_out false k v)) ≡ by_keyword (under k keywords) (value_names v) → (t : Bool) → left_out k ≡ t
      → keyword_names (if t then ns else member k (value_without left_out false k v) ns) ≡ keyword_names (member k v ms)
  member_names_plain k v ns ms h value false e = ap₂ (λ xs ys. xs ++ ys) value h
  member_names_plain k v ns ms h value true e = of_note (λ n. keyword_names ns ≡ keyword_names (member n v ms)) h h k (notes k e)

  mutual
    names_plain : (s : Document) → direct_names (schema_without left_out s) ≡ direct_names s
    names_plain (object ks) = as_named (members_without left_out false ks) ∙ keyword_names_plain ks
    names_plain null = refl
    names_plain (boolean b) = refl
    names_plain (integer z) = refl
    names_plain (text t) = refl
    names_plain (list ds) = refl

    keyword_names_plain : (ks : Members) → keyword_names (members_without left_out false ks) ≡ keyword_names ks
    keyword_names_plain no_members = refl
    keyword_names_plain (member k v ks) =
        member_names_plain k v (members_without left_out false ks) ks (keyword_names_plain ks) (value_names_plain (under k keywords) v (names_plain v) (list_names_plain v)) (left_out k) refl

    list_names_plain : (s : Document) → list_names (list_without left_out s) ≡ list_names s
    list_names_plain (list ds) = each_names_plain ds
    list_names_plain null = refl
    list_names_plain (boolean b) = refl
    list_names_plain (integer z) = refl
    list_names_plain (text t) = refl
    list_names_plain (object ks) = refl

    each_names_plain : (ds : Documents) → each_names (elements_without left_out ds) ≡ each_names ds
    each_names_plain no_documents = refl
    each_names_plain (document d ds) = ap₂ (λ xs ys. xs ++ ys) (names_plain d) (each_names_plain ds)

  -- ---- loops

  found_names : (o : Option Document) → option_map_or direct_names (option_map (schema_without left_out) o) [] ≡ option_map_or direct_names o []
  found_names None = refl
  found_names (Some s) = names_plain s

  names_alike : (R : Document) (n : List ℕ) → option_map_or direct_names (defined (without left_out R) n) [] ≡ option_map_or direct_names (defined R n) []
  names_alike R n = ap (λ o. option_map_or direct_names o []) (defined_plain left_out notes R n) ∙ found_names (defined R n)

  refers_alike : (R : Document) (n m : List ℕ) → RefersDirectly (without left_out R) n m ≡ RefersDirectly R n m
  refers_alike R n m = ap (λ ns. IsTrue (list_any (bytes_eq m) ns)) (names_alike R n)

  chain_of : {X : Type 0} (R S : X → X → Type 0) → ((x y : X) → R x y → S x y) → (x : X) (xs : List X) → Chain R x xs → Chain S x xs
  chain_of R S f x [] c = tt
  chain_of R S f x (y ∷ ys) c = (f x y c.0, chain_of R S f y ys c.1)

  no_loop_of : (R S : Document) → ((n m : List ℕ) → RefersDirectly S n m → RefersDirectly R n m) → NoLoop R → NoLoop S
  no_loop_of R S f none n ns c = none n ns (chain_of (RefersDirectly S) (RefersDirectly R) f n (ns ++ n ∷ []) c)

  pub no_loop_plain : (R : Document) → NoLoop R → NoLoop (without left_out R)
  no_loop_plain R none = no_loop_of R (without left_out R) (λ n m r. subst (λ (P : Type 0). P) (refers_alike R n m) r) none

  pub no_loop_full : (R : Document) → NoLoop (without left_out R) → NoLoop R
  no_loop_full R none = no_loop_of (without left_out R) R (λ n m r. subst (λ (P : Type 0). P) (sym (refers_alike R n m)) r) none
