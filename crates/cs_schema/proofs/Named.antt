-- The references that a walk meets, and whether their names are defined.
use Rattle.std.proofs.Common.{◌≡◌, ℕ, Bool, true, false, List, [], ◌∷◌, ◌++◌, ◌==◌, Option, Some, None, option_map, is_some, String, Global, codes, bytes_eq, nat_cmp, string_bytes, refl, sym, ap, ap₂, ◌∙◌, if◌then◌else◌}
use Rattle.std.proofs.lemmas.Bool.{eq-eqb, eqb-true}
use Rattle.std.specs.BTreeMap.{is_at}
use Rattle.std.specs.Cmp.Lexicographic.{slice_cmp}
use Rattle.std.specs.Map.{lookup}
use Rattle.cs_document.specs.Document.{Document, text}
use Rattle.cs_profile.specs.Keywords.{reference_start, text_after}
use Rattle.cs_profile.specs.Places.{at_key}
use Rattle.cs_profile.specs.Shapes.{form_at}
use Rattle.cs_profile.specs.Profile.{undefined, first, or_else, undefined_at, reference_fault, unless_defined, within}
use Rattle.cs_profile.specs.Values.{value_visits, keyword_visits}
use Rattle.cs_profile.specs.SchemaDocument.{schema_view}
use Rattle.cs_profile.specs.declared.keyword.Form.{Form}
use Rattle.cs_profile.specs.declared.schema.Schema.{Schema}
use Rattle.cs_profile.proofs.Definitions.{found}
use Rattle.cs_profile.proofs.Profiles.{is_some-map}
use Rattle.cs_schema.specs.Reading.{inside, below, is_defined_in}
use Rattle.cs_schema.proofs.Placed.{inside_fault_at, names_placed}

-- what a map of definitions says of a name
pub contained : (n : List ℕ) (es : List (String Global × Schema)) → is_some (lookup (is_at (λ k. slice_cmp nat_cmp n (string_bytes k))) es) ≡ is_defined_in es n
contained n es = sym (is_some-map schema_view (lookup (is_at (λ k. slice_cmp nat_cmp n (string_bytes k))) es)) ∙ ap is_some (found schema_view n es)

-- a text that begins with p, and one that does not
pub after_start : (p n t : List ℕ) → t ≡ p ++ n → text_after p t ≡ Some n
after_start p n t e = ap (text_after p) e ∙ after_own p
  where
    after_own : (p : List ℕ) → text_after p (p ++ n) ≡ Some n
    after_own [] = refl
    after_own (a ∷ p) = ap (λ b. if b then text_after p (p ++ n) else None) (eq-eqb a a refl) ∙ after_own p

pub after_none : (p t : List ℕ) → ((rest : List ℕ) → t ≡ p ++ rest → ⊥) → text_after p t ≡ None
after_none [] t h = absurd (h t refl)
after_none (a ∷ p) [] h = refl
after_none (a ∷ p) (b ∷ t) h = by_test (a == b) refl (after_none p t)
  where
    by_test : (s : Bool) → (a == b) ≡ s → (((rest : List ℕ) → t ≡ p ++ rest → ⊥) → text_after p t ≡ None) → (if s then text_after p t else None) ≡ None
    by_test false e more = refl
    by_test true e more = more (λ rest is. h rest (ap₂ (λ c cs. c ∷ cs) (sym (eqb-true a b e)) is))

module _ (known : List ℕ → Bool) where
  -- under another key
  other_named : (root : Bool) (k : List ℕ) (v : Document) (f : Option Form) → form_at root k ≡ f → bytes_eq k (codes "$ref") ≡ false
      → first (undefined_at known) (keyword_visits root [] k v) ≡ first (undefined_at known) (within f (value_visits (at_key [] k) v))
  other_named root k v f e other =
      ap₂ (λ t o. or_else (if t then reference_fault known [] v else None) (first (undefined_at known) (within o (value_visits (at_key [] k) v)))) other e

  pub keyword_named : (root : Bool) (k : List ℕ) (v : Document) (f : Form) → form_at root k ≡ Some f → bytes_eq k (codes "$ref") ≡ false
      → first (undefined_at known) (keyword_visits root [] k v) ≡ option_map (below (at_key [] k)) (first (undefined_at known) (inside f v))
  keyword_named root k v f e other = other_named root k v (Some f) e other ∙ inside_fault_at (undefined_at known) (names_placed known) (at_key [] k) f v

  -- what holds no reference
  pub no_reference : (v : Document) (t : List ℕ) → v ≡ text t → text_after reference_start t ≡ None → reference_fault known [] v ≡ None
  no_reference v t is e = ap (reference_fault known []) is ∙ ap (unless_defined known []) e

  pub reference_known : (v : Document) (t n : List ℕ) → v ≡ text t → text_after reference_start t ≡ Some n → known n ≡ true → reference_fault known [] v ≡ None
  reference_known v t n is e h = ap (reference_fault known []) is ∙ ap (unless_defined known []) e ∙ ap (λ b. if b then None else Some (undefined [] n)) h

  pub reference_unknown : (v : Document) (t n : List ℕ) → v ≡ text t → text_after reference_start t ≡ Some n → known n ≡ false → reference_fault known [] v ≡ Some (undefined [] n)
  reference_unknown v t n is e h = ap (reference_fault known []) is ∙ ap (unless_defined known []) e ∙ ap (λ b. if b then None else Some (undefined [] n)) h
