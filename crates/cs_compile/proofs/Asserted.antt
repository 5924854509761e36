-- What schema objects assert, keyword by keyword.
use Rattle.std.proofs.Common.{◌≡◌, ℕ, List, [], ◌∷◌, Bool, true, false, ◌&&◌, Option, Some, None, refl, sym, ap, ◌∙◌}
use Rattle.std.specs.Option.{option_map_or}
use Rattle.std.specs.List.{list_all, list_any}
use Rattle.std.proofs.Math.Bool.{and-true}
use Rattle.std.proofs.lemmas.List.Folds.{list_all-map}
use Rattle.cs_document.specs.Document.{Document, boolean, object, Documents, no_documents, document, elements, Entry, Members, entries}
use Rattle.cs_document.specs.Opened.{opened}
use Rattle.cs_document.specs.View.{documents_of}
use Rattle.cs_profile.specs.Constraint.{assertion_at}
use Rattle.cs_profile.specs.Trim.{with_member}
use Rattle.cs_profile.specs.Validity.{IsValidity, holds}
use Rattle.cs_compile.specs.Translation.{all_of, any_of, one_or_all}

-- a keyword that may be left out, before the others
pub all_with : (p : Entry Document → Bool) (o : Option Document) (k : List ℕ) (ms : Members) → list_all p (entries (with_member o k ms)) ≡ (option_map_or (λ v. p (k, v)) o true && list_all p (entries ms))
all_with p None k ms = refl
all_with p (Some v) k ms = refl

pub elements_back : (ds : List Document) → elements (documents_of ds) ≡ ds
elements_back [] = refl
elements_back (d ∷ ds) = ap (λ es. d ∷ es) (elements_back ds)

module _ (R : Document) (V : Document → Document → Bool) (g : IsValidity R V) where
  -- whether what a keyword asserts beside others holds of a document
  abbrev pub asserted : List (Entry Document) → Document → Entry Document → Bool
  asserted beside x e = holds (λ p. V p x) (λ y p. V p y) (assertion_at R beside e) x (opened x)

  pub valid_object : (ks : Members) (x : Document) → V (object ks) x ≡ list_all (asserted (entries ks) x) (entries ks)
  valid_object ks x = g (object ks) x ∙ list_all-map _ (assertion_at R (entries ks)) (entries ks)

  pub valid_false : (x : Document) → V (boolean false) x ≡ false
  valid_false x = g (boolean false) x

  pub valid_all_of : (ds : Documents) (x : Document) → V (object (all_of ds)) x ≡ list_all (λ d. V d x) (elements ds)
  valid_all_of no_documents x = g _ x
  valid_all_of (document d ds) x = g _ x ∙ and-true _

  pub valid_any_of : (ds : Documents) (x : Document) → V (any_of ds) x ≡ list_any (λ d. V d x) (elements ds)
  valid_any_of no_documents x = g _ x
  valid_any_of (document d ds) x = g _ x ∙ and-true _

  pub valid_one_or_all : (ds : List Document) (x : Document) → V (one_or_all ds) x ≡ list_all (λ d. V d x) ds
  valid_one_or_all [] x = g _ x
  valid_one_or_all (d ∷ []) x = sym (and-true _)
  valid_one_or_all (d ∷ e ∷ ds) x = valid_all_of (document d (document e (documents_of ds))) x ∙ ap (λ es. list_all (λ c. V c x) (d ∷ e ∷ es)) (elements_back ds)
