-- The fault of a keyword's value, by what the reader finds of it.
use Rattle.std.proofs.Common.{◌≡◌, ℕ, Bool, true, false, List, [], Option, Some, None, option_map, refl, sym, ap, ap₂, ◌∙◌, subst}
use Rattle.cs_document.specs.Document.{Document, null, boolean, integer, text, list, object, no_documents, document}
use Rattle.cs_profile.specs.Places.{at_key}
use Rattle.cs_profile.specs.Shapes.{form_at, taken_at, has_form}
use Rattle.cs_profile.specs.Profile.{Fault, unknown, Visit, first, or_else, fault_of, shape_fault, form_fault, within, visits}
use Rattle.cs_profile.specs.Values.{value_visits, keyword_visits}
use Rattle.cs_profile.specs.declared.keyword.Vocabulary.{Vocabulary}
use Rattle.cs_profile.specs.declared.keyword.Form.{Form}
use Rattle.cs_profile.specs.declared.keyword.Form.TheVariants as form
use Rattle.cs_profile.specs.declared.fault.SchemaFault.{SchemaFault}
use Rattle.cs_profile.specs.declared.fault.SchemaFault.TheVariants as fault
use Rattle.cs_profile.proofs.Taken.{taken_form}
use Rattle.cs_schema.specs.Reading.{Refuses, inside, below}
use Rattle.cs_schema.proofs.Placed.{IsPlaced, value_fault_at, inside_fault_at, faults_placed}

-- where there is no fault, memory ran out
pub refuses_none : (e : SchemaFault) (o : Option Fault) → Refuses e None → Refuses e o
refuses_none fault.OutOfMemory o h = tt
refuses_none (fault.Keyword p n) o h = cc
refuses_none (fault.Shape p n) o h = cc
refuses_none (fault.Reference p n) o h = cc
refuses_none (fault.Loop ns) o h = h

-- a value without the form holds no schema
pub none_inside : (f : Form) (v : Document) → has_form f v ≡ false → inside f v ≡ []
none_inside form.Dialect v h = refl
none_inside form.Reference v h = refl
none_inside form.Kind v h = refl
none_inside form.Anything v h = refl
none_inside form.Array v h = refl
none_inside form.Integer v h = refl
none_inside form.Count v h = refl
none_inside form.Texts v h = refl
none_inside form.Text v h = refl
none_inside form.Schema v h = cc
none_inside form.Schemas null h = refl
none_inside form.Schemas (boolean b) h = refl
none_inside form.Schemas (integer z) h = refl
none_inside form.Schemas (text s) h = refl
none_inside form.Schemas (list no_documents) h = refl
none_inside form.Schemas (list (document d ds)) h = cc
none_inside form.Schemas (object ms) h = refl
none_inside form.NamedSchemas null h = refl
none_inside form.NamedSchemas (boolean b) h = refl
none_inside form.NamedSchemas (integer z) h = refl
none_inside form.NamedSchemas (text s) h = refl
none_inside form.NamedSchemas (list ds) h = refl
none_inside form.NamedSchemas (object ms) h = cc

module _ (taken : Vocabulary) where
  abbrev of_visit : Visit → Option Fault
  of_visit = fault_of taken

  -- the fault of a keyword that is taken is that of its value's shape, and then that of what stands inside
  keyword_fault : (root : Bool) (k : List ℕ) (v : Document) (f : Form) → taken_at taken root k ≡ Some f
      → first of_visit (keyword_visits root [] k v) ≡ or_else (shape_fault [] k (has_form f v)) (option_map (below (at_key [] k)) (first of_visit (inside f v)))
  keyword_fault root k v f e =
      ap₂ (λ o p. or_else (form_fault [] k v o) (first of_visit (within p (value_visits (at_key [] k) v)))) e (taken_form taken root k f e)
      ∙ ap (or_else (shape_fault [] k (has_form f v))) (inside_fault_at of_visit (faults_placed taken) (at_key [] k) f v)

  pub no_keyword : (root : Bool) (k : List ℕ) (v : Document) → taken_at taken root k ≡ None → first of_visit (keyword_visits root [] k v) ≡ Some (unknown [] k)
  no_keyword root k v e = ap (λ o. or_else (form_fault [] k v o) (first of_visit (within (form_at root k) (value_visits (at_key [] k) v)))) e

  pub keyword_right : (root : Bool) (k : List ℕ) (v : Document) (f : Form) → taken_at taken root k ≡ Some f → has_form f v ≡ true → first of_visit (inside f v) ≡ None → first of_visit (keyword_visits root [] k v) ≡ None
  keyword_right root k v f e h i = keyword_fault root k v f e ∙ ap₂ (λ t o. or_else (shape_fault [] k t) (option_map (below (at_key [] k)) o)) h i

  pub keyword_refused : (root : Bool) (k : List ℕ) (v : Document) (f : Form) (e : SchemaFault) → taken_at taken root k ≡ Some f
      → Refuses e (option_map (below (at_key [] k)) (first of_visit (inside f v))) → Refuses e (first of_visit (keyword_visits root [] k v))
  keyword_refused root k v f e at h = subst (Refuses e) (sym (keyword_fault root k v f at)) (by_shape (has_form f v) refl)
    where
      by_shape : (t : Bool) → has_form f v ≡ t → Refuses e (or_else (shape_fault [] k t) (option_map (below (at_key [] k)) (first of_visit (inside f v))))
      by_shape true s = h
      by_shape false s = refuses_none e _ (subst (λ vs. Refuses e (option_map (below (at_key [] k)) (first of_visit vs))) (none_inside f v s) h)

-- a schema at a place
module _ (f : Visit → Option Fault) (h : IsPlaced f) (p : List ℕ) (d : Document) where
  pub schema_right : first f (visits false [] d) ≡ None → first f (visits false p d) ≡ None
  schema_right r = value_fault_at f h p d ∙ ap (option_map (below p)) r

  pub schema_refused : (e : SchemaFault) → Refuses e (option_map (below p) (first f (visits false [] d))) → Refuses e (first f (visits false p d))
  schema_refused e r = subst (Refuses e) (sym (value_fault_at f h p d)) r
