-- A document in which the walk meets no fault, whatever keywords are taken: it meets none in the trimmed one.
use Rattle.std.proofs.Common.{◌≡◌, ℕ, suc, Bool, true, false, List, ◌++◌, Option, Some, None, refl, sym, ap, ap₂, ◌∙◌, subst, if◌then◌else◌}
use Rattle.cs_document.specs.Document.{Document, null, boolean, integer, text, list, object, Documents, no_documents, document, Members, no_members, member}
use Rattle.cs_profile.specs.Shapes.{form_at, taken_at, has_form, keeping, is_kept, by_form}
use Rattle.cs_profile.specs.declared.keyword.Vocabulary.{Vocabulary}
use Rattle.cs_profile.specs.declared.keyword.Form.{Form}
use Rattle.cs_profile.specs.declared.keyword.Form.TheVariants as form
use Rattle.cs_profile.specs.Places.{at_key, at_index}
use Rattle.cs_profile.specs.Profile.{Visit, first, or_else, fault_of, shape_fault, visits, member_visits, list_visits, element_visits, map_visits, named_visits}
use Rattle.cs_profile.specs.Values.{keyword_visits, value_visits, trimmed_value, value_trims}
use Rattle.cs_profile.specs.Trim.{trimmed, trimmed_members, trimmed_list, trimmed_elements, trimmed_map, trimmed_named, trimmed_as, with_member}
use Rattle.cs_profile.proofs.Taken.{taken_form}
use Rattle.cs_profile.proofs.Walks.{first-append, first_past}

-- where the keywords of a vocabulary are taken
abbrev pub Faultless : Vocabulary → List Visit → Type 0
Faultless taken vs = first (fault_of taken) vs ≡ None

pub or_else_none : {A : Type 0} (a b : Option A) → or_else a b ≡ None → (a ≡ None) × (b ≡ None)
or_else_none None b h = (refl, h)
or_else_none (Some x) b h = cc

pub parted : {A B : Type 0} (f : A → Option B) (xs ys : List A) → first f (xs ++ ys) ≡ None → (first f xs ≡ None) × (first f ys ≡ None)
parted f xs ys h = or_else_none (first f xs) (first f ys) (sym (first-append f xs ys) ∙ h)

pub joined : {A B : Type 0} (f : A → Option B) (xs ys : List A) → first f xs ≡ None → first f ys ≡ None → first f (xs ++ ys) ≡ None
joined f xs ys g h = first_past f xs ys g ∙ h

-- ---- trimming

-- what trimming leaves of a value of a shape, and what the walk meets inside it
abbrev pub left : Form → Document → Document
left f v = by_form f (value_trims v)

abbrev pub inside : Form → List ℕ → Document → List Visit
inside f place v = by_form f (value_visits place v)

some_left : (v : Document) → has_form form.Schemas (trimmed_list v) ≡ has_form form.Schemas v
some_left null = refl
some_left (boolean b) = refl
some_left (integer z) = refl
some_left (text s) = refl
some_left (list no_documents) = refl
some_left (list (document d ds)) = refl
some_left (object ms) = refl

named_left : (v : Document) → has_form form.NamedSchemas (trimmed_map v) ≡ has_form form.NamedSchemas v
named_left null = refl
named_left (boolean b) = refl
named_left (integer z) = refl
named_left (text s) = refl
named_left (list ds) = refl
named_left (object ms) = refl

pub form_left : (f : Form) (v : Document) → has_form f (left f v) ≡ has_form f v
form_left form.Dialect v = refl
form_left form.Reference v = refl
form_left form.Kind v = refl
form_left form.Anything v = refl
form_left form.Array v = refl
form_left form.Integer v = refl
form_left form.Count v = refl
form_left form.Texts v = refl
form_left form.Text v = refl
form_left form.Schema v = refl
form_left form.Schemas v = some_left v
form_left form.NamedSchemas v = named_left v

module _ (taken : Vocabulary) where
  inside_left : (f : Form) (place : List ℕ) (v : Document)
      → (Faultless taken (visits false place v) → Faultless taken (visits false place (trimmed false v)))
      → (Faultless taken (list_visits place v) → Faultless taken (list_visits place (trimmed_list v)))
      → (Faultless taken (map_visits place v) → Faultless taken (map_visits place (trimmed_map v)))
      → Faultless taken (inside f place v) → Faultless taken (inside f place (left f v))
  inside_left form.Dialect place v a b c h = h
  inside_left form.Reference place v a b c h = h
  inside_left form.Kind place v a b c h = h
  inside_left form.Anything place v a b c h = h
  inside_left form.Array place v a b c h = h
  inside_left form.Integer place v a b c h = h
  inside_left form.Count place v a b c h = h
  inside_left form.Texts place v a b c h = h
  inside_left form.Text place v a b c h = h
  inside_left form.Schema place v a b c h = a h
  inside_left form.Schemas place v a b c h = b h
  inside_left form.NamedSchemas place v a b c h = c h

  member_kept : (root : Bool) (place k : List ℕ) (v : Document) (ns : Members) (r : Form) (keep : Bool) → taken_at taken root k ≡ Some r → form_at root k ≡ Some r
      → (Faultless taken (inside r (at_key place k) v) → Faultless taken (inside r (at_key place k) (left r v)))
      → or_else (shape_fault place k (has_form r v)) (first (fault_of taken) (inside r (at_key place k) v)) ≡ None → Faultless taken (member_visits root place ns)
      → Faultless taken (member_visits root place (with_member (if keep then Some (left r v) else None) k ns))
  member_kept root place k v ns r false s e kept h rest = rest
  member_kept root place k v ns r true s e kept h rest =
      let parts = or_else_none (shape_fault place k (has_form r v)) (first (fault_of taken) (inside r (at_key place k) v)) h in
      let shaped : shape_fault place k (has_form r (left r v)) ≡ None = ap (shape_fault place k) (form_left r v) ∙ parts.0 in
      joined (fault_of taken) (keyword_visits root place k (left r v)) (member_visits root place ns) (rw (s, e) (ap₂ or_else shaped (kept parts.1))) rest

  member_trimmed : (root : Bool) (place k : List ℕ) (v : Document) (ns : Members) (r : Option Form) → taken_at taken root k ≡ r
      → (Faultless taken (visits false (at_key place k) v) → Faultless taken (visits false (at_key place k) (trimmed false v)))
      → (Faultless taken (list_visits (at_key place k) v) → Faultless taken (list_visits (at_key place k) (trimmed_list v)))
      → (Faultless taken (map_visits (at_key place k) v) → Faultless taken (map_visits (at_key place k) (trimmed_map v)))
      → Faultless taken (keyword_visits root place k v) → Faultless taken (member_visits root place ns)
      → Faultless taken (member_visits root place (with_member (trimmed_value root k v) k ns))
  member_trimmed root place k v ns None s a b c h rest = let fault = rw s at h in cc
  member_trimmed root place k v ns (Some r) s a b c h rest =
      let e = taken_form taken root k r s in
      subst (λ o. Faultless taken (member_visits root place (with_member (trimmed_as o v (value_trims v)) k ns))) (sym e)
      (member_kept root place k v ns r (is_kept (keeping r) v) s e (inside_left r (at_key place k) v a b c) (rw (s, e) at h) rest)

  mutual
    pub faultless_trimmed : (root : Bool) (place : List ℕ) (d : Document) → Faultless taken (visits root place d) → Faultless taken (visits root place (trimmed root d))
    faultless_trimmed root place null h = h
    faultless_trimmed root place (boolean b) h = h
    faultless_trimmed root place (integer z) h = h
    faultless_trimmed root place (text s) h = h
    faultless_trimmed root place (list ds) h = h
    faultless_trimmed root place (object ms) h = faultless_members root place ms h

    pub faultless_members : (root : Bool) (place : List ℕ) (ms : Members) → Faultless taken (member_visits root place ms) → Faultless taken (member_visits root place (trimmed_members root ms))
    faultless_members root place no_members h = refl
    faultless_members root place (member k v ms) h =
        let parts = parted (fault_of taken) (keyword_visits root place k v) (member_visits root place ms) h in
        member_trimmed root place k v (trimmed_members root ms) (taken_at taken root k) refl (faultless_trimmed false (at_key place k) v) (faultless_list (at_key place k) v) (faultless_map (at_key place k) v) parts.0 (faultless_members root place ms parts.1)

    faultless_list : (place : List ℕ) (d : Document) → Faultless taken (list_visits place d) → Faultless taken (list_visits place (trimmed_list d))
    faultless_list place null h = h
    faultless_list place (boolean b) h = h
    faultless_list place (integer z) h = h
    faultless_list place (text s) h = h
    faultless_list place (list ds) h = faultless_elements place 0 ds h
    faultless_list place (object ms) h = h

    faultless_elements : (place : List ℕ) (i : ℕ) (ds : Documents) → Faultless taken (element_visits place i ds) → Faultless taken (element_visits place i (trimmed_elements ds))
    faultless_elements place i no_documents h = refl
    faultless_elements place i (document d ds) h =
        let parts = parted (fault_of taken) (visits false (at_index place i) d) (element_visits place (suc i) ds) h in
        joined (fault_of taken) (visits false (at_index place i) (trimmed false d)) (element_visits place (suc i) (trimmed_elements ds)) (faultless_trimmed false (at_index place i) d parts.0) (faultless_elements place (suc i) ds parts.1)

    faultless_map : (place : List ℕ) (d : Document) → Faultless taken (map_visits place d) → Faultless taken (map_visits place (trimmed_map d))
    faultless_map place null h = h
    faultless_map place (boolean b) h = h
    faultless_map place (integer z) h = h
    faultless_map place (text s) h = h
    faultless_map place (list ds) h = h
    faultless_map place (object ms) h = faultless_named place ms h

    faultless_named : (place : List ℕ) (ms : Members) → Faultless taken (named_visits place ms) → Faultless taken (named_visits place (trimmed_named ms))
    faultless_named place no_members h = refl
    faultless_named place (member k v ms) h =
        let parts = parted (fault_of taken) (visits false (at_key place k) v) (named_visits place ms) h in
        joined (fault_of taken) (visits false (at_key place k) (trimmed false v)) (named_visits place (trimmed_named ms)) (faultless_trimmed false (at_key place k) v parts.0) (faultless_named place ms parts.1)
