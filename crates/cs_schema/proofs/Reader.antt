-- What the reader finds out, as what the document is.
use Rattle.std.proofs.Common.{◌≡◌, ℕ, Bool, true, false, List, [], ◌∷◌, map, Option, Some, None, is_some, String, Global, Box, string_bytes, codes, refl, sym, ap, ap₂, ◌∙◌, subst, bytes_eq, if◌then◌else◌}
use Rattle.cs_document.specs.Document.{Document, boolean, object, text, Members, entries, under, put}
use Rattle.cs_profile.specs.Keywords.{listed_under, defined, reference_start, text_after}
use Rattle.cs_profile.specs.Loops.{NoLoop}
use Rattle.cs_profile.specs.Refusal.{IsLoop}
use Rattle.cs_profile.specs.Shapes.{dialect, taken_at, has_form}
use Rattle.cs_profile.specs.Profile.{Fault, undefined, Visit, value_at, keyword_at, first, fault_of, or_else, shape_fault, form_fault, is_truth, undefined_at, reference_fault, unless_defined, visits, member_visits, walk_fault, name_fault, IsSchema}
use Rattle.cs_profile.specs.declared.keyword.Vocabulary.{Vocabulary}
use Rattle.cs_profile.specs.declared.keyword.Form.{Form}
use Rattle.cs_profile.specs.Trim.{trim, trimmed, trimmed_members, with_dialect}
use Rattle.cs_profile.specs.SchemaDocument.{present, slots_of, schema_view, definitions_view, unless_no_map, SchemaValue, document_of, IsWellFormed}
use Rattle.cs_profile.specs.Root.{with_definitions}
use Rattle.cs_profile.specs.Refusal.{IsRefusal, IsLoopRefusal}
use Rattle.cs_profile.specs.declared.fault.SchemaFault.{SchemaFault}
use Rattle.cs_profile.specs.declared.fault.SchemaFault.TheVariants as fault
use Rattle.cs_profile.specs.declared.schema.Schema.{Schema, Always, Object}
use Rattle.cs_profile.specs.declared.schema.Keywords.{Keywords}
use Rattle.cs_schema.specs.Reading.{Refuses, slots, is_defined_in}
use Rattle.cs_schema.specs.declared.parts.Parts.{Parts}
use Rattle.cs_profile.proofs.Definitions.{named, with_defs, viewed, not_present, no_definitions}
use Rattle.cs_profile.proofs.Faultless.{Faultless}
use Rattle.cs_profile.proofs.Profiles.{defined_in_trimmed, is_some-map}
use Rattle.cs_profile.proofs.Referring.{walk_fault_trimmed, name_fault_trimmed, no_loop_untrimmed, refusal_untrimmed}
use Rattle.cs_profile.proofs.Vocabularies.{wide_fault}
use Rattle.cs_profile.proofs.Views.{view-Always, view-Object}

-- ---- which names are defined

-- the definitions that are beside the keywords
listed : (p : Parts) → listed_under (codes "$defs") (entries (present (slots p))) ≡ named schema_view p.definitions.entries
listed p =
    with_defs (definitions_view p.definitions.entries) (present (slots_of p.keywords)) (not_present (codes "$defs") (slots_of p.keywords) (no_definitions p.keywords))
    ∙ viewed p.definitions.entries

known_alike : (ms : Members) (p : Parts) → present (slots p) ≡ trimmed_members true ms → (n : List ℕ) → is_defined_in p.definitions.entries n ≡ is_some (defined (object ms) n)
known_alike ms p made n =
    sym (ap (λ es. is_some (under n es)) (listed p))
    ∙ ap (λ ks. is_some (under n (listed_under (codes "$defs") (entries ks)))) made
    ∙ ap is_some (defined_in_trimmed ms n)
    ∙ is_some-map (trimmed false) (defined (object ms) n)

-- ---- names by two tests that agree

module _ (f g : List ℕ → Bool) (h : (n : List ℕ) → f n ≡ g n) where
  unless_alike : (place : List ℕ) (o : Option (List ℕ)) → unless_defined f place o ≡ unless_defined g place o
  unless_alike place None = refl
  unless_alike place (Some n) = ap (λ b. if b then None else Some (undefined place n)) (h n)

  reference_alike : (place : List ℕ) (v : Document) → reference_fault f place v ≡ reference_fault g place v
  reference_alike place (text t) = unless_alike place (text_after reference_start t)
  reference_alike place _ = refl

  visit_alike : (v : Visit) → undefined_at f v ≡ undefined_at g v
  visit_alike (value_at place d) = refl
  visit_alike (keyword_at root place k v) = ap (λ o. if bytes_eq k (codes "$ref") then o else None) (reference_alike place v)

  first_alike : (vs : List Visit) → first (undefined_at f) vs ≡ first (undefined_at g) vs
  first_alike [] = refl
  first_alike (v ∷ vs) = ap₂ or_else (visit_alike v) (first_alike vs)

-- what the second walk finds
pub names_are : (ms : Members) (p : Parts) → present (slots p) ≡ trimmed_members true ms → first (undefined_at (is_defined_in p.definitions.entries)) (member_visits true [] ms) ≡ name_fault (object ms)
names_are ms p made = first_alike (is_defined_in p.definitions.entries) (λ n. is_some (defined (object ms) n)) (known_alike ms p made) (member_visits true [] ms)

-- ---- refusals

-- whether a fault is that of a name
abbrev is_of_name : Fault → Bool
is_of_name (undefined p n) = true
is_of_name _ = false

-- each fault that there is passes a test
abbrev AllFaults : (Fault → Bool) → Option Fault → Type 0
AllFaults p None = Unit {0}
AllFaults p (Some x) = p x ≡ true

abbrev is_of_walk : Fault → Bool
is_of_walk (undefined p n) = false
is_of_walk _ = true

all_first : (p : Fault → Bool) (f : Visit → Option Fault) → ((v : Visit) → AllFaults p (f v)) → (vs : List Visit) → AllFaults p (first f vs)
all_first p f h [] = tt
all_first p f h (v ∷ vs) = either (f v) (first f vs) (h v) (all_first p f h vs)
  where
    either : (a b : Option Fault) → AllFaults p a → AllFaults p b → AllFaults p (or_else a b)
    either None b x y = y
    either (Some a) b x y = x

shape_of_walk : (place n : List ℕ) (b : Bool) → AllFaults is_of_walk (shape_fault place n b)
shape_of_walk place n true = tt
shape_of_walk place n false = refl

form_of_walk : (place k : List ℕ) (v : Document) (r : Option Form) → AllFaults is_of_walk (form_fault place k v r)
form_of_walk place k v None = refl
form_of_walk place k v (Some r) = shape_of_walk place k (has_form r v)

visit_of_walk : (taken : Vocabulary) (v : Visit) → AllFaults is_of_walk (fault_of taken v)
visit_of_walk taken (value_at place d) = shape_of_walk place [] (is_truth d)
visit_of_walk taken (keyword_at root place k v) = form_of_walk place k v (taken_at taken root k)

module _ (known : List ℕ → Bool) where
  test_of_name : (place n : List ℕ) (b : Bool) → AllFaults is_of_name (if b then None else Some (undefined place n))
  test_of_name place n true = tt
  test_of_name place n false = refl

  unless_of_name : (place : List ℕ) (o : Option (List ℕ)) → AllFaults is_of_name (unless_defined known place o)
  unless_of_name place None = tt
  unless_of_name place (Some n) = test_of_name place n (known n)

  reference_of_name : (place : List ℕ) (v : Document) → AllFaults is_of_name (reference_fault known place v)
  reference_of_name place (text t) = unless_of_name place (text_after reference_start t)
  reference_of_name place _ = tt

  keyword_of_name : (place : List ℕ) (v : Document) (b : Bool) → AllFaults is_of_name (if b then reference_fault known place v else None)
  keyword_of_name place v true = reference_of_name place v
  keyword_of_name place v false = tt

  visit_of_name : (v : Visit) → AllFaults is_of_name (undefined_at known v)
  visit_of_name (value_at place d) = tt
  visit_of_name (keyword_at root place k v) = keyword_of_name place v (bytes_eq k (codes "$ref"))

-- of the walk
pub refused_by_walk : (taken : Vocabulary) (e : SchemaFault) (d : Document) → Refuses e (walk_fault taken d) → IsRefusal taken e d
refused_by_walk taken fault.OutOfMemory d h = tt
refused_by_walk taken (fault.Keyword p n) d h = h
refused_by_walk taken (fault.Shape p n) d h = h
refused_by_walk taken (fault.Reference p n) d h =
    let clash : false ≡ true = subst (AllFaults is_of_walk) h (all_first is_of_walk (fault_of taken) (visit_of_walk taken) (visits true [] d)) in cc
refused_by_walk taken (fault.Loop ns) d h = absurd h

-- of a name
pub refused_by_name : (taken : Vocabulary) (e : SchemaFault) (d : Document) → walk_fault taken d ≡ None → Refuses e (name_fault d) → IsRefusal taken e d
refused_by_name taken fault.OutOfMemory d w h = tt
refused_by_name taken (fault.Keyword p n) d w h =
    let known : List ℕ → Bool = λ m. is_some (defined d m) in
    let clash : false ≡ true = subst (AllFaults is_of_name) h (all_first is_of_name (undefined_at known) (visit_of_name known) (visits true [] d)) in cc
refused_by_name taken (fault.Shape p n) d w h =
    let known : List ℕ → Bool = λ m. is_some (defined d m) in
    let clash : false ≡ true = subst (AllFaults is_of_name) h (all_first is_of_name (undefined_at known) (visit_of_name known) (visits true [] d)) in cc
refused_by_name taken (fault.Reference p n) d w h = (w, h)
refused_by_name taken (fault.Loop ns) d w h = absurd h

no_loop : (d : Document) (ns : List (List ℕ)) → NoLoop d → IsLoop d ns → ⊥
no_loop d [] none h = h
no_loop d (n ∷ ns) none h = none n ns h

-- of a schema of the profile, only memory refuses
pub only_memory : (taken : Vocabulary) (e : SchemaFault) (d : Document) → IsSchema taken d → IsRefusal taken e d → e ≡ fault.OutOfMemory
only_memory taken fault.OutOfMemory d s h = refl
only_memory taken (fault.Keyword p n) d s h = let clash = sym s.shaped ∙ h in cc
only_memory taken (fault.Shape p n) d s h = let clash = sym s.shaped ∙ h in cc
only_memory taken (fault.Reference p n) d s h = let clash = sym s.named ∙ h.1 in cc
only_memory taken (fault.Loop ns) d s h = absurd (no_loop d (map string_bytes ns.items) s.no_loop h.told.loop)

-- ---- what was read

document_is : (ms : Members) (p : Parts) (k : Box Keywords Global) → k.value ≡ p.keywords → present (slots p) ≡ trimmed_members true ms → document_of (record { root = Object k; definitions = p.definitions.entries }) ≡ trim (object ms)
document_is ms p k is made =
    ap (λ d. with_dialect (with_definitions (unless_no_map (definitions_view p.definitions.entries)) d)) (view-Object k ∙ ap (λ q. object (present (slots_of q))) is)
    ∙ ap (λ ns. object (put (codes "$schema") (text dialect) ns)) made

pub truth_is : (b : Bool) (es : List (String Global × Schema)) → es ≡ [] → document_of (record { root = Always b; definitions = es }) ≡ boolean b
truth_is b es none = ap (λ d. with_dialect (with_definitions (unless_no_map (definitions_view es)) d)) (view-Always b)

pub bare_object : (k : Box Keywords Global) (es : List (String Global × Schema)) (b : Bool) → schema_view (Object k) ≡ boolean b → es ≡ []
bare_object k es b e = let clash : object (present (slots_of k.value)) ≡ boolean b = sym (view-Object k) ∙ e in cc

-- a root with its definitions is what was read of a document without a fault of a keyword, a value or a name
pub record WasRead (taken : Vocabulary) (d : Document) (v : SchemaValue) : Type 0 where
  pub trimmed : document_of v ≡ trim d
  pub shaped : walk_fault taken d ≡ None
  pub named : name_fault d ≡ None

pub was_read : (taken : Vocabulary) (d : Document) (ms : Members) (p : Parts) (k : Box Keywords Global) → d ≡ object ms → k.value ≡ p.keywords → Faultless taken (member_visits true [] ms) → present (slots p) ≡ trimmed_members true ms
    → first (undefined_at (is_defined_in p.definitions.entries)) (member_visits true [] ms) ≡ None → WasRead taken d (record { root = Object k; definitions = p.definitions.entries })
was_read taken d ms p k is own right made known =
    subst (λ e. WasRead taken e (record { root = Object k; definitions = p.definitions.entries })) (sym is) (record {
      trimmed = document_is ms p k own made;
      shaped = right;
      named = sym (names_are ms p made) ∙ known;
    })

pub well_formed : (taken : Vocabulary) (d : Document) (v : SchemaValue) → WasRead taken d v → ((b : Bool) → schema_view v.root ≡ boolean b → v.definitions ≡ []) → IsWellFormed v
well_formed taken d v r bare = record {
  shaped = wide_fault taken (document_of v) (ap (walk_fault taken) r.trimmed ∙ walk_fault_trimmed taken d r.shaped);
  named = ap name_fault r.trimmed ∙ name_fault_trimmed d ∙ r.named;
  bare = bare;
}

pub unlooped : (taken : Vocabulary) (d : Document) (v : SchemaValue) → WasRead taken d v → NoLoop (document_of v) → NoLoop d
unlooped taken d v r h = no_loop_untrimmed d (subst NoLoop r.trimmed h)

pub looped : (taken : Vocabulary) (e : SchemaFault) (d : Document) (v : SchemaValue) → WasRead taken d v → IsLoopRefusal e (document_of v) → IsRefusal taken e d
looped taken e d v r h = refusal_untrimmed taken e d r.shaped r.named (subst (IsLoopRefusal e) r.trimmed h)
