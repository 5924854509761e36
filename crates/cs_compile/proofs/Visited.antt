-- What the walk over a compiled schema meets is without fault, where the names that are referred to are names of definitions.
use Rattle.std.proofs.Common.{◌≡◌, ℕ, suc, List, [], ◌∷◌, ◌++◌, map, filter, flat_map, Bool, true, false, not, ◌||◌, Option, Some, None, Ordering, Less, Equal, Greater, nat_cmp, codes, option_to_list, refl, sym, ◌∙◌, subst, bytes_eq, if◌then◌else◌}
use Rattle.std.specs.List.{list_any, AllByRecursion as Each}
use Rattle.std.proofs.lemmas.Option.{same_Some}
use Rattle.std.specs.Ordering.{match_ordering}
use Rattle.std.specs.Cmp.Lexicographic.{slice_cmp}
use Rattle.cs_document.specs.Document.{Document, boolean, text, list, object, Documents, no_documents, document, elements, Members, no_members, member, Entry, entries, put}
use Rattle.cs_document.specs.View.{documents_of}
use Rattle.cs_document.proofs.Each.{each_front, each_back}
use Rattle.cs_package.specs.Expression as cue
use Rattle.cs_package.specs.Expression.{Expression, Expressions, operands, Declaration, Declarations, is_every, less, at_most, more, at_least, int, number, string, bool}
use Rattle.cs_guard.specs.Reachable.{referred, referred_all, referred_fields, referred_rest}
use Rattle.cs_profile.specs.Places.{at_key, at_index}
use Rattle.cs_profile.specs.Profile.{Visit, first, fault_of, undefined_at, visits, member_visits, element_visits, named_visits}
use Rattle.cs_profile.specs.Values.{keyword_visits}
use Rattle.cs_profile.specs.declared.keyword.Vocabulary.TheVariants as vocabularies
use Rattle.cs_profile.specs.SchemaDocument.{unless_no_list}
use Rattle.cs_profile.specs.Shapes.{is_name, are_distinct_texts}
use Rattle.cs_profile.specs.Trim.{with_member}
use Rattle.cs_profile.proofs.Walks.{first_past}
use Rattle.cs_compile.specs.Translation.{schema_of, schemas_of, declared_schemas, rest_schema, definition_schema, one_or_all, all_of, any_of, members_at, labels_of, values_of, properties_of, required_of, unless_empty, closing, struct_schema, fixed, list_schema, of_type, labelled, under_every_key}
use Rattle.cs_compile.specs.Grouped.{for_every_key}
use Rattle.cs_compile.proofs.Firsts.{each_filter}
use Rattle.cs_compile.proofs.Interval.{by_conjunction, interval-named, interval-shaped}
use Rattle.cs_compile.proofs.Enumerations.{by_literals}
use Rattle.cs_compile.proofs.Required.{required_of-distinct}
use Rattle.cs_compile.proofs.Asserted.{elements_back}

-- no keyword and no value at fault in the default profile, and no `$ref` to a name that is not defined
pub record IsClean (is_defined : List ℕ → Bool) (vs : List Visit) : Type 0 where
  pub shaped : first (fault_of vocabularies.Default) vs ≡ None
  pub named : first (undefined_at is_defined) vs ≡ None

module _ (is_defined : List ℕ → Bool) where
  -- a name of a definition that is there
  abbrev pub Known : List ℕ → Type 0
  Known n = (is_name n ≡ true) × (is_defined n ≡ true)

  pub clean-append : (xs ys : List Visit) → IsClean is_defined xs → IsClean is_defined ys → IsClean is_defined (xs ++ ys)
  clean-append xs ys h k = record {
    shaped = first_past (fault_of vocabularies.Default) xs ys h.shaped ∙ k.shaped;
    named = first_past (undefined_at is_defined) xs ys h.named ∙ k.named;
  }

  pub clean-nothing : IsClean is_defined []
  clean-nothing = record { shaped = refl; named = refl }

  -- a schema that is clean wherever it is below the root
  abbrev CleanSchema : Document → Type 0
  CleanSchema d = (p : List ℕ) → IsClean is_defined (visits false p d)

  -- ---- schemas that are in a list, or under keys

  elements-clean : (ds : Documents) → Each CleanSchema (elements ds) → (p : List ℕ) (i : ℕ) → IsClean is_defined (element_visits p i ds)
  elements-clean no_documents h p i = clean-nothing
  elements-clean (document d ds) h p i = clean-append _ _ (h.0 (at_index p i)) (elements-clean ds h.1 p (suc i))

  -- the members' schemas
  abbrev CleanMembers : Members → Type 0
  CleanMembers ms = Each (λ (e : Entry Document). CleanSchema e.1) (entries ms)

  put-clean : (k : List ℕ) (d : Document) (ms : Members) → CleanSchema d → CleanMembers ms → CleanMembers (put k d ms)
  put-clean k d no_members h m = (h, tt)
  put-clean k d (member l e ms) h m = go (slice_cmp nat_cmp k l) (put-clean k d ms h m.1)
    where
      go : (o : Ordering) → CleanMembers (put k d ms) → CleanMembers (match_ordering o (member k d (member l e ms)) (member l d ms) (member l e (put k d ms)))
      go Less later = (h, m)
      go Equal later = (h, m.1)
      go Greater later = (m.0, later)

  members_at-clean : (ls : List (List ℕ)) (schema : List ℕ → Document) → ((l : List ℕ) → CleanSchema (schema l)) → CleanMembers (members_at ls schema)
  members_at-clean [] schema h = tt
  members_at-clean (l ∷ ls) schema h = put-clean l (schema l) (members_at ls schema) (h l) (members_at-clean ls schema h)

  named-clean : (ms : Members) → CleanMembers ms → (p : List ℕ) → IsClean is_defined (named_visits p ms)
  named-clean no_members h p = clean-nothing
  named-clean (member k d ms) h p = clean-append _ _ (h.0 (at_key p k)) (named-clean ms h.1 p)

  -- a keyword that may be left out, before the others
  with-clean : (p : List ℕ) (o : Option Document) (k : List ℕ) (ms : Members) → ((v : Document) → o ≡ Some v → IsClean is_defined (keyword_visits false p k v)) → IsClean is_defined (member_visits false p ms) → IsClean is_defined (member_visits false p (with_member o k ms))
  with-clean p None k ms h m = m
  with-clean p (Some v) k ms h m = clean-append (keyword_visits false p k v) (member_visits false p ms) (h v refl) m

  -- ---- operands, and definitions with several bodies

  all_of-clean : (ds : Documents) → Each CleanSchema (elements ds) → CleanSchema (object (all_of ds))
  all_of-clean no_documents h p = clean-nothing
  all_of-clean (document d ds) h p =
      let whole = clean-append (element_visits (at_key p (codes "allOf")) 0 (document d ds)) [] (elements-clean (document d ds) h (at_key p (codes "allOf")) 0) clean-nothing in
      record { shaped = whole.shaped; named = whole.named }

  any_of-clean : (ds : Documents) → Each CleanSchema (elements ds) → CleanSchema (any_of ds)
  any_of-clean no_documents h p = record { shaped = refl; named = refl }
  any_of-clean (document d ds) h p =
      let whole = clean-append (element_visits (at_key p (codes "anyOf")) 0 (document d ds)) [] (elements-clean (document d ds) h (at_key p (codes "anyOf")) 0) clean-nothing in
      record { shaped = whole.shaped; named = whole.named }

  one_or_all-clean : (ds : List Document) → Each CleanSchema ds → CleanSchema (one_or_all ds)
  one_or_all-clean [] h = all_of-clean no_documents tt
  one_or_all-clean (d ∷ []) h = h.0
  one_or_all-clean (d ∷ e ∷ ds) h = all_of-clean (documents_of (d ∷ e ∷ ds)) (subst (Each CleanSchema) (sym (elements_back (d ∷ e ∷ ds))) h)

  -- ---- structs and lists

  values_of-clean : (l : List ℕ) (ds : List (Declaration Document)) → Each (λ d. CleanSchema d.value) ds → Each CleanSchema (values_of l ds)
  values_of-clean l [] h = tt
  values_of-clean l (d ∷ ds) h = go (bytes_eq l d.label) (values_of-clean l ds h.1)
    where
      go : (b : Bool) → Each CleanSchema (values_of l ds) → Each CleanSchema ((if b then d.value ∷ [] else []) ++ values_of l ds)
      go true later = (h.0, later)
      go false later = later

  closing-clean : (p : List ℕ) (o : Bool) (v : Document) → closing o ≡ Some v → IsClean is_defined (keyword_visits false p (codes "additionalProperties") v)
  closing-clean p true v e = cc
  closing-clean p false (boolean b) e = record { shaped = refl; named = refl }
  closing-clean p false v e = cc

  properties-clean : (p : List ℕ) (ms : Members) → CleanMembers ms → (v : Document) → unless_empty ms ≡ Some v → IsClean is_defined (keyword_visits false p (codes "properties") v)
  properties-clean p no_members h v e = cc
  properties-clean p (member k d ms) h v e =
      let inside = named-clean (member k d ms) h (at_key p (codes "properties")) in
      subst (λ w. IsClean is_defined (keyword_visits false p (codes "properties") w)) (same_Some (object (member k d ms)) v e) (record { shaped = inside.shaped; named = inside.named })

  required-clean : (p : List ℕ) (ls : List (List ℕ)) → are_distinct_texts [] (documents_of (map text ls)) ≡ true → (v : Document) → unless_no_list (map text ls) ≡ Some v → IsClean is_defined (keyword_visits false p (codes "required") v)
  required-clean p [] h v e = cc
  required-clean p (l ∷ ls) h v e =
      subst (λ w. IsClean is_defined (keyword_visits false p (codes "required") w)) (same_Some (list (documents_of (map text (l ∷ ls)))) v e) (record { shaped = rw h refl; named = refl })

  -- the schemas of declarations of every key
  every-clean : (ds : List (Declaration Document)) → Each (λ d. CleanSchema d.value) ds → Each CleanSchema (map (λ d. for_every_key d.value) ds)
  every-clean [] h = tt
  every-clean (d ∷ ds) h = (one, every-clean ds h.1)
    where
      one : CleanSchema (for_every_key d.value)
      one p =
          let whole = clean-append (visits false (at_key p (codes "additionalProperties")) d.value) [] (h.0 (at_key p (codes "additionalProperties"))) clean-nothing in
          record { shaped = whole.shaped; named = whole.named }

  schemas-clean : (p : List ℕ) (ss : List Document) → Each CleanSchema ss → (v : Document) → unless_no_list ss ≡ Some v → IsClean is_defined (keyword_visits false p (codes "allOf") v)
  schemas-clean p [] h v e = cc
  schemas-clean p (s ∷ ss) h v e =
      let inside = elements-clean (documents_of (s ∷ ss)) (subst (Each CleanSchema) (sym (elements_back (s ∷ ss))) h) (at_key p (codes "allOf")) 0 in
      subst (λ w. IsClean is_defined (keyword_visits false p (codes "allOf") w)) (same_Some (list (documents_of (s ∷ ss))) v e) (record { shaped = inside.shaped; named = inside.named })

  struct-clean : (ds : List (Declaration Document)) (o : Bool) → Each (λ d. CleanSchema d.value) ds → CleanSchema (struct_schema ds o)
  struct-clean ds o h p =
      let ls = labelled ds in
      let own : Each (λ d. CleanSchema d.value) ls = each_filter (λ d. not (is_every d.mark)) _ ds h in
      let inside : CleanMembers (properties_of ls) = members_at-clean (labels_of ls) (λ l. one_or_all (values_of l ls)) (λ l. one_or_all-clean (values_of l ls) (values_of-clean l ls own)) in
      let all : Each CleanSchema (under_every_key ds) = every-clean (filter (λ d. is_every d.mark) ds) (each_filter (λ d. is_every d.mark) _ ds h) in
      with-clean p (closing (o || list_any (λ d. is_every d.mark) ds)) (codes "additionalProperties") _ (closing-clean p (o || list_any (λ d. is_every d.mark) ds)) (
      with-clean p (unless_no_list (under_every_key ds)) (codes "allOf") _ (schemas-clean p (under_every_key ds) all) (
      with-clean p (unless_empty (properties_of ls)) (codes "properties") _ (properties-clean p (properties_of ls) inside) (
      with-clean p (unless_no_list (map text (required_of ls))) (codes "required") _ (required-clean p (required_of ls) (required_of-distinct ls)) (
      record { shaped = refl; named = refl }))))

  fixed-clean : (p : List ℕ) (ds : Documents) → Each CleanSchema (elements ds) → IsClean is_defined (member_visits false p (fixed ds (of_type (codes "array"))))
  fixed-clean p no_documents h = record { shaped = refl; named = refl }
  fixed-clean p (document d ds) h =
      let kind : IsClean is_defined (member_visits false p (of_type (codes "array"))) = record { shaped = refl; named = refl } in
      let whole = clean-append _ _ (elements-clean (document d ds) h (at_key p (codes "prefixItems")) 0) kind in
      record { shaped = whole.shaped; named = whole.named }

  items-clean : (p : List ℕ) (o : Option Document) → Each CleanSchema (option_to_list o) → (v : Document) → o ≡ Some v → IsClean is_defined (keyword_visits false p (codes "items") v)
  items-clean p None h v e = cc
  items-clean p (Some w) h v e = let inside = h.0 (at_key p (codes "items")) in subst (λ u. IsClean is_defined (keyword_visits false p (codes "items") u)) (same_Some w v e) (record { shaped = inside.shaped; named = inside.named })

  list-clean : (ds : Documents) (rest : Option Document) → Each CleanSchema (elements ds) → Each CleanSchema (option_to_list rest) → CleanSchema (list_schema ds rest)
  list-clean ds rest h r p = with-clean p rest (codes "items") (fixed ds (of_type (codes "array"))) (items-clean p rest r) (fixed-clean p ds h)

  -- ---- expressions

  mutual
    pub schema_of-clean : (e : Expression) → Each Known (referred e) → CleanSchema (schema_of e)
    schema_of-clean (cue.atom cue.top) t p = record { shaped = refl; named = refl }
    schema_of-clean (cue.atom cue.bottom) t p = record { shaped = refl; named = refl }
    schema_of-clean (cue.atom cue.null) t p = record { shaped = refl; named = refl }
    schema_of-clean (cue.atom (cue.boolean b)) t p = record { shaped = refl; named = refl }
    schema_of-clean (cue.atom (cue.integer n)) t p = record { shaped = refl; named = refl }
    schema_of-clean (cue.atom (cue.text s)) t p = record { shaped = refl; named = refl }
    schema_of-clean (cue.atom (cue.bound less n)) t p = record { shaped = refl; named = refl }
    schema_of-clean (cue.atom (cue.bound at_most n)) t p = record { shaped = refl; named = refl }
    schema_of-clean (cue.atom (cue.bound more n)) t p = record { shaped = refl; named = refl }
    schema_of-clean (cue.atom (cue.bound at_least n)) t p = record { shaped = refl; named = refl }
    schema_of-clean (cue.atom (cue.not_integer n)) t p = record { shaped = refl; named = refl }
    schema_of-clean (cue.atom (cue.not_text s)) t p = record { shaped = refl; named = refl }
    schema_of-clean (cue.atom cue.not_null) t p = record { shaped = refl; named = refl }
    schema_of-clean (cue.kind int) t p = record { shaped = refl; named = refl }
    schema_of-clean (cue.kind number) t p = record { shaped = refl; named = refl }
    schema_of-clean (cue.kind string) t p = record { shaped = refl; named = refl }
    schema_of-clean (cue.kind bool) t p = record { shaped = refl; named = refl }
    schema_of-clean (cue.range least None) t p = record { shaped = refl; named = refl }
    schema_of-clean (cue.range least (Some greatest)) t p = record { shaped = refl; named = refl }
    schema_of-clean (cue.conjunction es) t p =
        by_conjunction (λ d. IsClean is_defined (visits false p d)) (operands es) (schemas_of es) (λ h. record { shaped = refl; named = refl })
        (λ h lower upper. record { shaped = interval-shaped lower upper p; named = interval-named is_defined lower upper p }) (all_of-clean (schemas_of es) (schemas_of-clean es t) p)
    schema_of-clean (cue.disjunction es) t p = by_literals (λ d. IsClean is_defined (visits false p d)) (operands es) (schemas_of es) (λ alone. record { shaped = refl; named = refl }) (any_of-clean (schemas_of es) (schemas_of-clean es t) p)
    schema_of-clean (cue.reference n) t p = let name = t.0.0 in let there = t.0.1 in record { shaped = rw name refl; named = rw there refl }
    schema_of-clean (cue.struct ds o) t p = struct-clean (declared_schemas ds) o (declared-clean ds t) p
    schema_of-clean (cue.list es rest) t p =
        list-clean (schemas_of es) (rest_schema rest) (schemas_of-clean es (each_front Known (referred_all es) (referred_rest rest) t)) (rest-clean rest (each_back Known (referred_all es) (referred_rest rest) t)) p

    schemas_of-clean : (es : Expressions) → Each Known (referred_all es) → Each CleanSchema (elements (schemas_of es))
    schemas_of-clean cue.no_expressions t = tt
    schemas_of-clean (cue.expression e es) t = (schema_of-clean e (each_front Known (referred e) (referred_all es) t), schemas_of-clean es (each_back Known (referred e) (referred_all es) t))

    declared-clean : (ds : Declarations) → Each Known (referred_fields ds) → Each (λ d. CleanSchema d.value) (declared_schemas ds)
    declared-clean cue.no_declarations t = tt
    declared-clean (cue.declaration l m e ds) t = (schema_of-clean e (each_front Known (referred e) (referred_fields ds) t), declared-clean ds (each_back Known (referred e) (referred_fields ds) t))

    rest-clean : (rest : cue.Rest) → Each Known (referred_rest rest) → Each CleanSchema (option_to_list (rest_schema rest))
    rest-clean cue.closed t = ((λ p. record { shaped = refl; named = refl }), tt)
    rest-clean cue.any t = tt
    rest-clean (cue.each e) t = (schema_of-clean e t, tt)

  bodies-clean : (es : List Expression) → Each Known (flat_map referred es) → Each CleanSchema (map schema_of es)
  bodies-clean [] t = tt
  bodies-clean (e ∷ es) t = (schema_of-clean e (each_front Known (referred e) (flat_map referred es) t), bodies-clean es (each_back Known (referred e) (flat_map referred es) t))

  pub definition_schema-clean : (es : List Expression) → Each Known (flat_map referred es) → CleanSchema (definition_schema es)
  definition_schema-clean es t = one_or_all-clean (map schema_of es) (bodies-clean es t)
