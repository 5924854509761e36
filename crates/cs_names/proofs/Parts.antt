-- What declarations and fields are one after another, in the code and in the definitions.
use Rattle.std.proofs.Common.{◌≡◌, ℕ, Bool, true, false, ◌||◌, cond, is_some, flat_map, List, [], ◌∷◌, ◌++◌, Option, Some, None, map, refl, sym, ap, ap₂, ◌∙◌, append_assoc}
use Rattle.cs_grammar.specs.Tree.{Tree, more, embedded, conditional, DefinitionTree, definition, NameTree}
use Rattle.cs_grammar.specs.View.{Seen, SeenDeclaration, field_seen, embedding_seen, conditional_seen, expr_view, exprs_view, trees_of, field_view, fields_view, fields_of, declaration_view, declarations_view, declarations_of, name_view}
use Rattle.cs_grammar.specs.declared.ast.Declaration.{Declaration}
use Rattle.cs_grammar.specs.declared.ast.Expr.{Expr}
use Rattle.cs_grammar.specs.declared.ast.Field.{Field}
use Rattle.cs_grammar.specs.declared.ast.Name.{Name}
use Rattle.cs_names.specs.Checks.{field_has, seen_has, declared_seen, nested_seen, lift_seen_field, lift_seen, flaws_field_seen, flaws_seen, resolved_field_seen, resolved_seen, is_scoped_seen, inside_field_seen, inside_seen}
use Rattle.cs_names.specs.Flaws.{flaws_fields, flaws_declarations}
use Rattle.cs_names.specs.Having.{fields_have, declarations_have}
use Rattle.cs_names.specs.Lifted.{Lifts, lift_fields, lift_declarations}
use Rattle.cs_names.specs.Named.{keep_field, keep_declared, defining, resolved, resolved_each, resolved_fields, resolved_declarations, inside_fields, inside_declarations}
use Rattle.cs_names.specs.Nested.{nested_in_declarations}
use Rattle.cs_names.specs.Scopes.{Place, Scope, Declared, declared_by, scope_of_fields, scope_of_declarations, bound_scope, open_scope, top_declared}

-- ---- names in them

has_seen_parts : (d : SeenDeclaration) (ds : List SeenDeclaration) → declarations_have (declarations_of (d ∷ ds)) ≡ (seen_has d || declarations_have (declarations_of ds))
has_seen_parts (field_seen f) ds = refl
has_seen_parts (embedding_seen o e) ds = refl
has_seen_parts (conditional_seen o cs e) ds = refl

pub has_parts : (d : Declaration) (ds : List Declaration) → declarations_have (declarations_view (d ∷ ds)) ≡ (seen_has (declaration_view d) || declarations_have (declarations_view ds))
has_parts d ds = has_seen_parts (declaration_view d) (map declaration_view ds)

pub field_has_parts : (f : Field) (fs : List Field) → fields_have (fields_view (f ∷ fs)) ≡ (field_has (field_view f) || fields_have (fields_view fs))
field_has_parts f fs = refl

-- ---- scopes

module _ (i : ℕ) where
  pub scope_field_parts : (f : Field) (fs : List Field) → scope_of_fields i (fields_view (f ∷ fs)) ≡ declared_by i (field_view f).label ++ scope_of_fields i (fields_view fs)
  scope_field_parts f fs = refl

  scope_seen_parts : (d : SeenDeclaration) (ds : List SeenDeclaration) → scope_of_declarations i (declarations_of (d ∷ ds)) ≡ declared_seen i d ++ scope_of_declarations i (declarations_of ds)
  scope_seen_parts (field_seen f) ds = refl
  scope_seen_parts (embedding_seen o e) ds = refl
  scope_seen_parts (conditional_seen o cs e) ds = refl

  pub scope_parts : (d : Declaration) (ds : List Declaration) → scope_of_declarations i (declarations_view (d ∷ ds)) ≡ declared_seen i (declaration_view d) ++ scope_of_declarations i (declarations_view ds)
  scope_parts d ds = scope_seen_parts (declaration_view d) (map declaration_view ds)

  -- one name of a file
  abbrev pub bound_by : NameTree → Scope
  bound_by n = cond n.is_bound (top_declared i n ∷ []) []

  abbrev pub opened_by : NameTree → Scope
  opened_by n = cond n.is_bound [] (top_declared i n ∷ [])

  bound_cases : (b : Bool) (d : Declared) (ds : Scope) → cond b (d ∷ ds) ds ≡ cond b (d ∷ []) [] ++ ds
  bound_cases true d ds = refl
  bound_cases false d ds = refl

  opened_cases : (b : Bool) (d : Declared) (ds : Scope) → cond b ds (d ∷ ds) ≡ cond b [] (d ∷ []) ++ ds
  opened_cases true d ds = refl
  opened_cases false d ds = refl

  pub bound_parts : (n : Name) (ns : List Name) → bound_scope i (map name_view (n ∷ ns)) ≡ bound_by (name_view n) ++ bound_scope i (map name_view ns)
  bound_parts n ns = bound_cases n.is_bound (top_declared i (name_view n)) (bound_scope i (map name_view ns))

  pub opened_parts : (n : Name) (ns : List Name) → open_scope i (map name_view (n ∷ ns)) ≡ opened_by (name_view n) ++ open_scope i (map name_view ns)
  opened_parts n ns = opened_cases n.is_bound (top_declared i (name_view n)) (open_scope i (map name_view ns))

-- ---- nested definitions

module _ (i : ℕ) (s : List ℕ) where
  nested_seen_parts : (d : SeenDeclaration) (ds : List SeenDeclaration) → nested_in_declarations i s (declarations_of (d ∷ ds)) ≡ nested_seen i s d ++ nested_in_declarations i s (declarations_of ds)
  nested_seen_parts (field_seen f) ds = refl
  nested_seen_parts (embedding_seen o e) ds = refl
  nested_seen_parts (conditional_seen o cs e) ds = refl

  pub nested_parts : (d : Declaration) (ds : List Declaration) → nested_in_declarations i s (declarations_view (d ∷ ds)) ≡ nested_seen i s (declaration_view d) ++ nested_in_declarations i s (declarations_view ds)
  nested_parts d ds = nested_seen_parts (declaration_view d) (map declaration_view ds)

-- ---- what is lifted

module _ (all : List DefinitionTree) (i : ℕ) (outer : List ℕ) (own : Scope) where
  pub lift_field_parts : (f : Field) (fs : List Field) (ts : Lifts) → lift_fields all i outer own (fields_view (f ∷ fs)) ts ≡ lift_fields all i outer own (fields_view fs) (lift_seen_field all i outer own (field_view f) ts)
  lift_field_parts f fs ts = refl

  lift_seen_parts : (d : SeenDeclaration) (ds : List SeenDeclaration) (ts : Lifts) → lift_declarations all i outer own (declarations_of (d ∷ ds)) ts ≡ lift_declarations all i outer own (declarations_of ds) (lift_seen all i outer own d ts)
  lift_seen_parts (field_seen f) ds ts = refl
  lift_seen_parts (embedding_seen o e) ds ts = refl
  lift_seen_parts (conditional_seen o cs e) ds ts = refl

  pub lift_parts : (d : Declaration) (ds : List Declaration) (ts : Lifts) → lift_declarations all i outer own (declarations_view (d ∷ ds)) ts ≡ lift_declarations all i outer own (declarations_view ds) (lift_seen all i outer own (declaration_view d) ts)
  lift_parts d ds ts = lift_seen_parts (declaration_view d) (map declaration_view ds) ts

-- ---- what is at fault

module _ (ts : Lifts) (i : ℕ) (inner : Bool) (own : Scope) (scopes : List Scope) where
  pub flaws_field_parts : (f : Field) (fs : List Field) → flaws_fields ts i inner own scopes (fields_view (f ∷ fs)) ≡ flaws_field_seen ts i inner own scopes (field_view f) ++ flaws_fields ts i inner own scopes (fields_view fs)
  flaws_field_parts f fs = refl

  flaws_seen_parts : (d : SeenDeclaration) (ds : List SeenDeclaration) → flaws_declarations ts i inner own scopes (declarations_of (d ∷ ds)) ≡ flaws_seen ts i inner own scopes d ++ flaws_declarations ts i inner own scopes (declarations_of ds)
  flaws_seen_parts (field_seen f) ds = refl
  flaws_seen_parts (embedding_seen o e) ds = refl
  flaws_seen_parts (conditional_seen o cs e) ds = refl

  pub flaws_parts : (d : Declaration) (ds : List Declaration) → flaws_declarations ts i inner own scopes (declarations_view (d ∷ ds)) ≡ flaws_seen ts i inner own scopes (declaration_view d) ++ flaws_declarations ts i inner own scopes (declarations_view ds)
  flaws_parts d ds = flaws_seen_parts (declaration_view d) (map declaration_view ds)

-- ---- definitions inside

module _ (by : Place → Option (List ℕ)) (opens : List ℕ → Bool) (i : ℕ) (own : Scope) (scopes : List Scope) where
  pub inside_field_parts : (f : Field) (fs : List Field) → inside_fields by opens i own scopes (fields_view (f ∷ fs)) ≡ inside_field_seen by opens i own scopes (field_view f) ++ inside_fields by opens i own scopes (fields_view fs)
  inside_field_parts f fs = refl

  inside_seen_parts : (d : SeenDeclaration) (ds : List SeenDeclaration) → inside_declarations by opens i own scopes (declarations_of (d ∷ ds)) ≡ inside_seen by opens i own scopes d ++ inside_declarations by opens i own scopes (declarations_of ds)
  inside_seen_parts (field_seen f) ds = refl
  inside_seen_parts (embedding_seen o e) ds = refl
  inside_seen_parts (conditional_seen o cs e) ds = refl

  pub inside_parts : (d : Declaration) (ds : List Declaration) → inside_declarations by opens i own scopes (declarations_view (d ∷ ds)) ≡ inside_seen by opens i own scopes (declaration_view d) ++ inside_declarations by opens i own scopes (declarations_view ds)
  inside_parts d ds = inside_seen_parts (declaration_view d) (map declaration_view ds)

-- a definition that is known is put there, and then those inside of it
pub defined_some : (old mid new : List DefinitionTree) (o : Option (List ℕ)) (s : List ℕ) (at : ℕ) (e r : Tree) (ds : List DefinitionTree) → new ≡ mid ++ ds → mid ≡ old ++ definition s at e ∷ [] → e ≡ r → o ≡ Some s → new ≡ old ++ defining o at r ds
defined_some old mid new o s at e r ds all grown same is =
    all ∙ ap (λ m. m ++ ds) grown ∙ append_assoc old (definition s at e ∷ []) ds ∙ ap₂ (λ x u. old ++ defining u at x ds) same (sym is)

pub defined_none : (old mid new : List DefinitionTree) (o : Option (List ℕ)) (at : ℕ) (r : Tree) (ds : List DefinitionTree) → new ≡ mid ++ ds → mid ≡ old → o ≡ None → new ≡ old ++ defining o at r ds
defined_none old mid new o at r ds all same is = all ∙ ap (λ m. m ++ ds) same ∙ ap (λ u. old ++ defining u at r ds) (sym is)

-- ---- fields that are kept

abbrev pub only_if : {X : Type 0} → Option ℕ → X → List X
only_if None x = x ∷ []
only_if (Some o) x = []

module _ (by : Place → Option (List ℕ)) (opens : List ℕ → Bool) (i : ℕ) (own : Scope) (scopes : List Scope) where
  abbrev pub kept_field : Field → List Seen
  kept_field f = only_if (field_view f).label.scoped (resolved_field_seen by opens i own scopes (field_view f))

  keep_field_list : (o : Option ℕ) (s : Seen) (ss : List Seen) → fields_of (only_if o s ++ ss) ≡ keep_field o s.label s.mark s.value (fields_of ss)
  keep_field_list None s ss = refl
  keep_field_list (Some o) s ss = refl

  pub kept_fields : (fs : List Field) → fields_of (flat_map kept_field fs) ≡ resolved_fields by opens i own scopes (fields_view fs)
  kept_fields [] = refl
  kept_fields (f ∷ fs) =
      keep_field_list (field_view f).label.scoped (resolved_field_seen by opens i own scopes (field_view f)) (flat_map kept_field fs)
      ∙ ap (keep_field (field_view f).label.scoped (field_view f).label (field_view f).mark (resolved_field_seen by opens i own scopes (field_view f)).value) (kept_fields fs)

  abbrev pub kept_seen : SeenDeclaration → List SeenDeclaration
  kept_seen (field_seen f) = only_if f.label.scoped (field_seen (resolved_field_seen by opens i own scopes f))
  kept_seen (embedding_seen o e) = resolved_seen by opens i own scopes (embedding_seen o e) ∷ []
  kept_seen (conditional_seen o cs e) = resolved_seen by opens i own scopes (conditional_seen o cs e) ∷ []

  keep_declared_list : (o : Option ℕ) (s : Seen) (ds : List SeenDeclaration) → declarations_of (only_if o (field_seen s) ++ ds) ≡ keep_declared o s.label s.mark s.value (declarations_of ds)
  keep_declared_list None s ds = refl
  keep_declared_list (Some o) s ds = refl

  kept_seen_parts : (d : SeenDeclaration) (cs ds : List SeenDeclaration) → declarations_of cs ≡ resolved_declarations by opens i own scopes (declarations_of ds) → declarations_of (kept_seen d ++ cs) ≡ resolved_declarations by opens i own scopes (declarations_of (d ∷ ds))
  kept_seen_parts (field_seen f) cs ds h =
      keep_declared_list f.label.scoped (resolved_field_seen by opens i own scopes f) cs ∙ ap (keep_declared f.label.scoped f.label f.mark (resolved_field_seen by opens i own scopes f).value) h
  kept_seen_parts (embedding_seen o e) cs ds h = ap (embedded o (resolved by opens i (own ∷ scopes) e)) h
  kept_seen_parts (conditional_seen o qs e) cs ds h = ap (conditional o qs (resolved by opens i (own ∷ scopes) e)) h

  pub kept_declarations : (ds : List Declaration) → declarations_of (flat_map (λ d. kept_seen (declaration_view d)) ds) ≡ resolved_declarations by opens i own scopes (declarations_view ds)
  kept_declarations [] = refl
  kept_declarations (d ∷ ds) = kept_seen_parts (declaration_view d) (flat_map (λ x. kept_seen (declaration_view x)) ds) (map declaration_view ds) (kept_declarations ds)

  -- a declaration of a name isn't kept, and each other one is
  pub lost : (d : SeenDeclaration) → is_scoped_seen d ≡ true → kept_seen d ≡ []
  lost (field_seen f) h = by_scope f.label.scoped h
    where
      by_scope : (o : Option ℕ) → is_some o ≡ true → only_if o (field_seen (resolved_field_seen by opens i own scopes f)) ≡ []
      by_scope None k = cc
      by_scope (Some o) k = refl
  lost (embedding_seen o e) h = cc
  lost (conditional_seen o cs e) h = cc

  pub kept : (d : SeenDeclaration) → is_scoped_seen d ≡ false → kept_seen d ≡ resolved_seen by opens i own scopes d ∷ []
  kept (field_seen f) h = by_scope f.label.scoped h
    where
      by_scope : (o : Option ℕ) → is_some o ≡ false → only_if o (field_seen (resolved_field_seen by opens i own scopes f)) ≡ field_seen (resolved_field_seen by opens i own scopes f) ∷ []
      by_scope None k = refl
      by_scope (Some o) k = cc
  kept (embedding_seen o e) h = refl
  kept (conditional_seen o cs e) h = refl

pub only_here : {X : Type 0} (o : Option ℕ) (x : X) → is_some o ≡ false → only_if o x ≡ x ∷ []
only_here None x h = refl
only_here (Some o) x h = cc

pub only_nowhere : {X : Type 0} (o : Option ℕ) (x : X) → is_some o ≡ true → only_if o x ≡ []
only_nowhere None x h = cc
only_nowhere (Some o) x h = refl

pub resolved_trees : (by : Place → Option (List ℕ)) (opens : List ℕ → Bool) (i : ℕ) (scopes : List Scope) (es : List Expr) → trees_of (map (λ e. resolved by opens i scopes (expr_view e)) es) ≡ resolved_each by opens i scopes (exprs_view es)
resolved_trees by opens i scopes [] = refl
resolved_trees by opens i scopes (e ∷ es) = ap (more (resolved by opens i scopes (expr_view e))) (resolved_trees by opens i scopes es)
