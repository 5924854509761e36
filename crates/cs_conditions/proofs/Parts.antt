-- What declarations are one after another, in the code and in the definitions.
use Rattle.std.proofs.Common.{◌≡◌, ℕ, Bool, true, false, ◌||◌, ◌&&◌, not, cond, List, [], ◌∷◌, ◌++◌, Option, Some, None, map, refl, sym, ap, ap₂, ◌∙◌, Vec, Global}
use Rattle.std.specs.BTreeMap.{get_by}
use Rattle.std.specs.Cmp.Lexicographic.{slice_cmp}
use Rattle.std.specs.Map.{update}
use Rattle.std.specs.Ordering.{nat_cmp}
use Rattle.std.specs.Str.{bytes_eq}
use Rattle.std.proofs.lemmas.Slice.Eq.{bytes_eq-Decides}
use Rattle.std.proofs.lemmas.Simd.{map-map}
use Rattle.cs_grammar.specs.Tree.{Tree, Declarations, declared, embedded, more, field}
use Rattle.cs_grammar.specs.View.{expr_view, exprs_view, trees_of, fields_of, Seen, SeenDeclaration, field_seen, embedding_seen, conditional_seen, field_view, fields_view, declaration_view, declarations_view, declarations_of, condition_view}
use Rattle.cs_grammar.specs.declared.ast.Expr.{Expr}
use Rattle.cs_grammar.specs.declared.ast.Declaration.{Declaration}
use Rattle.cs_grammar.specs.declared.ast.Field.{Field}
use Rattle.cs_grammar.specs.declared.ast.Condition.{Condition}
use Rattle.cs_grammar.specs.declared.ast.Declaration as code
use Rattle.cs_grammar.proofs.Views.{view-value, view-conditional}
use Rattle.cs_conditions.specs.Asked.{Asked, said, or_else, first_default, default_of, is_of, is_every}
use Rattle.cs_conditions.specs.Checks.{with_field, with_seen, default_seen, asked_view, asked_by, asked_in, asked_field, asked_with, IsAskedWith, field_declares, seen_declares, seen_has, flaws_seen, chosen_field_seen, chosen_seen}
use Rattle.cs_conditions.specs.Choice.{choice}
use Rattle.cs_conditions.specs.Chosen.{chosen, chosen_each, chosen_fields, chosen_declarations}
use Rattle.cs_conditions.specs.Faults.{fields_declare, declarations_declare, flaws, chain_flaws, flaws_fields, flaws_declarations}
use Rattle.cs_conditions.specs.Having.{has_condition, fields_have, declarations_have}
use Rattle.cs_conditions.specs.Known.{Knowledge}
use Rattle.cs_conditions.specs.declared.asked.Asked as seen
use Rattle.cs_conditions.specs.declared.asked.AskedTable.{AskedTable}
use Rattle.cs_conditions.specs.declared.asked.Said.{Said}

-- ---- conditions in them

has_seen_parts : (d : SeenDeclaration) (ds : List SeenDeclaration) → declarations_have (declarations_of (d ∷ ds)) ≡ (seen_has d || declarations_have (declarations_of ds))
has_seen_parts (field_seen f) ds = refl
has_seen_parts (embedding_seen o e) ds = refl
has_seen_parts (conditional_seen o cs e) ds = refl

pub has_parts : (d : Declaration) (ds : List Declaration) → declarations_have (declarations_view (d ∷ ds)) ≡ (seen_has (declaration_view d) || declarations_have (declarations_view ds))
has_parts d ds = has_seen_parts (declaration_view d) (map declaration_view ds)

pub field_has_parts : (f : Field) (fs : List Field) → fields_have (fields_view (f ∷ fs)) ≡ (has_condition (expr_view f.value) || fields_have (fields_view fs))
field_has_parts f fs = ap (λ e. has_condition e || fields_have (fields_view fs)) (view-value f)

-- ---- fields that are declared

declares_seen_parts : (b : Bool) (s : List ℕ) (d : SeenDeclaration) (ds : List SeenDeclaration) → declarations_declare b s (declarations_of (d ∷ ds)) ≡ (seen_declares b s d || declarations_declare b s (declarations_of ds))
declares_seen_parts b s (field_seen f) ds = refl
declares_seen_parts b s (embedding_seen o e) ds = refl
declares_seen_parts b s (conditional_seen o cs e) ds = refl

pub declares_parts : (b : Bool) (s : List ℕ) (d : Declaration) (ds : List Declaration) → declarations_declare b s (declarations_view (d ∷ ds)) ≡ (seen_declares b s (declaration_view d) || declarations_declare b s (declarations_view ds))
declares_parts b s d ds = declares_seen_parts b s (declaration_view d) (map declaration_view ds)

pub field_declares_parts : (b : Bool) (s : List ℕ) (f : Field) (fs : List Field) → fields_declare b s (fields_view (f ∷ fs)) ≡ (field_declares b s (field_view f) || fields_declare b s (fields_view fs))
field_declares_parts b s f fs = refl

-- ---- what is asked for

said_seen_parts : (known : Knowledge) (s : List ℕ) (a : Said) (d : SeenDeclaration) (ds : List SeenDeclaration) → said known s a (declarations_of (d ∷ ds)) ≡ said known s (with_seen known s a d) (declarations_of ds)
said_seen_parts known s a (field_seen f) ds = refl
said_seen_parts known s a (embedding_seen o e) ds = refl
said_seen_parts known s a (conditional_seen o cs e) ds = refl

pub said_parts : (known : Knowledge) (s : List ℕ) (a : Said) (d : Declaration) (ds : List Declaration) → said known s a (declarations_view (d ∷ ds)) ≡ said known s (with_seen known s a (declaration_view d)) (declarations_view ds)
said_parts known s a d ds = said_seen_parts known s a (declaration_view d) (map declaration_view ds)

default_seen_parts : (known : Knowledge) (s : List ℕ) (d : SeenDeclaration) (ds : List SeenDeclaration) → first_default known s (declarations_of (d ∷ ds)) ≡ or_else (default_seen known s d) (first_default known s (declarations_of ds))
default_seen_parts known s (field_seen f) ds = refl
default_seen_parts known s (embedding_seen o e) ds = refl
default_seen_parts known s (conditional_seen o cs e) ds = refl

or_else_assoc : (a b c : Option Tree) → or_else a (or_else b c) ≡ or_else (or_else a b) c
or_else_assoc None b c = refl
or_else_assoc (Some x) b c = refl

or_else_nothing : (a : Option Tree) → or_else a None ≡ a
or_else_nothing None = refl
or_else_nothing (Some x) = refl

-- with what further declarations say
abbrev pub asked_on : Knowledge → List ℕ → Asked → Declarations → Asked
asked_on known s a ds = record { said = said known s a.said ds; default = or_else a.default (first_default known s ds) }

pub asked_parts : (known : Knowledge) (s : List ℕ) (a : Asked) (d : Declaration) (ds : List Declaration) → asked_on known s a (declarations_view (d ∷ ds)) ≡ asked_on known s (asked_with known s a (declaration_view d)) (declarations_view ds)
asked_parts known s a d ds =
    ap₂ (λ x y. record { said = x; default = y }) (said_parts known s a.said d ds)
    (ap (or_else a.default) (default_seen_parts known s (declaration_view d) (map declaration_view ds))
    ∙ or_else_assoc a.default (default_seen known s (declaration_view d)) (first_default known s (declarations_view ds)))

pub asked_done : (known : Knowledge) (s : List ℕ) (a : Asked) → asked_on known s a (declarations_view []) ≡ a
asked_done known s a = ap (λ y. record { said = a.said; default = y }) (or_else_nothing a.default)

-- a declaration of another field, or of none
pub asked_other : (known : Knowledge) (s : List ℕ) (a : Asked) (f : Seen) → is_of s f.label f.mark ≡ false → a ≡ asked_with known s a (field_seen f)
asked_other known s a f other =
    sym (ap₂ (λ x y. record { said = x; default = y }) (ap (λ b. cond b (with_field known a.said f) a.said) other)
    (ap (λ b. or_else a.default (cond b (default_of known f.mark f.value) None)) other ∙ or_else_nothing a.default))

-- a declaration of the field
pub asked_same : (known : Knowledge) (s : List ℕ) (a : Asked) (f : Seen) → is_of s f.label f.mark ≡ true → asked_field known a f ≡ asked_with known s a (field_seen f)
asked_same known s a f same =
    sym (ap₂ (λ x y. record { said = x; default = y }) (ap (λ b. cond b (with_field known a.said f) a.said) same)
    (ap (λ b. or_else a.default (cond b (default_of known f.mark f.value) None)) same))

-- a field is put into the table
pub asked_added : (known : Knowledge) (m n : AskedTable) (f : Seen) (v : seen.Asked) (name : List ℕ) → is_every f.mark ≡ false → name ≡ f.label.text
    → asked_view v ≡ asked_field known (asked_in m name) f
    → ((t : List ℕ) → get_by (λ k. slice_cmp nat_cmp t k.now) n.table ≡ update bytes_eq (λ ns. get_by (λ k. slice_cmp nat_cmp ns k.now) m.table) name (Some v) t)
    → IsAskedWith known m (field_seen f) n
asked_added known m n f v name single same is after t = ap asked_by (after t) ∙ by (bytes_eq name t) refl
  where
    of : is_of t f.label f.mark ≡ bytes_eq name t
    of = ap₂ (λ b s. not b && bytes_eq s t) single (sym same)

    by : (b : Bool) → bytes_eq name t ≡ b → asked_by (cond b (Some v) (get_by (λ k. slice_cmp nat_cmp t k.now) m.table)) ≡ asked_with known t (asked_in m t) (field_seen f)
    by true h = is ∙ ap (λ s. asked_field known (asked_in m s) f) ((bytes_eq-Decides name t).0 h) ∙ asked_same known t (asked_in m t) f (of ∙ h)
    by false h = asked_other known t (asked_in m t) f (of ∙ h)

-- ---- what is at fault

module _ (known : Knowledge) where
  pub field_flaws_parts : (f : Field) (fs : List Field) → flaws_fields known (fields_view (f ∷ fs)) ≡ flaws known (expr_view f.value) ++ flaws_fields known (fields_view fs)
  field_flaws_parts f fs = ap (λ e. flaws known e ++ flaws_fields known (fields_view fs)) (view-value f)

  flaws_seen_parts : (all : Declarations) (d : SeenDeclaration) (ds : List SeenDeclaration) → flaws_declarations known all (declarations_of (d ∷ ds)) ≡ flaws_seen known all d ++ flaws_declarations known all (declarations_of ds)
  flaws_seen_parts all (field_seen f) ds = refl
  flaws_seen_parts all (embedding_seen o e) ds = refl
  flaws_seen_parts all (conditional_seen o cs e) ds = refl

  pub flaws_parts : (all : Declarations) (d : Declaration) (ds : List Declaration) → flaws_declarations known all (declarations_view (d ∷ ds)) ≡ flaws_seen known all (declaration_view d) ++ flaws_declarations known all (declarations_view ds)
  flaws_parts all d ds = flaws_seen_parts all (declaration_view d) (map declaration_view ds)

  -- of a conditional
  pub conditional_flaws : (all : Declarations) (d : Declaration) (o : ℕ) (v : Vec Condition Global) (e : Expr) (cs : List Condition) → d ≡ code.Conditional o v e → cs ≡ v.items → flaws_seen known all (declaration_view d) ≡ chain_flaws known all (expr_view e) [] (map condition_view cs) ++ flaws known (expr_view e)
  conditional_flaws all d o v e cs is same =
      ap (λ x. flaws_seen known all (declaration_view x)) is
      ∙ ap (flaws_seen known all) (view-conditional o v e)
      ∙ ap (λ xs. chain_flaws known all (expr_view e) [] (map condition_view xs) ++ flaws known (expr_view e)) (sym same)

  -- ---- copies

  chosen_seen_cons : (all : Declarations) (d : SeenDeclaration) (cs ds : List SeenDeclaration) → declarations_of cs ≡ chosen_declarations known all (declarations_of ds) → declarations_of (chosen_seen known all d ∷ cs) ≡ chosen_declarations known all (declarations_of (d ∷ ds))
  chosen_seen_cons all (field_seen f) cs ds h = ap (declared f.label f.mark (chosen known f.value)) h
  chosen_seen_cons all (embedding_seen o e) cs ds h = ap (embedded o (chosen known e)) h
  chosen_seen_cons all (conditional_seen o qs e) cs ds h = ap (embedded o (choice known all o qs (chosen known e))) h

  chosen_seen_parts : (all : Declarations) (ds : List SeenDeclaration) → declarations_of (map (chosen_seen known all) ds) ≡ chosen_declarations known all (declarations_of ds)
  chosen_seen_parts all [] = refl
  chosen_seen_parts all (d ∷ ds) = chosen_seen_cons all d (map (chosen_seen known all) ds) ds (chosen_seen_parts all ds)

  pub chosen_parts : (all : Declarations) (ds : List Declaration) → declarations_of (map (λ d. chosen_seen known all (declaration_view d)) ds) ≡ chosen_declarations known all (declarations_view ds)
  chosen_parts all ds = ap declarations_of (sym (map-map (chosen_seen known all) declaration_view ds)) ∙ chosen_seen_parts all (map declaration_view ds)

  pub chosen_trees : (es : List Expr) → trees_of (map (λ e. chosen known (expr_view e)) es) ≡ chosen_each known (exprs_view es)
  chosen_trees [] = refl
  chosen_trees (e ∷ es) = ap (more (chosen known (expr_view e))) (chosen_trees es)

  pub chosen_field_list : (fs : List Field) → fields_of (map (λ f. chosen_field_seen known (field_view f)) fs) ≡ chosen_fields known (fields_view fs)
  chosen_field_list [] = refl
  chosen_field_list (f ∷ fs) = ap (field (field_view f).label (field_view f).mark (chosen known (field_view f).value)) (chosen_field_list fs)
