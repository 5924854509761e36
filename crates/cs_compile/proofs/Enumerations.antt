-- Disjunctions of literals.
use Rattle.std.proofs.Common.{◌≡◌, ◌≤◌, List, [], ◌∷◌, ◌++◌, Bool, true, false, ◌&&◌, ◌||◌, Option, Some, None, is_some, refl, sym, ap, ap₂, ◌∙◌, arith, if◌then◌else◌}
use Rattle.std.specs.Option.{option_map_or}
use Rattle.std.specs.List.{list_all, list_any, filter_map, cons_option, AllByRecursion as Each}
use Rattle.std.proofs.Math.Bool.{and-true}
use Rattle.std.proofs.Math.Nat.{max-le}
use Rattle.std.proofs.lemmas.List.Elements.{filter_map-append}
use Rattle.std.proofs.lemmas.List.Folds.{list_all-append}
use Rattle.std.proofs.lemmas.Option.{same_Some}
use Rattle.std.specs.Prelude.{option_map}
use Rattle.cs_document.specs.Document.{Document, null, boolean, integer, text, Documents, documents_depth, depth, elements, document_eq}
use Rattle.cs_document.specs.Equality.{document_eq-true}
use Rattle.cs_document.specs.View.{documents_of}
use Rattle.cs_guard.specs.References.{direct, direct_all}
use Rattle.cs_grammar.specs.Atom.{Atom}
use Rattle.cs_package.specs.Expression as cue
use Rattle.cs_package.specs.Expression.{Expression, Expressions, operands}
use Rattle.cs_package.specs.Inside as inside
use Rattle.cs_package.specs.Inside.{atom_of}
use Rattle.cs_package.specs.View.{expressions_of}
use Rattle.cs_package.specs.declared.inside.Literal.{Literal}
use Rattle.cs_package.specs.declared.inside.Literal.TheVariants as variant
use Rattle.cs_profile.specs.Validity.{IsValidity}
use Rattle.cs_instance.proofs.Placed.{operands_of}
use Rattle.cs_compile.proofs.Asserted.{elements_back, valid_any_of}
use Rattle.cs_compile.proofs.Firsts.{any_firsts, each_firsts}
use Rattle.cs_compile.specs.Literals.{literal_view}
use Rattle.cs_compile.specs.Translation.{schema_of, schemas_of, constant, literal, literals, firsts, enumeration, any_of, disjunction_schema}

-- ---- a literal

-- the document of an atom that is a literal
abbrev document_of : Atom → Document
document_of cue.null = null
document_of (cue.boolean b) = boolean b
document_of (cue.integer n) = integer n
document_of (cue.text s) = text s
document_of _ = null

seen-document : (o : Option Literal) → option_map literal_view o ≡ option_map document_of (option_map atom_of o)
seen-document None = refl
seen-document (Some variant.Null) = refl
seen-document (Some (variant.Bool b)) = refl
seen-document (Some (variant.Int n)) = refl
seen-document (Some (variant.Text s)) = refl

literal-document : (e : Expression) → option_map document_of (inside.literal e) ≡ literal e
literal-document (cue.atom cue.null) = refl
literal-document (cue.atom (cue.boolean b)) = refl
literal-document (cue.atom (cue.integer n)) = refl
literal-document (cue.atom (cue.text s)) = refl
literal-document _ = refl

-- the document of the literal that the code finds
pub literal_seen : (o : Option Literal) (e : Expression) → option_map atom_of o ≡ inside.literal e → option_map literal_view o ≡ literal e
literal_seen o e h = seen-document o ∙ ap (option_map document_of) h ∙ literal-document e

literal-constant : (e : Expression) (v : Document) → literal e ≡ Some v → schema_of e ≡ constant v
literal-constant (cue.atom cue.null) v is = ap constant (same_Some null v is)
literal-constant (cue.atom (cue.boolean b)) v is = ap constant (same_Some (boolean b) v is)
literal-constant (cue.atom (cue.integer n)) v is = ap constant (same_Some (integer n) v is)
literal-constant (cue.atom (cue.text s)) v is = ap constant (same_Some (text s) v is)
literal-constant _ v is = cc

-- it refers to nothing
literal-direct : (e : Expression) (v : Document) → literal e ≡ Some v → direct e ≡ []
literal-direct (cue.atom a) v is = refl
literal-direct _ v is = cc

-- and has nothing inside
literal-flat : (e : Expression) (v : Document) → literal e ≡ Some v → depth v ≡ 0
literal-flat (cue.atom cue.null) v is = ap depth (sym (same_Some null v is))
literal-flat (cue.atom (cue.boolean b)) v is = ap depth (sym (same_Some (boolean b) v is))
literal-flat (cue.atom (cue.integer n)) v is = ap depth (sym (same_Some (integer n) v is))
literal-flat (cue.atom (cue.text s)) v is = ap depth (sym (same_Some (text s) v is))
literal-flat _ v is = cc

-- ---- literals alone, or not

-- what holds of the enumeration where each operand is a literal, and otherwise of their schemas, holds of the disjunction
pub by_literals : (P : Document → Type 0) (es : List Expression) (ds : Documents)
    → (list_all (λ e. is_some (literal e)) es ≡ true → P (enumeration (filter_map literal es))) → P (any_of ds) → P (disjunction_schema es ds)
by_literals P es ds alone otherwise = go (list_all (λ e. is_some (literal e)) es) refl
  where
    go : (b : Bool) → list_all (λ e. is_some (literal e)) es ≡ b → P (option_map_or enumeration (if b then Some (filter_map literal es) else None) (any_of ds))
    go true h = alone h
    go false h = otherwise

-- ---- what an enumeration says

module _ (R : Document) (V : Document → Document → Bool) (g : IsValidity R V) where
  valid_constant : (v x : Document) → V (constant v) x ≡ document_eq v x
  valid_constant v x = g _ x ∙ and-true _

  any_literals : (es : List Expression) (x : Document) → list_all (λ e. is_some (literal e)) es ≡ true
      → list_any (λ v. document_eq v x) (filter_map literal es) ≡ list_any (λ e. V (schema_of e) x) es
  any_literals [] x h = refl
  any_literals (e ∷ es) x h = go (literal e) refl h (any_literals es x)
    where
      go : (o : Option Document) → literal e ≡ o → (is_some o && list_all (λ e. is_some (literal e)) es) ≡ true
          → (list_all (λ e. is_some (literal e)) es ≡ true → list_any (λ v. document_eq v x) (filter_map literal es) ≡ list_any (λ e. V (schema_of e) x) es)
          → list_any (λ v. document_eq v x) (cons_option o (filter_map literal es)) ≡ (V (schema_of e) x || list_any (λ e. V (schema_of e) x) es)
      go None is k later = cc
      go (Some v) is k later = ap₂ (λ a b. a || b) (sym (valid_constant v x) ∙ ap (λ s. V s x) (sym (literal-constant e v is))) (later k)

  valid_enumeration : (vs : List Document) (x : Document) → V (enumeration vs) x ≡ list_any (λ v. document_eq v x) vs
  valid_enumeration vs x =
      g _ x ∙ and-true _ ∙ ap (list_any (λ v. document_eq v x)) (elements_back (firsts document_eq vs)) ∙ any_firsts document_eq document_eq-true (λ v. document_eq v x) vs

  -- some operand's schema validates the document
  pub valid_disjunction : (es : Expressions) (x : Document) → list_any (λ d. V d x) (elements (schemas_of es)) ≡ list_any (λ e. V (schema_of e) x) (operands es)
      → V (schema_of (cue.disjunction es)) x ≡ list_any (λ e. V (schema_of e) x) (operands es)
  valid_disjunction es x schemas =
      by_literals (λ d. V d x ≡ list_any (λ e. V (schema_of e) x) (operands es)) (operands es) (schemas_of es)
      (λ alone. valid_enumeration (filter_map literal (operands es)) x ∙ any_literals (operands es) x alone)
      (valid_any_of R V g (schemas_of es) x ∙ schemas)

-- ---- what it holds

-- literals refer to nothing
pub literals-direct : (es : Expressions) → list_all (λ e. is_some (literal e)) (operands es) ≡ true → direct_all es ≡ []
literals-direct cue.no_expressions h = refl
literals-direct (cue.expression e es) h = go (literal e) refl h (literals-direct es)
  where
    go : (o : Option Document) → literal e ≡ o → (is_some o && list_all (λ e. is_some (literal e)) (operands es)) ≡ true
        → (list_all (λ e. is_some (literal e)) (operands es) ≡ true → direct_all es ≡ []) → (direct e ++ direct_all es) ≡ []
    go None is k later = cc
    go (Some v) is k later = ap₂ (λ a b. a ++ b) (literal-direct e v is) (later k)

literals-flat : (es : List Expression) → Each (λ v. depth v ≡ 0) (filter_map literal es)
literals-flat [] = tt
literals-flat (e ∷ es) = go (literal e) refl (literals-flat es)
  where
    go : (o : Option Document) → literal e ≡ o → Each (λ v. depth v ≡ 0) (filter_map literal es) → Each (λ v. depth v ≡ 0) (cons_option o (filter_map literal es))
    go None is later = later
    go (Some v) is later = (literal-flat e v is, later)

flat : (vs : List Document) → Each (λ v. depth v ≡ 0) vs → documents_depth (documents_of vs) ≤ 0
flat [] h = omega arith
flat (v ∷ vs) h = max-le (omega (arith, h.0)) (flat vs h.1)

pub enumeration-depth : (es : List Expression) → depth (enumeration (filter_map literal es)) ≤ 2
enumeration-depth es =
    let within = flat (firsts document_eq (filter_map literal es)) (each_firsts document_eq (λ v. depth v ≡ 0) (filter_map literal es) (literals-flat es)) in
    omega (arith, within)

-- ---- what the code finds

-- the schema of literals that are in an array
pub enumerated : (es : List Expression) (d : Document) → Some d ≡ option_map enumeration (literals es) → d ≡ schema_of (cue.disjunction (expressions_of es))
enumerated es d found = go (literals es) refl found
  where
    go : (o : Option (List Document)) → literals es ≡ o → Some d ≡ option_map enumeration o → d ≡ option_map_or enumeration (literals (operands (expressions_of es))) (any_of (schemas_of (expressions_of es)))
    go None is h = cc
    go (Some vs) is h = sym (same_Some (enumeration vs) d (sym h)) ∙ sym (ap (λ o. option_map_or enumeration o (any_of (schemas_of (expressions_of es)))) (ap literals (operands_of es) ∙ is))

pub not_enumerated : (es : List Expression) → None ≡ option_map enumeration (literals es) → any_of (schemas_of (expressions_of es)) ≡ schema_of (cue.disjunction (expressions_of es))
not_enumerated es found = go (literals es) refl found
  where
    go : (o : Option (List Document)) → literals es ≡ o → None ≡ option_map enumeration o → any_of (schemas_of (expressions_of es)) ≡ option_map_or enumeration (literals (operands (expressions_of es))) (any_of (schemas_of (expressions_of es)))
    go None is h = sym (ap (λ o. option_map_or enumeration o (any_of (schemas_of (expressions_of es)))) (ap literals (operands_of es) ∙ is))
    go (Some vs) is h = cc

-- one literal more
pub literals-last : (es : List Expression) (e : Expression) (vs : List Document) (v : Document) → literals es ≡ Some vs → literal e ≡ Some v → literals (es ++ e ∷ []) ≡ Some (vs ++ v ∷ [])
literals-last es e vs v all is =
    let h = parts (list_all (λ x. is_some (literal x)) es) refl all in
    ap₂ (λ b us. if b then Some us else None)
    (list_all-append (λ x. is_some (literal x)) es (e ∷ []) ∙ ap₂ (λ a o. a && (is_some o && true)) h.0 is)
    (filter_map-append literal es (e ∷ []) ∙ ap₂ (λ us o. us ++ cons_option o []) h.1 is)
  where
    parts : (b : Bool) → list_all (λ x. is_some (literal x)) es ≡ b → (if b then Some (filter_map literal es) else None) ≡ Some vs → (list_all (λ x. is_some (literal x)) es ≡ true) × (filter_map literal es ≡ vs)
    parts true k h = (k, same_Some (filter_map literal es) vs h)
    parts false k h = cc

-- one that is none
pub no_literals : (es fs : List Expression) (e : Expression) → literal e ≡ None → literals (es ++ e ∷ fs) ≡ None
no_literals es fs e is =
    ap (λ b. if b then Some (filter_map literal (es ++ e ∷ fs)) else None)
    (list_all-append (λ x. is_some (literal x)) es (e ∷ fs) ∙ ap (λ o. list_all (λ x. is_some (literal x)) es && (is_some o && list_all (λ x. is_some (literal x)) fs)) is ∙ last_false (list_all (λ x. is_some (literal x)) es))
  where
    last_false : (a : Bool) → (a && false) ≡ false
    last_false true = refl
    last_false false = refl
