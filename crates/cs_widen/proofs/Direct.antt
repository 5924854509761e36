-- A literal with defaults, read as it is written, is what it stands for.
use Rattle.std.proofs.Common.{◌≡◌, ℕ, Bool, true, false, List, [], ◌∷◌, Option, Some, None, refl, ap, ◌∙◌}
use Rattle.std.specs.Prelude.{◌||◌}
use Rattle.std.specs.List.{list_all, list_any}
use Rattle.std.specs.Str.{bytes_eq}
use Rattle.cs_document.specs.Document.{Document, object, Entry, entries, under}
use Rattle.cs_grammar.specs.declared.ast.FieldMark.{FieldMark}
use Rattle.cs_grammar.specs.declared.ast.FieldMark.TheVariants.{Regular, Optional, Required, Every}
use Rattle.cs_grammar.specs.Tree.{Label, written_label, Tree, struct, Fields, no_field, field}
use Rattle.cs_instance.specs.Constraint.{declaration_holds, value_holds, allows}
use Rattle.cs_instance.specs.Instance.{Rule, node, IsInstance}
use Rattle.cs_package.specs.Environment.{Environment}
use Rattle.cs_package.specs.Expression.{Expression, declarations, Declaration, mark_of}
use Rattle.cs_resolve.specs.Refinement.{Refinements}
use Rattle.cs_resolve.specs.Resolved.{resolved, resolved_fields}
use Rattle.cs_defaults.specs.Leading.{leading, has_default}
use Rattle.cs_defaults.specs.Unmarked.{unmarked, unmarked_fields, optional_if}
use Rattle.cs_widen.specs.Direct.{fields_read, declaration_reads, field_reads, is_allowed, AreReadDirectly}

pub all_same : {X : Type 0} (p q : X → Bool) → ((x : X) → p x ≡ q x) → (xs : List X) → list_all p xs ≡ list_all q xs
all_same p q same [] = refl
all_same p q same (x ∷ xs) = rw (same x, all_same p q same xs) refl

module _ (rs : Refinements) (has : List ℕ → Bool) (I : Rule → Document → Bool) where
  abbrev inside : Document → Expression → Bool
  inside y e = I (node e) y

  abbrev as_written : Document → Tree → Bool
  as_written y e = I (node (resolved rs (unmarked has e))) y

  abbrev declared : List ℕ → Bool → FieldMark → Tree → Declaration Expression
  declared s d m e = record { label = s; mark = mark_of (optional_if d m); value = resolved rs (unmarked has e) }

  -- of a regular field: with a default its key may be missing
  value_of_regular : (d : Bool) (s : List ℕ) (e : Tree) (y : Option Document) → has_default has (leading e) ≡ d → value_holds inside (declared s d Regular e) y ≡ field_reads has as_written Regular e y
  value_of_regular true s e None h = rw h refl
  value_of_regular true s e (Some y) h = refl
  value_of_regular false s e None h = rw h refl
  value_of_regular false s e (Some y) h = refl

  holds_of_regular : (d : Bool) (s : List ℕ) (e : Tree) (ms : List (Entry Document)) → has_default has (leading e) ≡ d → declaration_holds inside (declared s d Regular e) ms ≡ declaration_reads has as_written s Regular e ms
  holds_of_regular true s e ms h = value_of_regular true s e (under s ms) h
  holds_of_regular false s e ms h = value_of_regular false s e (under s ms) h

  value_of_optional : (d : Bool) (s : List ℕ) (e : Tree) (y : Option Document) → value_holds inside (declared s d Optional e) y ≡ field_reads has as_written Optional e y
  value_of_optional true s e None = refl
  value_of_optional true s e (Some y) = refl
  value_of_optional false s e None = refl
  value_of_optional false s e (Some y) = refl

  value_of_required : (d : Bool) (s : List ℕ) (e : Tree) (y : Option Document) → value_holds inside (declared s d Required e) y ≡ field_reads has as_written Required e y
  value_of_required true s e None = refl
  value_of_required true s e (Some y) = refl
  value_of_required false s e None = refl
  value_of_required false s e (Some y) = refl

  holds : (d : Bool) (s : List ℕ) (m : FieldMark) (e : Tree) (ms : List (Entry Document)) → has_default has (leading e) ≡ d → declaration_holds inside (declared s d m e) ms ≡ declaration_reads has as_written s m e ms
  holds d s Regular e ms h = holds_of_regular d s e ms h
  holds true s Optional e ms h = value_of_optional true s e (under s ms)
  holds false s Optional e ms h = value_of_optional false s e (under s ms)
  holds true s Required e ms h = value_of_required true s e (under s ms)
  holds false s Required e ms h = value_of_required false s e (under s ms)
  holds true s (Every o) e ms h = refl
  holds false s (Every o) e ms h = refl

  all_hold : (fs : Fields) (ms : List (Entry Document)) → list_all (λ d. declaration_holds inside d ms) (declarations (resolved_fields rs (unmarked_fields has fs))) ≡ fields_read has as_written fs ms
  all_hold no_field ms = refl
  all_hold (field l m e fs) ms = rw (holds (has_default has (leading e)) l.text m e ms refl, all_hold fs ms) refl

  -- which keys are allowed
  allows_here : (d : Bool) (k : List ℕ) (l : List ℕ) (m : FieldMark) (e : Tree) (more : Bool) (fs : Fields) → more ≡ is_allowed k fs → (allows (declared l d m e) k || more) ≡ is_allowed k (field (written_label l false) m e fs)
  allows_here true k l Regular e more fs h = ap (λ b. bytes_eq k l || b) h
  allows_here false k l Regular e more fs h = ap (λ b. bytes_eq k l || b) h
  allows_here true k l Optional e more fs h = ap (λ b. bytes_eq k l || b) h
  allows_here false k l Optional e more fs h = ap (λ b. bytes_eq k l || b) h
  allows_here true k l Required e more fs h = ap (λ b. bytes_eq k l || b) h
  allows_here false k l Required e more fs h = ap (λ b. bytes_eq k l || b) h
  allows_here true k l (Every o) e more fs h = refl
  allows_here false k l (Every o) e more fs h = refl

  same_label : (k : List ℕ) (l : Label) (m : FieldMark) (e : Tree) (fs : Fields) → is_allowed k (field (written_label l.text false) m e fs) ≡ is_allowed k (field l m e fs)
  same_label k l Regular e fs = refl
  same_label k l Optional e fs = refl
  same_label k l Required e fs = refl
  same_label k l (Every o) e fs = refl

  allowed : (k : List ℕ) (fs : Fields) → list_any (λ d. allows d k) (declarations (resolved_fields rs (unmarked_fields has fs))) ≡ is_allowed k fs
  allowed k no_field = refl
  allowed k (field l m e fs) = allows_here (has_default has (leading e)) k l.text m e _ fs (allowed k fs) ∙ same_label k l m e fs

pub read_directly : (E : Environment) (I : Rule → Document → Bool) → IsInstance E I → AreReadDirectly I
read_directly E I is rs has o fs opened ms =
    is (node (resolved rs (unmarked has (struct o fs opened)))) (object ms)
    ∙ rw (all_hold rs has I fs (entries ms), all_same _ _ (λ (m : Entry Document). allowed rs has I m.0 fs) (entries ms)) refl
