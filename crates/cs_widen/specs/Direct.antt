-- Struct literals with defaults, read as they are written (CUE, default values; that nothing is filled in is an own rule): no file without
-- marks is made of them here. A law says that this is what they stand for.
use Rattle.std.specs.Prelude.{◌≡◌, ℕ, Bool, true, false, ◌&&◌, ◌||◌, List, Option, Some, None}
use Rattle.std.specs.List.{list_all}
use Rattle.std.specs.Str.{bytes_eq}
use Rattle.cs_document.specs.Document.{Document, object, Entry, Members, entries, under}
use Rattle.cs_grammar.specs.declared.ast.FieldMark.{FieldMark}
use Rattle.cs_grammar.specs.declared.ast.FieldMark.TheVariants.{Regular, Optional, Required, Every}
use Rattle.cs_grammar.specs.Tree.{Tree, struct, Fields, no_field, field}
use Rattle.cs_instance.specs.Instance.{Rule, node}
use Rattle.cs_resolve.specs.Refinement.{Refinements}
use Rattle.cs_resolve.specs.Resolved.{resolved}
use Rattle.cs_defaults.specs.Leading.{leading, has_default}
use Rattle.cs_defaults.specs.Unmarked.{unmarked}

-- `has` says which definitions hand on a default, and `inside y e` whether the document y is as the alternatives of e ask, marked or not
module _ {A : Type 0} (has : List ℕ → Bool) (inside : A → Tree → Bool) where
  -- a field whose key is missing: it is optional, or its value has a default
  abbrev pub may_be_missing : FieldMark → Tree → Bool
  may_be_missing Regular e = has_default has (leading e)
  may_be_missing Optional e = true
  may_be_missing Required e = false
  may_be_missing (Every o) e = true

  abbrev pub field_reads : FieldMark → Tree → Option A → Bool
  field_reads m e None = may_be_missing m e
  field_reads m e (Some y) = inside y e

  abbrev pub declaration_reads : List ℕ → FieldMark → Tree → List (Entry A) → Bool
  declaration_reads s Regular e ms = field_reads Regular e (under s ms)
  declaration_reads s Optional e ms = field_reads Optional e (under s ms)
  declaration_reads s Required e ms = field_reads Required e (under s ms)
  declaration_reads s (Every o) e ms = list_all (λ m. inside m.1 e) ms

  -- each declaration is met
  abbrev pub fields_read : Fields → List (Entry A) → Bool
  fields_read no_field ms = true
  fields_read (field l m e fs) ms = declaration_reads l.text m e ms && fields_read fs ms

-- a key that a literal allows: a label of it, or every key beside `[string]`
abbrev pub is_allowed : List ℕ → Fields → Bool
is_allowed k no_field = false
is_allowed k (field l (Every o) e fs) = true
is_allowed k (field l Regular e fs) = bytes_eq k l.text || is_allowed k fs
is_allowed k (field l Optional e fs) = bytes_eq k l.text || is_allowed k fs
is_allowed k (field l Required e fs) = bytes_eq k l.text || is_allowed k fs

-- by an instance relation a map is an instance of what a literal stands for exactly where each declaration is met, as it is written, and
-- each key is allowed
abbrev pub AreReadDirectly : (Rule → Document → Bool) → Type 0
AreReadDirectly I =
    (rs : Refinements) (has : List ℕ → Bool) (o : ℕ) (fs : Fields) (opened : Bool) (ms : Members)
    → I (node (resolved rs (unmarked has (struct o fs opened)))) (object ms)
    ≡ (fields_read has (λ y e. I (node (resolved rs (unmarked has e))) y) fs (entries ms) && (opened || list_all (λ m. is_allowed m.0 fs) (entries ms)))
