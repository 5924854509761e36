-- Struct literals, with embeddings and without, and operands of `&` that are put together, read as they are written (CUE, structs: embedding and
-- unification): by an alternative of each expression that is embedded, or of each operand, and no file without embeddings is made of them here.
-- Laws say that this is what they stand for.
use Rattle.std.specs.Prelude.{◌≡◌, ℕ, suc, Bool, true, false, ◌&&◌, ◌||◌, not, List, Option}
use Rattle.std.specs.List.{list_all, list_any}
use Rattle.std.specs.Str.{bytes_eq}
use Rattle.cs_document.specs.Document.{Document, object, Entry, Members, entries}
use Rattle.cs_grammar.specs.Tree.{Tree, Trees, none, more, conjunction, struct, Fields, wide, merged, Declarations, DefinitionTree}
use Rattle.cs_instance.specs.Instance.{Rule, node}
use Rattle.cs_resolve.specs.Refinement.{Refinements, AreRefinements}
use Rattle.cs_resolve.specs.Resolved.{resolved}
use Rattle.cs_defaults.specs.Unmarked.{unmarked}
use Rattle.cs_embeddings.specs.Alternatives.{Brought, Alternative, alternatives_of}
use Rattle.cs_embeddings.specs.Gathered.{is_every, gathered}
use Rattle.cs_embeddings.specs.Held.{is_plain, holding}
use Rattle.cs_embeddings.specs.Joined.{own, joined_with, joined_value}
use Rattle.cs_embeddings.specs.United.{unites, united}
use Rattle.cs_widen.specs.Direct.{declaration_reads}

-- a key that declarations allow: a label of them, or every key beside `[string]`
abbrev pub is_declared : List ℕ → List Brought → Bool
is_declared k bs = list_any (λ d. is_every d.mark || bytes_eq k d.label.text) bs

-- `has` says which definitions hand on a default, and `inside p y e` whether the document y is as e asks, which a reference at p brought
module _ {A : Type 0} (has : List ℕ → Bool) (inside : Option ℕ → A → Tree → Bool) where
  -- each declaration is met
  abbrev pub declarations_read : List Brought → List (Entry A) → Bool
  declarations_read bs ms = list_all (λ d. declaration_reads has (inside d.place) d.label.text d.mark d.value ms) bs

  -- each declaration is met, where those of one label that are put together are one, and each key is allowed
  abbrev pub alternative_reads : List DefinitionTree → Alternative → List (Entry A) → Bool
  alternative_reads ds a ms = declarations_read (gathered ds a.declarations) ms && (a.opened || list_all (λ m. is_declared m.0 a.declarations) ms)

-- by an instance relation a map is an instance of what a literal with embeddings stands for exactly where for some choice of an alternative of
-- each expression that it embeds each declaration is met, as it is written, and each key is allowed
abbrev pub AreEmbeddingsReadDirectly : (Rule → Document → Bool) → Type 0
AreEmbeddingsReadDirectly I =
    (rs : Refinements) (has : List ℕ → Bool) (ds : List DefinitionTree) (n : ℕ) (whole : Bool) (p : Option ℕ) (o : ℕ) (cs : Declarations)
    (opened : Bool) (ms : Members)
    → I (node (resolved rs (unmarked has (joined_with ds (joined_value ds (suc n)) whole p (wide (merged o cs opened)))))) (object ms)
    ≡ list_any (λ a. alternative_reads has (λ q y e. I (node (resolved rs (unmarked has (joined_value ds (suc n) q e)))) y) ds a (entries ms))
    (alternatives_of ds p cs opened)

-- so is a map an instance of what operands of `&` that are put together stand for: for some choice of an alternative of each operand
abbrev pub AreUnionsReadDirectly : (Rule → Document → Bool) → Type 0
AreUnionsReadDirectly I =
    (rs : Refinements) (has : List ℕ → Bool) (ds : List DefinitionTree) (n : ℕ) (whole : Bool) (p : Option ℕ) (es : Trees) (ms : Members)
    → unites ds es ≡ true → I (node (resolved rs (unmarked has (joined_with ds (joined_value ds (suc n)) whole p (conjunction es))))) (object ms)
    ≡ list_any (λ a. alternative_reads has (λ q y e. I (node (resolved rs (unmarked has (joined_value ds (suc n) q e)))) y) ds a (entries ms))
    (united ds p es)

-- each operand that is plain is met; `met e` says whether e is
abbrev pub plain_met : (Tree → Bool) → Trees → Bool
plain_met met none = true
plain_met met (more e es) = (not (is_plain e) || met e) && plain_met met es

-- where some operands are plain and the others are put together, a document is an instance of them exactly where it is one of what the others are
-- put together to, and of each plain one
abbrev pub ArePlainReadDirectly : (Rule → Document → Bool) → Type 0
ArePlainReadDirectly I =
    (rs : Refinements) (all : List DefinitionTree) → AreRefinements all rs
    → (has : List ℕ → Bool) (ds : List DefinitionTree) (n : ℕ) (whole : Bool) (p : Option ℕ) (es : Trees) (y : Document)
    → unites ds es ≡ false → unites ds (holding es) ≡ true
    → let met : Bool → Tree → Bool = λ b e. I (node (resolved rs (unmarked has (joined_with ds (joined_value ds (suc n)) b p e)))) y in
    met whole (conjunction es) ≡ (met false (conjunction (holding es)) && plain_met (met false) es)

-- and so is a map an instance of what a struct literal without embeddings stands for, where there is nothing to choose
abbrev pub AreLiteralsReadDirectly : (Rule → Document → Bool) → Type 0
AreLiteralsReadDirectly I =
    (rs : Refinements) (has : List ℕ → Bool) (ds : List DefinitionTree) (n : ℕ) (whole : Bool) (p : Option ℕ) (o : ℕ) (fs : Fields)
    (opened : Bool) (ms : Members)
    → I (node (resolved rs (unmarked has (joined_with ds (joined_value ds (suc n)) whole p (struct o fs opened))))) (object ms)
    ≡ alternative_reads has (λ q y e. I (node (resolved rs (unmarked has (joined_value ds (suc n) q e)))) y) ds (own p fs opened) (entries ms)
