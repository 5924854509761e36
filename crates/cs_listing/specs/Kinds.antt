-- Kinds of documents (RFC 8259, section 3; every number of a document is an integer), and those of a definition's instances.
use Rattle.std.specs.Prelude.{◌≡◌, ℕ, Bool, true, List, Some, unwrap_or}
use Rattle.cs_document.specs.Document.{Document}
use Rattle.cs_document.specs.Opened.{Opened, a_null, a_boolean, an_integer, a_text, a_list, an_object, opened}
use Rattle.cs_package.specs.Environment.{Environment, name_at}
use Rattle.cs_instance.specs.Instance.{Rule, definition, IsInstance}
use Rattle.cs_rules.specs.declared.by_kind.ByKind.{ByKind}

-- whether the kind of a document, opened once, is among those on which the verdict isn't no
abbrev pub has_kind : {A : Type 0} → ByKind → Opened A → Bool
has_kind k a_null = unwrap_or k.null true
has_kind k (a_boolean b) = unwrap_or k.boolean true
has_kind k (an_integer z) = unwrap_or k.integer true
has_kind k (a_text s) = unwrap_or k.text true
has_kind k (a_list ys) = unwrap_or k.list true
has_kind k (an_object ms) = unwrap_or k.object true

-- the kind of each instance of the definition of that number is among these
abbrev pub HasKindsAt : Environment → ℕ → ByKind → Type 0
HasKindsAt E i k =
    (n : List ℕ) → name_at E i ≡ Some n → (I : Rule → Document → Bool) → IsInstance E I
    → (x : Document) → I (definition n) x ≡ true → has_kind k (opened x) ≡ true
