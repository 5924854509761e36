-- What a rule of the code asks, by the numbers of its parts.
use Rattle.std.specs.Prelude.{◌≡◌, ℕ, Bool, List, [], Some, map, slice_get}
use Rattle.cs_document.specs.Document.{Document}
use Rattle.cs_document.specs.Opened.{opened}
use Rattle.cs_package.specs.View.{expression_of}
use Rattle.cs_instance.specs.Constraint.{Rest, nothing, anything, each, Outline, Constraint, simple, all_of, any_of, object_of, list_of, is_integer, is_within, is_satisfied}
use Rattle.cs_instance.specs.Steps.{test_of, field_of}
use Rattle.cs_question.specs.declared.nodes.Side.{Side}
use Rattle.cs_question.specs.declared.nodes.Side.TheVariants.{Admitting, Refusing}
use Rattle.cs_question.specs.declared.nodes.Node.{Node}
use Rattle.cs_question.specs.declared.nodes.Node.TheVariants as node
use Rattle.cs_question.specs.declared.nodes.NodeEnd.{NodeEnd}
use Rattle.cs_question.specs.declared.nodes.NodeEnd.TheVariants as ending
use Rattle.cs_question.specs.declared.nodes.Nodes.{Nodes}

abbrev pub end_of : NodeEnd → Rest ℕ
end_of ending.Closed = nothing
end_of ending.Any = anything
end_of (ending.Each p) = each p

abbrev pub asked_of : Node → Constraint ℕ ℕ
asked_of (node.Simple s) = simple (test_of (expression_of [] s.now))
asked_of (node.Within least greatest) = simple (is_integer (is_within least greatest))
asked_of (node.All v) = all_of v.items
asked_of (node.Any v) = any_of v.items
asked_of (node.Struct fs opened) = object_of (map field_of fs.all.items) opened
asked_of (node.List v end) = list_of v.items (end_of end)

abbrev pub nodes_on : Nodes → Side → List Node
nodes_on ns Admitting = ns.admitting.items
nodes_on ns Refusing = ns.refusing.items

-- which documents are instances of the rule of a number: those that meet what it asks
abbrev pub IsSide : List (Constraint ℕ ℕ) → (ℕ → Document → Bool) → Type 0
IsSide cs J = (r : ℕ) (c : Constraint ℕ ℕ) (x : Document) → slice_get cs r ≡ Some c → J r x ≡ is_satisfied (λ p. J p x) (λ y p. J p y) c (opened x)

-- where the first ones are asked, the others are
abbrev pub Says : List (Constraint ℕ ℕ) → List (Constraint ℕ ℕ) → Type 0
Says cs ds = (J : ℕ → Document → Bool) → IsSide cs J → IsSide ds J

-- the same is asked of each document, and nothing of its parts
abbrev pub AreAlike : Constraint ℕ ℕ → Constraint ℕ ℕ → Type 0
AreAlike (simple p) (simple q) = (o : Outline) → p o ≡ q o
AreAlike _ _ = ⊥

-- which documents are instances of the rule of a number, on each side
abbrev pub Judgement : Type 0
Judgement = Side → ℕ → Document → Bool

-- a document is an instance of a rule exactly where it meets what the rule asks
abbrev pub IsMeaning : Nodes → Judgement → Type 0
IsMeaning ns J = (s : Side) (r : ℕ) (n : Node) (x : Document) → slice_get (nodes_on ns s) r ≡ Some n → J s r x ≡ is_satisfied (λ p. J s p x) (λ y p. J s p y) (asked_of n) (opened x)
