-- Trees without their offsets are plain where the trees are, and have the same names, labels and nodes.
use Rattle.std.proofs.Common.{◌≡◌, ◌+◌, ◌||◌, List, ◌∷◌, ◌++◌, map, refl, sym, ap, ap₂, ◌∙◌}
use Rattle.std.proofs.lemmas.List.{map-append}
use Rattle.cs_grammar.specs.Tree.{Tree, atom, named, reference, conjunction, disjunction, paren, struct, list, wide, Trees, none, more, Fields, no_field, field, End, closed, any, each, DefinitionTree, definition, defined_name, body}
use Rattle.cs_print.specs.Printed.{unplaced, unplaced_all, unplaced_fields, unplaced_end, unplaced_definition}
use Rattle.cs_resolve.specs.Plain.{has_literal_or_reference, has_literal_or_reference_some, has_literal_or_reference_end}
use Rattle.cs_resolve.specs.Scopes.{labels}
use Rattle.cs_grammar.specs.Size.{nodes, nodes_all, nodes_fields, nodes_end}

-- what f gives for lists, one behind the other
pub behind : {X Y : Type 0} (f : X → Y) {ps qs : List Y} (xs ys : List X) → ps ≡ map f xs → qs ≡ map f ys → ps ++ qs ≡ map f (xs ++ ys)
behind f xs ys p q = ap₂ (λ front rest. front ++ rest) p q ∙ sym (map-append f xs ys)

-- ---- plain expressions

mutual
  pub same_plain : (e : Tree) → has_literal_or_reference (unplaced e) ≡ has_literal_or_reference e
  same_plain (atom a) = refl
  same_plain (named s o) = refl
  same_plain (reference s o) = refl
  same_plain (conjunction es) = same_plain_some es
  same_plain (disjunction es) = same_plain_some es
  same_plain (paren e) = same_plain e
  same_plain (struct o fs b) = refl
  same_plain (list es end) = ap₂ (λ a b. a || b) (same_plain_some es) (same_plain_end end)
  same_plain (wide w) = refl

  same_plain_some : (es : Trees) → has_literal_or_reference_some (unplaced_all es) ≡ has_literal_or_reference_some es
  same_plain_some none = refl
  same_plain_some (more e es) = ap₂ (λ a b. a || b) (same_plain e) (same_plain_some es)

  same_plain_end : (end : End) → has_literal_or_reference_end (unplaced_end end) ≡ has_literal_or_reference_end end
  same_plain_end closed = refl
  same_plain_end any = refl
  same_plain_end (each e) = same_plain e

-- ---- labels and nodes

pub same_labels : (fs : Fields) → labels (unplaced_fields fs) ≡ labels fs
same_labels no_field = refl
same_labels (field l m e fs) = ap (λ ls. l ∷ ls) (same_labels fs)

mutual
  pub same_nodes : (e : Tree) → nodes (unplaced e) ≡ nodes e
  same_nodes (atom a) = refl
  same_nodes (named s o) = refl
  same_nodes (reference s o) = refl
  same_nodes (conjunction es) = ap (λ n. 1 + n) (same_nodes_all es)
  same_nodes (disjunction es) = ap (λ n. 1 + n) (same_nodes_all es)
  same_nodes (paren e) = same_nodes e
  same_nodes (struct o fs b) = ap (λ n. 1 + n) (same_nodes_fields fs)
  same_nodes (list es end) = ap₂ (λ m n. 1 + (m + n)) (same_nodes_all es) (same_nodes_end end)
  same_nodes (wide w) = refl

  same_nodes_all : (es : Trees) → nodes_all (unplaced_all es) ≡ nodes_all es
  same_nodes_all none = refl
  same_nodes_all (more e es) = ap₂ (λ m n. m + n) (same_nodes e) (same_nodes_all es)

  same_nodes_fields : (fs : Fields) → nodes_fields (unplaced_fields fs) ≡ nodes_fields fs
  same_nodes_fields no_field = refl
  same_nodes_fields (field l m e fs) = ap₂ (λ m n. m + n) (same_nodes e) (same_nodes_fields fs)

  same_nodes_end : (end : End) → nodes_end (unplaced_end end) ≡ nodes_end end
  same_nodes_end closed = refl
  same_nodes_end any = refl
  same_nodes_end (each e) = same_nodes e

-- ---- definitions

pub same_name : (d : DefinitionTree) → defined_name (unplaced_definition d) ≡ defined_name d
same_name (definition s o e) = refl

pub same_body : (d : DefinitionTree) → body (unplaced_definition d) ≡ unplaced (body d)
same_body (definition s o e) = refl
