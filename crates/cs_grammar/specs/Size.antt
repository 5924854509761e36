-- The nodes of trees (own rule): each expression is one.
use Rattle.std.specs.Prelude.{ℕ, ◌+◌, List, sum_by}
use Rattle.std.specs.List.{flat_map}
use Rattle.cs_grammar.specs.Tree.{Tree, atom, named, reference, conjunction, disjunction, paren, struct, list, wide, Trees, none, more, Fields, no_field, field, End, closed, any, each, DefinitionTree, body, FileTree, definitions}

-- the expressions in an expression, itself among them; a parenthesis is none, and nor is the bare `...` of a list
abbrev mutual
  pub nodes : Tree → ℕ
  nodes (atom a) = 1
  nodes (named n o) = 1
  nodes (reference n o) = 1
  nodes (conjunction es) = 1 + nodes_all es
  nodes (disjunction es) = 1 + nodes_all es
  nodes (paren e) = nodes e
  nodes (struct o fs opened) = 1 + nodes_fields fs
  nodes (list es end) = 1 + (nodes_all es + nodes_end end)
  nodes (wide w) = 1

  pub nodes_all : Trees → ℕ
  nodes_all none = 0
  nodes_all (more e es) = nodes e + nodes_all es

  pub nodes_fields : Fields → ℕ
  nodes_fields no_field = 0
  nodes_fields (field l m e fs) = nodes e + nodes_fields fs

  pub nodes_end : End → ℕ
  nodes_end closed = 0
  nodes_end any = 0
  nodes_end (each e) = nodes e

abbrev pub nodes_of_definitions : List DefinitionTree → ℕ
nodes_of_definitions ds = sum_by (λ d. nodes (body d)) ds

abbrev pub nodes_of_files : List FileTree → ℕ
nodes_of_files fs = nodes_of_definitions (flat_map definitions fs)
