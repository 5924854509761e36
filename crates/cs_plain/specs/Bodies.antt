-- The bodies of definitions, by the names of these.
use Rattle.std.specs.Prelude.{◌≡◌, ℕ, List, [], map, filter, Option, Some, None}
use Rattle.std.specs.BTreeMap as tree
use Rattle.std.specs.Cmp.Lexicographic.{slice_cmp}
use Rattle.std.specs.List.{flat_map}
use Rattle.std.specs.Ordering.{nat_cmp}
use Rattle.std.specs.Str.{bytes_eq}
use Rattle.std.specs.declared.alloc.Global.{Global}
use Rattle.std.specs.declared.vec.Vec.{Vec}
use Rattle.cs_grammar.specs.Tree.{Tree, DefinitionTree, definition, FileTree, definitions}
use Rattle.cs_grammar.specs.View.{expr_view}
use Rattle.cs_plain.specs.declared.bodies.Bodies.{Bodies}
use Rattle.cs_plain.specs.declared.bodies.Body as rust

-- a body of a definition, and its name
pub record Body : Type 0 where
  pub name : List ℕ
  pub value : Tree

abbrev pub body_of : DefinitionTree → Body
body_of (definition s o e) = record { name = s; value = e }

abbrev pub bodies_in : List FileTree → List Body
bodies_in fs = flat_map (λ f. map body_of (definitions f)) fs

abbrev pub bodies_of : List ℕ → List Body → List Body
bodies_of s bs = filter (λ b. bytes_eq b.name s) bs

abbrev pub values_of : List ℕ → List Body → List Tree
values_of s bs = map (λ b. b.value) (bodies_of s bs)

-- ---- what tables tell

abbrev pub body_view : rust.Body → Body
body_view b = record { name = b.name.now; value = expr_view b.value.now }

abbrev pub entry_items : Option (Vec rust.Body Global) → List Body
entry_items None = []
entry_items (Some v) = map body_view v.items

-- the table has the bodies of each definition
pub record TellsBodies (b : Bodies) (bs : List Body) : Type 0 where
  pub table : (s : List ℕ) → entry_items (tree.get_by (λ k. slice_cmp nat_cmp s k.now) b.by_name) ≡ bodies_of s bs
  pub none : b.none.items ≡ []
