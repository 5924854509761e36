-- What the definitions of files stand for: the bodies of one name are put together as the values of a label are, over all files, and stand where the
-- first of them is.
use Rattle.std.specs.Prelude.{ℕ, suc, false, ◌&&◌, not, List, [], ◌∷◌, ◌++◌, map, length, nat_le, if◌then◌else◌, Option, Some, None, unwrap_or}
use Rattle.std.specs.List.{flat_map}
use Rattle.cs_grammar.specs.declared.ast.FieldMark.TheVariants.{Regular}
use Rattle.cs_grammar.specs.Limits.{most_height}
use Rattle.cs_grammar.specs.Tree.{written_label, DefinitionTree, definition, FileTree, file, package_name, definitions}
use Rattle.cs_embeddings.specs.Alternatives.{Brought}
use Rattle.cs_embeddings.specs.Clashes.{clashes_value}
use Rattle.cs_embeddings.specs.Gathered.{those_of, is_gathered, gathered_at}
use Rattle.cs_embeddings.specs.Joined.{joined_value}

-- a definition as a declaration of its name, where it is
abbrev pub as_declared : DefinitionTree → Brought
as_declared (definition s o e) = record { label = written_label s false; mark = Regular; value = e; place = Some o; embedding = None }

-- a declaration of a name that is left, and the place of its parts
pub record Body : Type 0 where
  pub declared : Brought
  pub place : Option ℕ

-- where the parts of what is left of a definition are: at its name where they are of several files, since an offset is one of a file. `here` are the
-- declarations of its file
abbrev pub part_place : List DefinitionTree → List Brought → Brought → Brought → Option ℕ
part_place ds here d left =
    let all = map as_declared ds in let s = d.label.text in
    if is_gathered ds all d && not (nat_le (length (those_of s all)) (length (those_of s here))) then left.place else None

-- those that are left in a file, behind those before it
abbrev pub bodies_behind : List DefinitionTree → List Brought → List Brought → List Brought → List Body
bodies_behind ds here before [] = []
bodies_behind ds here before (d ∷ bs) =
    map (λ left. record { declared = left; place = part_place ds here d left }) (gathered_at ds (map as_declared ds) before d)
    ++ bodies_behind ds here (before ++ d ∷ []) bs

-- a file with what is left in it
pub record Left : Type 0 where
  pub clause : Option (List ℕ)
  pub bodies : List Body

abbrev pub left_behind : List DefinitionTree → List Brought → List FileTree → List Left
left_behind ds before [] = []
left_behind ds before (f ∷ fs) =
    let here = map as_declared (definitions f) in
    record { clause = package_name f; bodies = bodies_behind ds here before here } ∷ left_behind ds (before ++ here) fs

-- files with what is left in each
abbrev pub left_in : List FileTree → List Left
left_in fs = left_behind (flat_map definitions fs) [] fs

-- a body; one that has more literals inside one another is too high
abbrev pub joined_body : List DefinitionTree → Body → DefinitionTree
joined_body ds b =
    let d = b.declared in definition d.label.text (unwrap_or d.place 0) (joined_value ds (suc most_height) b.place d.value)

-- a file with these definitions alone: files come here without other names
abbrev pub joined_left : List DefinitionTree → Left → FileTree
joined_left ds l = file l.clause (map (joined_body ds) l.bodies) []

-- what an embedding would open in a body
abbrev pub body_clashes : List DefinitionTree → Body → List ℕ
body_clashes ds b = clashes_value ds (suc most_height) b.place b.declared.value
