-- What is made of expressions, and why it isn't made; for private contracts alone.
use Rattle.std.specs.Prelude.{◌≡◌, ℕ, suc, ◌+◌, ◌<◌, ◌≤◌, Bool, true, List, [], map, Option, Some, Result, Ok, Err, slice_get}
use Rattle.std.specs.List.{AllByRecursion, flat_map}
use Rattle.std.specs.declared.alloc.Global.{Global}
use Rattle.std.specs.declared.vec.Vec.{Vec}
use Rattle.cs_grammar.specs.declared.ast.Definition.{Definition}
use Rattle.cs_grammar.specs.declared.ast.Expr.{Expr}
use Rattle.cs_grammar.specs.declared.ast.File.{File}
use Rattle.cs_grammar.specs.Height.{height, height_definitions, file_height}
use Rattle.cs_grammar.specs.Limits.{most_height, most_nodes}
use Rattle.cs_grammar.specs.Tree.{Label, Tree, wide, marked, DefinitionTree, FileTree}
use Rattle.cs_grammar.specs.View.{expr_view, definition_view, file_view, Seen}
use Rattle.cs_embeddings.specs.Alternatives.{Brought, Alternative, at, most_steps}
use Rattle.cs_embeddings.specs.Bodies.{Body, Left, joined_body, joined_left, body_clashes}
use Rattle.cs_embeddings.specs.Embedded.{can_be_embedded, embeds_well}
use Rattle.cs_embeddings.specs.Flaws.{Flaw, unknown, no_struct}
use Rattle.cs_embeddings.specs.Joined.{placed}
use Rattle.cs_embeddings.specs.Size.{size, size_of_definitions, size_of_files}
use Rattle.cs_embeddings.specs.Without.{clashes_from, IsWithin}
use Rattle.cs_embeddings.specs.declared.fault.EmbeddingFault.{EmbeddingFault}
use Rattle.cs_embeddings.specs.declared.fault.EmbeddingFault.TheVariants.{OutOfMemory, UnknownName, NoStruct, Reopened, TooHigh, TooLarge}
use Rattle.cs_embeddings.specs.declared.joined.Room.{Room}

-- why a part of a file that is so high and so large isn't made: of what would be opened this is the first
abbrev pub IsNoRoom : EmbeddingFault → ℕ → ℕ → ℕ → ℕ → ℕ → List ℕ → Type 0
IsNoRoom OutOfMemory file levels nodes high large clashes = Unit {0}
IsNoRoom (Reopened f o) file levels nodes high large clashes = (f ≡ file) × (slice_get clashes 0 ≡ Some o)
IsNoRoom (TooHigh f) file levels nodes high large clashes = (f ≡ file) × (levels < high)
IsNoRoom TooLarge file levels nodes high large clashes = nodes < large
IsNoRoom (UnknownName f o) file levels nodes high large clashes = ⊥
IsNoRoom (NoStruct f o) file levels nodes high large clashes = ⊥

-- Ok where nothing would be opened, or else the first that would, in this file
abbrev pub FindsClash : {Y : Type 0} → Result Y EmbeddingFault → ℕ → List ℕ → Type 0
FindsClash (Ok y) file clashes = clashes ≡ []
FindsClash (Err (Reopened f o)) file clashes = (f ≡ file) × (slice_get clashes 0 ≡ Some o)
FindsClash (Err OutOfMemory) file clashes = Unit {0}
FindsClash (Err _) file clashes = ⊥

-- what is meant is made, it is no higher than it may be, it leaves so many of the nodes, and nothing would be opened
pub record IsMade {T : Type 0} (levels nodes rest high large : ℕ) (x meant : T) (clashes : List ℕ) : Type 0 where
  pub made : x ≡ meant
  pub low : high ≤ levels
  pub left : rest + large ≡ nodes
  pub apart : clashes ≡ []

-- a part of a file is made as it is meant, so high and so large; or there is a reason
abbrev pub MakesPart : {X T : Type 0} → (X → T) → Result X EmbeddingFault → ℕ → ℕ → ℕ → ℕ → ℕ → ℕ → T → List ℕ → Type 0
MakesPart view (Ok x) file levels nodes rest high large meant clashes = IsMade levels nodes rest high large (view x) meant clashes
MakesPart view (Err e) file levels nodes rest high large meant clashes = IsNoRoom e file levels nodes high large clashes

abbrev pub Makes : Result Expr EmbeddingFault → ℕ → ℕ → ℕ → ℕ → Tree → List ℕ → Type 0
Makes result file levels nodes rest t clashes = MakesPart expr_view result file levels nodes rest (height t) (size t) t clashes

-- one level less, for the same
pub record IsBelow (room below : Room) : Type 0 where
  pub levels : suc below.levels ≡ room.levels
  pub place : below.place ≡ room.place
  pub whole : below.is_whole ≡ room.is_whole

-- there is a level for the parts; or what has parts is too high
abbrev pub GoesBelow : Result Room EmbeddingFault → ℕ → Room → Type 0
GoesBelow (Ok below) file room = IsBelow room below
GoesBelow (Err e) file room = (nodes high large : ℕ) (clashes : List ℕ) → IsNoRoom e file room.levels nodes (suc high) large clashes

-- there is a level for the parts, and a node; or there is a reason
abbrev pub GoesInside : Result Room EmbeddingFault → ℕ → Room → ℕ → ℕ → Type 0
GoesInside (Ok inside) file room nodes rest = IsBelow room inside × (suc rest ≡ nodes)
GoesInside (Err e) file room nodes rest = (high large : ℕ) (clashes : List ℕ) → IsNoRoom e file room.levels nodes (suc high) (1 + large) clashes

-- ---- fields and alternatives

-- a label, whether it is in quotes, whether a condition asks for its field, and where it is declared if it is a name of a scope
abbrev pub label_with : List ℕ → Bool → Bool → Option ℕ → Label
label_with s q a c = record { text = s; quotes = q; asked = a; scoped = c }

-- a field, with its mark as it is placed, and with another value
abbrev pub with_value : Option ℕ → (Tree → Tree) → Seen → Seen
with_value p value f = record { label = f.label; mark = placed p f.mark; value = value f.value }

-- a declaration as a field
abbrev pub seen : Brought → Seen
seen d = record { label = d.label; mark = d.mark; value = d.value }

-- each declared value embeds well
abbrev pub IsWell : List DefinitionTree → Alternative → Type 0
IsWell ds a = AllByRecursion (λ (d : Brought). embeds_well (can_be_embedded ds most_steps) d.value ≡ true) a.declarations

-- ---- marks

-- what is behind the marks
abbrev pub behind_marks : Tree → Tree
behind_marks (wide (marked o e)) = behind_marks e
behind_marks e = e

-- the marks of an expression before another one, where a reference at p brought it
abbrev pub with_marks : Option ℕ → Tree → Tree → Tree
with_marks p (wide (marked o e)) bare = wide (marked (at p o) (with_marks p e bare))
with_marks p e bare = bare

-- 1 for an expression with a mark
abbrev pub count_mark : Tree → ℕ
count_mark (wide (marked o e)) = 1
count_mark e = 0

-- ---- files

-- the first flaw of files, or memory ran out
abbrev pub IsFlaw : EmbeddingFault → List (ℕ × Flaw) → Type 0
IsFlaw (UnknownName i o) found = slice_get found 0 ≡ Some (i, unknown o)
IsFlaw (NoStruct i o) found = slice_get found 0 ≡ Some (i, no_struct o)
IsFlaw OutOfMemory found = Unit {0}
IsFlaw _ found = ⊥

-- Ok where nothing is found, or else the first that is found
abbrev pub FindsFlaw : {Y : Type 0} → Result Y EmbeddingFault → List (ℕ × Flaw) → Type 0
FindsFlaw (Ok y) found = found ≡ []
FindsFlaw (Err e) found = IsFlaw e found

-- what a body embeds can be embedded
abbrev pub IsBodyWell : List DefinitionTree → Body → Type 0
IsBodyWell ds b = embeds_well (can_be_embedded ds most_steps) b.declared.value ≡ true

abbrev pub AreLeftWell : List DefinitionTree → Left → Type 0
AreLeftWell ds l = AllByRecursion (IsBodyWell ds) l.bodies

-- definitions are made of those that are left, as they are meant, or there is a reason
abbrev pub MakesDefinitions : Result (Vec Definition Global) EmbeddingFault → ℕ → ℕ → ℕ → List DefinitionTree → List Body → Type 0
MakesDefinitions result file nodes rest ds bs =
    let meant = map (joined_body ds) bs in
    MakesPart (λ v. map definition_view v.items) result file most_height nodes rest (height_definitions meant) (size_of_definitions meant) meant
    (flat_map (body_clashes ds) bs)

-- why files aren't made of those with what is left in them
abbrev pub IsNoRoomForFiles : EmbeddingFault → List DefinitionTree → List Left → Type 0
IsNoRoomForFiles OutOfMemory ds ls = Unit {0}
IsNoRoomForFiles (Reopened i o) ds ls = slice_get (clashes_from ds 0 ls) 0 ≡ Some (i, o)
IsNoRoomForFiles (TooHigh i) ds ls = (f : FileTree) × (slice_get (map (joined_left ds) ls) i ≡ Some f) × (most_height < file_height f)
IsNoRoomForFiles TooLarge ds ls = most_nodes < size_of_files (map (joined_left ds) ls)
IsNoRoomForFiles (UnknownName i o) ds ls = ⊥
IsNoRoomForFiles (NoStruct i o) ds ls = ⊥

-- files are made as they are meant, within the limits, and nothing would be opened
pub record AreFilesMade (ds : List DefinitionTree) (ls : List Left) (gs : List FileTree) : Type 0 where
  pub made : gs ≡ map (joined_left ds) ls
  pub within : IsWithin gs
  pub apart : clashes_from ds 0 ls ≡ []

abbrev pub MakesFiles : Result (Vec File Global) EmbeddingFault → List DefinitionTree → List Left → Type 0
MakesFiles (Ok v) ds ls = AreFilesMade ds ls (map file_view v.items)
MakesFiles (Err e) ds ls = IsNoRoomForFiles e ds ls
