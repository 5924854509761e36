-- The scopes of files (CUE, declarations and scopes): what a struct literal declares, what a file binds by `let`, and what all files share; and which
-- declaration a name stands for. Nothing here knows of definitions that names are lifted by.
use Rattle.std.specs.Prelude.{ℕ, suc, Bool, false, not, ◌==◌, ◌||◌, List, [], ◌∷◌, ◌++◌, filter, Option, Some, None, is_some, slice_get, if◌then◌else◌}
use Rattle.std.specs.List.{list_any}
use Rattle.std.specs.Option.{option_map}
use Rattle.std.specs.Str.{bytes_eq}
use Rattle.cs_grammar.specs.Tree.{Label, Declarations, no_declaration, declared, embedded, conditional, Fields, no_field, field, NameTree, FileTree, names}
use Rattle.cs_names.specs.declared.scopes.Entry.{Entry}

-- where a name is declared: the number of the file, and the offset there
abbrev pub Place : Type 0
Place = ℕ × ℕ

-- what stands under a name: a field of the data, or a name of the scope and where it is declared (CUE, definitions and hidden fields, let clauses)
pub record Declared : Type 0 where
  pub name : List ℕ
  pub place : Option Place

-- what a scope declares, in order
abbrev pub Scope : Type 0
Scope = List Declared

-- ---- scopes

abbrev pub place_of : ℕ → Label → Option Place
place_of i l = option_map (λ o. (i, o)) l.scoped

-- a label in quotes declares no name, and nor does `[string]`, whose label is in quotes too (CUE, references)
abbrev pub declared_by : ℕ → Label → Scope
declared_by i l = if l.quotes then [] else record { name = l.text; place = place_of i l } ∷ []

-- the scope of a literal of the file i
abbrev pub scope_of_fields : ℕ → Fields → Scope
scope_of_fields i no_field = []
scope_of_fields i (field l m e fs) = declared_by i l ++ scope_of_fields i fs

abbrev pub scope_of_declarations : ℕ → Declarations → Scope
scope_of_declarations i no_declaration = []
scope_of_declarations i (declared l m e ds) = declared_by i l ++ scope_of_declarations i ds
scope_of_declarations i (embedded o e ds) = scope_of_declarations i ds
scope_of_declarations i (conditional o cs e ds) = scope_of_declarations i ds

abbrev pub top_declared : ℕ → NameTree → Declared
top_declared i n = record { name = n.name; place = Some (i, n.at) }

-- what a file binds for itself
abbrev pub bound_scope : ℕ → List NameTree → Scope
bound_scope i [] = []
bound_scope i (n ∷ ns) = if n.is_bound then top_declared i n ∷ bound_scope i ns else bound_scope i ns

-- what it declares for all files of the package
abbrev pub open_scope : ℕ → List NameTree → Scope
open_scope i [] = []
open_scope i (n ∷ ns) = if n.is_bound then open_scope i ns else top_declared i n ∷ open_scope i ns

-- what files share, whose numbers count from i
abbrev pub shared_from : ℕ → List FileTree → Scope
shared_from i [] = []
shared_from i (f ∷ fs) = open_scope i (names f) ++ shared_from (suc i) fs

-- ---- what a name stands for

abbrev pub declares : Scope → List ℕ → Bool
declares ds s = list_any (λ d. bytes_eq d.name s) ds

-- the first declaration of a name, and whether there are others
abbrev pub entry : Scope → List ℕ → Option Entry
entry [] s = None
entry (d ∷ ds) s = if bytes_eq d.name s then Some (record { place = d.place; is_repeated = declares ds s }) else entry ds s

abbrev pub has_others : Option Entry → Bool
has_others None = false
has_others (Some e) = e.is_repeated

-- the scope declares the name more than once
abbrev pub is_repeated : Scope → List ℕ → Bool
is_repeated scope s = has_others (entry scope s)

abbrev pub place_in : Option Entry → Option Place
place_in None = None
place_in (Some e) = e.place

-- where a scope declares a name that is no field
abbrev pub first_place : Scope → List ℕ → Option Place
first_place ds s = place_in (entry ds s)

abbrev pub or_outside : Option Entry → Option Place → Option Place
or_outside None outside = outside
or_outside (Some e) outside = e.place

-- a name stands for what it was declared as in the innermost scope that declares it; scopes are in order from the innermost on (CUE, references). A
-- field stands for no name.
abbrev pub denoted : List Scope → List ℕ → Option Place
denoted [] s = None
denoted (ds ∷ scopes) s = or_outside (entry ds s) (denoted scopes s)

abbrev pub or_field : Option Entry → Bool → Bool
or_field None outside = outside
or_field (Some e) outside = not (is_some e.place)

-- a name stands for a field of a literal, in the innermost scope that declares it
abbrev pub is_field : List Scope → List ℕ → Bool
is_field [] s = false
is_field (ds ∷ scopes) s = or_field (entry ds s) (is_field scopes s)

-- ---- let clauses

abbrev pub first_byte : List ℕ → Option ℕ
first_byte s = slice_get s 0

-- `#` (35)
abbrev pub is_hash : Option ℕ → Bool
is_hash None = false
is_hash (Some x) = x == 35

abbrev pub begins_hash : List ℕ → Bool
begins_hash s = is_hash (first_byte s)

-- `#` (35) or `_` (95)
abbrev pub is_mark : Option ℕ → Bool
is_mark None = false
is_mark (Some x) = (x == 35) || (x == 95)

-- a name that begins with one
abbrev pub is_marked : List ℕ → Bool
is_marked s = is_mark (first_byte s)

-- `let` binds it
abbrev pub is_let : Label → Bool
is_let l = if is_some l.scoped then not (is_marked l.text) else false

-- a scope without a name: the value that `let` binds to a name stands outside of that name's scope (CUE, let clauses)
abbrev pub without : List ℕ → Scope → Scope
without s ds = filter (λ d. not (bytes_eq d.name s)) ds

abbrev pub value_scope : Label → Scope → Scope
value_scope l ds = if is_let l then without l.text ds else ds

abbrev pub name_scope : NameTree → Scope → Scope
name_scope n ds = if n.is_bound then without n.name ds else ds
