-- Files, read from left to right like what stands in them. Only the last word says whether a file may declare names that are no definitions.
use Rattle.std.specs.Prelude.{ℕ, [], ◌∷◌, List, length, Bool, true, false, ◌&&◌, ◌||◌, not, if◌then◌else◌, Option, Some, None, Result, Ok, Err}
use Rattle.cs_grammar.specs.declared.kind.Kind.{Kind}
use Rattle.cs_grammar.specs.declared.kind.Kind.TheVariants as kinds
use Rattle.cs_grammar.specs.declared.fault.SyntaxFault.{SyntaxFault}
use Rattle.cs_grammar.specs.Words.{Words, name, definition_name, local}
use Rattle.cs_grammar.specs.Tree.{DefinitionTree, definition, NameTree, FileTree, file}
use Rattle.cs_grammar.specs.Spells.{is_package, start_at}
use Rattle.cs_syntax.specs.Place.{fault_of}
use Rattle.cs_syntax.specs.Reading.{◌>>=◌, fault_at, Read, expected, begins_with, behind_if, comma_at, many, begins_binding, name_head_at, inner, most_depth}

-- a definition, with values so deep at most
unfoldable pub definition_at : ℕ → Read DefinitionTree
definition_at d (definition_name s p ∷ ts) = do
  us ← expected kinds.Colon ts
  e ← inner d true us
  Ok (definition s p e.0, e.1)
definition_at d ts = Err (fault_at ts)

-- Definition comma
unfoldable pub line_at : ℕ → Read DefinitionTree
line_at d ts = do
  x ← definition_at d ts
  us ← comma_at x.1
  Ok (x.0, us)

-- a name and a colon, where it doesn't begin a definition or the package clause
abbrev pub begins_other_name : Words → Bool
begins_other_name (name s p ∷ ts) = not (is_package s) && begins_with kinds.Colon ts
begins_other_name (local s p ∷ ts) = begins_with kinds.Colon ts
begins_other_name ts = false

-- a name of a file that is no definition
abbrev pub begins_file_name : Words → Bool
begins_file_name ts = begins_binding ts || begins_other_name ts

-- such a name and its value
unfoldable pub file_name_at : ℕ → Read NameTree
file_name_at d ts = do
  x ← name_head_at ts
  e ← inner d (not x.0.1) x.1
  Ok (record { name = x.0.0; is_bound = x.0.1; at = start_at ts; value = e.0 }, e.1)

-- the same and a comma
unfoldable pub name_line_at : ℕ → Read NameTree
name_line_at d ts = do
  x ← file_name_at d ts
  us ← comma_at x.1
  Ok (x.0, us)

-- a definition or another name
pub data SeenLine : Type 0 where
  definition_seen : DefinitionTree → SeenLine
  name_seen : NameTree → SeenLine

abbrev pub definitions_seen : List SeenLine → List DefinitionTree
definitions_seen [] = []
definitions_seen (definition_seen d ∷ ls) = d ∷ definitions_seen ls
definitions_seen (name_seen n ∷ ls) = definitions_seen ls

abbrev pub names_seen : List SeenLine → List NameTree
names_seen [] = []
names_seen (definition_seen d ∷ ls) = names_seen ls
names_seen (name_seen n ∷ ls) = n ∷ names_seen ls

abbrev pub any_line_if : ℕ → Bool → Read SeenLine
any_line_if d true ts = do
  x ← name_line_at d ts
  Ok (name_seen x.0, x.1)
any_line_if d false ts = do
  x ← line_at d ts
  Ok (definition_seen x.0, x.1)

-- a line of a file, which may be another name where w says so
unfoldable pub any_line_at : Bool → ℕ → Read SeenLine
any_line_at w d ts = any_line_if d (w && begins_file_name ts) ts

-- the end of a file
abbrev pub begins_end : Words → Bool
begins_end ts = begins_with kinds.End ts || begins_with kinds.WideEnd ts

-- all but the end
abbrev pub before_end : Words → Option Words
before_end ts = if begins_end ts then None else Some ts

-- the lines of a file: its definitions, and its other names
unfoldable pub lines_at : Bool → ℕ → ℕ → Read (List DefinitionTree × List NameTree)
lines_at w d n ts = do
  ls ← many before_end (any_line_at w d) n ts
  Ok ((definitions_seen ls.0, names_seen ls.0), ls.1)

abbrev pub is_clause : Words → Bool
is_clause (name s p ∷ ts) = is_package s
is_clause ts = false

unfoldable pub clause_at : Read (List ℕ)
clause_at (name s p ∷ ts) = do
  us ← comma_at ts
  Ok (s, us)
clause_at ts = Err (fault_at ts)

abbrev pub package_if : Words → Option Words → Result (Option (List ℕ) × Words) SyntaxFault
package_if ts None = Ok (None, ts)
package_if ts (Some us) = do
  s ← clause_at us
  Ok (Some s.0, s.1)

-- [ `package` name comma ]
unfoldable pub package_at : Read (Option (List ℕ))
package_at ts = package_if ts (behind_if (is_clause ts) ts)

-- nothing is left
abbrev pub whole : {A : Type 0} → A → Words → Result A SyntaxFault
whole x [] = Ok x
whole x (w ∷ ts) = Err (fault_of w)

-- whether the last word is the end of the wide profile
abbrev pub ends_wide : Words → Bool
ends_wide [] = false
ends_wide (w ∷ []) = begins_with kinds.WideEnd (w ∷ [])
ends_wide (w ∷ v ∷ ts) = ends_wide (v ∷ ts)

abbrev pub end_kind : Bool → Kind
end_kind true = kinds.WideEnd
end_kind false = kinds.End

-- a file, with other names than definitions where w says so, and with values so deep at most
unfoldable pub file_with : Bool → ℕ → Words → Result FileTree SyntaxFault
file_with w d ts = do
  c ← package_at ts
  ls ← lines_at w d (length c.1) c.1
  us ← expected (end_kind w) ls.1
  whole (file c.0 ls.0.0 ls.0.1) us

-- a file whose words nest no deeper
abbrev pub file_at : Words → Result FileTree SyntaxFault
file_at ts = file_with (ends_wide ts) most_depth ts
