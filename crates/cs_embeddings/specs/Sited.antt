-- Where declarations of one label that are put together are declared; for private contracts alone, since no definition speaks of it.
use Rattle.std.specs.Prelude.{◌≡◌, ℕ, Bool, true, false, ◌&&◌, not, if◌then◌else◌, List, [], ◌∷◌, map, Option, Some, None}
use Rattle.cs_grammar.specs.declared.ast.FieldMark.{FieldMark}
use Rattle.cs_grammar.specs.declared.ast.FieldMark.TheVariants.{Regular, Optional, Required, Every}
use Rattle.cs_grammar.specs.declared.ast.Site.{Site}
use Rattle.cs_embeddings.specs.declared.gathered.Declared.{Declared}
use Rattle.cs_embeddings.specs.declared.gathered.Gathered.{Gathered}
use Rattle.cs_embeddings.specs.declared.gathered.Gathered.TheVariants.{One, Several}

abbrev pub is_optional : FieldMark → Bool
is_optional Regular = false
is_optional Optional = true
is_optional Required = false
is_optional (Every o) = false

-- a declaration, or the one behind it where that alone isn't optional
abbrev pub first_of : Declared → Declared → Declared
first_of c d = if is_optional c.mark && not (is_optional d.mark) then d else c

abbrev pub lead_or : Option Declared → Declared → Declared
lead_or None d = d
lead_or (Some c) d = first_of c d

abbrev pub lead_over : Declared → Option Declared → Declared
lead_over c None = c
lead_over c (Some d) = first_of c d

-- the first that isn't optional, or the first
abbrev pub leading : List Declared → Option Declared
leading [] = None
leading (d ∷ ds) = Some (lead_over d (leading ds))

-- a site is at a declaration
abbrev pub IsAt : Site → Option Declared → Type 0
IsAt s None = Unit {0}
IsAt s (Some d) = (s.at ≡ d.at) × (s.by ≡ d.by)

-- these are declared there, which are put together
pub record IsSited (s : Site) (ds : List Declared) : Type 0 where
  pub first : IsAt s (leading ds)
  pub all : s.all.items ≡ map (λ d. d.at) ds

-- it is that of a declaration, or of those of one label
abbrev pub IsSiteOf : Site → Gathered → Type 0
IsSiteOf s (One d) = IsAt s (Some d) × (s.all.items ≡ [])
IsSiteOf s (Several t) = IsSited s t.declared.items
