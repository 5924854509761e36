-- Which declarations of a literal are put together (CUE, structs: what is declared several times has all its values; where it is done is an own
-- rule): those of one label whose values `&` would put together, but for the plain ones and those that conditions made, which stay. One is left of the
-- others, at the place of the first.
use Rattle.std.specs.Prelude.{ℕ, Bool, true, false, ◌&&◌, ◌||◌, not, List, [], ◌∷◌, ◌++◌, length, filter, nat_le, if◌then◌else◌, Option, None}
use Rattle.std.specs.List.{list_all, list_any}
use Rattle.std.specs.Str.{bytes_eq}
use Rattle.cs_grammar.specs.declared.ast.FieldMark.{FieldMark}
use Rattle.cs_grammar.specs.declared.ast.FieldMark.TheVariants.{Regular, Optional, Required, Every}
use Rattle.cs_grammar.specs.Tree.{written_label, Trees, none, more, conjunction, DefinitionTree}
use Rattle.cs_embeddings.specs.Alternatives.{Brought}
use Rattle.cs_embeddings.specs.Held.{or_else, is_plain}
use Rattle.cs_embeddings.specs.United.{unites}

abbrev pub is_every : FieldMark → Bool
is_every Regular = false
is_every Optional = false
is_every Required = false
is_every (Every o) = true

-- a condition asks for its field, or its value is plain
abbrev pub is_asked_or_plain : Brought → Bool
is_asked_or_plain d = d.label.asked || is_plain d.value

-- `[string]`, a declaration that a condition made, and one with a plain value, is put together with no other
abbrev pub stays_alone : Brought → Bool
stays_alone d = is_every d.mark || is_asked_or_plain d

-- one of the label that may be
abbrev pub is_of : List ℕ → Brought → Bool
is_of s d = not (stays_alone d) && bytes_eq d.label.text s

abbrev pub those_of : List ℕ → List Brought → List Brought
those_of s bs = filter (is_of s) bs

abbrev pub values_of : List Brought → Trees
values_of [] = none
values_of (d ∷ bs) = more d.value (values_of bs)

-- so many declarations of a label are put together at most
abbrev pub most_gathered : ℕ
most_gathered = 64

-- whether all these declarations of a label are put together
abbrev pub gathers : List DefinitionTree → List Brought → Bool
gathers ds bs = nat_le (length bs) most_gathered && unites ds (values_of bs)

-- the declaration is one of those
abbrev pub is_gathered : List DefinitionTree → List Brought → Brought → Bool
is_gathered ds all d = not (stays_alone d) && gathers ds (those_of d.label.text all)

-- optional where all are, or else as the first that isn't
abbrev pub mark_or : FieldMark → FieldMark → FieldMark
mark_or Optional behind = behind
mark_or Regular behind = Regular
mark_or Required behind = Required
mark_or (Every o) behind = Every o

abbrev pub mark_of : List Brought → FieldMark
mark_of [] = Optional
mark_of (d ∷ bs) = mark_or d.mark (mark_of bs)

-- the place of the first reference that brought one
abbrev pub place_of : List Brought → Option ℕ
place_of [] = None
place_of (d ∷ bs) = or_else d.place (place_of bs)

-- the declaration that is left of those of a label: it has all their values, its label is in quotes where all are, and authors wrote it
abbrev pub together : List ℕ → List Brought → Brought
together s bs = record { label = written_label s (list_all (λ d. d.label.quotes) bs); mark = mark_of bs; value = conjunction (values_of bs); place = place_of bs; embedding = None }

-- of a declaration, with those before it, that stands in `all`
abbrev pub gathered_at : List DefinitionTree → List Brought → List Brought → Brought → List Brought
gathered_at ds all before d =
    if is_gathered ds all d
    then (if list_any (is_of d.label.text) before then [] else together d.label.text (those_of d.label.text all) ∷ [])
    else d ∷ []

abbrev pub gathered_behind : List DefinitionTree → List Brought → List Brought → List Brought → List Brought
gathered_behind ds all before [] = []
gathered_behind ds all before (d ∷ bs) = gathered_at ds all before d ++ gathered_behind ds all (before ++ d ∷ []) bs

-- the declarations of a literal, those of one label put together
abbrev pub gathered : List DefinitionTree → List Brought → List Brought
gathered ds bs = gathered_behind ds bs [] bs
