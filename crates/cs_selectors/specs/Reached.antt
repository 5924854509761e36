-- What a selector asks for (CUE, selectors): the values of the declarations of its label, those of `[string]` among them. Own rules: it looks into values
-- that tell their fields themselves, for regular ones whose labels can stand in the name of a definition.
use Rattle.std.specs.Prelude.{ℕ, Bool, true, false, ◌&&◌, ◌||◌, not, List, [], ◌∷◌, map, length, nat_le, Option, Some, None, if◌then◌else◌}
use Rattle.std.specs.List.{list_all, list_any, flat_map}
use Rattle.std.specs.Str.{bytes_eq}
use Rattle.cs_grammar.specs.Spelling.{is_name_byte}
use Rattle.cs_grammar.specs.Tree.{Selector, Tree, atom, named, reference, conjunction, disjunction, paren, struct, list, wide, Fields, no_field, field}
use Rattle.cs_grammar.specs.View.{Seen}
use Rattle.cs_grammar.specs.declared.ast.FieldMark.{FieldMark}
use Rattle.cs_grammar.specs.declared.ast.FieldMark.TheVariants.{Regular, Optional, Required, Every}
use Rattle.cs_names.specs.Having.{is_hidden}
use Rattle.cs_names.specs.Joined.{is_every}
use Rattle.cs_plain.specs.Bodies.{Body, values_of}
use Rattle.cs_selectors.specs.Uses.{Use}
use Rattle.cs_selectors.specs.declared.lack.Lack.{Lack}
use Rattle.cs_selectors.specs.declared.lack.Lack.TheVariants.{LeftOut, Unknown, NotRegular}

-- ---- labels

-- a label that is no name byte by byte, as one with `#` or a text like "a b", or that begins with `_` and isn't in quotes: a hidden field
abbrev pub is_left_out : Selector → Bool
is_left_out l = not (list_all is_name_byte l.text) || (is_hidden l.text && not l.quotes)

abbrev pub texts : List Selector → List (List ℕ)
texts ls = map (λ l. l.text) ls

-- ---- one label

-- a value that tells itself which fields it has: a struct literal, or what has none
abbrev pub tells_fields : Tree → Bool
tells_fields (struct o fs b) = true
tells_fields (atom a) = true
tells_fields (named s o) = true
tells_fields (list es end) = true
tells_fields (reference s o) = false
tells_fields (conjunction es) = false
tells_fields (disjunction es) = false
tells_fields (paren e) = false
tells_fields (wide w) = false

-- the declarations of a label in a literal
abbrev pub declarations_for : List ℕ → Fields → List Seen
declarations_for s no_field = []
declarations_for s (field l m e fs) =
    if is_every m || bytes_eq l.text s then record { label = l; mark = m; value = e } ∷ declarations_for s fs else declarations_for s fs

abbrev pub declarations_within : List ℕ → Tree → List Seen
declarations_within s (struct o fs b) = declarations_for s fs
declarations_within s (atom a) = []
declarations_within s (named t o) = []
declarations_within s (reference t o) = []
declarations_within s (conjunction es) = []
declarations_within s (disjunction es) = []
declarations_within s (paren e) = []
declarations_within s (list es end) = []
declarations_within s (wide w) = []

abbrev pub declarations_in : List ℕ → List Tree → List Seen
declarations_in s es = flat_map (declarations_within s) es

abbrev pub is_regular : FieldMark → Bool
is_regular Regular = true
is_regular Optional = false
is_regular Required = false
is_regular (Every o) = false

-- an expression of one node
abbrev pub is_single : Tree → Bool
is_single (atom a) = true
is_single (named s o) = true
is_single (reference s o) = true
is_single (conjunction es) = false
is_single (disjunction es) = false
is_single (paren e) = false
is_single (struct o fs b) = false
is_single (list es end) = false
is_single (wide w) = false

-- the value of `[string]` is one of each label, so it is single (own rule)
abbrev pub is_small : Seen → Bool
is_small f = not (is_every f.mark) || is_single f.value

-- how many values a label may have
abbrev pub most_values : ℕ
most_values = 64

-- what is lacking: a declaration, a regular one, or such values as are taken
abbrev pub lack_of : List Seen → Option Lack
lack_of [] = Some Unknown
lack_of (f ∷ fs) =
    if list_any (λ g. is_regular g.mark) (f ∷ fs) then (if list_all is_small (f ∷ fs) && nat_le (length (f ∷ fs)) most_values then None else Some LeftOut)
    else Some NotRegular

abbrev pub lack_here : List ℕ → List Tree → Option Lack
lack_here s es = if list_all tells_fields es then lack_of (declarations_in s es) else Some LeftOut

-- the values under a label
abbrev pub step : List ℕ → List Tree → List Tree
step s es = map (λ f. f.value) (declarations_in s es)

-- ---- label after label

abbrev pub or_else : Option Lack → Option Lack → Option Lack
or_else None next = next
or_else (Some l) next = Some l

abbrev pub lack_in : List Tree → List (List ℕ) → Option Lack
lack_in es [] = None
lack_in es (s ∷ ss) = or_else (lack_here s es) (lack_in (step s es) ss)

abbrev pub values_in : List Tree → List (List ℕ) → List Tree
values_in es [] = es
values_in es (s ∷ ss) = values_in (step s es) ss

-- what a selector lacks, where these are the bodies of the definitions
abbrev pub lack : List Body → Use → Option Lack
lack bs u = if list_any is_left_out u.labels then Some LeftOut else lack_in (values_of u.head bs) (texts u.labels)
