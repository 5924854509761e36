-- What rules compare texts, integers and lengths with.
use Rattle.std.specs.Prelude.{◌≡◌, ℕ, suc, ℤ, pos, List, [], ◌∷◌, ◌++◌, Option, Some, option_map, option_to_list, map}
use Rattle.std.specs.Option.{option_map_or}
use Rattle.cs_document.specs.Document.{Document, integer}
use Rattle.cs_document.specs.View.{doc_view}
use Rattle.cs_profile.specs.Constraint.{texts_in}
use Rattle.cs_profile.specs.declared.schema.Keywords.{Keywords}
use Rattle.cs_rules.specs.Alike.{Compared}
use Rattle.cs_validate.specs.declared.rules.Conjunction.{Conjunction}

-- the integers of a list
abbrev pub integers_in : List Document → List ℤ
integers_in [] = []
integers_in (integer z ∷ ds) = z ∷ integers_in ds
integers_in (_ ∷ ds) = integers_in ds

-- the values of `enum`, if it is there
abbrev pub listed : Option (List Document) → List Document
listed o = option_map_or (λ vs. vs) o []

-- the values of `const` and `enum`
abbrev pub constants_of : Conjunction → List Document
constants_of c = option_to_list (option_map doc_view c.keywords.now.equal) ++ listed c.one_of

-- `maximum`, `minimum`, `exclusiveMaximum` and `exclusiveMinimum`
abbrev pub limits_of : Keywords → List ℤ
limits_of k = option_to_list k.maximum ++ option_to_list k.minimum ++ option_to_list k.below ++ option_to_list k.above

-- an integer that is a count, if it is there
abbrev pub count_in : Option ℤ → List ℕ
count_in (Some (pos n)) = n ∷ []
count_in _ = []

-- the lengths from which on a text is too long by `maxLength`, and long enough by `minLength`
abbrev pub lengths_of : Keywords → List ℕ
lengths_of k = map suc (count_in k.max_length) ++ count_in k.min_length

abbrev pub texts_of : Conjunction → List (List ℕ)
texts_of c = texts_in (constants_of c)

abbrev pub integers_of : Conjunction → List ℤ
integers_of c = integers_in (constants_of c) ++ limits_of c.keywords.now

-- the second marks are the first ones, and behind them these texts, integers and lengths
abbrev pub AddsMarks : List (List ℕ) → List ℤ → List ℕ → Compared → Compared → Type 0
AddsMarks ts zs ls m n = (n.texts ≡ m.texts ++ ts) × (n.integers ≡ m.integers ++ zs) × (n.lengths ≡ m.lengths ++ ls)

abbrev pub AddsScalars : List Document → Compared → Compared → Type 0
AddsScalars ds m n = AddsMarks (texts_in ds) (integers_in ds) [] m n
