-- Documents that some rules admit and others don't, each by its own instance relation.
use Rattle.std.specs.Prelude.{◌≡◌, Bool, true, false, List}
use Rattle.std.specs.List.{AllByRecursion}
use Rattle.cs_document.specs.Document.{Document}

-- the document is an instance of each of the first rules and of none of the others
abbrev pub Separates : List (Document → Bool) → List (Document → Bool) → Document → Type 0
Separates admitting refusing x = AllByRecursion (λ p. p x ≡ true) admitting × AllByRecursion (λ q. q x ≡ false) refusing
