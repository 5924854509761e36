-- Places in a document, as JSON pointers (RFC 6901, sections 3 and 4).
use Rattle.std.specs.Prelude.{ℕ, List, [], ◌∷◌, ◌++◌, codes, nat_eq, if◌then◌else◌}
use Rattle.std.specs.Fmt.{decimal}

abbrev pub escaped_code : ℕ → List ℕ
escaped_code c = if nat_eq c 126 then codes "~0" else if nat_eq c 47 then codes "~1" else c ∷ []

abbrev pub escaped : List ℕ → List ℕ
escaped [] = []
escaped (c ∷ cs) = escaped_code c ++ escaped cs

-- the place of what is under a key
unfoldable pub at_key : List ℕ → List ℕ → List ℕ
at_key place key = place ++ (codes "/" ++ escaped key)

unfoldable pub at_index : List ℕ → ℕ → List ℕ
at_index place i = place ++ (codes "/" ++ decimal i)
