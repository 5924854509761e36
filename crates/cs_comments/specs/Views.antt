-- Texts behind references; for contracts of private functions alone.
use Rattle.std.specs.Prelude.{ℕ, List, [], ◌∷◌, map, Option, Some, None}
use Rattle.std.specs.Borrow.{Bor}

abbrev pub texts_of : List (Bor (List ℕ)) → List (List ℕ)
texts_of ts = map (λ t. t.now) ts

abbrev pub each_text : Option (Bor (List ℕ)) → List (List ℕ)
each_text None = []
each_text (Some t) = t.now ∷ []
