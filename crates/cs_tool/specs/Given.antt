-- The sources that a call is given.
use Rattle.std.specs.Prelude.{ℕ, List, map}
use Rattle.std.specs.Borrow.{Bor}

-- the bytes of each source
abbrev pub bytes_in : List (Bor (List ℕ)) → List (List ℕ)
bytes_in sources = map (λ s. s.now) sources
