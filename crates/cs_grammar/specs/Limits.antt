-- Limits that several crates share.
use Rattle.std.specs.Prelude.{ℕ}

-- how high the body of a definition may be (own rule)
abbrev pub most_height : ℕ
most_height = 28

-- as many definitions and nodes as a package may have (own rule)
abbrev pub most_definitions : ℕ
most_definitions = 1000

abbrev pub most_nodes : ℕ
most_nodes = 50000
