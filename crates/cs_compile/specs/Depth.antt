-- How deep a schema nests (own rule).
use Rattle.std.specs.Prelude.{ℕ}

-- how deep a schema nests whose bodies are no higher than `most_height`: four levels for each level of a body, and two more
abbrev pub most_schema_depth : ℕ
most_schema_depth = 114
