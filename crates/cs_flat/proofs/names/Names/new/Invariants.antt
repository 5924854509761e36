use Rattle.std.proofs.Common.{◌≡◌, map, take, string_bytes}
use Rattle.cs_flat.specs.View.{text_of}
use Rattle.cs_flat.proofs.names.Names.new.Given as goal

abbrev pub invariant-loop-text : goal.invariant-loop-text
invariant-loop-text l = map text_of l.sorted.items ≡ map string_bytes (take l.text-index l.texts)
