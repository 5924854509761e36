use Rattle.std.proofs.Common.{◌≡◌, drop}
use Rattle.std.specs.List.{list_all}
use Rattle.cs_grammar.specs.Spelling.{is_name_byte}
use Rattle.cs_selectors.proofs.reached.is_plain.Given as goal

abbrev pub invariant-loop-byte : goal.invariant-loop-byte
invariant-loop-byte l = list_all is_name_byte l.text ≡ list_all is_name_byte (drop l.byte-index l.text)
