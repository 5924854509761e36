use Rattle.std.proofs.Common.{◌≡◌, map, take, true, is_some}
use Rattle.std.specs.List.{list_all}
use Rattle.cs_document.specs.Document.{under}
use Rattle.cs_flat.specs.View.{entry_of, text_of}
use Rattle.cs_flat.proofs.names.Names.are_keys.Given as goal

abbrev pub invariant-loop-name : goal.invariant-loop-name
invariant-loop-name l = list_all (λ t. is_some (under (text_of t) (map entry_of l.entries))) (take l.name-index l.name-items) ≡ true
