-- Documents of all kinds.
use Rattle.std.proofs.Common.{◌≡◌, ◌≤◌, ℕ, true, false, List, [], sym, ap, ◌∙◌}
use Rattle.std.specs.List.{AllByRecursion as Each}
use Rattle.cs_document.specs.Document.{Document, null, boolean, integer, text, list, object}
use Rattle.cs_question.specs.declared.nodes.Literal.{Literal}
use Rattle.cs_question.specs.declared.nodes.Nodes.{Nodes}
use Rattle.cs_question.specs.declared.table.Table.{Table}
use Rattle.cs_question.specs.Outlines.{NoScalar}
use Rattle.cs_question.specs.Truth.{NoDocument, NoList, NoMap}
use Rattle.cs_question.proofs.Seen.{not_met}

pub no_kind : (ns : Nodes) (table : Table) (ls : List Literal) → NoScalar ns ls → NoList ns table ls → NoMap ns table ls → NoDocument ns table ls
no_kind ns table ls none lists maps ended t m null d l h = not_met ns t.J m null ls none.null h
no_kind ns table ls none lists maps ended t m (boolean b) d l h = not_met ns t.J m (boolean b) ls (none.boolean b) h
no_kind ns table ls none lists maps ended t m (integer z) d l h = not_met ns t.J m (integer z) ls (none.integer z d) h
no_kind ns table ls none lists maps ended t m (text s) d l h = not_met ns t.J m (text s) ls (none.text s) h
no_kind ns table ls none lists maps ended t m (list ds) d l h = lists ended t m ds d l h
no_kind ns table ls none lists maps ended t m (object ms) d l h = maps ended t m ms d l h
