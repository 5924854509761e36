use Rattle.std.proofs.Common.{◌≡◌, List, map, take}
use Rattle.cs_grammar.specs.Tree.{DefinitionTree}
use Rattle.cs_grammar.specs.View.{file_view}
use Rattle.cs_plain.specs.Bodies.{Body}
use Rattle.cs_selectors.specs.Checks.{TellsGifts}
use Rattle.cs_selectors.specs.Given.{Given}
use Rattle.cs_selectors.specs.Selectors.{unselected_from}
use Rattle.cs_selectors.proofs.added.unselected_files.Given as goal

abbrev pub invariant-loop-number : goal.invariant-loop-number
invariant-loop-number l = (all : List DefinitionTree) (bs : List Body) (gs : List Given) → TellsGifts l.giving all bs gs → map file_view l.unselected.items ≡ unselected_from gs 0 (map file_view (take l.number l.files))
