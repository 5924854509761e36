use Rattle.std.proofs.Common.{◌≡◌, List, map, take, drop}
use Rattle.std.specs.List.{flat_map}
use Rattle.cs_grammar.specs.Tree.{DefinitionTree}
use Rattle.cs_plain.specs.Bodies.{Body}
use Rattle.cs_selectors.specs.Checks.{TellsGifts, use_view}
use Rattle.cs_selectors.specs.Given as Spec
use Rattle.cs_selectors.specs.Given.{with_all}
use Rattle.cs_selectors.specs.Selectors.{fault_of}
use Rattle.cs_selectors.proofs.given.Giving.give_all.Given as goal

abbrev pub invariant-loop-selector : goal.invariant-loop-selector
invariant-loop-selector l = (all : List DefinitionTree) (bs : List Body) (gs : List Spec.Given) → TellsGifts l.initial.self all bs gs
    → TellsGifts l.self all bs (with_all all bs gs (map use_view (take l.selector-index l.selectors)))
    × (flat_map (fault_of bs) (map use_view l.selectors) ≡ flat_map (fault_of bs) (map use_view (drop l.selector-index l.selectors)))
