use Rattle.std.proofs.Common.{◌++◌, ℕ, List, map, take}
use Rattle.std.specs.List.{flat_map}
use Rattle.cs_grammar.specs.View.{definition_view}
use Rattle.cs_plain.specs.Placed.{gone_if}
use Rattle.cs_plain.specs.References.{TellsTexts}
use Rattle.cs_plain.proofs.files.add_gone.Given as goal

abbrev pub invariant-loop-definition : goal.invariant-loop-definition
invariant-loop-definition l = (ss bs cs : List (List ℕ)) → TellsTexts l.initial.gone ss → TellsTexts l.before bs → TellsTexts l.after cs
    → TellsTexts l.gone (ss ++ flat_map (gone_if bs cs) (map definition_view (take l.definition-index l.definitions)))
