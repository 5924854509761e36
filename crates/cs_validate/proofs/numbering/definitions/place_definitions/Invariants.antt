use Rattle.std.proofs.Common.{◌≡◌, take}
use Rattle.cs_profile.specs.Numbered.{names_in}
use Rattle.cs_profile.specs.SchemaDocument.{document_of}
use Rattle.cs_validate.specs.Ranked.{ArePlacedBy}
use Rattle.cs_validate.proofs.numbering.definitions.place_definitions.Given as goal

abbrev pub invariant-loop-definition : goal.invariant-loop-definition
invariant-loop-definition l = record {
  names : l.placement.numbers.0 ≡ names_in l.document.definitions;
  placed : ArePlacedBy (document_of l.document) (take l.definition-index l.ranked) l.placement;
}
