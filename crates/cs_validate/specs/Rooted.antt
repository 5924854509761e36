-- The numbering of a schema document.
use Rattle.std.specs.Prelude.{◌≡◌, ℕ, List, Some, map, slice_get}
use Rattle.cs_document.specs.Document.{Document}
use Rattle.cs_validate.specs.Numbering.{IsNumbering}
use Rattle.cs_validate.specs.Rules.{AreRules}
use Rattle.cs_validate.specs.declared.rules.Rule.{Rule as Coded}
use Rattle.cs_validate.specs.Steps.{numbered}

-- these are the rules of the schema document R, and R itself has this number
pub record IsRooted (R : Document) (rules : List Coded) (inner : List ℕ) (number : ℕ) : Type 0 where
  pub all : List Document
  pub are : AreRules R all
  pub numbering : IsNumbering R all (map (numbered inner) rules)
  pub root : slice_get all number ≡ Some R
