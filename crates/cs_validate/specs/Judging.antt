-- Judges of the values of a document by all schemas of a schema document, and tables of their verdicts.
use Rattle.std.specs.Prelude.{◌≡◌, ℕ, ◌<◌, ◌*◌, Bool, List, Some, length, slice_get}
use Rattle.cs_document.specs.Document.{Document}
use Rattle.cs_document.specs.Opened.{Opened}
use Rattle.cs_flat.specs.Nodes.{node_at}
use Rattle.cs_flat.specs.Listed.{values}
use Rattle.cs_table.specs.Judged.{AllVerdicts, Judgement, Table, verdicts}
use Rattle.cs_profile.specs.Constraint.{Constraint}
use Rattle.cs_profile.specs.Validity.{is_satisfied, IsValidity}
use Rattle.cs_validate.specs.Numbering.{schema_at, IsNumbering}
use Rattle.cs_validate.specs.Rules.{AreRules}

-- with any table, the judge answers for a value and a schema what the schema asks of the value by that table. The root's
-- number is `root`
pub record IsJudge (R : Document) (xs : List (Opened ℕ)) (root items rules : ℕ) (answer : Judgement) : Type 0 where
  pub all : List Document
  pub are : AreRules R all
  pub asked : List (Constraint ℕ ℕ)
  pub numbering : IsNumbering R all asked
  pub item_count : items ≡ length xs
  pub rule_count : rules ≡ length all
  pub found : slice_get all root ≡ Some R
  pub answers : (f : AllVerdicts) (i r : ℕ) (c : Constraint ℕ ℕ) (x : Opened ℕ) → slice_get asked r ≡ Some c → slice_get xs i ≡ Some x
      → answer i r f ≡ is_satisfied (λ p. f i p) (λ y p. f y p) c (node_at (values xs) i) x

-- the table has a verdict for each value and each schema, which is whether the schema validates the value
pub record IsTable (R : Document) (xs : List (Opened ℕ)) (root : ℕ) (t : Table) : Type 0 where
  pub all : List Document
  pub are : AreRules R all
  pub item_count : t.items ≡ length xs
  pub rule_count : t.rules ≡ length all
  pub count : length t.given ≡ length xs * length all
  pub found : slice_get all root ≡ Some R
  pub verdict : (V : Document → Document → Bool) → IsValidity R V → (i r : ℕ) → i < length xs → r < length all → verdicts t i r ≡ V (schema_at all r) (node_at (values xs) i)
