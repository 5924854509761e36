-- Judges of the values of a document by the rules that a root reaches, and tables of their verdicts.
use Rattle.std.specs.Prelude.{◌≡◌, ℕ, ◌<◌, ◌*◌, Bool, List, Some, length, slice_get}
use Rattle.cs_document.specs.Document.{Document}
use Rattle.cs_document.specs.Opened.{Opened}
use Rattle.cs_flat.specs.Nodes.{node_at}
use Rattle.cs_flat.specs.Listed.{values}
use Rattle.cs_table.specs.Judged.{AllVerdicts, Judgement, Table, verdicts}
use Rattle.cs_package.specs.Environment.{Environment}
use Rattle.cs_instance.specs.Constraint.{Constraint, is_satisfied}
use Rattle.cs_instance.specs.Instance.{Rule, definition, IsInstance}
use Rattle.cs_instance.specs.Numbering.{rule_at, IsNumbering}
use Rattle.cs_instance.specs.Rules.{AreRules}

-- with any table, the judge answers for a value and a rule what the rule asks of the value by that table. The rule of n
-- is the one at `root`
pub record IsJudge (E : Environment) (n : List ℕ) (xs : List (Opened ℕ)) (root items rules : ℕ) (answer : Judgement) : Type 0 where
  pub all : List Rule
  pub are : AreRules E n all
  pub asked : List (Constraint ℕ ℕ)
  pub numbering : IsNumbering E all asked
  pub item_count : items ≡ length xs
  pub rule_count : rules ≡ length all
  pub found : slice_get all root ≡ Some (definition n)
  pub answers : (f : AllVerdicts) (i r : ℕ) (c : Constraint ℕ ℕ) (x : Opened ℕ) → slice_get asked r ≡ Some c → slice_get xs i ≡ Some x → answer i r f ≡ is_satisfied (λ p. f i p) (λ y p. f y p) c x

-- the table has a verdict for each value and each rule, which is whether the value is an instance of the rule
pub record IsTable (E : Environment) (n : List ℕ) (xs : List (Opened ℕ)) (root : ℕ) (t : Table) : Type 0 where
  pub all : List Rule
  pub are : AreRules E n all
  pub item_count : t.items ≡ length xs
  pub rule_count : t.rules ≡ length all
  pub count : length t.given ≡ length xs * length all
  pub found : slice_get all root ≡ Some (definition n)
  pub verdict : (I : Rule → Document → Bool) → IsInstance E I → (i r : ℕ) → i < length xs → r < length all → verdicts t i r ≡ I (rule_at all r) (node_at (values xs) i)
