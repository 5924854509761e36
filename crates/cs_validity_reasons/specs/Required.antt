-- How many names the schemas of a schema document require, and with how many reasons aren't told.
use Rattle.std.specs.Prelude.{ℕ, ◌<◌, ◌*◌, length, sum_by}
use Rattle.cs_document.specs.Document.{Document}
use Rattle.cs_flat.specs.Nodes.{nodes}
use Rattle.cs_table.specs.Limit.{most_pairs}
use Rattle.cs_profile.specs.Constraint.{Assertion, has_keys, Constraint, conjunction, constraint_of}
use Rattle.cs_validate.specs.Rules.{rules_of}

-- how many names an assertion requires, and a schema that was opened once (Validation 2020-12, section 6.5.3)
module _ {H I : Type 0} where
  abbrev pub names_claimed : Assertion H I → ℕ
  names_claimed (has_keys ks) = length ks
  names_claimed _ = 0

  abbrev pub names_required : Constraint H I → ℕ
  names_required (conjunction claims) = sum_by names_claimed claims
  names_required _ = 0

-- the values of the document d and the names that these rules require, each counted for each rule that requires it, make more
-- pairs than a table may have
abbrev pub HasManyNames : Document → Document → Type 0
HasManyNames R d = most_pairs < length (nodes d) * sum_by (λ s. names_required (constraint_of R s)) (rules_of R)
