-- A table that is judged, where its judge has these rules and values.
use Rattle.std.proofs.Common.{◌≡◌, ℕ, List, length}
use Rattle.cs_document.specs.Opened.{Opened}
use Rattle.cs_flat.specs.Listed.{values}
use Rattle.cs_table.specs.Judged.{AllVerdicts, IsJudged}
use Rattle.cs_rules.specs.Answers.{answer}
use Rattle.cs_instance.specs.Steps.{step}
use Rattle.cs_instance.specs.declared.rules.Rule.{Rule as Coded}

pub judged_over : (xs ys : List (Opened ℕ)) (rules rules' : List Coded) (inner inner' : List ℕ) (f : AllVerdicts) → xs ≡ ys → rules ≡ rules' → inner ≡ inner'
    → IsJudged (length ys) (length rules') (answer step rules' inner' (values ys) ys) f → IsJudged (length xs) (length rules) (answer step rules inner (values xs) xs) f
judged_over xs ys rules rules' inner inner' f a b d h = rw (a, b, d) h
