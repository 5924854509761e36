-- What the causes of the code mean: the rules, the values and the keys that their numbers name.
use Rattle.std.specs.Prelude.{◌≡◌, ℕ, Bool, true, false, List, [], Option, Some, get_or, slice_get}
use Rattle.cs_document.specs.Document.{Document}
use Rattle.cs_document.specs.Opened.{Opened, an_object}
use Rattle.cs_flat.specs.Items.{inside}
use Rattle.cs_flat.specs.Listed.{values, document_in}
use Rattle.cs_flat.specs.Nodes.{node_at}
use Rattle.cs_reasons.specs.Reasons.{IsFollowed}
use Rattle.cs_reasons.specs.Told.{AreReasons}
use Rattle.cs_reasons.specs.declared.reasons.Reasons.{Reasons}
use Rattle.cs_table.specs.Judged.{AllVerdicts}
use Rattle.cs_package.specs.Environment.{Environment}
use Rattle.cs_instance_reasons.specs.Causes.{Cause, part, alternative, member, element, unmet, few, many, no_alternative, missing, extra}
use Rattle.cs_instance_reasons.specs.Closest.{AreOfChosen}
use Rattle.cs_instance.specs.Constraint.{Constraint}
use Rattle.cs_instance.specs.Instance.{Rule, definition, IsInstance}
use Rattle.cs_instance_reasons.specs.Led.{leads_to, is_alternative}
use Rattle.cs_instance.specs.Numbering.{rule_at}
use Rattle.cs_instance.specs.Rules.{AreRules}
use Rattle.cs_instance_reasons.specs.SeenCauses.{IsCauseAt}
use Rattle.cs_instance_reasons.specs.WhyTold.{AreWhys}
use Rattle.cs_instance_reasons.specs.declared.cause.InstanceCause.{InstanceCause}
use Rattle.cs_instance_reasons.specs.declared.cause.InstanceCause.TheVariants.{Part, Alternative, Member, Element, Unmet, Missing, Extra, Few, Many, NoAlternative}

-- the key of the member at a place of an item
abbrev pub key_in : Option (Opened ℕ) → ℕ → List ℕ
key_in (Some (an_object ms)) m = (get_or ms m ([], 0)).0
key_in _ m = []

abbrev pub key_at : List (Opened ℕ) → ℕ → ℕ → List ℕ
key_at xs i m = key_in (slice_get xs i) m

-- what a cause of the item i means
abbrev pub meaning_of : List Rule → List (Opened ℕ) → ℕ → InstanceCause → Cause Document Rule Rule
meaning_of rules xs i (Part item rule k) = part k (rule_at rules rule)
meaning_of rules xs i (Alternative item rule k) = alternative k (rule_at rules rule)
meaning_of rules xs i (Member j m item rule) = member j (key_at xs i m) (node_at (values xs) item) (rule_at rules rule)
meaning_of rules xs i (Element k item rule) = element k (node_at (values xs) item) (rule_at rules rule)
meaning_of rules xs i Unmet = unmet
meaning_of rules xs i (Missing j rule) = missing j
meaning_of rules xs i (Extra m item) = extra (key_at xs item m)
meaning_of rules xs i Few = few
meaning_of rules xs i Many = many
meaning_of rules xs i NoAlternative = no_alternative

-- the reasons of the pair i, r, by the verdicts of a table: all of them, or where of alternatives some are chosen
abbrev pub AreReasonsOf : List (Constraint ℕ ℕ) → List (Opened ℕ) → AllVerdicts → Bool → ℕ → ℕ → ℕ → Reasons InstanceCause → Type 0
AreReasonsOf asked xs f true i r most rs = AreReasons leads_to (IsCauseAt asked xs f) i r most rs
AreReasonsOf asked xs f false i r most rs = (chosen : AllVerdicts) × AreReasons leads_to (IsFollowed leads_to (IsCauseAt asked xs f) is_alternative NoAlternative chosen) i r most rs

-- this is told of why the document is no instance of the definition n, where the numbers of values are their places, and those
-- of rules the places among all that n reaches, in some order
pub record IsExplained (E : Environment) (n : List ℕ) (xs : List (Opened ℕ)) (full : Bool) (most : ℕ) (rs : Reasons InstanceCause) : Type 0 where
  pub rules : List Rule
  pub are : AreRules E n rules
  pub whys : (I : Rule → Document → Bool) → IsInstance E I
      → (w : AreWhys E I (definition n) (document_in xs) rules (values xs) leads_to (meaning_of rules xs) (inside (document_in xs)) full most rs)
      × (full ≡ false → AreOfChosen E I rules xs (meaning_of rules xs) (inside (document_in xs)) (definition n) w.all)
