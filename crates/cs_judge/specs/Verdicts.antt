-- What a verdict on a document says on each side, and each refusal of it. It is a truth value, or what has one, as reasons that are told.
use Rattle.std.specs.Prelude.{◌≡◌, ℕ, List, Bool, true, false, Option, Result, IfOk, IfErr, is_none}
use Rattle.cs_document.specs.Document.{Document, IsDocument}
use Rattle.cs_instance.specs.Instance.{Rule, definition, IsInstance, OneMeaning as OneInstance}
use Rattle.cs_instance.specs.Refusal.{AreManyPairs as AreManyByRoot}
use Rattle.cs_instance.specs.Rules.{HasManyPairs as HasManyByRoot}
use Rattle.cs_json.specs.Texts.{Reads}
use Rattle.cs_package.specs.Environment.{Environment}
use Rattle.cs_profile.specs.Validity.{IsValidity, OneMeaning as OneValidity}
use Rattle.cs_validate.specs.Refusal.{AreManyPairs as AreManyBySchema}
use Rattle.cs_validate.specs.Rules.{HasManyPairs as HasManyBySchema}
use Rattle.cs_validity_reasons.specs.WhyTold.{says_valid}
use Rattle.cs_judge.specs.Explained.{ReportsAsked}
use Rattle.cs_judge.specs.Judged.{IsOf}
use Rattle.cs_format.specs.declared.Form.{Form}
use Rattle.cs_judge.specs.declared.verdict.Side.{Side}
use Rattle.cs_judge.specs.declared.verdict.Side.TheVariants.{Root, Schema}
use Rattle.cs_judge.specs.declared.verdict.Told.{Told}
use Rattle.cs_judge.specs.declared.verdict.Told.TheVariants as told
use Rattle.cs_tool.specs.Runs.{Call}
use Rattle.cs_tool.specs.declared.fault.Fault.{Fault}
use Rattle.cs_tool.specs.declared.fault.Fault.TheVariants.{OutOfMemory, TooManyPairs}

-- the definition of that name says so of the document
pub record JudgesByRoot (E : Environment) (n : List ℕ) (d : Document) (truth : Bool) : Type 0 where
  pub one_meaning : OneInstance E
  pub answer : (I : Rule → Document → Bool) → IsInstance E I → truth ≡ I (definition n) d
  pub within : ¬ (HasManyByRoot E n d)

-- the schema says so of it
pub record JudgesBySchema (S d : Document) (truth : Bool) : Type 0 where
  pub one_meaning : OneValidity S
  pub answer : (V : Document → Document → Bool) → IsValidity S V → truth ≡ V S d
  pub within : ¬ (HasManyBySchema S d)

abbrev pub Judges : Side → Document → Bool → Type 0
Judges (Root r) d truth = JudgesByRoot r.now.0 r.now.1 d truth
Judges (Schema s) d truth = JudgesBySchema s.now d truth

-- so many values and rules are too many
abbrev pub AreTooMany : Side → Document → ℕ → ℕ → Bool → Type 0
AreTooMany (Root r) d items rules by_schema = (by_schema ≡ false) × AreManyByRoot r.now.0 r.now.1 d items rules
AreTooMany (Schema s) d items rules by_schema = (by_schema ≡ true) × AreManyBySchema s.now d items rules

-- what refuses to judge the document
abbrev pub Refuses : Side → Document → Fault → Type 0
Refuses side d OutOfMemory = Unit {0}
Refuses side d (TooManyPairs items rules by_schema) = AreTooMany side d items rules by_schema
Refuses side d fault = ⊥

-- the verdict of the side
pub record IsVerdict {T : Type 0} (side : Side) (d : Document) (result : Result T Fault) (truth : T → Bool) : Type 0 where
  pub found : IfOk result (λ t. Judges side d (truth t))
  pub refused : IfErr result (Refuses side d)

-- what is told has that truth value
abbrev pub accepts : Told → Bool
accepts (told.Root r reasons) = is_none reasons
accepts (told.Schema s explanation) = says_valid explanation

-- the document is that of the text
abbrev pub IsReadAs : List ℕ → Document → Type 0
IsReadAs text d = Reads text d × IsDocument d

-- the result is that of the call, and the report tells it
pub record IsCallVerdict (call : Call) (form : Option Form) (old new : List ℕ) (result : Result Bool Fault) : Type 0 where
  pub of : IsOf call result
  pub told : IfOk result (λ b. ReportsAsked form b old new)
