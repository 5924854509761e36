-- The call that judges a text by rules.
use Rattle.std.specs.Prelude.{ℕ, List, Bool, Result, IfOk, IfErr, IsOkUnless, map, string_bytes}
use Rattle.cs_tool.specs.declared.rules.Rules.{Rules}
use Rattle.cs_tool.specs.declared.rules.Rules.TheVariants.{Root, Schema, Both}
use Rattle.cs_tool.specs.Ready.{IsReady}
use Rattle.cs_tool.specs.CallRefusals.{IsSchemaText}
use Rattle.cs_tool.specs.Runs.{Call, vet, validate, agree, IsCallAnswer, IsCallRefusal, IsReadyCall, verdict_text}
use Rattle.cs_tool.specs.declared.fault.Fault.{Fault}
use Rattle.cs_tool.specs.declared.fault.Fault.TheVariants.{OutOfMemory}

-- the call that judges the text
abbrev pub call_on : Rules → List ℕ → Call
call_on (Root p sources root) text = vet p (map (λ s. s.items) sources.items) (string_bytes root) text
call_on (Schema taken schema) text = validate taken schema.items text
call_on (Both p sources root) text = agree p (map (λ s. s.items) sources.items) (string_bytes root) text

-- the rules are read, unless memory runs out
abbrev pub AreReadable : Rules → Type 0
AreReadable (Root p sources root) = IsReady p (map (λ s. s.items) sources.items) (string_bytes root)
AreReadable (Schema taken schema) = IsSchemaText taken schema.items
AreReadable (Both p sources root) = IsReady p (map (λ s. s.items) sources.items) (string_bytes root)

-- the result is that of the call
pub record IsOf (call : Call) (result : Result Bool Fault) : Type 0 where
  pub found : IfOk result (λ b. IsCallAnswer call b (verdict_text b))
  pub refused : IfErr result (IsCallRefusal call)
  pub only : IsReadyCall call → IsOkUnless result OutOfMemory
