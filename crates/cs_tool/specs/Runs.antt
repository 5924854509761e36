-- What a run answers, writes and leaves.
use Rattle.std.specs.Prelude.{◌≡◌, ℕ, ◌≤◌, ◌⊎◌, List, [], ◌∷◌, ◌++◌, length, map, Bool, true, false, Option, Some, None, Vec, string_bytes, codes}
use Rattle.std.specs.declared.alloc.Global.{Global}
use Rattle.std.specs.Io.KnownBytes.{Keeps}
use Rattle.cs_grammar.specs.declared.profile.Profile.{Profile}
use Rattle.cs_grammar.specs.declared.profile.Profile.TheVariants as profiles
use Rattle.cs_profile.specs.declared.keyword.Vocabulary.{Vocabulary}
use Rattle.cs_profile.specs.declared.keyword.Vocabulary.TheVariants as vocabularies
use Rattle.cs_tool.specs.declared.fault.Fault.{Fault}
use Rattle.cs_tool.specs.declared.fault.Fault.TheVariants.{OutOfMemory, SourcesTooLong, InputTooLong, ReadFailed, WriteFailed}
use Rattle.cs_tool.specs.declared.request.Request.{Request}
use Rattle.cs_tool.specs.declared.request.Request.TheVariants.{Export, Vet, Validate, Agree}
use Rattle.cs_tool.specs.Headline.{IsExport, IsVerdict, IsValidated}
use Rattle.cs_tool.specs.Agreement.{IsAgreement}
use Rattle.cs_tool.specs.Ready.{IsReady, IsReadyToVet, IsReadyToValidate, IsReadyToAgree}
use Rattle.cs_tool.specs.CallRefusals.{ExportRefusal, VetRefusal, ValidateRefusal, AgreeRefusal}
use Rattle.cs_tool.specs.Streams.{IsWholeInput, IsLonger, AppendsFront}
use Rattle.cs_tool.specs.Texts.{most_bytes}

-- ---- the call that a request makes

-- a call, with the profile of its sources, these, its root and its texts, and of a schema the keywords that are taken
pub data Call : Type 0 where
  export : Profile → List (List ℕ) → List ℕ → Call
  vet : Profile → List (List ℕ) → List ℕ → List ℕ → Call
  validate : Vocabulary → List ℕ → List ℕ → Call
  agree : Profile → List (List ℕ) → List ℕ → List ℕ → Call

-- the files, or the input as the one source where there are none
abbrev pub sources_or : List (Vec ℕ Global) → List ℕ → List (List ℕ)
sources_or [] input = input ∷ []
sources_or (file ∷ files) input = map (λ f. f.items) (file ∷ files)

-- the document, or the input where there is none
abbrev pub text_or : Option (Vec ℕ Global) → List ℕ → List ℕ
text_or None input = input
text_or (Some doc) input = doc.items

-- the call of a request, where the input has these bytes: sources and schemas are those of the default profile
abbrev pub call_of : Request → List ℕ → Call
call_of (Export files root) input = export profiles.Default (sources_or files.items input) (string_bytes root)
call_of (Vet files root doc) input = vet profiles.Default (sources_or files.items input) (string_bytes root) doc.items
call_of (Validate schema doc) input = validate vocabularies.Default schema.items (text_or doc input)
call_of (Agree files root doc) input = agree profiles.Default (sources_or files.items input) (string_bytes root) doc.items

-- a request asks for the input: as its source where it has no files, or as its document where it has none
abbrev pub ReadsInput : Request → Type 0
ReadsInput (Export files root) = files.items ≡ []
ReadsInput (Vet files root doc) = files.items ≡ []
ReadsInput (Validate schema doc) = doc ≡ None
ReadsInput (Agree files root doc) = files.items ≡ []

-- the bytes that an input other than sources may have
abbrev pub most_input_bytes : ℕ
most_input_bytes = 67108864

-- the bytes that the input of a request may have
abbrev pub most_of : Request → ℕ
most_of (Export files root) = most_bytes
most_of (Vet files root doc) = most_bytes
most_of (Validate schema doc) = most_input_bytes
most_of (Agree files root doc) = most_bytes

-- ---- what a call answers

abbrev pub verdict_text : Bool → List ℕ
verdict_text true = codes "valid"
verdict_text false = codes "invalid"

-- the truth value and the text are those of the call
abbrev pub IsCallAnswer : Call → Bool → List ℕ → Type 0
IsCallAnswer (export p sources root) truth text = IsExport p sources root text × (truth ≡ true)
IsCallAnswer (vet p sources root doc) truth text = IsVerdict p sources root doc truth × (text ≡ verdict_text truth)
IsCallAnswer (validate taken schema doc) truth text = IsValidated taken schema doc truth × (text ≡ verdict_text truth)
IsCallAnswer (agree p sources root doc) truth text = IsAgreement p sources root doc truth × (text ≡ verdict_text truth)

abbrev pub IsCallRefusal : Call → Fault → Type 0
IsCallRefusal (export p sources root) fault = ExportRefusal p sources root fault
IsCallRefusal (vet p sources root doc) fault = VetRefusal p sources root doc fault
IsCallRefusal (validate taken schema doc) fault = ValidateRefusal taken schema doc fault
IsCallRefusal (agree p sources root doc) fault = AgreeRefusal p sources root doc fault

-- a call that is answered, unless memory runs out
abbrev pub IsReadyCall : Call → Type 0
IsReadyCall (export p sources root) = IsReady p sources root
IsReadyCall (vet p sources root doc) = IsReadyToVet p sources root doc
IsReadyCall (validate taken schema doc) = IsReadyToValidate taken schema doc
IsReadyCall (agree p sources root doc) = IsReadyToAgree p sources root doc

-- ---- what a run answers

-- where the request asks for the input, these are its bytes, no more than it may have
abbrev pub IsInput : Request → Option (List ℕ) → List ℕ → Type 0
IsInput request remaining input = ReadsInput request → IsWholeInput remaining input × (length input ≤ most_of request)

-- the truth value and the text are those of the request's call
abbrev pub IsAnswer : Request → Option (List ℕ) → Bool → List ℕ → Type 0
IsAnswer request remaining truth text = (input : List ℕ) × IsInput request remaining input × IsCallAnswer (call_of request input) truth text

-- the refusal is that of the request's call
abbrev pub IsRefused : Request → Option (List ℕ) → Fault → Type 0
IsRefused request remaining fault = (input : List ℕ) × IsInput request remaining input × IsCallRefusal (call_of request input) fault

-- the request doesn't ask for the input, and its call is answered
abbrev pub IsReadyRequest : Request → Type 0
IsReadyRequest request = ¬ (ReadsInput request) × IsReadyCall (call_of request [])

-- what refuses the input: a read failed, or it is too long; memory may run out
abbrev pub SourceRefusal : List (Vec ℕ Global) → Option (List ℕ) → Fault → Type 0
SourceRefusal files remaining OutOfMemory = Unit {0}
SourceRefusal files remaining ReadFailed = files ≡ []
SourceRefusal files remaining SourcesTooLong = (files ≡ []) × IsLonger most_bytes remaining
SourceRefusal files remaining _ = ⊥

abbrev pub DocumentRefusal : Option (Vec ℕ Global) → Option (List ℕ) → Fault → Type 0
DocumentRefusal doc remaining OutOfMemory = Unit {0}
DocumentRefusal doc remaining ReadFailed = doc ≡ None
DocumentRefusal doc remaining InputTooLong = (doc ≡ None) × IsLonger most_input_bytes remaining
DocumentRefusal doc remaining _ = ⊥

abbrev pub InputRefusal : Request → Option (List ℕ) → Fault → Type 0
InputRefusal (Export files root) remaining fault = SourceRefusal files.items remaining fault
InputRefusal (Vet files root doc) remaining fault = SourceRefusal files.items remaining fault
InputRefusal (Validate schema doc) remaining fault = DocumentRefusal doc remaining fault
InputRefusal (Agree files root doc) remaining fault = SourceRefusal files.items remaining fault

-- what refuses the line before a byte of it is written
abbrev pub LineRefusal : Request → Option (List ℕ) → Fault → Type 0
LineRefusal request remaining fault = InputRefusal request remaining fault ⊎ IsRefused request remaining fault

-- a text, and a newline
abbrev pub line_of : List ℕ → List ℕ
line_of text = text ++ 10 ∷ []

-- what a refusal says of the run, and of what the writer has: nothing was written but a front of the line where a
-- write failed
abbrev pub Leaves : Request → Option (List ℕ) → Fault → Option (List ℕ) → Option (List ℕ) → Type 0
Leaves request remaining WriteFailed old new = (truth : Bool) × (text : List ℕ) × IsAnswer request remaining truth text × AppendsFront old new (line_of text)
Leaves request remaining fault old new = LineRefusal request remaining fault × Keeps old new
